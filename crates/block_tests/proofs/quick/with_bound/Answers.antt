use Rattle.std.proofs.Common.{◌≡◌, ◌≢◌, ℕ, ◌*◌, ◌/◌, ◌<◌, ◌≤◌, ◌⊎◌, inl, inr, true, false, length, sym, ap, ◌∙◌, subst, arith, rules}
use Rattle.std.proofs.lemmas.Bool.{cases_Bool, cond-false}
use Rattle.oct_def.specs.Bound.{Bound}
use Rattle.oct_def.specs.Table.{Matrix, table, at}
use Rattle.oct_def.specs.Matrix.{IsSquare}
use Rattle.oct_def.proofs.Tables.{at-table, length-table, square-table, at-past_row, at-past_column}
use Rattle.half_matrix.specs.Lending.{same_entry, set_entry, with_entry}
use Rattle.half_matrix.proofs.Ranges.{length-set_entry}
use Rattle.half_matrix.proofs.Places.{Same, same_of}
use Rattle.tight_laws.specs.Laws.{SameBut}
use Rattle.block_tests.proofs.quick.with_bound.Goals as goal

-- an entry changes only in the rows and columns of a variable that it bounds
elsewhere : (m : Matrix) (i j v r c : ℕ) (b : Bound) → j / 2 ≡ v → r / 2 ≢ v → c / 2 ≢ v → set_entry m i j b r c ≡ at m r c
unfolding set_entry
elsewhere m i j v r c b e p q = by (cases_Bool (same_entry i j r c))
  where
    never : Same i j r c → set_entry m i j b r c ≡ at m r c
    never (inl (x, y)) = absurd (q (ap (λ t. t / 2) y ∙ e))
    never (inr (x, y)) = absurd (p (omega (arith, e)))

    by : (same_entry i j r c ≡ true) ⊎ (same_entry i j r c ≡ false) → set_entry m i j b r c ≡ at m r c
    by (inl t) = never (same_of i j r c t)
    by (inr t) = cond-false _ _ _ t

square-set : (m : Matrix) (i j : ℕ) (b : Bound) → IsSquare (with_entry m i j b)
unfolding with_entry
square-set m i j b = square-table (length m) (set_entry m i j b)

at-set : (m : Matrix) (i j r c : ℕ) (b : Bound) → r < length m → c < length m → at (with_entry m i j b) r c ≡ set_entry m i j b r c
unfolding with_entry
at-set m i j r c b p q = at-table (length m) (set_entry m i j b) r c p q

same_but-set : (m : Matrix) (i j v : ℕ) (b : Bound) → IsSquare m → j / 2 ≡ v → SameBut v m (with_entry m i j b)
same_but-set m i j v b sq e = record { same = λ r c p q. by r c p q (grind arith) (grind arith) }
  where
    x : Matrix
    x = with_entry m i j b

    by : (r c : ℕ) → r / 2 ≢ v → c / 2 ≢ v → (r < length m) ⊎ (length m ≤ r) → (c < length m) ⊎ (length m ≤ c) → at m r c ≡ at x r c
    by r c p q (inl k) (inl l) = sym (at-set m i j r c b k l ∙ elsewhere m i j v r c b e p q)
    by r c p q (inr k) _ = at-past_row m r c k ∙ sym (at-past_row x r c (omega (arith, length-set_entry m i j b)))
    by r c p q (inl k) (inr l) = at-past_column m sq r c k l ∙ sym (at-past_column x (square-set m i j b) r c (omega (arith, length-set_entry m i j b)) (omega (arith, length-set_entry m i j b)))

same_but-written : (m t x : Matrix) (i j v : ℕ) (b : Bound) → IsSquare m → j / 2 ≡ v → t ≡ m → x ≡ with_entry t i j b → SameBut v m x
same_but-written m t x i j v b sq e same written =
    subst (λ (y : Matrix). SameBut v m y) (sym (written ∙ ap (λ (z : Matrix). with_entry z i j b) same)) (same_but-set m i j v b sq e)

pub returns-clause-same : goal.returns-clause-same
returns-clause-same g c =
    let last : c.args.bound.1 / 2 ≡ 39 = search rules in
    same_but-written _ _ _ _ _ 39 _ c.requires.matrix.square last (c.in_ok-m.ensures.same ∙ c.in_ok-changed.ensures) c.set.ensures

pub returns-clause-rows : goal.returns-clause-rows
returns-clause-rows g c = ap length c.set.ensures ∙ length-set_entry _ _ _ _ ∙ ap length (c.in_ok-m.ensures.same ∙ c.in_ok-changed.ensures) ∙ c.requires.matrix.rows
