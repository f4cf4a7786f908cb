-- The steps of the tight closure, from what a code that does them knows: entries, tests and the end.
use Rattle.std.proofs.Common.{◌≡◌, ℕ, ◌/◌, Bool, true, false, cond, eqb, length, Some, None, refl, sym, ap, ◌∙◌}
use Rattle.std.specs.Prelude.{ℤ}
use Rattle.std.proofs.lemmas.Bool.Decides.{Decides-eqb}
use Rattle.oct_def.specs.Bound.{bound_of, plus, evened, is_negative}
use Rattle.oct_def.specs.Table.{Matrix, table, at}
use Rattle.oct_def.specs.Matrix.{opposite}
use Rattle.oct_def.specs.Tight.{pair_steps, closure, has_negative_cycle, even_entry, evening, crossing, has_crossing, strong_entry, strengthening, tight_even, tight_closed, tight}
use Rattle.oct_def.proofs.Tables.{length-table}
use Rattle.oct_def.proofs.Sound.{length-pair_steps}

pub even_entry-unary : (m : Matrix) (i j : ℕ) → j ≡ opposite i → even_entry m i j ≡ evened (at m i j)
unfolding even_entry
even_entry-unary m i j e = ap (λ (b : Bool). cond b (evened (at m i j)) (at m i j)) ((Decides-eqb j (opposite i)).1 e)

pub even_entry-other : (m : Matrix) (i j : ℕ) → (j ≡ opposite i → ⊥) → even_entry m i j ≡ at m i j
unfolding even_entry
even_entry-other m i j h = by (eqb j (opposite i)) refl
  where
    by : (b : Bool) → eqb j (opposite i) ≡ b → cond b (evened (at m i j)) (at m i j) ≡ at m i j
    by true e = absurd (h ((Decides-eqb j (opposite i)).0 e))
    by false e = refl

-- the test of two unary entries, read at the opposite dimension
pub crossing_of : (m : Matrix) (i p q : ℕ) (a b : ℤ) (t : Bool) → p ≡ opposite i → q ≡ opposite i → bound_of a ≡ at m i p → bound_of b ≡ at m q i → t ≡ is_negative (plus (bound_of a) (bound_of b)) → crossing m i ≡ t
unfolding crossing
crossing_of m i p q a b t ep eq ea eb h =
    sym (h ∙ ap (λ x. is_negative (plus x (bound_of b))) (ea ∙ ap (at m i) ep) ∙ ap (λ x. is_negative (plus (at m i (opposite i)) x)) (eb ∙ ap (λ k. at m k i) eq))

-- ---- the end of the tight closure

pub tight-cycle : (m c : Matrix) → c ≡ closure m → true ≡ has_negative_cycle c → None ≡ tight m
unfolding tight tight_closed
tight-cycle m c e h =
    ap (λ (b : Bool). cond b None (tight_even (evening c))) h ∙ ap tight_closed e

pub tight-crossing : (m c v : Matrix) → c ≡ closure m → false ≡ has_negative_cycle c → v ≡ evening c → true ≡ has_crossing v → None ≡ tight m
unfolding tight tight_closed tight_even
tight-crossing m c v e h f k =
    ap (λ (b : Bool). cond b None (Some (strengthening v))) k ∙ ap tight_even f
    ∙ ap (λ (b : Bool). cond b None (tight_even (evening c))) h ∙ ap tight_closed e

pub tight-strong : (m c v s : Matrix) → c ≡ closure m → false ≡ has_negative_cycle c → v ≡ evening c → false ≡ has_crossing v → s ≡ strengthening v → Some s ≡ tight m
unfolding tight tight_closed tight_even
tight-strong m c v s e h f k g =
    ap Some g ∙ ap (λ (b : Bool). cond b None (Some (strengthening v))) k ∙ ap tight_even f
    ∙ ap (λ (b : Bool). cond b None (tight_even (evening c))) h ∙ ap tight_closed e

-- the tight closure keeps the number of rows
pub length-tight : (m r : Matrix) → Some r ≡ tight m → length r ≡ length m
unfolding tight tight_closed tight_even strengthening evening closure
length-tight m r e =
    let c = pair_steps (length m / 2) m in
    let v = table (length c) (even_entry c) in
    let same = by c v (has_negative_cycle c) (has_crossing v) e in
    ap length same ∙ length-table (length v) (strong_entry v) ∙ length-table (length c) (even_entry c) ∙ length-pair_steps (length m / 2) m
  where
    by : (c v : Matrix) (a b : Bool) → Some r ≡ cond a None (cond b None (Some (table (length v) (strong_entry v)))) → r ≡ table (length v) (strong_entry v)
    by c v true b h = cc
    by c v false true h = cc
    by c v false false h = cc
