-- A strongly closed matrix between the limits is its own tight closure: each sum of a step is at least the old entry, its
-- unary entries are even already, and each entry is at most the sum of the halves.
use Rattle.std.proofs.Common.{◌≡◌, ℕ, ◌+◌, ◌*◌, ◌/◌, ◌<◌, Bool, true, false, cond, eqb, length, Some, None, refl, sym, ap, ◌∙◌, subst, arith, zero, suc}
use Rattle.std.specs.Prelude.{pos}
use Rattle.std.proofs.lemmas.Bool.Decides.{Decides-eqb}
use Rattle.oct_def.specs.Bound.{Bound, plus, evened, Within, InRange}
use Rattle.oct_def.specs.Table.{Matrix, table, at}
use Rattle.oct_def.specs.Matrix.{opposite, IsSquare}
use Rattle.oct_def.specs.Tight.{pair_entry, pair_step, pair_steps, closure, negative_cycle, has_negative_cycle, even_entry, evening, crossing, has_crossing, strong_entry, strengthening, tight_even, tight_closed, tight}
use Rattle.oct_def.proofs.Tables.{table-at, table-same}
use Rattle.oct_def.proofs.Bounds.{not_negative}
use Rattle.oct_def.proofs.Indices.{some_index-none}
use Rattle.tight_laws.proofs.Below.{Below-refl, Below-same, Below-trans, Below-plus, Below-antisym, within-Below}
use Rattle.tight_laws.proofs.Clamps.{Below-clamped}
use Rattle.tight_laws.proofs.Pairs.{pivot-old, under-pivot}
use Rattle.tight_laws.proofs.Relax.{least_first}
use Rattle.tight_laws.proofs.Strong.{IsClosed, IsStrong, strong-unary}

-- a table of a square matrix's own entries is the matrix
pub own_table : (r : Matrix) → IsSquare r → (f : ℕ → ℕ → Bound) → ((i j : ℕ) → i < length r → j < length r → f i j ≡ at r i j) → table (length r) f ≡ r
own_table r sq f same = table-same (length r) f (at r) same ∙ sym (table-at r sq)

pair_entry-again : (n : ℕ) (r : Matrix) → IsClosed n r → ((i j : ℕ) → InRange (at r i j)) → (k i j : ℕ) → pair_entry k r i j ≡ at r i j
unfolding pair_entry
pair_entry-again n r h range k i j =
    let p = 2 * k in
    let q = 2 * k + 1 in
    let long = λ (x y : ℕ). Below-trans (h.triangle i y j) (Below-plus (h.triangle i x y) (Below-refl (at r y j))) in
    Below-antisym (pivot-old p q r i j)
    (under-pivot (at r i j) p q r i j (Below-refl (at r i j)) (Below-clamped (range i j) (h.triangle i p j)) (Below-clamped (range i j) (h.triangle i q j))
    (Below-clamped (range i j) (long p q)) (Below-clamped (range i j) (long q p)))

pair_step-again : (n : ℕ) (r : Matrix) → IsClosed n r → ((i j : ℕ) → InRange (at r i j)) → (k : ℕ) → pair_step k r ≡ r
unfolding pair_step
pair_step-again n r h range k = own_table r h.square (pair_entry k r) (λ i j p q. pair_entry-again n r h range k i j)

pair_steps-again : (n : ℕ) (r : Matrix) → IsClosed n r → ((i j : ℕ) → InRange (at r i j)) → (k : ℕ) → pair_steps k r ≡ r
unfolding pair_steps
pair_steps-again n r h range zero = refl
pair_steps-again n r h range (suc k) = ap (pair_step k) (pair_steps-again n r h range k) ∙ pair_step-again n r h range k

even_entry-again : (n : ℕ) (r : Matrix) → IsStrong n r → (i j : ℕ) → even_entry r i j ≡ at r i j
unfolding even_entry
even_entry-again n r h i j = by (eqb j (opposite i)) refl
  where
    by : (b : Bool) → eqb j (opposite i) ≡ b → cond b (evened (at r i j)) (at r i j) ≡ at r i j
    by true e = subst (λ t. evened (at r i t) ≡ at r i t) (sym ((Decides-eqb j (opposite i)).0 e)) (h.even i)
    by false e = refl

evening-again : (n : ℕ) (r : Matrix) → IsStrong n r → evening r ≡ r
unfolding evening
evening-again n r h = own_table r h.closed.square (even_entry r) (λ i j p q. even_entry-again n r h i j)

strengthening-again : (n : ℕ) (r : Matrix) → IsStrong n r → strengthening r ≡ r
unfolding strengthening
strengthening-again n r h = own_table r h.closed.square (strong_entry r) (λ i j p q. strong-unary r i j ∙ least_first (h.strong i j))

no_cycle : (n : ℕ) (r : Matrix) → IsStrong n r → has_negative_cycle r ≡ false
unfolding has_negative_cycle negative_cycle
no_cycle n r h = some_index-none (length r) (negative_cycle r) (λ i p. let rows = h.closed.rows in not_negative (at r i i) (within-Below (Below-same (sym (h.closed.zeros i (omega arith))))))

uncrossed-entries : (n : ℕ) (r : Matrix) → IsStrong n r → (i : ℕ) → i < 2 * n → Within (pos 0) (plus (at r i (opposite i)) (at r (opposite i) i))
uncrossed-entries n r h i p = within-Below (Below-trans (Below-same (sym (h.closed.zeros i p))) (h.closed.triangle i (opposite i) i))

no_crossing : (n : ℕ) (r : Matrix) → IsStrong n r → has_crossing r ≡ false
unfolding has_crossing crossing
no_crossing n r h = some_index-none (length r) (crossing r) (λ i p. let rows = h.closed.rows in not_negative _ (uncrossed-entries n r h i (omega arith)))

tight_even-again : (n : ℕ) (r : Matrix) → IsStrong n r → tight_even r ≡ Some r
unfolding tight_even
tight_even-again n r h = ap (λ (b : Bool). cond b None (Some (strengthening r))) (no_crossing n r h) ∙ ap Some (strengthening-again n r h)

tight_closed-again : (n : ℕ) (r : Matrix) → IsStrong n r → tight_closed r ≡ Some r
unfolding tight_closed
tight_closed-again n r h = ap (λ (b : Bool). cond b None (tight_even (evening r))) (no_cycle n r h) ∙ ap tight_even (evening-again n r h) ∙ tight_even-again n r h

pub tight-again : (n : ℕ) (r : Matrix) → IsStrong n r → ((i j : ℕ) → InRange (at r i j)) → tight r ≡ Some r
unfolding tight closure
tight-again n r h range = ap tight_closed (pair_steps-again n r h.closed range (length r / 2)) ∙ tight_closed-again n r h
