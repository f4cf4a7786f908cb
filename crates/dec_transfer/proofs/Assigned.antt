-- The value after an assignment, from what its steps answer.
use Rattle.std.proofs.Common.{◌≡◌, ℕ, ◌+◌, ◌*◌, ◌<◌, ◌⊎◌, inl, inr, true, List, [], ◌∷◌, length, Option, Some, None, refl, sym, ap, ◌∙◌, subst, arith}
use Rattle.std.specs.Prelude.{IsSome, IfSome}
use Rattle.std.specs.List.{All}
use Rattle.std.specs.Option.{option_map, option_and_then}
use Rattle.std.proofs.lemmas.List.Elements.{All-cons}
use Rattle.oct_def.specs.Bound.{least}
use Rattle.oct_def.specs.Table.{Matrix}
use Rattle.oct_def.specs.Tight.{tight}
use Rattle.oct_def.specs.Octagon.{bottom_value}
use Rattle.oct_def.proofs.Tables.{length-table}
use Rattle.spl_core.specs.Expression.{Expression, Variable}
use Rattle.spl_core.specs.Facts.{AreDistinct}
use Rattle.interval_form.specs.declared.constraints.Bounds.TheVariants.{Nothing}
use Rattle.interval_form.specs.declared.constraints.OctBound.{OctBound}
use Rattle.interval_form.specs.declared.interval.Interval.{Interval}
use Rattle.interval_form.specs.Form.{Form, form_value}
use Rattle.interval_form.specs.FormBounds.{is_above_zero, form_entry, bounded}
use Rattle.interval_form.specs.Listing.{listed}
use Rattle.interval_form.specs.Interval.{ranges_of}
use Rattle.interval_form.specs.Linear.{variable_form, linear_form}
use Rattle.interval_form.specs.Sparse.{Sparse, form_in}
use Rattle.interval_form.proofs.Shapes.{form_entry-diagonal}
use Rattle.interval_form.proofs.Bounding.{length-ranges_of}
use Rattle.interval_form.proofs.Wider.{length-extended_ranges}
use Rattle.transfer_def.specs.Assign.{extended_ranges, form_minus_new, new_minus_form, equated, assigned, assign_value}
use Rattle.transfer_def.specs.Dimensions.{extended_entry, extended, moved}
use Rattle.dec_oct.specs.Value.{Blocks, Decomposed, decomposed, whole, octagon, octagon_of, IsDecomposition, IsKept, IsKeptBlocks}
use Rattle.dec_oct.specs.Cost.{CostsAtMost, TellsAgainOf}
use Rattle.dec_lattice.specs.Over.{held_of, held}
use Rattle.dec_lattice.proofs.Values.{if-held}
use Rattle.dec_parts.specs.Lower.{bound_in, lowered_matrix, AreOffDiagonal, IsLowered}
use Rattle.dec_parts.specs.Moving.{moved_value, MarksAllButTargetsOf}
use Rattle.dec_parts.proofs.Joined.{placed-in, listed-finite}
use Rattle.dec_parts.proofs.Widened.{whole-extended}
use Rattle.dec_transfer.specs.Listed.{ListsBoth}
use Rattle.dec_transfer.specs.Cost.{AssignCountOf, AssignCosts}
use Rattle.dec_transfer.specs.Formed.{IsFormOf, AreBoundsOfNew}
use Rattle.dec_transfer.specs.Closed.{IsClosedAndMoved}
use Rattle.dec_transfer.specs.Marks.{AssignMarksOf, AssignMarks, IsAssigned}
use Rattle.dec_transfer.proofs.Lowering.{bounded-impossible, both-lowered}
use Rattle.dec_transfer.proofs.Costs.{assign-count}

one-distinct : (x : ℕ) → AreDistinct (x ∷ [])
one-distinct x i j p q = absurd (omega arith)

one-below : (x n : ℕ) → x < n → All (λ y. y < n) (x ∷ [])
one-below x n h = All-cons (λ y. y < n) x [] h (λ k d p. absurd (omega arith))

pub closed-and-moved : (v wide closed r : Decomposed) (x d k : ℕ) (b : Blocks) (bounds : List OctBound) (old new : ℕ) → IsSome v.blocks → x < v.dims
    → wide ≡ decomposed (v.dims + 1) v.blocks → d ≡ wide.dims → IfSome wide.blocks (λ a. IsLowered wide.dims a bounds b)
    → IsKept closed → octagon closed ≡ octagon_of d (tight (whole d b)) → TellsAgainOf closed.blocks → CostsAtMost b closed.blocks old new
    → k ≡ v.dims → octagon r ≡ moved_value k (x ∷ []) (octagon closed)
    → (AreDistinct (x ∷ []) → All (λ y. y < k) (x ∷ []) → TellsAgainOf closed.blocks → MarksAllButTargetsOf k (x ∷ []) (octagon closed) r.blocks) → IsClosedAndMoved v.dims x (held v) bounds old new r
closed-and-moved v wide closed r x d k b bounds old new s p w e low kept value told cost f move marks = record {
  before = b;
  lowered = if-held v.blocks (λ a. IsLowered (v.dims + 1) a bounds b) s (subst (λ t. IfSome t.blocks (λ a. IsLowered t.dims a bounds b)) w low);
  closed = closed;
  kept = kept;
  value = subst (λ n. octagon closed ≡ octagon_of n (tight (whole n b))) (e ∙ ap (λ t. t.dims) w) value;
  cost = cost;
  moved = subst (λ n. octagon r ≡ moved_value n (x ∷ []) (octagon closed)) f move;
  marks = subst (λ n. MarksAllButTargetsOf n (x ∷ []) (octagon closed) r.blocks) f (marks (one-distinct x) (one-below x k (subst (λ n. x < n) (sym f) p)) told);
}

-- ---- the matrix before the tight closure

both-impossible : (ranges : List Interval) (f g : Form) (m : Matrix) → (is_above_zero (form_value ranges f).low ≡ true) ⊎ (is_above_zero (form_value ranges g).low ≡ true) → option_and_then (bounded ranges g) (bounded ranges f m) ≡ None
both-impossible ranges f g m (inl h) = ap (option_and_then (bounded ranges g)) (bounded-impossible ranges f m h)
both-impossible ranges f g m (inr h) = by (bounded ranges f m)
  where
    by : (r : Option Matrix) → option_and_then (bounded ranges g) r ≡ None
    by None = refl
    by (Some k) = bounded-impossible ranges g k h

new-ranges : (n : ℕ) (m : Matrix) → length (extended_ranges n m) ≡ n + 1
unfolding extended_ranges
new-ranges n m = length-extended_ranges n m (extended_ranges n m) refl

equated-none : (n : ℕ) (e : Expression) (m : Matrix) → (is_above_zero (form_value (extended_ranges n m) (form_minus_new n m e)).low ≡ true) ⊎ (is_above_zero (form_value (extended_ranges n m) (new_minus_form n m e)).low ≡ true) → equated n e m ≡ None
unfolding equated
equated-none n e m h = both-impossible (extended_ranges n m) (form_minus_new n m e) (new_minus_form n m e) (extended n 1 m) h

length-wide : (n : ℕ) (m : Matrix) → length (extended n 1 m) ≡ 2 * (n + 1)
unfolding extended
length-wide n m = length-table (2 * (n + 1)) (extended_entry n m)

equated-some : (n : ℕ) (e : Expression) (a : Blocks) (bounds : List OctBound) → IsDecomposition n a → ListsBoth (extended_ranges n (whole n a)) (form_minus_new n (whole n a) e) (new_minus_form n (whole n a) e) bounds
    → equated n e (whole n a) ≡ Some (lowered_matrix (n + 1) bounds (whole (n + 1) a))
unfolding equated
equated-some n e a bounds d h =
    let m = whole n a in
    let size = new-ranges n m in
    let rows = length-wide n m in
    both-lowered (extended_ranges n m) (form_minus_new n m e) (new_minus_form n m e) bounds (extended n 1 m) (omega (arith, size, rows)) h
    ∙ ap Some (ap (λ t. lowered_matrix t bounds (extended n 1 m)) size ∙ ap (lowered_matrix (n + 1) bounds) (sym (whole-extended n 1 a d.parts)))

-- no bound of a form is one on the diagonal
off-diagonal : (ranges : List Interval) (f g : Form) (bounds : List OctBound) → ListsBoth ranges f g bounds → AreOffDiagonal bounds
off-diagonal ranges f g bounds h k p e =
    let r = (bound_in bounds k).row in
    let z = placed-in (length ranges) bounds k h.placed p in
    let row = z.row in
    listed-finite (length ranges) bounds k h.placed p
    (ap (listed bounds r) (sym e) ∙ h.entries r r row row ∙ ap (λ t. least t (form_entry ranges g r r)) (form_entry-diagonal ranges f r) ∙ form_entry-diagonal ranges g r)

-- ---- the value, its count and its marks

value-of : (n x : ℕ) (e : Expression) (a : Blocks) (z : Option Matrix) → equated n e (whole n a) ≡ z → octagon_of n (option_map (moved n (x ∷ [])) (option_and_then tight z)) ≡ assign_value x e (octagon (decomposed n (Some a)))
unfolding assign_value assigned
value-of n x e a z h = sym (ap (λ t. octagon_of n (option_map (moved n (x ∷ [])) (option_and_then tight t))) h)

abbrev Is : ℕ → ℕ → Expression → Option Blocks → ℕ → ℕ → Decomposed → Type 0
Is n x e o old new r = (octagon r ≡ assign_value x e (octagon (decomposed n o))) × AssignCosts n e o old new × AssignMarks n x e o r.blocks

is-bottom : (n x : ℕ) (e : Expression) (o : Option Blocks) (s : Sparse) (old : ℕ) (r : Decomposed) → IsSome o → AreBoundsOfNew n (whole n (held_of o)) s Nothing → IsFormOf n (whole n (held_of o)) e s → octagon r ≡ bottom_value n → Is n x e o old old r
unfolding bottom_value
is-bottom n x e None s old r p b f w = absurd (cc)
is-bottom n x e (Some a) s old r p b f w =
    let none = equated-none n e (whole n a) (b e f) in
    (w ∙ value-of n x e a None none, subst (λ z. AssignCountOf n e a z old old) (sym none) refl, subst (λ z. AssignMarksOf n x z r.blocks) (sym none) tt)

is-moved : (n x : ℕ) (e : Expression) (o : Option Blocks) (bounds : List OctBound) (old new : ℕ) (r : Decomposed) → IsSome o → IsKeptBlocks n o
    → ListsBoth (extended_ranges n (whole n (held_of o))) (form_minus_new n (whole n (held_of o)) e) (new_minus_form n (whole n (held_of o)) e) bounds → IsClosedAndMoved n x (held_of o) bounds old new r → Is n x e o old new r
unfolding moved_value
is-moved n x e None bounds old new r p kept b c = absurd (cc)
is-moved n x e (Some a) bounds old new r p kept b c =
    let m = whole n a in
    let k = lowered_matrix (n + 1) bounds (whole (n + 1) a) in
    let some = equated-some n e a bounds kept b in
    let off = off-diagonal (extended_ranges n m) (form_minus_new n m e) (new_minus_form n m e) bounds b in
    let closed : octagon c.closed ≡ octagon_of (n + 1) (tight k) = c.value ∙ ap (λ t. octagon_of (n + 1) (tight t)) c.lowered.same in (
      c.moved ∙ ap (moved_value n (x ∷ [])) closed ∙ value-of n x e a (Some k) some,
      subst (λ z. AssignCountOf n e a z old new) (sym some) (assign-count n e a c.before k bounds c.closed old new (new-ranges n m) b off c.lowered refl c.kept c.value c.cost),
      subst (λ z. AssignMarksOf n x z r.blocks) (sym some) (subst (λ t. MarksAllButTargetsOf n (x ∷ []) t r.blocks) closed c.marks),
    )

pub assigned-nothing : (v r : Decomposed) (x d old : ℕ) (s : Sparse) → IsSome v.blocks → AreBoundsOfNew v.dims (whole v.dims (held v)) s Nothing → d ≡ v.dims → octagon r ≡ bottom_value d
    → (e : Expression) → IsFormOf v.dims (whole v.dims (held v)) e s → IsAssigned x e v old old r
assigned-nothing v r x d old s p b q w e f =
    let h = is-bottom v.dims x e v.blocks s old r p b f (w ∙ ap bottom_value q) in
    record { value = h.0; count = h.1; marks = h.2 }

pub assigned-few : (v r : Decomposed) (x : ℕ) (s : Sparse) (bounds : List OctBound) (old new : ℕ) → IsSome v.blocks → IsKept v
    → ((e : Expression) → IsFormOf v.dims (whole v.dims (held v)) e s → ListsBoth (extended_ranges v.dims (whole v.dims (held v))) (form_minus_new v.dims (whole v.dims (held v)) e) (new_minus_form v.dims (whole v.dims (held v)) e) bounds)
    → IsClosedAndMoved v.dims x (held v) bounds old new r → (e : Expression) → IsFormOf v.dims (whole v.dims (held v)) e s → IsAssigned x e v old new r
assigned-few v r x s bounds old new p kept t c e f =
    let h = is-moved v.dims x e v.blocks bounds old new r p kept.blocks (t e f) c in
    record { value = h.0; count = h.1; marks = h.2 }

-- ---- the whole assignment

pub of-bottom : (v r : Decomposed) (x d : ℕ) (e : Expression) → v.blocks ≡ None → d ≡ v.dims → octagon r ≡ bottom_value d → octagon r ≡ assign_value x e (octagon v)
unfolding bottom_value assign_value
of-bottom v r x d e h q w = w ∙ ap bottom_value q ∙ sym (ap (λ o. octagon_of v.dims (option_and_then (assigned v.dims x e) (option_map (whole v.dims) o))) h)

pub held-ranges_of : (v : Decomposed) (ranges : List Interval) → IsSome v.blocks → IfSome v.blocks (λ b. ranges ≡ ranges_of v.dims (whole v.dims b)) → ranges ≡ ranges_of v.dims (whole v.dims (held v))
held-ranges_of v ranges s h = if-held v.blocks (λ b. ranges ≡ ranges_of v.dims (whole v.dims b)) s h

pub form-of-expression : (n : ℕ) (m : Matrix) (ranges : List Interval) (e : Expression) (s : Sparse) → ranges ≡ ranges_of n m → form_in (length ranges) s ≡ linear_form ranges e → IsFormOf n m e s
form-of-expression n m ranges e s q h = ap (λ k. form_in k s) (sym (ap length q ∙ length-ranges_of n m)) ∙ h ∙ ap (λ rs. linear_form rs e) q

pub form-of-copy : (n : ℕ) (m : Matrix) (y : ℕ) (s : Sparse) → ((k : ℕ) → form_in k s ≡ variable_form k y) → IsFormOf n m (Variable y) s
unfolding linear_form
form-of-copy n m y s h = h n ∙ ap (λ k. variable_form k y) (sym (length-ranges_of n m))
