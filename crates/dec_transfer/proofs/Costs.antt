-- The blocks before the tight closure of an assignment, and what closing them costs.
use Rattle.std.proofs.Common.{◌≡◌, ℕ, ◌+◌, ◌/◌, ◌<◌, ◌⊎◌, inl, inr, true, false, List, [], ◌∷◌, length, Some, None, refl, sym, ap, ◌∙◌, subst, arith, suc}
use Rattle.std.specs.Prelude.{◌↔◌}
use Rattle.std.proofs.lemmas.Bool.{cases_Bool, cond-false}
use Rattle.oct_def.specs.Bound.{Bound, least}
use Rattle.oct_def.specs.Table.{Matrix}
use Rattle.oct_def.specs.Tight.{tight}
use Rattle.spl_core.specs.Expression.{Expression}
use Rattle.interval_form.specs.declared.constraints.OctBound.{OctBound}
use Rattle.interval_form.specs.Listing.{is_at, listed}
use Rattle.transfer_def.specs.Assign.{extended_ranges, form_minus_new, new_minus_form}
use Rattle.block_partition.specs.Partition.{block, IsIn}
use Rattle.block_laws.specs.Components.{IsComponents}
use Rattle.dec_oct.specs.Value.{Blocks, whole, Decomposed, decomposed, octagon, octagon_of, IsKept, IsKeptBlocks}
use Rattle.dec_oct.specs.Cost.{CostsAtMost}
use Rattle.dec_parts.specs.Lower.{bound_in, lowered_matrix, Touches, AreOffDiagonal, IsLowered}
use Rattle.dec_parts.proofs.Taken.{at-is}
use Rattle.dec_parts.proofs.Joined.{placed-in, listed-finite}
use Rattle.dec_transfer.specs.Listed.{ListsBoth}
use Rattle.dec_transfer.specs.Cost.{IsNewlyTouched, IsAssignCount}

-- a bound that is listed
pub record IsListed (bounds : List OctBound) (i j : ℕ) : Type 0 where
  pub place : ℕ
  pub within : place < length bounds
  pub row : (bound_in bounds place).row ≡ i
  pub column : (bound_in bounds place).column ≡ j

listed-some : (bounds : List OctBound) (i j : ℕ) → (listed bounds i j ≡ None → ⊥) → IsListed bounds i j
listed-some [] i j h = absurd (h refl)
listed-some (b ∷ bs) i j h = by (λ g. listed-some bs i j g) (cases_Bool (is_at b i j))
  where
    by : ((listed bs i j ≡ None → ⊥) → IsListed bs i j) → (is_at b i j ≡ true) ⊎ (is_at b i j ≡ false) → IsListed (b ∷ bs) i j
    by rest (inl e) = let r = at-is b i j e in record { place = 0; within = omega arith; row = r.0; column = r.1 }
    by rest (inr e) =
        let s = rest (λ t. h (cond-false _ _ _ e ∙ t)) in
        record { place = suc s.place; within = let p = s.within in omega arith; row = s.row; column = s.column }

either-finite : (a b : Bound) → (least a b ≡ None → ⊥) → (a ≡ None → ⊥) ⊎ (b ≡ None → ⊥)
either-finite None b h = inr h
either-finite (Some x) b h = inl (λ e. cc)

least-finite : (a b : Bound) → (a ≡ None → ⊥) ⊎ (b ≡ None → ⊥) → least a b ≡ None → ⊥
least-finite None b (inl h) e = h refl
least-finite None b (inr h) e = h e
least-finite (Some x) None h e = absurd (cc)
least-finite (Some x) (Some y) h e = absurd (cc)

-- what is listed touches a block where a new bound does
touched-new : (n : ℕ) (e : Expression) (m : Matrix) (bounds : List OctBound) (vs : List ℕ) → length (extended_ranges n m) ≡ n + 1 → ListsBoth (extended_ranges n m) (form_minus_new n m e) (new_minus_form n m e) bounds → Touches bounds vs ↔ IsNewlyTouched n e m vs
touched-new n e m bounds vs size h = (there, back)
  where
    there : Touches bounds vs → IsNewlyTouched n e m vs
    there (k, p, t) =
        let b = bound_in bounds k in
        let z = placed-in (length (extended_ranges n m)) bounds k h.placed p in
        let r = z.row in
        let c = z.column in
        record {
          row = b.row;
          column = b.column;
          row_in = omega (arith, size, r);
          column_in = omega (arith, size, c);
          bound = either-finite _ _ (subst (λ t. t ≡ None → ⊥) (h.entries b.row b.column r c) (listed-finite (length (extended_ranges n m)) bounds k h.placed p));
          touch = t;
        }

    back : IsNewlyTouched n e m vs → Touches bounds vs
    back t =
        let p = t.row_in in
        let q = t.column_in in
        let f = subst (λ t. t ≡ None → ⊥) (sym (h.entries t.row t.column (omega (arith, size, p)) (omega (arith, size, q)))) (least-finite _ _ t.bound) in
        let s = listed-some bounds t.row t.column f in
        (s.place, s.within, side s t.touch)
      where
        side : (s : IsListed bounds t.row t.column) → IsIn vs (t.row / 2) ⊎ IsIn vs (t.column / 2) → IsIn vs ((bound_in bounds s.place).row / 2) ⊎ IsIn vs ((bound_in bounds s.place).column / 2)
        side s (inl i) = inl (subst (λ z. IsIn vs (z / 2)) (sym s.row) i)
        side s (inr i) = inr (subst (λ z. IsIn vs (z / 2)) (sym s.column) i)

pub assign-count : (n : ℕ) (e : Expression) (a b : Blocks) (k : Matrix) (bounds : List OctBound) (r : Decomposed) (old new : ℕ) → length (extended_ranges n (whole n a)) ≡ n + 1
    → ListsBoth (extended_ranges n (whole n a)) (form_minus_new n (whole n a) e) (new_minus_form n (whole n a) e) bounds → AreOffDiagonal bounds → IsLowered (n + 1) a bounds b → lowered_matrix (n + 1) bounds (whole (n + 1) a) ≡ k
    → IsKept r → octagon r ≡ octagon_of (n + 1) (tight (whole (n + 1) b)) → CostsAtMost b r.blocks old new → IsAssignCount n e a k old new
assign-count n e a b k bounds r old new size h off l same kept value cost = record {
  before = b;
  blocks = record {
    parts = l.parts;
    same = l.same ∙ same;
    components = subst (IsComponents (n + 1) b.partition) (l.same ∙ same) (l.components off);
    size = l.given.given.marks;
    marks = λ c p.
        let t = touched-new n e (whole n a) bounds (block b.partition c) size h in
        (λ g. let s = (l.marks c p).0 g in (s.0, λ z. s.1 (t.1 z)), λ s. (l.marks c p).1 (s.0, λ z. s.1 (t.0 z)));
  };
  after = r.blocks;
  kept = subst (λ d. IsKeptBlocks d r.blocks) (ap (λ z. z.dims) value) kept.blocks;
  closed = ap (λ m. octagon_of (n + 1) (tight m)) (sym (l.same ∙ same)) ∙ sym value ∙ ap (λ d. octagon (decomposed d r.blocks)) (ap (λ z. z.dims) value);
  cost = cost;
}
