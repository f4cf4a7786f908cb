-- A matrix with the bounds of forms is one that takes what is listed for them.
use Rattle.std.proofs.Common.{◌≡◌, ℕ, ◌*◌, ◌<◌, ◌++◌, true, false, List, length, Some, None, sym, ap, ◌∙◌, subst, arith}
use Rattle.std.specs.Option.{option_and_then}
use Rattle.std.proofs.lemmas.Bool.{cond-true, cond-false}
use Rattle.std.proofs.lemmas.List.Elements.{All-append}
use Rattle.oct_def.specs.Bound.{Bound, least}
use Rattle.oct_def.specs.Table.{Matrix, table, at}
use Rattle.oct_def.specs.Matrix.{opposite}
use Rattle.oct_def.proofs.Bounds.{least_self}
use Rattle.oct_def.proofs.Orders.{least_assoc}
use Rattle.oct_def.proofs.Indices.{opposite_below}
use Rattle.oct_def.proofs.Tables.{length-table, at-table, table-same}
use Rattle.interval_form.specs.declared.constraints.OctBound.{OctBound}
use Rattle.interval_form.specs.declared.interval.Interval.{Interval}
use Rattle.interval_form.specs.Form.{Form, form_value}
use Rattle.interval_form.specs.FormBounds.{is_above_zero, form_entry, form_matrix, form_bounds, with_bounds, least_entry, least_matrix, bounded}
use Rattle.interval_form.specs.Listed.{IsPlaced, Lists}
use Rattle.interval_form.specs.Listing.{listed}
use Rattle.interval_form.proofs.Listings.{listed-append}
use Rattle.interval_form.proofs.Shapes.{form_entry-twin}
use Rattle.dec_parts.specs.Lower.{lowered_entry, lowered_matrix}
use Rattle.dec_transfer.specs.Listed.{ListsBoth}

-- where a form can be at most 0
bounded-possible : (ranges : List Interval) (f : Form) (m : Matrix) → is_above_zero (form_value ranges f).low ≡ false → bounded ranges f m ≡ Some (least_matrix m (form_matrix ranges f))
unfolding bounded form_bounds
bounded-possible ranges f m h = ap (with_bounds m) (cond-false _ _ _ h)

pub bounded-impossible : (ranges : List Interval) (f : Form) (m : Matrix) → is_above_zero (form_value ranges f).low ≡ true → bounded ranges f m ≡ None
unfolding bounded form_bounds
bounded-impossible ranges f m h = ap (with_bounds m) (cond-true _ _ _ h)

at-form : (ranges : List Interval) (f : Form) (i j : ℕ) → i < 2 * length ranges → j < 2 * length ranges → at (form_matrix ranges f) i j ≡ form_entry ranges f i j
unfolding form_matrix
at-form ranges f i j p q = at-table (2 * length ranges) (form_entry ranges f) i j p q

-- what is listed for one form
pub bounded-lowered : (ranges : List Interval) (f : Form) (bounds : List OctBound) (m : Matrix) → length m ≡ 2 * length ranges → Lists ranges f bounds → bounded ranges f m ≡ Some (lowered_matrix (length ranges) bounds m)
unfolding least_matrix least_entry lowered_matrix lowered_entry
bounded-lowered ranges f bounds m e h = bounded-possible ranges f m h.possible ∙ ap Some (ap (λ k. table k (least_entry m (form_matrix ranges f))) e ∙ table-same (2 * length ranges) _ _ (λ i j p q.
    let n = length ranges in
    ap (least (at m i j)) (at-form ranges f i j p q
    ∙ sym (ap (λ t. least t (listed bounds (opposite j) (opposite i))) (h.entries i j p q)
    ∙ ap (least (form_entry ranges f i j)) (h.entries (opposite j) (opposite i) (opposite_below n j q) (opposite_below n i p) ∙ sym (form_entry-twin ranges f i j))
    ∙ least_self (form_entry ranges f i j)))))

-- what is listed for two
pub both-lowered : (ranges : List Interval) (f g : Form) (bounds : List OctBound) (m : Matrix) → length m ≡ 2 * length ranges → ListsBoth ranges f g bounds → option_and_then (bounded ranges g) (bounded ranges f m) ≡ Some (lowered_matrix (length ranges) bounds m)
unfolding least_matrix least_entry lowered_matrix lowered_entry
both-lowered ranges f g bounds m e h =
    ap (option_and_then (bounded ranges g)) (bounded-possible ranges f m h.first) ∙ bounded-possible ranges g (least_matrix m (form_matrix ranges f)) h.second
    ∙ ap Some (ap (λ k. table k (least_entry (least_matrix m (form_matrix ranges f)) (form_matrix ranges g))) (length-table (length m) (least_entry m (form_matrix ranges f)) ∙ e) ∙ table-same (2 * length ranges) _ _ (λ i j p q. entry i j p q))
  where
    n : ℕ
    n = length ranges

    both : ℕ → ℕ → Bound
    both i j = least (form_entry ranges f i j) (form_entry ranges g i j)

    twin : (i j : ℕ) → both (opposite j) (opposite i) ≡ both i j
    twin i j = sym (ap (λ t. least t (form_entry ranges g i j)) (form_entry-twin ranges f i j) ∙ ap (least (form_entry ranges f (opposite j) (opposite i))) (form_entry-twin ranges g i j))

    all_listed : (i j : ℕ) → i < 2 * n → j < 2 * n → least (listed bounds i j) (listed bounds (opposite j) (opposite i)) ≡ both i j
    all_listed i j p q =
        ap (λ t. least t (listed bounds (opposite j) (opposite i))) (h.entries i j p q)
        ∙ ap (least (both i j)) (h.entries (opposite j) (opposite i) (opposite_below n j q) (opposite_below n i p) ∙ twin i j) ∙ least_self (both i j)

    entry : (i j : ℕ) → i < 2 * n → j < 2 * n → least (at (least_matrix m (form_matrix ranges f)) i j) (at (form_matrix ranges g) i j) ≡ least (at m i j) (least (listed bounds i j) (listed bounds (opposite j) (opposite i)))
    entry i j p q =
        ap (λ t. least t (at (form_matrix ranges g) i j)) (at-table (length m) (least_entry m (form_matrix ranges f)) i j (omega arith) (omega arith) ∙ ap (least (at m i j)) (at-form ranges f i j p q))
        ∙ ap (least (least (at m i j) (form_entry ranges f i j))) (at-form ranges g i j p q)
        ∙ least_assoc (at m i j) (form_entry ranges f i j) (form_entry ranges g i j) ∙ ap (least (at m i j)) (sym (all_listed i j p q))

-- ---- the lists of two forms, one behind the other

pub lists-both : (ranges : List Interval) (f g : Form) (xs ys zs : List OctBound) → Lists ranges f xs → Lists ranges g ys → zs ≡ xs ++ ys → ListsBoth ranges f g zs
lists-both ranges f g xs ys zs h k e = subst (ListsBoth ranges f g) (sym e) (record {
  first = h.possible;
  second = k.possible;
  placed = All-append (IsPlaced (length ranges)) xs ys h.placed k.placed;
  entries = λ i j p q. listed-append xs ys i j ∙ ap (λ t. least t (listed ys i j)) (h.entries i j p q) ∙ ap (least (form_entry ranges f i j)) (k.entries i j p q);
})
