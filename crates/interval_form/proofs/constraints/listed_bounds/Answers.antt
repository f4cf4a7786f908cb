use Rattle.std.proofs.Common.{◌≡◌, ◌≤◌, List, length, sym, ap, subst, ◌∙◌, arith}
use Rattle.std.specs.List.{All}
use Rattle.oct_def.specs.Matrix.{opposite}
use Rattle.oct_def.proofs.Indices.{opposite_below}
use Rattle.interval_form.specs.declared.constraints.OctBound.{OctBound}
use Rattle.interval_form.specs.Sparse.{Terms, form_in}
use Rattle.interval_form.specs.Listing.{AreSized, sized_terms, rows_list, listed}
use Rattle.interval_form.specs.Listed.{IsPlaced}
use Rattle.interval_form.proofs.Listings.{listed-rows, placed-rows}
use Rattle.interval_form.proofs.Merging.{terms_widened}
use Rattle.interval_form.proofs.Tabled.{rows-at, entry-at, rising-sizes, below-sizes, sized-sizes, signed-size}
use Rattle.interval_form.proofs.constraints.listed_bounds.Goals as goal

pub sizes-requires : goal.sizes-requires
sizes-requires g c =
    let n = length (g.R.Ranges.intervals c.args.ranges.now) in
    let l : n ≤ 512 = omega arith in
    subst (Terms 0 512) (sym c.terms.ensures) (terms_widened 0 n 512 c.args.form.now.terms c.requires l)

pub list_rows-requires-clause-sizes : goal.list_rows-requires-clause-sizes
list_rows-requires-clause-sizes g c =
    let e : c.as_slice.result.now ≡ sized_terms c.args.form.now.terms = c.as_slice.ensures.value ∙ (c.in_ok-sizes.ensures ∙ ap sized_terms c.terms.ensures) in
    subst AreSized (sym e) (sized-sizes c.args.form.now.terms)

pub returns-clause-placed : goal.returns-clause-placed
returns-clause-placed g c =
    let ranges = g.R.Ranges.intervals c.args.ranges.now in
    let n = length ranges in
    let s = c.args.form.now in
    let f = form_in n s in
    let t = sized_terms s.terms in
    let e : c.as_slice.result.now ≡ t = c.as_slice.ensures.value ∙ (c.in_ok-sizes.ensures ∙ ap sized_terms c.terms.ensures) in
    let v : c.in_ok-list.list.items ≡ rows_list ranges f t = c.in_ok-list.ensures ∙ ap (rows_list ranges f) e in
    subst (All (IsPlaced n)) (sym v) (placed-rows ranges f n t (below-sizes 0 n s.terms c.requires))

pub returns-clause-entries : goal.returns-clause-entries
returns-clause-entries g c i j p q =
    let ranges = g.R.Ranges.intervals c.args.ranges.now in
    let n = length ranges in
    let s = c.args.form.now in
    let f = form_in n s in
    let t = sized_terms s.terms in
    let e : c.as_slice.result.now ≡ t = c.as_slice.ensures.value ∙ (c.in_ok-sizes.ensures ∙ ap sized_terms c.terms.ensures) in
    let v : c.in_ok-list.list.items ≡ rows_list ranges f t = c.in_ok-list.ensures ∙ ap (rows_list ranges f) e in
    let r = rising-sizes 0 n s.terms c.requires in
    ap (λ (bs : List OctBound). listed bs i j) v
    ∙ (listed-rows ranges f t i j
    ∙ (rows-at ranges f 0 0 t t i j r r
    ∙ entry-at ranges f t i j (signed-size n s (opposite i) c.requires (opposite_below n i p)) (signed-size n s j c.requires q)))
