use Rattle.std.proofs.Common.{◌≡◌, ◌≢◌, ◌/◌, ◌++◌, nat_eq, length, ap, ◌∙◌, sym, rules, arith, of_z, FitsSigned, Some, ℤ}
use Rattle.std.specs.Int.{w64}
use Rattle.std.proofs.lemmas.Int.{ints, to_z-of_z}
use Rattle.oct_def.specs.Bound.{Bound, bound_of, none_word}
use Rattle.interval_form.specs.FormBounds.{rest_bound}
use Rattle.interval_form.specs.Sparse.{form_in}
use Rattle.interval_form.specs.Listing.{word_bound, size_bound, twins, with_twins}
use Rattle.interval_form.proofs.Listings.{none-more, other-sizes, same-sizes, none-bound, some-bound}
use Rattle.interval_form.proofs.constraints.list_pair.Goals as goal

pub returns-then-x-y : goal.returns-then-x-y
returns-then-x-y g c =
    let ranges = g.R.Ranges.intervals c.args.ranges.now in
    let f = form_in (length ranges) c.args.form.now in
    let x = c.args.x in
    let y = c.args.y in
    none-more c.args.out.now.items x.dim y.dim (size_bound ranges f x y) (other-sizes ranges f x y c.if-x-y.true)

pub returns-then-word-eq-NONE : goal.returns-then-word-eq-NONE
returns-then-word-eq-NONE g c =
    let ranges = g.R.Ranges.intervals c.args.ranges.now in
    let f = form_in (length ranges) c.args.form.now in
    let x = c.args.x in
    let y = c.args.y in
    let w = c.bound_word-word.result in
    let fits : FitsSigned w64 c.bound_word-word.result = search rules in
    let e : bound_of w ≡ word_bound (nat_eq x.dim y.dim) y.size (rest_bound ranges f (x.dim / 2) (y.dim / 2)) =
    c.bound_word-word.ensures ∙ ap (word_bound (nat_eq x.dim y.dim) y.size) c.rest_bound-rest.ensures in
    let n : w ≡ none_word = omega (arith, ints) in
    none-more c.args.out.now.items x.dim y.dim (size_bound ranges f x y) (sym (same-sizes ranges f x y w c.if-x-y.false c.requires.size e) ∙ none-bound w n)

pub returns : goal.returns
returns g c =
    let ranges = g.R.Ranges.intervals c.args.ranges.now in
    let f = form_in (length ranges) c.args.form.now in
    let x = c.args.x in
    let y = c.args.y in
    let w = c.bound_word-word.result in
    let fits : FitsSigned w64 c.bound_word-word.result = search rules in
    let e : bound_of w ≡ word_bound (nat_eq x.dim y.dim) y.size (rest_bound ranges f (x.dim / 2) (y.dim / 2)) =
    c.bound_word-word.ensures ∙ ap (word_bound (nat_eq x.dim y.dim) y.size) c.rest_bound-rest.ensures in
    let n : w ≢ none_word = λ z. c.if-word-eq-NONE.false (ap (of_z w64) z) in
    let b : size_bound ranges f x y ≡ Some w = some-bound w (size_bound ranges f x y) n (same-sizes ranges f x y w c.if-x-y.false c.requires.size e) in
    let t : c.list_twins.new.out.items ≡ c.args.out.now.items ++ with_twins x.dim y.dim (Some w) =
    c.in_ok-list_twins.ensures ∙ ap (λ (z : ℤ). c.args.out.now.items ++ twins x.dim y.dim z) (to_z-of_z w64 w fits) in
    t ∙ sym (ap (λ (z : Bound). c.args.out.now.items ++ with_twins x.dim y.dim z) b)
