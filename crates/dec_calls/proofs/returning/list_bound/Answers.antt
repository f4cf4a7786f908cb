use Rattle.std.proofs.Common.{◌≡◌, ap, ◌∙◌, arith, rules}
use Rattle.std.specs.Prelude.{FitsSigned}
use Rattle.std.specs.Int.{w64}
use Rattle.std.proofs.lemmas.Int.{ints, to_z-of_z}
use Rattle.oct_def.specs.Bound.{bound_of, least, none_word}
use Rattle.interval_form.specs.Listing.{listed}
use Rattle.dec_calls.specs.Brought.{standing}
use Rattle.dec_calls.proofs.Listings.{listed-nothing, listed-pushed}
use Rattle.dec_calls.proofs.returning.list_bound.Goals as goal

pub returns-then-word-eq-NONE-clause-entries : goal.returns-then-word-eq-NONE-clause-entries
returns-then-word-eq-NONE-clause-entries c = λ p q.
    let e : c.args.word ≡ none_word = omega (arith, ints, c.if-word-eq-NONE.true) in
    listed-nothing c.args.out.now.items c.args.row c.args.column p q (bound_of c.args.word) (ap bound_of e)

pub returns-clause-entries : goal.returns-clause-entries
returns-clause-entries c = λ p q.
    let f : FitsSigned w64 c.args.word = search rules in
    ap (λ t. listed t p q) c.in_ok-push.ensures.items
    ∙ (listed-pushed c.args.out.now.items _ p q ∙ ap (λ w. least (listed c.args.out.now.items p q) (standing c.args.row c.args.column (bound_of w) p q)) (to_z-of_z w64 c.args.word f))
