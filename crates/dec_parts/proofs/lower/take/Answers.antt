use Rattle.std.proofs.Common.{ap, ◌∙◌, arith, rules, FitsSigned, to_z, of_z}
use Rattle.std.specs.Int.{w64}
use Rattle.std.specs.Prelude.{ℤ}
use Rattle.std.proofs.lemmas.Int.{to_z-of_z}
use Rattle.oct_def.specs.Bound.{least, bound_of}
use Rattle.dec_parts.proofs.Taken.{taken-in, taken-out}
use Rattle.dec_parts.proofs.lower.take.Goals as goal

pub returns-then-row-count : goal.returns-then-row-count
returns-then-row-count c = taken-out c.args.members.now c.args.m.now c.args.bound (λ p q. let e = c.place_of-row.ensures in omega arith)

pub returns-then-column-count : goal.returns-then-column-count
returns-then-column-count c = taken-out c.args.members.now c.args.m.now c.args.bound (λ p q. let e = c.place_of-column.ensures in omega arith)

pub returns : goal.returns
returns c =
    let fits_word : FitsSigned w64 c.args.bound.word = search rules in
    let fits_old : FitsSigned w64 c.get-old.result = search rules in
    let fits_least : FitsSigned w64 c.least_word.result = search rules in
    let word = to_z-of_z w64 c.args.bound.word fits_word in
    let old = to_z-of_z w64 c.get-old.result fits_old in
    taken-in c.args.members.now c.args.m.now _ c.args.bound c.place_of-row.result c.place_of-column.result _ c.place_of-row.ensures c.place_of-column.ensures (omega arith) (omega arith)
    (ap bound_of (to_z-of_z w64 c.least_word.result fits_least) ∙ c.least_word.ensures ∙ ap (λ (t : ℤ). least (bound_of t) (bound_of (to_z w64 (of_z w64 c.args.bound.word)))) old
    ∙ ap (λ (t : ℤ). least (bound_of c.get-old.result) (bound_of t)) word ∙ ap (λ t. least t (bound_of c.args.bound.word)) c.get-old.ensures.bound) c.set.ensures
