use Rattle.std.proofs.Common.{◌≡◌, ap, ◌∙◌, rules, to_z, of_z}
use Rattle.std.specs.Int.{w64}
use Rattle.std.proofs.lemmas.Int.{to_z-of_z}
use Rattle.oct_def.specs.Bound.{bound_of, least}
use Rattle.oct_def.specs.Table.{at}
use Rattle.full_oct.specs.Words.{replaced, lowered}
use Rattle.full_oct.proofs.matrix.FullMatrix.lower.Goals as goal

pub returns : goal.returns
unfolding lowered
returns c =
    let s = c.args.self.now in
    let i = c.args.i in
    let j = c.args.j in
    let word : bound_of (to_z w64 (of_z w64 c.least_word.result)) ≡ least (at s i j) (bound_of c.args.word) = search (rules, to_z-of_z) in
    c.set.ensures ∙ ap (replaced s i j) word
