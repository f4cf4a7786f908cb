use Rattle.std.proofs.Common.{ap, ◌∙◌, arith, rules, length}
use Rattle.std.specs.Prelude.{◌*◌, FitsSigned}
use Rattle.std.specs.Int.{w64}
use Rattle.std.proofs.lemmas.Int.{to_z-of_z}
use Rattle.oct_def.specs.Bound.{bound_of}
use Rattle.oct_def.specs.Table.{at}
use Rattle.transfer_def.specs.Enter.{argument_dimension}
use Rattle.full_oct.proofs.Adding.{both_below}
use Rattle.full_oct.proofs.Entering.{enter_entry-same, enter_entry-inputs, enter_entry-none, argument_dimension-below}
use Rattle.full_oct.proofs.matrix.FullMatrix.entered_word.Goals as goal

pub returns-then-i-j : goal.returns-then-i-j
returns-then-i-j c = enter_entry-same c.args.args.now c.args.self.now c.args.i c.args.j c.if-i-j.true

pub word-requires-clause-row : goal.word-requires-clause-row
word-requires-clause-row c =
    let args = c.args.args.now in
    let both = both_below c.args.i c.args.j (2 * length args) c.if-are_below.ensures in
    let below = argument_dimension-below c.args.dims args c.args.i c.requires.args both.0 in
    omega (arith, below, c.argument_dimension.ensures, c.requires.rows)

pub word-requires-clause-column : goal.word-requires-clause-column
word-requires-clause-column c =
    let args = c.args.args.now in
    let both = both_below c.args.i c.args.j (2 * length args) c.if-are_below.ensures in
    let below = argument_dimension-below c.args.dims args c.args.j c.requires.args both.1 in
    omega (arith, below, c.argument_dimension-then-are_below.ensures, c.requires.rows)

pub returns-then-are_below : goal.returns-then-are_below
returns-then-are_below c =
    let s = c.args.self.now in
    let args = c.args.args.now in
    let fits : FitsSigned w64 c.word.result = search rules in
    ap bound_of (to_z-of_z w64 c.word.result fits) ∙ c.word.ensures.bound
    ∙ ap (λ k. at s k c.argument_dimension-then-are_below.result) c.argument_dimension.ensures
    ∙ ap (at s (argument_dimension args c.args.i)) c.argument_dimension-then-are_below.ensures
    ∙ enter_entry-inputs args s c.args.i c.args.j c.if-i-j.false c.if-are_below.ensures

pub returns-else-are_below : goal.returns-else-are_below
returns-else-are_below c =
    enter_entry-none c.args.args.now c.args.self.now c.args.i c.args.j c.if-i-j.false c.if-are_below.ensures
