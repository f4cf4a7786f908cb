use Rattle.std.proofs.Common.{◌≡◌, ◌+◌, ◌*◌, ap, ◌∙◌, arith, rules, length, to_z, of_z}
use Rattle.std.specs.Prelude.{FitsSigned}
use Rattle.std.specs.Int.{w64}
use Rattle.std.proofs.lemmas.Int.{to_z-of_z}
use Rattle.oct_def.specs.Bound.{bound_of, least}
use Rattle.oct_def.specs.Table.{at}
use Rattle.transfer_def.specs.Back.{least_below, brought_from, brought_in_row}
use Rattle.full_oct.proofs.Bringing.{one_more, brought-nothing, brought-lowered, brought-same, columns-more, joined_dimension-below}
use Rattle.full_oct.proofs.matrix.FullMatrix.bring_row.Goals as goal

pub loop-j-init : goal.loop-j-init
unfolding least_below
loop-j-init c = brought-nothing c.args.self.now c.size.ensures.square

pub lower-requires-clause-row : goal.lower-requires-clause-row
lower-requires-clause-row c =
    let below = joined_dimension-below c.args.dims c.args.args.now c.args.outputs c.args.i c.requires.args c.requires.row in
    omega (arith, below, c.joined_dimension-row.ensures, c.loop-j.invariant.rows, c.requires.rows)

pub lower-requires-clause-column : goal.lower-requires-clause-column
lower-requires-clause-column c =
    let below = joined_dimension-below c.args.dims c.args.args.now c.args.outputs c.loop-j.j c.requires.args (omega arith) in
    omega (arith, below, c.joined_dimension-column.ensures, c.loop-j.invariant.rows, c.requires.rows)

pub loop-j-preserved : goal.loop-j-preserved
loop-j-preserved c =
    let n = c.args.dims in
    let args = c.args.args.now in
    let i = c.args.i in
    let j = c.loop-j.j in
    let exit = c.args.exit.now in
    let old = c.args.self.now in
    let a = c.joined_dimension-row.result in
    let k = c.joined_dimension-column.result in
    let b = bound_of (to_z w64 (of_z w64 c.word.result)) in
    let fits : FitsSigned w64 c.word.result = search rules in
    let said : b ≡ at exit i j = ap bound_of (to_z-of_z w64 c.word.result fits) ∙ c.word.ensures.bound in
    let row = joined_dimension-below n args c.args.outputs i c.requires.args c.requires.row in
    let column = joined_dimension-below n args c.args.outputs j c.requires.args (omega arith) in
    brought-same (one_more (λ p q. least_below j (brought_from n args exit p q i)) a k b) (λ p q. least_below (j + 1) (brought_from n args exit p q i)) old c.lower.new.self
    (λ p q. columns-more n args exit i j p q a k b c.joined_dimension-row.ensures c.joined_dimension-column.ensures said)
    (brought-lowered (λ p q. least_below j (brought_from n args exit p q i)) old c.loop-j.self c.lower.new.self a k b c.loop-j.invariant
    (omega (arith, row, c.joined_dimension-row.ensures, c.requires.rows)) (omega (arith, column, c.joined_dimension-column.ensures, c.requires.rows)) c.lower.ensures)

pub returns-clause-entries : goal.returns-clause-entries
unfolding brought_in_row
returns-clause-entries c = λ p q hp hq.
    let all : c.loop-j.j ≡ 2 * (length c.args.args.now + c.args.outputs) = omega arith in
    c.loop-j.invariant.entries p q hp hq
    ∙ ap (λ k. least (at c.args.self.now p q) (least_below k (brought_from c.args.dims c.args.args.now c.args.exit.now p q c.args.i))) all
