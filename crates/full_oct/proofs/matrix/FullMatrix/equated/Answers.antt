use Rattle.std.proofs.Common.{◌∙◌, length}
use Rattle.interval_form.proofs.Wider.{over-new, new-below}
use Rattle.full_oct.proofs.Forming.{rows-wider, rows-extended, equated-is}
use Rattle.full_oct.proofs.matrix.FullMatrix.equated.Goals as goal

pub minus-requires-clause-left : goal.minus-requires-clause-left
minus-requires-clause-left c = over-new c.args.dims c.args.self.now c.in_ok-ranges.ranges c.args.form.now c.in_ok-ranges.ensures.ranges c.requires.over

pub minus-requires-clause-right : goal.minus-requires-clause-right
minus-requires-clause-right c = c.in_ok-new.ensures.over (length c.in_ok-ranges.ranges) (new-below c.args.dims c.args.self.now c.in_ok-ranges.ranges c.in_ok-ranges.ensures.ranges)

pub minus-requires-2-clause-left : goal.minus-requires-2-clause-left
minus-requires-2-clause-left c = c.in_ok-new.ensures.over (length c.in_ok-ranges.ranges) (new-below c.args.dims c.args.self.now c.in_ok-ranges.ranges c.in_ok-ranges.ensures.ranges)

pub minus-requires-2-clause-right : goal.minus-requires-2-clause-right
minus-requires-2-clause-right c = over-new c.args.dims c.args.self.now c.in_ok-ranges.ranges c.args.form.now c.in_ok-ranges.ensures.ranges c.requires.over

pub bounded_twice-requires-clause-rows : goal.bounded_twice-requires-clause-rows
bounded_twice-requires-clause-rows c =
    rows-wider c.args.dims c.args.self.now c.in_ok-ranges.ranges (length c.in_ok-wider.wider) c.in_ok-ranges.ensures.ranges (rows-extended c.args.dims c.args.self.now c.in_ok-wider.wider c.in_ok-wider.ensures.extended)

pub returns : goal.returns
returns c =
    c.in_ok-equated.ensures
    ∙ equated-is c.args.dims c.args.self.now c.in_ok-wider.wider c.in_ok-ranges.ranges c.args.form.now c.in_ok-new.new c.in_ok-below.below c.in_ok-above.above
    c.in_ok-ranges.ensures.ranges c.requires.over c.in_ok-new.ensures.form c.in_ok-wider.ensures.extended c.in_ok-below.ensures.form c.in_ok-above.ensures.form
