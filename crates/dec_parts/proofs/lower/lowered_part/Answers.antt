use Rattle.std.proofs.Common.{length, ap, ◌∙◌}
use Rattle.dec_parts.proofs.LoweredParts.{part-rows, untouched-part, touched-part}
use Rattle.dec_parts.proofs.lower.lowered_part.Goals as goal

pub returns-then-not-are_touched : goal.returns-then-not-are_touched
returns-then-not-are_touched c =
    untouched-part c.args.v.now.dims c.args.v.now.blocks c.args.bounds.now c.args.members.now c.in_ok-part.part.matrix c.in_ok-part.part.settled c.known.ensures.blocks c.requires.members (c.are_touched.ensures.no c.if-not-are_touched.true)
    c.in_ok-part.ensures.matrix c.in_ok-part.ensures.yes c.in_ok-part.ensures.no

pub take_all-requires-clause-rows : goal.take_all-requires-clause-rows
take_all-requires-clause-rows c = ap length c.in_ok-writing.ensures.same ∙ part-rows c.args.v.now.dims c.args.v.now.blocks c.args.members.now c.in_ok-matrix.matrix c.requires.not_bottom c.in_ok-matrix.ensures

pub returns : goal.returns
returns c =
    touched-part c.args.v.now.dims c.args.v.now.blocks c.args.bounds.now c.args.members.now c.in_ok-matrix.matrix c.in_ok-writing.field-0.now _ c.known.ensures.blocks c.requires.members (c.are_touched.ensures.yes c.if-not-are_touched.false)
    c.in_ok-matrix.ensures c.in_ok-writing.ensures.same c.take_all.ensures
