use Rattle.std.proofs.Common.{arith}
use Rattle.dec_calls.proofs.Listings.{rows-start, rows-more, rows-end}
use Rattle.dec_calls.proofs.returning.brought.Goals as goal

pub loop-i-init : goal.loop-i-init
loop-i-init c = rows-start c.args.dims c.args.args.now c.args.outputs c.args.exit.now.dims c.args.exit.now.blocks _ c.new-bounds.ensures.items

pub loop-i-preserved : goal.loop-i-preserved
loop-i-preserved c = rows-more c.args.dims c.args.args.now c.args.outputs c.args.exit.now.dims c.loop-i.i c.args.exit.now.blocks c.loop-i.bounds.items _ c.in_ok-list_row.ensures c.loop-i.invariant

pub returns : goal.returns
returns c = rows-end c.args.dims c.args.args.now c.args.outputs c.args.exit.now.dims c.loop-i.i c.args.exit.now.blocks c.loop-i.bounds.items (omega (arith, c.loop-i-test.false, c.loop-i.auto.i-end)) c.loop-i.invariant
