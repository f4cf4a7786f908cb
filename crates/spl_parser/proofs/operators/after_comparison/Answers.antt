-- What binds closer is closed, and the new operator waits.
use Rattle.std.proofs.Common.{refl}
use Rattle.spl_tree.specs.Lists.{lists_of}
use Rattle.spl_parser.proofs.Shifting.{shift_comparison}
use Rattle.spl_parser.proofs.operators.after_comparison.Goals as goal

pub returns : goal.returns
returns c = shift_comparison (lists_of c.args.parts.now) (lists_of c.closed_sum.new.parts) c.args.pending _ c.args.operand c.in_ok-left.left c.args.operator c.args.place c.requires.placed c.requires.pending c.requires.first refl refl refl refl refl refl c.new.ensures.items c.in_ok-left.ensures
