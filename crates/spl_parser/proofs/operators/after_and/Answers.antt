-- What binds closer is closed, and the new operator waits.
use Rattle.std.proofs.Common.{refl}
use Rattle.spl_tree.specs.Lists.{lists_of}
use Rattle.spl_parser.proofs.Shifting.{shift_and}
use Rattle.spl_parser.proofs.operators.after_and.Goals as goal

pub returns : goal.returns
returns c = shift_and (lists_of c.args.parts.now) (lists_of c.closed_conjunct.new.parts) c.args.pending _ c.args.operand c.in_ok-left.left c.args.place c.requires.placed c.requires.pending refl refl c.new.ensures.items refl refl refl c.new-2.ensures.items c.in_ok-left.ensures
