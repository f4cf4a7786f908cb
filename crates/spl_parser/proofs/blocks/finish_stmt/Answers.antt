-- The statement is the last one of the innermost block.
use Rattle.std.proofs.Common.{refl}
use Rattle.spl_tree.specs.Lists.{lists_of}
use Rattle.spl_parser.proofs.StmtArms.{adds_stmt}
use Rattle.spl_parser.proofs.blocks.finish_stmt.Goals as goal

pub returns : goal.returns
returns c = adds_stmt (lists_of c.args.parts.now) (lists_of c.add_stmt.new.parts) c.args.body _ c.args.stmt c.args.place c.in_ok-id.id c.requires.body c.in_ok-id.ensures.number c.in_ok-id.ensures.grew refl refl refl refl c.in_ok-longer.ensures
