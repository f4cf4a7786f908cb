-- A body ends outside its blocks: the program's, or a procedure's.
use Rattle.std.proofs.Common.{refl, rules}
use Rattle.spl_tree.specs.Lists.{lists_of}
use Rattle.spl_parser.specs.Growth.{grown}
use Rattle.spl_parser.proofs.Parens.{no_parens_le}
use Rattle.spl_parser.proofs.NestArms.{adds_slice, end_none, main_arm, proc_arm}
use Rattle.spl_parser.proofs.nesting.at_end.Goals as goal

pub returns-then-len-gt0 : goal.returns-then-len-gt0
returns-then-len-gt0 c = λ source. end_none source (grown (lists_of c.args.parts.now)) c.args.token c.args.body c.requires.kind (search rules)

pub returns-in-Main : goal.returns-in-Main
returns-in-Main c = λ source. main_arm source (lists_of c.args.parts.now) (lists_of c.add_block.new.parts) c.args.token c.args.body c.in_ok-block.block _ c.requires.kind (no_parens_le c.args.body.frames.items (search rules)) c.in-Main.is c.requires.token c.requires.ready (adds_slice (lists_of c.args.parts.now) (lists_of c.add_block.new.parts) c.args.body.stmts.items c.deref.result.now c.in_ok-block.block (search rules) c.requires.ready.there.stmts c.in_ok-block.ensures.first c.in_ok-block.ensures.count c.in_ok-block.ensures.grew) refl refl

pub returns : goal.returns
returns c = λ source. proc_arm source (lists_of c.args.parts.now) (lists_of c.add_block.new.parts) (lists_of c.add_proc.new.parts) c.args.token c.args.body c.in_ok-block.block c.in-Proc.opened _ _ c.requires.kind (no_parens_le c.args.body.frames.items (search rules)) c.in-Proc.is c.requires.token c.requires.ready (adds_slice (lists_of c.args.parts.now) (lists_of c.add_block.new.parts) c.args.body.stmts.items c.deref.result.now c.in_ok-block.block (search rules) c.requires.ready.there.stmts c.in_ok-block.ensures.first c.in_ok-block.ensures.count c.in_ok-block.ensures.grew) refl refl c.in_ok-add_proc-in-Proc.ensures.grew
