-- No other block ends here.
use Rattle.std.proofs.Common.{ap, refl, rules}
use Rattle.spl_tree.specs.Lists.{lists_of}
use Rattle.spl_parser.specs.Growth.{grown}
use Rattle.spl_parser.specs.Machine.{on_endif}
use Rattle.spl_parser.specs.View.{stacked, frame_of}
use Rattle.spl_parser.proofs.Parens.{no_parens}
use Rattle.spl_parser.proofs.NestArms.{innermost, at_endif_word, adds_slice, if_arm, if_else_arm}
use Rattle.spl_parser.proofs.nesting.at_endif.Goals as goal

pub returns-in-Some-While : goal.returns-in-Some-While
unfolding on_endif
returns-in-Some-While c = λ source. at_endif_word source (grown (lists_of c.args.parts.now)) c.args.body c.args.token _ c.requires.kind (innermost source (grown (lists_of c.args.parts.now)) c.args.body c.pop.new.self.items c.in-Some-While.field-0 _ c.in-Some-While.ensures.items c.in-Some-While.field-0-is)

pub returns-in-None : goal.returns-in-None
unfolding on_endif
returns-in-None c = λ source. at_endif_word source (grown (lists_of c.args.parts.now)) c.args.body c.args.token _ c.requires.kind (ap (λ l. stacked (frame_of source (grown (lists_of c.args.parts.now))) l) (no_parens c.args.body.frames.items (search rules)))

pub returns-in_ok-block-in-Some-Then : goal.returns-in_ok-block-in-Some-Then
returns-in_ok-block-in-Some-Then c = λ source. if_arm source (lists_of c.args.parts.now) (lists_of c.add_block.new.parts) c.args.token c.args.body _ c.pop.new.self.items c.in-Some-Then.field-0 c.in-Some-Then.outer c.in-Some-Then.front c.in_ok-block-in-Some-Then.block c.requires.kind c.in-Some-Then.ensures.items c.in-Some-Then.field-0-is c.requires.token c.requires.ready (adds_slice (lists_of c.args.parts.now) (lists_of c.add_block.new.parts) c.args.body.stmts.items c.deref.result.now c.in_ok-block-in-Some-Then.block (search rules) c.requires.ready.there.stmts c.in_ok-block-in-Some-Then.ensures.first c.in_ok-block-in-Some-Then.ensures.count c.in_ok-block-in-Some-Then.ensures.grew) refl refl refl refl refl

pub returns-in_ok-other-in-Some-Else : goal.returns-in_ok-other-in-Some-Else
returns-in_ok-other-in-Some-Else c = λ source. if_else_arm source (lists_of c.args.parts.now) (lists_of c.add_block-in-Some-Else.new.parts) c.args.token c.args.body _ c.pop.new.self.items c.in-Some-Else.field-0 c.in-Some-Else.outer c.in-Some-Else.front c.in-Some-Else.block c.in-Some-Else.second c.in_ok-other-in-Some-Else.other c.requires.kind c.in-Some-Else.ensures.items c.in-Some-Else.field-0-is c.requires.token c.requires.ready (adds_slice (lists_of c.args.parts.now) (lists_of c.add_block-in-Some-Else.new.parts) c.args.body.stmts.items c.deref-in-Some-Else.result.now c.in_ok-other-in-Some-Else.other (search rules) c.requires.ready.there.stmts c.in_ok-other-in-Some-Else.ensures.first c.in_ok-other-in-Some-Else.ensures.count c.in_ok-other-in-Some-Else.ensures.grew) refl refl refl refl refl
