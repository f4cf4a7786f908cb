-- Each arm is the machine's step.
use Rattle.std.proofs.Common.{refl}
use Rattle.spl_text.specs.declared.token.TokenKind.TheVariants as kind
use Rattle.spl_tree.specs.Lists.{lists_of}
use Rattle.spl_tree.specs.Program.{variable}
use Rattle.spl_tree.specs.Meaning.{name_of}
use Rattle.spl_parser.specs.declared.state.State.TheVariants as state
use Rattle.spl_parser.specs.declared.state.Targets.TheVariants as targets
use Rattle.spl_parser.specs.declared.state.NameGoal.TheVariants as name_goal
use Rattle.spl_parser.specs.Growth.{grown}
use Rattle.spl_parser.specs.Machine.{step, step_assign_name}
use Rattle.spl_parser.proofs.Folds.{folds_one}
use Rattle.spl_parser.proofs.Stay.{still0}
use Rattle.spl_parser.proofs.FreshArms.{name_new_ready, name_new_arm}
use Rattle.spl_parser.proofs.steps.at_assign_name.Goals as goal

pub at_have-requires : goal.at_have-requires
at_have-requires c = record { ready = name_new_ready c.args.token.start (lists_of c.args.parts.now) (lists_of c.add_expr.new.parts) c.args.body c.args.target c.args.name c.new_expr-expr.result c.in_ok-atom-in_default.atom c.new_expr-expr.ensures.same c.new_expr-expr.ensures.none c.new_expr-expr.ensures.fresh (folds_one (lists_of c.args.parts.now) (lists_of c.add_expr.new.parts) c.in_ok-atom-in_default.atom (variable (name_of (grown (lists_of c.args.parts.now)).names c.args.name.name) c.args.name.at) c.in_ok-atom-in_default.ensures.number c.in_ok-atom-in_default.ensures.grew) c.requires.ready; token = c.requires.token }

pub returns-in-LeftParen : goal.returns-in-LeftParen
unfolding step step_assign_name
returns-in-LeftParen c = λ source. still0 source (lists_of c.args.parts.now) (state.AssignName c.args.body c.args.target c.args.name) (state.NamesOpen c.args.body (name_goal.Arguments (record { targets = targets.One c.args.target; called = c.args.name }))) c.args.token kind.LeftParen c.in-LeftParen.is refl refl ((c.requires.ready.there.0, ((c.requires.ready.there.1, c.requires.ready.there.2)))) c.requires.ready c.requires.token

pub returns-in_ok-atom-in_default : goal.returns-in_ok-atom-in_default
returns-in_ok-atom-in_default c = λ source. name_new_arm source (lists_of c.args.parts.now) (lists_of c.add_expr.new.parts) _ c.args.token c.args.body c.args.target c.args.name c.new_expr-expr.result c.in_ok-atom-in_default.atom _ c.in_default.not-LeftParen c.new_expr-expr.ensures.same c.new_expr-expr.ensures.none c.new_expr-expr.ensures.fresh (folds_one (lists_of c.args.parts.now) (lists_of c.add_expr.new.parts) c.in_ok-atom-in_default.atom (variable (name_of (grown (lists_of c.args.parts.now)).names c.args.name.name) c.args.name.at) c.in_ok-atom-in_default.ensures.number c.in_ok-atom-in_default.ensures.grew) c.requires.ready.there.0 c.requires.ready.there.1 (c.at_have.ensures source)
