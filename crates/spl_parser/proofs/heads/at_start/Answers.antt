-- Each arm is the machine's step.
use Rattle.std.proofs.Common.{refl, ap, ◌∙◌}
use Rattle.spl_text.specs.declared.token.TokenKind.TheVariants as kind
use Rattle.spl_parser.specs.declared.state.DeclGoal.TheVariants as decl_goal
use Rattle.spl_parser.specs.declared.state.Before.TheVariants as before
use Rattle.spl_parser.specs.declared.state.State.TheVariants as state
use Rattle.spl_parser.specs.Growth.{grown}
use Rattle.spl_parser.specs.Machine as m
use Rattle.spl_parser.specs.Trees.{trees}
use Rattle.spl_parser.specs.View.{head_of, state_of}
use Rattle.spl_parser.specs.Machine.{step, step_start, starts_proc}
use Rattle.spl_parser.proofs.HeadArms.{starts_body}
use Rattle.spl_parser.proofs.Stay.{still0}
use Rattle.spl_parser.proofs.Refusals.{refuses_start}
use Rattle.spl_parser.proofs.heads.at_start.Goals as goal

pub returns-in-Main : goal.returns-in-Main
unfolding step step_start starts_proc
returns-in-Main c = λ source t h w. still0 source t (state.Start c.args.head) state.ProcWord c.args.token kind.Proc c.in-Proc.is (ap (λ x. m.step (trees source) (m.at_start (head_of source (grown t) x)) kind.Proc (m.leaf_of c.args.token)) c.in-Main.is) refl tt h w

pub returns-in-Proc-head : goal.returns-in-Proc-head
unfolding step step_start starts_proc
returns-in-Proc-head c = λ source t h w. ap (λ k. m.step (trees source) (state_of source (grown t) (state.Start c.args.head)) k (m.leaf_of c.args.token)) c.in-Proc.is ∙ ap (λ x. m.step (trees source) (m.at_start (head_of source (grown t) x)) kind.Proc (m.leaf_of c.args.token)) c.in-Proc-head.is

pub returns-in-Var : goal.returns-in-Var
unfolding step step_start
returns-in-Var c = λ source t h w. still0 source t (state.Start c.args.head) (state.DeclNext (decl_goal.Locals c.args.head) before.First) c.args.token kind.Var c.in-Var.is refl refl ((h.there, tt)) h w

pub returns-in-Begin : goal.returns-in-Begin
returns-in-Begin c = λ source t h w. starts_body source t c.args.token c.args.head c.new_body.result c.in-Begin.is c.new_body.ensures h w

pub returns-in_default : goal.returns-in_default
returns-in_default c = λ source t h w. refuses_start (trees source) _ c.args.token.kind (m.leaf_of c.args.token) c.in_default.not-Proc c.in_default.not-Var c.in_default.not-Begin
