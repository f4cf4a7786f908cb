-- What a state and the parts keep between two tokens: what is named is there, and nothing is larger than the text so far.
use Rattle.std.specs.Prelude.{ℕ, ◌+◌, ◌≡◌, ◌≤◌, ◌<◌, ◌^◌, length, sum_by, Option, Some, None}
use Rattle.spl_text.specs.declared.token.Token.{Token}
use Rattle.spl_text.specs.declared.token.TokenKind.TheVariants.{Number}
use Rattle.spl_tree.specs.declared.parts.ExprId.{ExprId}
use Rattle.spl_tree.specs.Lists.{Lists}
use Rattle.spl_tree.specs.Facts.{Each, IsPlace, IsTree}
use Rattle.spl_parser.specs.declared.state.Word.{Word}
use Rattle.spl_parser.specs.declared.state.Head.{Head}
use Rattle.spl_parser.specs.declared.state.Head.TheVariants as head
use Rattle.spl_parser.specs.declared.state.DeclGoal.{DeclGoal}
use Rattle.spl_parser.specs.declared.state.DeclGoal.TheVariants as decl_goal
use Rattle.spl_parser.specs.declared.state.Before.{Before}
use Rattle.spl_parser.specs.declared.state.Before.TheVariants as before
use Rattle.spl_parser.specs.declared.state.Front.{Front}
use Rattle.spl_parser.specs.declared.state.Frame.{Frame}
use Rattle.spl_parser.specs.declared.state.Frame.TheVariants as frame
use Rattle.spl_parser.specs.declared.state.Body.{Body}
use Rattle.spl_parser.specs.declared.state.Goal.{Goal}
use Rattle.spl_parser.specs.declared.state.Goal.TheVariants as goal
use Rattle.spl_parser.specs.declared.state.Side.{Side}
use Rattle.spl_parser.specs.declared.state.Left.{Left}
use Rattle.spl_parser.specs.declared.state.Pending.{Pending}
use Rattle.spl_parser.specs.declared.state.Simple.{Simple}
use Rattle.spl_parser.specs.declared.state.Simple.TheVariants as simple
use Rattle.spl_parser.specs.declared.state.Targets.{Targets}
use Rattle.spl_parser.specs.declared.state.Targets.TheVariants as targets
use Rattle.spl_parser.specs.declared.state.CallHead.{CallHead}
use Rattle.spl_parser.specs.declared.state.NameGoal.{NameGoal}
use Rattle.spl_parser.specs.declared.state.NameGoal.TheVariants as name_goal
use Rattle.spl_parser.specs.declared.state.Closed.{Closed}
use Rattle.spl_parser.specs.declared.state.Closed.TheVariants as closed
use Rattle.spl_parser.specs.declared.state.State.{State}
use Rattle.spl_parser.specs.declared.state.State.TheVariants as state
use Rattle.spl_parser.specs.Growth.{Grown, grown, IdsIn, BlockIn, NamesIn, DeclsIn, NameIn}

-- What a state names is there.
abbrev pub ExprThere : Grown → ExprId → Type 0
ExprThere r e = e.0 < length r.exprs

abbrev pub WordIn : Grown → Word → Type 0
WordIn r w = NameIn r w.name × IsPlace w.at

abbrev pub HeadIn : Grown → Head → Type 0
HeadIn r head.Main = Unit {0}
HeadIn r (head.Proc h) = WordIn r h.name × DeclsIn r h.inputs × DeclsIn r h.outputs

abbrev pub DeclGoalIn : Grown → DeclGoal → Type 0
DeclGoalIn r (decl_goal.Inputs n) = WordIn r n
DeclGoalIn r (decl_goal.Outputs n ins) = WordIn r n × DeclsIn r ins
DeclGoalIn r (decl_goal.Locals h) = HeadIn r h

abbrev pub BeforeIn : Grown → Before → Type 0
BeforeIn r before.First = Unit {0}
BeforeIn r (before.After first) = first ≤ length r.decls

abbrev pub FrontIn : Grown → Front → Type 0
FrontIn r f = IsPlace f.start × ExprThere r f.condition × IsPlace f.first

abbrev pub FrameIn : Grown → Frame → Type 0
FrameIn r (frame.Then ids f) = IdsIn (length r.stmts) ids.items × FrontIn r f
FrameIn r (frame.Else ids f b els) = IdsIn (length r.stmts) ids.items × FrontIn r f × BlockIn r b × IsPlace els
FrameIn r (frame.While ids f) = IdsIn (length r.stmts) ids.items × FrontIn r f

-- how many statements an open block, and a body, hold that stand in no block yet
abbrev pub frame_held : Frame → ℕ
frame_held (frame.Then ids f) = length ids.items
frame_held (frame.Else ids f b els) = length ids.items
frame_held (frame.While ids f) = length ids.items

abbrev pub body_held : Body → ℕ
body_held b = length b.stmts.items + sum_by frame_held b.frames.items

pub record BodyIn (r : Grown) (b : Body) : Type 0 where
  pub head : HeadIn r b.head
  pub locals : DeclsIn r b.locals
  pub begin : IsPlace b.begin
  pub frames : Each (λ k f. FrameIn r f) b.frames.items
  pub stmts : IdsIn (length r.stmts) b.stmts.items
  pub held : length r.blocks + body_held b ≤ length r.stmts

abbrev pub GoalIn : Grown → Goal → Type 0
GoalIn r (goal.Assume w) = IsPlace w
GoalIn r (goal.Assign x) = WordIn r x
GoalIn r (goal.If w) = IsPlace w
GoalIn r (goal.While w) = IsPlace w

abbrev pub SideIn : Grown → Option Side → Type 0
SideIn r None = Unit {0}
SideIn r (Some s) = ExprThere r s.operand × IsPlace s.place

abbrev pub LeftIn : Grown → Option Left → Type 0
LeftIn r None = Unit {0}
LeftIn r (Some s) = ExprThere r s.operand × IsPlace s.place

pub record PendingIn (r : Grown) (p : Pending) : Type 0 where
  pub either : SideIn r p.either
  pub both : SideIn r p.both
  pub nots : Each (λ k at. IsPlace at) p.nots.items
  pub comparison : LeftIn r p.comparison
  pub sum : LeftIn r p.sum
  pub product : LeftIn r p.product
  pub minuses : Each (λ k at. IsPlace at) p.minuses.items

-- how many operators wait
abbrev pub one_if : {X : Type 0} → Option X → ℕ
one_if None = 0
one_if (Some x) = 1

abbrev pub waiting : Pending → ℕ
waiting p = one_if p.either + (one_if p.both + (length p.nots.items + (one_if p.comparison + (one_if p.sum + one_if p.product + length p.minuses.items))))

abbrev pub SimpleIn : Simple → Type 0
SimpleIn (simple.Skip w) = IsPlace w
SimpleIn (simple.Halt w) = IsPlace w
SimpleIn (simple.Fail w) = IsPlace w

abbrev pub TargetsIn : Grown → Targets → Type 0
TargetsIn r (targets.One x) = WordIn r x
TargetsIn r (targets.List o ns) = IsPlace o × NamesIn r ns

abbrev pub CallHeadIn : Grown → CallHead → Type 0
CallHeadIn r h = TargetsIn r h.targets × WordIn r h.called

abbrev pub NameGoalIn : Grown → NameGoal → Type 0
NameGoalIn r (name_goal.Targets o) = IsPlace o
NameGoalIn r (name_goal.Arguments h) = CallHeadIn r h

abbrev pub ClosedIn : Grown → Closed → Type 0
ClosedIn r (closed.If f b end) = FrontIn r f × BlockIn r b × IsPlace end
ClosedIn r (closed.IfElse f b els c end) = FrontIn r f × BlockIn r b × IsPlace els × BlockIn r c × IsPlace end
ClosedIn r (closed.While f b end) = FrontIn r f × BlockIn r b × IsPlace end

abbrev pub StateIn : Grown → State → Type 0
StateIn r (state.Start h) = HeadIn r h
StateIn r (state.Begin h vs) = HeadIn r h × DeclsIn r vs
StateIn r state.ProcWord = Unit {0}
StateIn r (state.ProcName n) = WordIn r n
StateIn r (state.DeclOpen g) = DeclGoalIn r g
StateIn r (state.DeclNext g b) = DeclGoalIn r g × BeforeIn r b
StateIn r (state.DeclName g b n) = DeclGoalIn r g × BeforeIn r b × WordIn r n
StateIn r (state.DeclColon g b n) = DeclGoalIn r g × BeforeIn r b × WordIn r n
StateIn r (state.DeclAfter g first) = DeclGoalIn r g × (first ≤ length r.decls)
StateIn r (state.InputsAfter n ins) = WordIn r n × DeclsIn r ins
StateIn r (state.ReturnsWord n ins) = WordIn r n × DeclsIn r ins
StateIn r (state.InBlock b) = BodyIn r b
StateIn r (state.Single b w) = BodyIn r b × SimpleIn w
StateIn r (state.Target b x) = BodyIn r b × WordIn r x
StateIn r (state.AssignStart b x) = BodyIn r b × WordIn r x
StateIn r (state.AssignName b x n) = BodyIn r b × WordIn r x × WordIn r n
StateIn r (state.Want x) = BodyIn r x.body × GoalIn r x.goal × Each (λ k q. PendingIn r q) x.parens.items × PendingIn r x.pending
StateIn r (state.Have x a) = BodyIn r x.body × GoalIn r x.goal × Each (λ k q. PendingIn r q) x.parens.items × PendingIn r x.pending × ExprThere r a
StateIn r (state.NamesOpen b g) = BodyIn r b × NameGoalIn r g
StateIn r (state.NamesNext b g first) = BodyIn r b × NameGoalIn r g × (first ≤ length r.named)
StateIn r (state.NamesAfter b g first) = BodyIn r b × NameGoalIn r g × (first ≤ length r.named)
StateIn r (state.TargetsAfter b o ns) = BodyIn r b × IsPlace o × NamesIn r ns
StateIn r (state.Called b ts) = BodyIn r b × TargetsIn r ts
StateIn r (state.CalledName b h) = BodyIn r b × CallHeadIn r h
StateIn r (state.CallAfter b h ns) = BodyIn r b × CallHeadIn r h × NamesIn r ns
StateIn r (state.AfterEnd b c) = BodyIn r b × ClosedIn r c
StateIn r (state.Finished t b) = DeclsIn r t.locals × IsPlace b × BlockIn r t.body

-- how many operators wait in a state
abbrev pub state_waiting : State → ℕ
state_waiting (state.Want x) = sum_by waiting x.parens.items + waiting x.pending
state_waiting (state.Have x a) = sum_by waiting x.parens.items + waiting x.pending
state_waiting (state.AssignName b x n) = 1
state_waiting (state.AfterEnd b c) = 1
state_waiting _ = 0

-- no list is longer than n, and no operator waits that a token before n isn't there for
pub record Small (n : ℕ) (r : Grown) (wait : ℕ) : Type 0 where
  pub letters : r.letters ≤ n
  pub names : length r.names ≤ n
  pub named : length r.named ≤ n
  pub decls : length r.decls ≤ n
  pub procs : length r.procs ≤ n
  pub stmts : length r.stmts + wait ≤ n
  pub blocks : length r.blocks ≤ length r.stmts
  pub exprs : length r.exprs + wait ≤ n

-- the parts are those of a tree, they are no larger than the text so far, and what the state names is there
pub record Ready (n : ℕ) (t : Lists) (s : State) : Type 0 where
  pub tree : IsTree t
  pub small : Small n (grown t) (state_waiting s)
  pub there : StateIn (grown t) s

-- what each token keeps
pub record TokenIn (t : Token) : Type 0 where
  pub filled : t.start < t.end
  pub within : t.end ≤ 2 ^ 20
  pub small : (n : ℕ) → t.kind ≡ Number n → n ≤ 2 ^ 61
