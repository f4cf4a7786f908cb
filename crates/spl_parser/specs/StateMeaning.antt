-- What the parser's states stand for: a state of the machine over trees, through the meaning of the lists so far.
use Rattle.std.specs.Prelude.{ℕ, List, [], ◌∷◌, ◌++◌, drop, Option, Some, None}
use Rattle.spl_tree.specs.declared.parts.StmtId.{StmtId}
use Rattle.spl_tree.specs.declared.parts.BinOp.{BinOp}
use Rattle.spl_tree.specs.Program.{Named, ExprTree, BlockTree, empty}
use Rattle.spl_tree.specs.Meaning.{name_of, expr_at, block_after, block_over, names_over, decls_over}
use Rattle.spl_parser.specs.declared.state.Word.{Word}
use Rattle.spl_parser.specs.declared.state.Head.{Head}
use Rattle.spl_parser.specs.declared.state.Head.TheVariants as head
use Rattle.spl_parser.specs.declared.state.DeclGoal.{DeclGoal}
use Rattle.spl_parser.specs.declared.state.DeclGoal.TheVariants as decl_goal
use Rattle.spl_parser.specs.declared.state.Before.{Before}
use Rattle.spl_parser.specs.declared.state.Before.TheVariants as before
use Rattle.spl_parser.specs.declared.state.Frame.{Frame}
use Rattle.spl_parser.specs.declared.state.Frame.TheVariants as frame
use Rattle.spl_parser.specs.declared.state.Body.{Body}
use Rattle.spl_parser.specs.declared.state.Goal.{Goal}
use Rattle.spl_parser.specs.declared.state.Goal.TheVariants as goal
use Rattle.spl_parser.specs.declared.state.Side.{Side}
use Rattle.spl_parser.specs.declared.state.Left.{Left}
use Rattle.spl_parser.specs.declared.state.Pending.{Pending}
use Rattle.spl_parser.specs.declared.state.Simple.{Simple}
use Rattle.spl_parser.specs.declared.state.Simple.TheVariants as simple
use Rattle.spl_parser.specs.declared.state.Targets.{Targets}
use Rattle.spl_parser.specs.declared.state.Targets.TheVariants as targets
use Rattle.spl_parser.specs.declared.state.NameGoal.{NameGoal}
use Rattle.spl_parser.specs.declared.state.NameGoal.TheVariants as name_goal
use Rattle.spl_parser.specs.declared.state.Closed.{Closed}
use Rattle.spl_parser.specs.declared.state.Closed.TheVariants as closed
use Rattle.spl_parser.specs.declared.state.State.{State}
use Rattle.spl_parser.specs.declared.state.State.TheVariants as state
use Rattle.spl_parser.specs.Growth.{Grown}
use Rattle.spl_parser.specs.Machine as m
use Rattle.spl_parser.specs.Trees.{trees}

-- items seen the last one first
abbrev pub stacked : {X Y : Type 0} → (X → Y) → List X → List Y
stacked f [] = []
stacked f (x ∷ xs) = stacked f xs ++ f x ∷ []

-- a name in its place
abbrev pub word_of : Grown → Word → Named
word_of r w = record { name = name_of r.names w.name; at = w.at }

abbrev pub head_of : (source : List ℕ) → Grown → Head → m.Head (trees source)
head_of source r head.Main = m.main_head r.procs
head_of source r (head.Proc h) = m.proc_head r.procs tt (word_of r h.name) tt (decls_over r.decls h.inputs) tt tt tt (decls_over r.decls h.outputs) tt

abbrev pub decl_goal_of : (source : List ℕ) → Grown → DeclGoal → m.DeclGoal (trees source)
decl_goal_of source r (decl_goal.Inputs n) = m.inputs_of r.procs tt (word_of r n) tt
decl_goal_of source r (decl_goal.Outputs n ins) = m.outputs_of r.procs tt (word_of r n) tt (decls_over r.decls ins) tt tt tt
decl_goal_of source r (decl_goal.Locals h) = m.vars_of (head_of source r h) tt

-- the declarations from this one on
abbrev pub before_of : (source : List ℕ) → Grown → Before → m.Before (trees source)
before_of source r before.First = m.at_first
before_of source r (before.After first) = m.after (drop first r.decls) tt

-- statements of a block that is open
abbrev pub ids_over : Grown → List StmtId → BlockTree
ids_over r ids = block_after r.stmts empty ids

abbrev pub frame_of : (source : List ℕ) → Grown → Frame → m.Frame (trees source)
frame_of source r (frame.Then ids f) = m.in_then (ids_over r ids.items) f.start (expr_at r.exprs f.condition) f.first
frame_of source r (frame.Else ids f b els) = m.in_else (ids_over r ids.items) f.start (expr_at r.exprs f.condition) f.first (block_over r.blocks r.stmts b) els
frame_of source r (frame.While ids f) = m.in_while (ids_over r ids.items) f.start (expr_at r.exprs f.condition) f.first

abbrev pub body_of : (source : List ℕ) → Grown → Body → m.Body (trees source)
body_of source r b = record {
  head = head_of source r b.head;
  vars = decls_over r.decls b.locals;
  begin = b.begin;
  frames = stacked (frame_of source r) b.frames.items;
  stmts = ids_over r b.stmts.items;
}

abbrev pub goal_of : (source : List ℕ) → Grown → Goal → m.Goal (trees source)
goal_of source r (goal.Assume w) = m.assume_goal w
goal_of source r (goal.Assign x) = m.assign_goal (word_of r x) tt
goal_of source r (goal.If w) = m.if_goal w
goal_of source r (goal.While w) = m.while_goal w

abbrev pub side_of : Grown → Option Side → Option (ExprTree × ℕ)
side_of r None = None
side_of r (Some s) = Some (expr_at r.exprs s.operand, s.place)

abbrev pub left_of : Grown → Option Left → Option (ExprTree × (BinOp × ℕ))
left_of r None = None
left_of r (Some s) = Some (expr_at r.exprs s.operand, (s.operator, s.place))

abbrev pub pending_of : (source : List ℕ) → Grown → Pending → m.Pending (trees source)
pending_of source r p = record {
  either_left = side_of r p.either;
  both_left = side_of r p.both;
  nots = p.nots.items;
  cmp_left = left_of r p.comparison;
  sum_left = left_of r p.sum;
  product_left = left_of r p.product;
  minuses = p.minuses.items;
}

abbrev pub paren_of : (source : List ℕ) → Grown → Pending → m.Paren (trees source)
paren_of source r p = record { pending = pending_of source r p; left = tt }

abbrev pub simple_of : (source : List ℕ) → Simple → m.Simple (trees source)
simple_of source (simple.Skip w) = m.skip_word w
simple_of source (simple.Halt w) = m.halt_word w
simple_of source (simple.Fail w) = m.fail_word w

abbrev pub targets_of : (source : List ℕ) → Grown → Targets → m.Targets (trees source)
targets_of source r (targets.One x) = m.one_target (word_of r x) tt
targets_of source r (targets.List o ns) = m.target_list o (names_over r.named ns) tt tt

abbrev pub name_goal_of : (source : List ℕ) → Grown → NameGoal → m.NameGoal (trees source)
name_goal_of source r (name_goal.Targets o) = m.target_names o
name_goal_of source r (name_goal.Arguments h) = m.argument_names (targets_of source r h.targets) (word_of r h.called) tt

abbrev pub closed_of : (source : List ℕ) → Grown → Closed → m.Closed (trees source)
closed_of source r (closed.If f b end) = m.closed_if f.start (expr_at r.exprs f.condition) f.first (block_over r.blocks r.stmts b) None end
closed_of source r (closed.IfElse f b els c end) = m.closed_if f.start (expr_at r.exprs f.condition) f.first (block_over r.blocks r.stmts b) (Some (els, block_over r.blocks r.stmts c)) end
closed_of source r (closed.While f b end) = m.closed_while f.start (expr_at r.exprs f.condition) f.first (block_over r.blocks r.stmts b) end

-- a state
abbrev pub state_of : (source : List ℕ) → Grown → State → m.State (trees source)
state_of source r (state.Start h) = m.at_start (head_of source r h)
state_of source r (state.Begin h vs) = m.at_begin (head_of source r h) (decls_over r.decls vs)
state_of source r state.ProcWord = m.proc_word r.procs tt
state_of source r (state.ProcName n) = m.proc_name r.procs tt (word_of r n)
state_of source r (state.DeclOpen g) = m.decl_open (decl_goal_of source r g)
state_of source r (state.DeclNext g b) = m.decl_next (decl_goal_of source r g) (before_of source r b)
state_of source r (state.DeclName g b n) = m.decl_name (decl_goal_of source r g) (before_of source r b) (word_of r n)
state_of source r (state.DeclColon g b n) = m.decl_colon (decl_goal_of source r g) (before_of source r b) (word_of r n) tt
state_of source r (state.DeclAfter g first) = m.decl_after (decl_goal_of source r g) (drop first r.decls)
state_of source r (state.InputsAfter n ins) = m.inputs_after r.procs tt (word_of r n) tt (decls_over r.decls ins) tt
state_of source r (state.ReturnsWord n ins) = m.returns_word r.procs tt (word_of r n) tt (decls_over r.decls ins) tt tt
state_of source r (state.InBlock b) = m.in_block (body_of source r b)
state_of source r (state.Single b w) = m.simple (body_of source r b) (simple_of source w)
state_of source r (state.Target b x) = m.target (body_of source r b) (word_of r x)
state_of source r (state.AssignStart b x) = m.assign_start (body_of source r b) (word_of r x) tt
state_of source r (state.AssignName b x n) = m.assign_name (body_of source r b) (word_of r x) tt (word_of r n)
state_of source r (state.Want x) = m.want (body_of source r x.body) (goal_of source r x.goal) (stacked (paren_of source r) x.parens.items) (pending_of source r x.pending)
state_of source r (state.Have x a) = m.have (body_of source r x.body) (goal_of source r x.goal) (stacked (paren_of source r) x.parens.items) (pending_of source r x.pending) (expr_at r.exprs a)
state_of source r (state.NamesOpen b g) = m.names_open (body_of source r b) (name_goal_of source r g)
state_of source r (state.NamesNext b g first) = m.names_next (body_of source r b) (name_goal_of source r g) (drop first r.named) tt
state_of source r (state.NamesAfter b g first) = m.names_after (body_of source r b) (name_goal_of source r g) (drop first r.named)
state_of source r (state.TargetsAfter b o ns) = m.targets_after (body_of source r b) o (names_over r.named ns) tt
state_of source r (state.Called b ts) = m.called (body_of source r b) (targets_of source r ts)
state_of source r (state.CalledName b h) = m.called_name (body_of source r b) (targets_of source r h.targets) (word_of r h.called)
state_of source r (state.CallAfter b h ns) = m.call_after (body_of source r b) (targets_of source r h.targets) (word_of r h.called) tt (names_over r.named ns) tt
state_of source r (state.AfterEnd b c) = m.after_end (body_of source r b) (closed_of source r c)
state_of source r (state.Finished t b) = m.done (record { procs = r.procs; locals = decls_over r.decls t.locals; begin = b; body = block_over r.blocks r.stmts t.body })
