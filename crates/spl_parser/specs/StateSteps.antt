-- What a step of the parser does: it comes to the next state of the machine, or refuses where there is none.
use Rattle.std.specs.Prelude.{ℕ, ◌+◌, ◌-◌, ◌≡◌, ◌≤◌, ◌<◌, List, [], ◌∷◌, ◌++◌, length, Option, Some, None, Result, Ok, Err}
use Rattle.spl_text.specs.declared.token.Token.{Token}
use Rattle.spl_tree.specs.declared.parts.StmtId.{StmtId}
use Rattle.spl_tree.specs.declared.parts.ExprId.{ExprId}
use Rattle.spl_tree.specs.declared.parts.NameId.{NameId}
use Rattle.spl_tree.specs.declared.parts.Stmt.{Stmt}
use Rattle.spl_tree.specs.declared.parts.Stmt.TheVariants as stmt
use Rattle.spl_tree.specs.declared.parts.StmtAt.{StmtAt}
use Rattle.spl_tree.specs.declared.parts.DeclKind.{DeclKind}
use Rattle.spl_tree.specs.declared.parts.DeclList.{DeclList}
use Rattle.spl_tree.specs.declared.parts.NameList.{NameList}
use Rattle.spl_tree.specs.Lists.{Lists}
use Rattle.spl_tree.specs.Facts.{IsTree}
use Rattle.spl_tree.specs.Program.{BlockTree}
use Rattle.spl_tree.specs.Meaning.{span_of, name_of, kind_of, expr_at, block_after, stmt_over}
use Rattle.spl_parser.specs.declared.state.Stop.{Stop}
use Rattle.spl_parser.specs.declared.state.Stop.TheVariants as stop
use Rattle.spl_parser.specs.declared.state.Word.{Word}
use Rattle.spl_parser.specs.declared.state.Head.{Head}
use Rattle.spl_parser.specs.declared.state.Head.TheVariants as head
use Rattle.spl_parser.specs.declared.state.DeclGoal.{DeclGoal}
use Rattle.spl_parser.specs.declared.state.DeclGoal.TheVariants as decl_goal
use Rattle.spl_parser.specs.declared.state.Before.{Before}
use Rattle.spl_parser.specs.declared.state.Frame.{Frame}
use Rattle.spl_parser.specs.declared.state.Body.{Body}
use Rattle.spl_parser.specs.declared.state.NameGoal.{NameGoal}
use Rattle.spl_parser.specs.declared.state.NameGoal.TheVariants as name_goal
use Rattle.spl_parser.specs.declared.state.Closed.{Closed}
use Rattle.spl_parser.specs.declared.state.Closed.TheVariants as closed
use Rattle.spl_parser.specs.declared.state.State.{State}
use Rattle.spl_parser.specs.declared.state.State.TheVariants as state
use Rattle.spl_parser.specs.Growth.{Grown, grown, ground_of, IdsIn}
use Rattle.spl_parser.specs.Machine as m
use Rattle.spl_parser.specs.TreeOf.{named, block_at}
use Rattle.spl_parser.specs.Trees.{trees}
use Rattle.spl_parser.specs.StateMeaning.{word_of, decl_goal_of, before_of, body_of, state_of}
use Rattle.spl_parser.specs.StateFacts.{WordIn, BodyIn, StateIn, state_waiting, Ready, TokenIn}

-- the next state of the machine, before a token
abbrev pub next_of : (source : List ℕ) → Grown → State → Token → Option (m.State (trees source))
next_of source r s token = m.step (trees source) (state_of source r s) token.kind (m.leaf_of token)

-- the parser comes to the machine's next state, and is ready for the next token
pub record Reaches (source : List ℕ) (n : ℕ) (t : Lists) (s : State) (next : Option (m.State (trees source))) : Type 0 where
  pub goes : next ≡ Some (state_of source (grown t) s)
  pub ready : Ready n t s

-- a step comes to the machine's next state, or refuses where the machine has none
abbrev pub Stops : {S : Type 0} → Option S → Stop → Type 0
Stops next stop.Syntax = next ≡ None
Stops next stop.NoMemory = Unit {0}

abbrev pub Steps : (source : List ℕ) → Lists → State → Token → Lists → Result State Stop → Type 0
Steps source old s token new (Ok s') = Reaches source token.end new s' (next_of source (grown old) s token)
Steps source old s token new (Err e) = Stops (next_of source (grown old) s token) e

-- the same where no part changes, whatever the parts are
abbrev pub Follows : State → Token → Result State Stop → Type 0
Follows s token result = (source : List ℕ) (t : Lists) → Ready token.start t s → TokenIn token → Steps source t s token t result

-- lists that hold all that these hold, where they grow at their ends
pub record Grows (r r' : Grown) : Type 0 where
  pub names : (n : NameId) → n.0 < length r.names → name_of r'.names n ≡ name_of r.names n
  pub exprs : (e : ExprId) → e.0 < length r.exprs → expr_at r'.exprs e ≡ expr_at r.exprs e
  pub named : (f c : ℕ) → f + c ≤ length r.named → span_of r'.named f c ≡ span_of r.named f c
  pub decls : (f c : ℕ) → f + c ≤ length r.decls → span_of r'.decls f c ≡ span_of r.decls f c
  pub blocks : (f c : ℕ) → f + c ≤ length r.blocks → span_of r'.blocks f c ≡ span_of r.blocks f c
  pub stmts : (b : BlockTree) (ids : List StmtId) → IdsIn (length r.stmts) ids → block_after r'.stmts b ids ≡ block_after r.stmts b ids
  pub procs : r'.procs ≡ r.procs
  pub names_le : length r.names ≤ length r'.names
  pub exprs_le : length r.exprs ≤ length r'.exprs
  pub named_le : length r.named ≤ length r'.named
  pub decls_le : length r.decls ≤ length r'.decls
  pub blocks_le : length r.blocks ≤ length r'.blocks
  pub stmts_le : length r.stmts ≤ length r'.stmts

-- a name was added and nothing else, and this is it
pub record NewWord (source : List ℕ) (token : Token) (t t' : Lists) (w : Word) : Type 0 where
  pub whole : IsTree t'
  pub only : grown t' ≡ record (grown t) { letters = (grown t').letters; names = (grown t').names }
  pub grows : Grows (grown t) (grown t')
  pub letters : (grown t').letters ≡ (grown t).letters + (token.end - token.start)
  pub count : length (grown t').names ≡ length (grown t).names + 1
  pub there : WordIn (grown t') w
  pub is : word_of (grown t') w ≡ named source (m.leaf_of token)

-- a body without statements and open blocks
pub record OpensBody (h : Head) (locals : DeclList) (begin : ℕ) (b : Body) : Type 0 where
  pub head : b.head ≡ h
  pub locals' : b.locals ≡ locals
  pub begin' : b.begin ≡ begin
  pub frames : b.frames.items ≡ []
  pub stmts : b.stmts.items ≡ []

-- the state after the `)` of a list of declarations
abbrev pub decls_end : DeclGoal → DeclList → Option State
decls_end (decl_goal.Inputs n) ds = Some (state.InputsAfter n ds)
decls_end (decl_goal.Outputs n ins) ds = Some (state.Start (head.Proc (record { name = n; inputs = ins; outputs = ds })))
decls_end (decl_goal.Locals h) ds = None

-- what is answered where there is such a state, and where there is none
abbrev pub Answers : Option State → Result State Stop → Type 0
Answers None r = r ≡ Err stop.Syntax
Answers (Some s) r = r ≡ Ok s

abbrev pub ClosesDecls : DeclGoal → DeclList → Result State Stop → Type 0
ClosesDecls g ds r = Answers (decls_end g ds) r

-- the state after the `)` of a list of names
abbrev pub names_end : Body → NameGoal → NameList → State
names_end b (name_goal.Targets o) ns = state.TargetsAfter b o ns
names_end b (name_goal.Arguments h) ns = state.CallAfter b h ns

-- the span from this item on, of a list of this length
abbrev pub RestOf : ℕ → ℕ → ℕ → ℕ → Type 0
RestOf from size first count = (first ≡ from) × (first + count ≡ size)

-- a declaration was added to its list and nothing else
pub record DeclDone (t t' : Lists) (g : DeclGoal) (b : Before) (name : Word) (kind : DeclKind) (place : ℕ) (s : State) : Type 0 where
  pub whole : IsTree t'
  pub only : grown t' ≡ record (grown t) { decls = (grown t').decls }
  pub count : length (grown t').decls ≡ length (grown t).decls + 1
  pub waits : state_waiting s ≡ 0
  pub there : StateIn (grown t') s
  pub goes : (source : List ℕ) → state_of source (grown t') s ≡ m.decl_after (decl_goal_of source (grown t) g) (m.with_decl (trees source) (before_of source (grown t) b) (word_of (grown t) name) tt (kind_of (grown t).names kind, place))

-- a statement was added to a body and nothing else
pub record AddsStmt (t t' : Lists) (b : Body) (s : Stmt) (at : StmtAt) (b' : Body) : Type 0 where
  pub whole : IsTree t'
  pub only : grown t' ≡ record (grown t) { stmts = (grown t').stmts }
  pub grows : Grows (grown t) (grown t')
  pub count : length (grown t').stmts ≡ length (grown t).stmts + 1
  pub there : BodyIn (grown t') b'
  pub goes : (source : List ℕ) → body_of source (grown t') b' ≡ m.with_stmt (trees source) (body_of source (grown t) b) (stmt_over (ground_of (grown t)) (grown t).stmts s at)

-- a block opens around the statements that follow
pub record OpensBlock (b : Body) (f : Frame) (b' : Body) : Type 0 where
  pub head : b'.head ≡ b.head
  pub locals : b'.locals ≡ b.locals
  pub begin : b'.begin ≡ b.begin
  pub frames : b'.frames.items ≡ b.frames.items ++ f ∷ []
  pub stmts : b'.stmts.items ≡ []

-- the statement that a conditional or a loop is, its places up to an end, and where its last word ends
abbrev pub closed_stmt : Closed → Stmt
closed_stmt (closed.If f b end) = stmt.If f.condition b None
closed_stmt (closed.IfElse f b els c end) = stmt.If f.condition b (Some c)
closed_stmt (closed.While f b end) = stmt.While f.condition b

abbrev pub closed_place : Closed → ℕ → StmtAt
closed_place (closed.If f b word) end = block_at f.start f.first f.start end
closed_place (closed.IfElse f b els c word) end = block_at f.start f.first els end
closed_place (closed.While f b word) end = block_at f.start f.first f.start end

abbrev pub closed_word : Closed → ℕ
closed_word (closed.If f b end) = end
closed_word (closed.IfElse f b els c end) = end
closed_word (closed.While f b end) = end
