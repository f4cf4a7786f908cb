-- A program as it nests: names as their bytes, and each offset at its node.
use Rattle.std.specs.Prelude.{◌≡◌, ℕ, List, map}
use Rattle.spl_tree.specs.declared.parts.BinOp.{BinOp}
use Rattle.spl_tree.specs.declared.parts.StmtAt.{StmtAt}

-- a name in its place
pub record Named : Type 0 where
  pub name : List ℕ
  pub at : ℕ

-- the type in a declaration
pub data Kind : Type 0 where
  int_kind : Kind
  real_kind : Kind
  other_kind : List ℕ → Kind

-- a declaration, with where its type starts
pub record Declared : Type 0 where
  pub name : Named
  pub kind : Kind
  pub kind_at : ℕ

-- an expression; the number at the end of each case is its place
pub data ExprTree : Type 0 where
  number : ℕ → ℕ → ExprTree
  variable : List ℕ → ℕ → ExprTree
  true_value : ℕ → ExprTree
  false_value : ℕ → ExprTree
  random_value : ℕ → ExprTree
  negative : ExprTree → ℕ → ExprTree
  opposite : ExprTree → ℕ → ExprTree
  binary : BinOp → ExprTree → ExprTree → ℕ → ExprTree

-- a statement with its places, and the statements of a block, the last one outermost
mutual
  pub data StmtTree : Type 0 where
    skip : StmtAt → StmtTree
    halt : StmtAt → StmtTree
    fail : StmtAt → StmtTree
    assume : ExprTree → StmtAt → StmtTree
    assign : List ℕ → ExprTree → StmtAt → StmtTree
    call : List Named → List ℕ → List Named → StmtAt → StmtTree
    if_then : ExprTree → BlockTree → StmtAt → StmtTree
    if_else : ExprTree → BlockTree → BlockTree → StmtAt → StmtTree
    while_do : ExprTree → BlockTree → StmtAt → StmtTree

  pub data BlockTree : Type 0 where
    empty : BlockTree
    more : BlockTree → StmtTree → BlockTree

-- a procedure, with where its `begin` starts
pub record ProcMeaning : Type 0 where
  pub name : Named
  pub inputs : List Declared
  pub outputs : List Declared
  pub locals : List Declared
  pub begin : ℕ
  pub body : BlockTree

-- a program: its procedures in the order of the text, and main
pub record Program : Type 0 where
  pub procs : List ProcMeaning
  pub locals : List Declared
  pub begin : ℕ
  pub body : BlockTree

-- the same with every offset 0
abbrev pub nowhere : StmtAt
nowhere = record { start = 0; called = 0; first_block = 0; second_block = 0; end = 0 }

abbrev pub placeless_name : Named → Named
placeless_name n = record { name = n.name; at = 0 }

abbrev pub placeless_decl : Declared → Declared
placeless_decl d = record { name = placeless_name d.name; kind = d.kind; kind_at = 0 }

abbrev pub placeless_expr : ExprTree → ExprTree
placeless_expr (number n at) = number n 0
placeless_expr (variable n at) = variable n 0
placeless_expr (true_value at) = true_value 0
placeless_expr (false_value at) = false_value 0
placeless_expr (random_value at) = random_value 0
placeless_expr (negative a at) = negative (placeless_expr a) 0
placeless_expr (opposite a at) = opposite (placeless_expr a) 0
placeless_expr (binary op a b at) = binary op (placeless_expr a) (placeless_expr b) 0

abbrev mutual
  pub placeless_stmt : StmtTree → StmtTree
  placeless_stmt (skip at) = skip nowhere
  placeless_stmt (halt at) = halt nowhere
  placeless_stmt (fail at) = fail nowhere
  placeless_stmt (assume e at) = assume (placeless_expr e) nowhere
  placeless_stmt (assign x e at) = assign x (placeless_expr e) nowhere
  placeless_stmt (call targets called args at) = call (map placeless_name targets) called (map placeless_name args) nowhere
  placeless_stmt (if_then e a at) = if_then (placeless_expr e) (placeless_block a) nowhere
  placeless_stmt (if_else e a b at) = if_else (placeless_expr e) (placeless_block a) (placeless_block b) nowhere
  placeless_stmt (while_do e a at) = while_do (placeless_expr e) (placeless_block a) nowhere

  pub placeless_block : BlockTree → BlockTree
  placeless_block empty = empty
  placeless_block (more a s) = more (placeless_block a) (placeless_stmt s)

abbrev pub placeless_proc : ProcMeaning → ProcMeaning
placeless_proc p = record {
  name = placeless_name p.name;
  inputs = map placeless_decl p.inputs;
  outputs = map placeless_decl p.outputs;
  locals = map placeless_decl p.locals;
  begin = 0;
  body = placeless_block p.body;
}

abbrev pub placeless : Program → Program
placeless p = record {
  procs = map placeless_proc p.procs;
  locals = map placeless_decl p.locals;
  begin = 0;
  body = placeless_block p.body;
}

-- two programs that agree in everything but offsets
abbrev pub SamePlacesAside : Program → Program → Type 0
SamePlacesAside p q = placeless p ≡ placeless q

-- the place of an expression
abbrev pub place_of : ExprTree → ℕ
place_of (number n at) = at
place_of (variable n at) = at
place_of (true_value at) = at
place_of (false_value at) = at
place_of (random_value at) = at
place_of (negative a at) = at
place_of (opposite a at) = at
place_of (binary op a b at) = at

-- the places of a statement
abbrev pub places_of : StmtTree → StmtAt
places_of (skip at) = at
places_of (halt at) = at
places_of (fail at) = at
places_of (assume e at) = at
places_of (assign x e at) = at
places_of (call targets called args at) = at
places_of (if_then e a at) = at
places_of (if_else e a b at) = at
places_of (while_do e a at) = at
