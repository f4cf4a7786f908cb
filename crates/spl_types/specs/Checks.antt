-- All checks of a program in the order of the walk, each with its rule, its place and whether it's kept. Each is read off
-- the whole program: no table of names grows.
use Rattle.std.specs.Prelude.{ℕ, ◌+◌, Bool, true, false, not, ◌&&◌, ◌||◌, ◌==◌, nat_lt, if◌then◌else◌, List, [], ◌∷◌, ◌++◌, length, map, find, count_by, Option, Some, None, is_some}
use Rattle.std.specs.List.{list_any}
use Rattle.std.specs.Str.{bytes_eq}
use Rattle.spl_tree.specs.declared.parts.BinOp.{BinOp}
use Rattle.spl_tree.specs.declared.parts.BinOp.TheVariants.{Or, And, Eq, Ne, Lt, Le, Gt, Ge, Add, Sub, Mul, Div, Rem}
use Rattle.spl_tree.specs.Program.{Named, Kind, int_kind, real_kind, other_kind, Declared, ExprTree, number, variable, true_value, false_value, random_value, negative, opposite, binary, StmtTree, skip, halt, fail, assume, assign, call, if_then, if_else, while_do, BlockTree, empty, more, ProcMeaning, Program, places_of}
use Rattle.spl_types.specs.declared.fault.CheckRule.{CheckRule}
use Rattle.spl_types.specs.declared.fault.CheckRule.TheVariants.{UnsupportedType, DuplicateName, UnknownVariable, UnknownProcedure, WrongCount, RepeatedTarget, WrongKind, TooManyVariables, TooManyProcedures, TooManyPoints}

-- a check: its rule, the offset at which it's made, and whether the program keeps it
pub record Check : Type 0 where
  pub rule : CheckRule
  pub at : ℕ
  pub kept : Bool

abbrev pub check : CheckRule → ℕ → Bool → Check
check rule at kept = record { rule = rule; at = at; kept = kept }

-- the first rule that is broken, with its place
abbrev pub first_broken : List Check → Option (CheckRule × ℕ)
first_broken [] = None
first_broken (c ∷ cs) = if c.kept then first_broken cs else Some (c.rule, c.at)

-- the limits: procedures besides main, dimensions of a procedure, points of the program
abbrev pub most_procedures : ℕ
most_procedures = 256

abbrev pub most_dimensions : ℕ
most_dimensions = 128

abbrev pub most_points : ℕ
most_points = 4096

-- ---- names

abbrev pub is_among : List ℕ → List (List ℕ) → Bool
is_among name names = list_any (bytes_eq name) names

-- the names of declarations, and of names in their places
abbrev pub declared_names : List Declared → List (List ℕ)
declared_names ds = map (λ (d : Declared). d.name.name) ds

abbrev pub plain_names : List Named → List (List ℕ)
plain_names ns = map (λ (n : Named). n.name) ns

-- ---- declarations, after those with these names

abbrev pub is_int : Kind → Bool
is_int int_kind = true
is_int real_kind = false
is_int (other_kind name) = false

abbrev pub decl_checks : List (List ℕ) → List Declared → List Check
decl_checks earlier [] = []
decl_checks earlier (d ∷ ds) =
    check TooManyVariables d.name.at (nat_lt (length earlier) most_dimensions)
    ∷ check DuplicateName d.name.at (not (is_among d.name.name earlier))
    ∷ check UnsupportedType d.kind_at (is_int d.kind)
    ∷ decl_checks (earlier ++ d.name.name ∷ []) ds

-- ---- expressions

-- an expression is a number or a condition
pub data Sort : Type 0 where
  a_number : Sort
  a_condition : Sort

abbrev pub is_sort : Sort → Sort → Bool
is_sort a_number a_number = true
is_sort a_number a_condition = false
is_sort a_condition a_number = false
is_sort a_condition a_condition = true

-- what the operands of an operator are, and what it makes of them
abbrev pub operand_sort : BinOp → Sort
operand_sort Or = a_condition
operand_sort And = a_condition
operand_sort Eq = a_number
operand_sort Ne = a_number
operand_sort Lt = a_number
operand_sort Le = a_number
operand_sort Gt = a_number
operand_sort Ge = a_number
operand_sort Add = a_number
operand_sort Sub = a_number
operand_sort Mul = a_number
operand_sort Div = a_number
operand_sort Rem = a_number

abbrev pub result_sort : BinOp → Sort
result_sort Or = a_condition
result_sort And = a_condition
result_sort Eq = a_condition
result_sort Ne = a_condition
result_sort Lt = a_condition
result_sort Le = a_condition
result_sort Gt = a_condition
result_sort Ge = a_condition
result_sort Add = a_number
result_sort Sub = a_number
result_sort Mul = a_number
result_sort Div = a_number
result_sort Rem = a_number

abbrev pub sort_check : Sort → Sort → ℕ → Check
sort_check wanted own at = check WrongKind at (is_sort wanted own)

-- an expression of a wanted sort over variables with these names: its own sort, then what it names, then its children
abbrev pub expr_checks : List (List ℕ) → Sort → ExprTree → List Check
expr_checks names wanted (number n at) = sort_check wanted a_number at ∷ []
expr_checks names wanted (variable x at) = sort_check wanted a_number at ∷ check UnknownVariable at (is_among x names) ∷ []
expr_checks names wanted (true_value at) = sort_check wanted a_condition at ∷ []
expr_checks names wanted (false_value at) = sort_check wanted a_condition at ∷ []
expr_checks names wanted (random_value at) = sort_check wanted a_condition at ∷ []
expr_checks names wanted (negative a at) = sort_check wanted a_number at ∷ expr_checks names a_number a
expr_checks names wanted (opposite a at) = sort_check wanted a_condition at ∷ expr_checks names a_condition a
expr_checks names wanted (binary op a b at) =
    sort_check wanted (result_sort op) at
    ∷ (expr_checks names (operand_sort op) a ++ expr_checks names (operand_sort op) b)

-- the right side of an assignment: `random` alone is any integer
abbrev pub assigned_checks : List (List ℕ) → ExprTree → List Check
assigned_checks names (random_value at) = []
assigned_checks names e = expr_checks names a_number e

-- ---- what the walk has met before: points of the program, and targets of the procedure, in the order of the text

pub record Met : Type 0 where
  pub points : ℕ
  pub targets : List (List ℕ)

abbrev pub with_point : Met → Met
with_point m = record m { points = m.points + 1 }

abbrev pub with_targets : Met → List (List ℕ) → Met
with_targets m names = record m { targets = m.targets ++ names }

abbrev mutual
  -- within a statement, without the point after it
  pub met_in : Met → StmtTree → Met
  met_in m (skip at) = m
  met_in m (halt at) = m
  met_in m (fail at) = m
  met_in m (assume e at) = m
  met_in m (assign x e at) = with_targets m (x ∷ [])
  met_in m (call targets called args at) = with_targets m (plain_names targets)
  met_in m (if_then e a at) = met_by m a
  met_in m (if_else e a b at) = met_by (met_by m a) b
  met_in m (while_do e a at) = met_by m a

  -- by the end of a block: its first point, and each statement with the point after it
  pub met_by : Met → BlockTree → Met
  met_by m empty = with_point m
  met_by m (more b s) = with_point (met_in (met_by m b) s)

-- ---- statements

-- what names stand for within a procedure: the procedures of the program, its inputs, and all its declarations
pub record Scope : Type 0 where
  pub procs : List ProcMeaning
  pub inputs : List (List ℕ)
  pub declared : List (List ℕ)

abbrev pub point_check : Met → ℕ → Check
point_check m at = check TooManyPoints at (nat_lt m.points most_points)

-- the dimensions of a procedure in which these are targets: an input that is a target counts twice
abbrev pub dimension_count : Scope → List (List ℕ) → ℕ
dimension_count c targets = length c.declared + count_by (λ input. is_among input targets) c.inputs

-- after these targets there is room for this one, if it's an input that isn't among them
abbrev pub has_room : Scope → List (List ℕ) → List ℕ → Bool
has_room c targets x = not (is_among x c.inputs) || is_among x targets || nat_lt (dimension_count c targets) most_dimensions

-- a target, after the targets of earlier statements and the earlier ones of its own list
abbrev pub target_checks : Scope → List (List ℕ) → List (List ℕ) → Named → List Check
target_checks c targets listed x =
    check UnknownVariable x.at (is_among x.name c.declared)
    ∷ check RepeatedTarget x.at (not (is_among x.name listed))
    ∷ check TooManyVariables x.at (has_room c (targets ++ listed) x.name) ∷ []

abbrev pub targets_checks : Scope → List (List ℕ) → List (List ℕ) → List Named → List Check
targets_checks c targets listed [] = []
targets_checks c targets listed (x ∷ xs) = target_checks c targets listed x ++ targets_checks c targets (listed ++ x.name ∷ []) xs

-- the procedure with a name, the first in the text
abbrev pub proc_named : List ProcMeaning → List ℕ → Option ProcMeaning
proc_named procs name = find (λ (p : ProcMeaning). bytes_eq name p.name.name) procs

-- as many targets as outputs, and as many arguments as inputs
abbrev pub has_counts : Option ProcMeaning → ℕ → ℕ → Bool
has_counts None targets args = true
has_counts (Some p) targets args = (length p.outputs == targets) && (length p.inputs == args)

abbrev pub argument_checks : List (List ℕ) → List Named → List Check
argument_checks names args = map (λ (x : Named). check UnknownVariable x.at (is_among x.name names)) args

abbrev pub call_checks : Scope → List Named → List ℕ → List Named → ℕ → List Check
call_checks c targets called args at =
    check UnknownProcedure at (is_some (proc_named c.procs called))
    ∷ check WrongCount at (has_counts (proc_named c.procs called) (length targets) (length args))
    ∷ argument_checks c.declared args

abbrev mutual
  pub stmt_checks : Scope → Met → StmtTree → List Check
  stmt_checks c m (skip at) = []
  stmt_checks c m (halt at) = []
  stmt_checks c m (fail at) = []
  stmt_checks c m (assume e at) = expr_checks c.declared a_condition e
  stmt_checks c m (assign x e at) = target_checks c m.targets [] (record { name = x; at = at.start }) ++ assigned_checks c.declared e
  stmt_checks c m (call targets called args at) = targets_checks c m.targets [] targets ++ call_checks c targets called args at.called
  stmt_checks c m (if_then e a at) = expr_checks c.declared a_condition e ++ block_checks c m at.first_block a
  stmt_checks c m (if_else e a b at) = expr_checks c.declared a_condition e ++ (block_checks c m at.first_block a ++ block_checks c (met_by m a) at.second_block b)
  stmt_checks c m (while_do e a at) = expr_checks c.declared a_condition e ++ block_checks c m at.first_block a

  -- the first point of a block, whose place is given, then each statement and the point after it
  pub block_checks : Scope → Met → ℕ → BlockTree → List Check
  block_checks c m start empty = point_check m start ∷ []
  block_checks c m start (more b s) = block_checks c m start b ++ (stmt_checks c (met_by m b) s ++ point_check (met_in (met_by m b) s) (places_of s).end ∷ [])

-- ---- procedures

-- a procedure without its name, main too
pub record Procedure : Type 0 where
  pub inputs : List Declared
  pub outputs : List Declared
  pub locals : List Declared
  pub begin : ℕ
  pub body : BlockTree

abbrev pub procedure_of : ProcMeaning → Procedure
procedure_of p = record { inputs = p.inputs; outputs = p.outputs; locals = p.locals; begin = p.begin; body = p.body }

abbrev pub main_procedure : Program → Procedure
main_procedure p = record { inputs = []; outputs = []; locals = p.locals; begin = p.begin; body = p.body }

-- its declarations in order
abbrev pub all_decls : Procedure → List Declared
all_decls u = u.inputs ++ (u.outputs ++ u.locals)

abbrev pub scope_of : List ProcMeaning → Procedure → Scope
scope_of procs u = record { procs = procs; inputs = declared_names u.inputs; declared = declared_names (all_decls u) }

-- before its `begin`, after so many points of the program
abbrev pub met_before : ℕ → Met
met_before points = record { points = points; targets = [] }

-- by the end of its body: the entry's point comes first
abbrev pub met_by_end : ℕ → Procedure → Met
met_by_end points u = met_by (with_point (met_before points)) u.body

-- the declarations, the entry at `begin`, and the body, whose first point is just past `begin`
abbrev pub procedure_checks : List ProcMeaning → ℕ → Procedure → List Check
procedure_checks procs points u =
    decl_checks [] (all_decls u)
    ++ (point_check (met_before points) u.begin
    ∷ block_checks (scope_of procs u) (with_point (met_before points)) (u.begin + 5) u.body)

-- procedures after those with these names, and after so many points
abbrev pub proc_checks : List ProcMeaning → List (List ℕ) → ℕ → List ProcMeaning → List Check
proc_checks procs earlier points [] = []
proc_checks procs earlier points (p ∷ ps) =
    check TooManyProcedures p.name.at (nat_lt (length earlier) most_procedures)
    ∷ check DuplicateName p.name.at (not (is_among p.name.name earlier))
    ∷ (procedure_checks procs points (procedure_of p)
    ++ proc_checks procs (earlier ++ p.name.name ∷ []) (met_by_end points (procedure_of p)).points ps)

-- the points of procedures, after so many
abbrev pub points_after : ℕ → List ProcMeaning → ℕ
points_after points [] = points
points_after points (p ∷ ps) = points_after (met_by_end points (procedure_of p)).points ps

-- all checks of a program: its procedures in the order of the text, main last
unfoldable pub checks : Program → List Check
checks p = proc_checks p.procs [] 0 p.procs ++ procedure_checks p.procs (points_after 0 p.procs) (main_procedure p)

-- the first rule that a program breaks, with its place
abbrev pub broken_rule : Program → Option (CheckRule × ℕ)
broken_rule p = first_broken (checks p)
