-- The canonical text of a program: its lines in order, and the report that they make with what is noted of each point.
use Rattle.std.specs.Prelude.{ℕ, ◌+◌, nat_lt, if◌then◌else◌, List, [], ◌∷◌, ◌++◌, map, codes, decimal, replicate}
use Rattle.std.specs.List.{flat_map}
use Rattle.spl_text.specs.Place.{line_of, column_of}
use Rattle.spl_tree.specs.declared.parts.BinOp.{BinOp}
use Rattle.spl_tree.specs.declared.parts.BinOp.TheVariants.{Or, And, Eq, Ne, Lt, Le, Gt, Ge, Add, Sub, Mul, Div, Rem}
use Rattle.spl_tree.specs.Program.{Named, Kind, int_kind, real_kind, other_kind, Declared, ExprTree, number, variable, true_value, false_value, random_value, negative, opposite, binary, StmtTree, skip, halt, fail, assume, assign, call, if_then, if_else, while_do, BlockTree, empty, more, ProcMeaning, Program, places_of}

-- texts one after the other, with `, ` between two
abbrev pub listed : List (List ℕ) → List ℕ
listed [] = []
listed (t ∷ ts) = t ++ flat_map (λ u. codes ", " ++ u) ts

-- ---- expressions

-- the level of an operator, and those that it wants of its operands
abbrev pub op_level : BinOp → ℕ
op_level Or = 0
op_level And = 1
op_level Eq = 3
op_level Ne = 3
op_level Lt = 3
op_level Le = 3
op_level Gt = 3
op_level Ge = 3
op_level Add = 4
op_level Sub = 4
op_level Mul = 5
op_level Div = 5
op_level Rem = 5

abbrev pub left_level : BinOp → ℕ
left_level Or = 0
left_level And = 1
left_level Eq = 4
left_level Ne = 4
left_level Lt = 4
left_level Le = 4
left_level Gt = 4
left_level Ge = 4
left_level Add = 4
left_level Sub = 4
left_level Mul = 5
left_level Div = 5
left_level Rem = 5

abbrev pub right_level : BinOp → ℕ
right_level Or = 1
right_level And = 2
right_level Eq = 4
right_level Ne = 4
right_level Lt = 4
right_level Le = 4
right_level Gt = 4
right_level Ge = 4
right_level Add = 5
right_level Sub = 5
right_level Mul = 6
right_level Div = 6
right_level Rem = 6

-- the level of an expression
abbrev pub level_of : ExprTree → ℕ
level_of (binary op a b at) = op_level op
level_of (opposite a at) = 2
level_of (negative a at) = 6
level_of _ = 7

-- an operator with its blanks
abbrev pub op_text : BinOp → List ℕ
op_text Or = codes " or "
op_text And = codes " and "
op_text Eq = codes " == "
op_text Ne = codes " != "
op_text Lt = codes " < "
op_text Le = codes " <= "
op_text Gt = codes " > "
op_text Ge = codes " >= "
op_text Add = codes " + "
op_text Sub = codes " - "
op_text Mul = codes " * "
op_text Div = codes " / "
op_text Rem = codes " % "

-- an operand of this level, in parentheses exactly where a higher one is wanted
abbrev pub operand_text : ℕ → ℕ → List ℕ → List ℕ
operand_text wanted level text = if nat_lt level wanted then codes "(" ++ (text ++ codes ")") else text

abbrev pub expr_text : ExprTree → List ℕ
expr_text (number n at) = decimal n
expr_text (variable x at) = x
expr_text (true_value at) = codes "true"
expr_text (false_value at) = codes "false"
expr_text (random_value at) = codes "random"
expr_text (negative a at) = codes "-" ++ operand_text 6 (level_of a) (expr_text a)
expr_text (opposite a at) = codes "not " ++ operand_text 2 (level_of a) (expr_text a)
expr_text (binary op a b at) =
    operand_text (left_level op) (level_of a) (expr_text a)
    ++ (op_text op ++ operand_text (right_level op) (level_of b) (expr_text b))

-- ---- lines

-- a line of the program, or the line of a printed point; the first number is the indent, in blanks
pub data Line : Type 0 where
  words : ℕ → List ℕ → Line
  point : ℕ → (offset : ℕ) → Line

-- the targets of a call: one alone, or a list
abbrev pub targets_text : List (List ℕ) → List ℕ
targets_text [] = codes "()"
targets_text (x ∷ []) = x
targets_text (x ∷ y ∷ ys) = codes "(" ++ (listed (x ∷ y ∷ ys) ++ codes ")")

abbrev pub names_text : List Named → List (List ℕ)
names_text xs = map (λ (x : Named). x.name) xs

abbrev mutual
  pub stmt_lines : ℕ → StmtTree → List Line
  stmt_lines n (skip at) = words n (codes "skip;") ∷ []
  stmt_lines n (halt at) = words n (codes "halt;") ∷ []
  stmt_lines n (fail at) = words n (codes "fail;") ∷ []
  stmt_lines n (assume e at) = words n (codes "assume " ++ (expr_text e ++ codes ";")) ∷ []
  stmt_lines n (assign x e at) = words n (x ++ (codes " = " ++ (expr_text e ++ codes ";"))) ∷ []
  stmt_lines n (call targets called args at) =
      words n (targets_text (names_text targets) ++ (codes " = " ++ (called ++ (codes "(" ++ (listed (names_text args) ++ codes ");"))))) ∷ []
  stmt_lines n (if_then e a at) =
      words n (codes "if " ++ (expr_text e ++ codes " then"))
      ∷ (block_lines (n + 2) at.first_block a ++ words n (codes "endif;") ∷ [])
  stmt_lines n (if_else e a b at) =
      words n (codes "if " ++ (expr_text e ++ codes " then"))
      ∷ (block_lines (n + 2) at.first_block a
      ++ words n (codes "else") ∷ (block_lines (n + 2) at.second_block b ++ words n (codes "endif;") ∷ []))
  stmt_lines n (while_do e a at) =
      words n (codes "while " ++ (expr_text e ++ codes " do"))
      ∷ (block_lines (n + 2) at.first_block a ++ words n (codes "done;") ∷ [])

  -- the first point, whose place is given, then each statement and the point after it
  pub block_lines : ℕ → ℕ → BlockTree → List Line
  block_lines n start empty = point n start ∷ []
  block_lines n start (more b s) = block_lines n start b ++ (stmt_lines n s ++ point n (places_of s).end ∷ [])

-- a declaration
abbrev pub kind_text : Kind → List ℕ
kind_text int_kind = codes "int"
kind_text real_kind = codes "real"
kind_text (other_kind name) = name

abbrev pub decl_text : Declared → List ℕ
decl_text d = d.name.name ++ (codes ":" ++ kind_text d.kind)

abbrev pub decls_text : List Declared → List ℕ
decls_text ds = listed (map decl_text ds)

-- the line of the locals, where there are any
abbrev pub locals_lines : List Declared → List Line
locals_lines [] = []
locals_lines (d ∷ ds) = words 0 (codes "var " ++ (decls_text (d ∷ ds) ++ codes ";")) ∷ []

-- locals and body; the first point of the body is just past `begin`
abbrev pub body_lines : List Declared → ℕ → BlockTree → List Line
body_lines locals begin body =
    locals_lines locals ++ words 0 (codes "begin") ∷ (block_lines 2 (begin + 5) body ++ words 0 (codes "end") ∷ [])

abbrev pub proc_lines : ProcMeaning → List Line
proc_lines p =
    words 0 (codes "proc " ++ (p.name.name ++ (codes "(" ++ (decls_text p.inputs ++ (codes ") returns (" ++ (decls_text p.outputs ++ codes ")"))))))
    ∷ body_lines p.locals p.begin p.body

unfoldable pub program_lines : Program → List Line
program_lines p = flat_map proc_lines p.procs ++ body_lines p.locals p.begin p.body

-- ---- the report

-- what is noted: a text for each printed point, and the texts of the lines after the program
pub record Noted : Type 0 where
  pub points : List (List ℕ)
  pub closing : List (List ℕ)

-- `(L3 C7)`, the place of an offset in the bytes that were read
abbrev pub place_text : List ℕ → ℕ → List ℕ
place_text bytes offset =
    codes "(L" ++ (decimal (line_of bytes offset) ++ (codes " C" ++ (decimal (column_of bytes offset) ++ codes ")")))

abbrev pub indented : ℕ → List ℕ → List ℕ
indented n text = replicate n 32 ++ (text ++ codes "\n")

-- the lines, with the next note at each point
abbrev pub written : List ℕ → List (List ℕ) → List Line → List ℕ
written bytes notes [] = []
written bytes notes (words n text ∷ lines) = indented n text ++ written bytes notes lines
written bytes [] (point n offset ∷ lines) = written bytes [] lines
written bytes (note ∷ notes) (point n offset ∷ lines) =
    indented n (codes "/* " ++ (place_text bytes offset ++ (codes " " ++ (note ++ codes " */")))) ++ written bytes notes lines

abbrev pub closing_line : List ℕ → List ℕ
closing_line text = codes "/* " ++ (text ++ codes " */\n")

-- the number of printed points
abbrev pub point_lines : List Line → ℕ
point_lines [] = 0
point_lines (words n text ∷ lines) = point_lines lines
point_lines (point n offset ∷ lines) = point_lines lines + 1

-- the report on a program that was read from these bytes
unfoldable pub canonical : List ℕ → Program → Noted → List ℕ
canonical bytes p noted = written bytes noted.points (program_lines p) ++ flat_map closing_line noted.closing
