-- What the tokens of a text say: their kinds, and the bytes of names. And what the canonical text of a program says.
use Rattle.std.proofs.Common.{ℕ, ◌-◌, if◌then◌else◌, nat_lt, List, [], ◌∷◌, ◌++◌, map, flat_map}
use Rattle.spl_text.specs.declared.token.Token.{Token}
use Rattle.spl_text.specs.declared.token.TokenKind.{TokenKind}
use Rattle.spl_tree.specs.declared.parts.BinOp.{BinOp}
use Rattle.spl_tree.specs.Meaning.{span_of}
use Rattle.spl_tree.specs.Program.{Named, Kind, int_kind, real_kind, other_kind, Declared, ExprTree, number, variable, true_value, false_value, random_value, negative, opposite, binary, StmtTree, skip, halt, fail, assume, assign, call, if_then, if_else, while_do, BlockTree, empty, more, ProcMeaning, Program}
use Rattle.spl_print.specs.Canonical.{left_level, right_level, level_of}

-- what a token says: its kind, and the bytes of a name
pub record Lexeme : Type 0 where
  pub kind : TokenKind
  pub text : List ℕ

-- of a token that is no name the bytes don't count
abbrev pub kept : TokenKind → List ℕ → List ℕ
kept TokenKind.Name text = text
kept _ text = []

abbrev pub lexeme : TokenKind → List ℕ → Lexeme
lexeme kind text = record { kind = kind; text = kept kind text }

abbrev pub key : TokenKind → Lexeme
key kind = record { kind = kind; text = [] }

abbrev pub name : List ℕ → Lexeme
name text = record { kind = TokenKind.Name; text = text }

-- what a token of these bytes says
abbrev pub said : List ℕ → Token → Lexeme
said bytes t = lexeme t.kind (span_of bytes t.start (t.end - t.start))

-- ---- expressions

abbrev pub op_kind : BinOp → TokenKind
op_kind BinOp.Or = TokenKind.Or
op_kind BinOp.And = TokenKind.And
op_kind BinOp.Eq = TokenKind.Equal
op_kind BinOp.Ne = TokenKind.NotEqual
op_kind BinOp.Lt = TokenKind.Less
op_kind BinOp.Le = TokenKind.LessEqual
op_kind BinOp.Gt = TokenKind.Greater
op_kind BinOp.Ge = TokenKind.GreaterEqual
op_kind BinOp.Add = TokenKind.Plus
op_kind BinOp.Sub = TokenKind.Minus
op_kind BinOp.Mul = TokenKind.Star
op_kind BinOp.Div = TokenKind.Slash
op_kind BinOp.Rem = TokenKind.Percent

abbrev pub in_parens : List Lexeme → List Lexeme
in_parens ls = key TokenKind.LeftParen ∷ (ls ++ key TokenKind.RightParen ∷ [])

-- an operand of this level, in parentheses exactly where a higher one is wanted
abbrev pub operand : ℕ → ℕ → List Lexeme → List Lexeme
operand wanted level ls = if nat_lt level wanted then in_parens ls else ls

abbrev pub expr_says : ExprTree → List Lexeme
expr_says (number n at) = key (TokenKind.Number n) ∷ []
expr_says (variable x at) = name x ∷ []
expr_says (true_value at) = key TokenKind.True ∷ []
expr_says (false_value at) = key TokenKind.False ∷ []
expr_says (random_value at) = key TokenKind.Random ∷ []
expr_says (negative a at) = key TokenKind.Minus ∷ operand 6 (level_of a) (expr_says a)
expr_says (opposite a at) = key TokenKind.Not ∷ operand 2 (level_of a) (expr_says a)
expr_says (binary op a b at) =
    operand (left_level op) (level_of a) (expr_says a)
    ++ key (op_kind op) ∷ operand (right_level op) (level_of b) (expr_says b)

-- ---- lists

-- a comma before each
abbrev pub others_say : List (List Lexeme) → List Lexeme
others_say ts = flat_map (λ t. key TokenKind.Comma ∷ t) ts

-- one after the other, with a comma between two
abbrev pub listed_say : List (List Lexeme) → List Lexeme
listed_say [] = []
listed_say (t ∷ ts) = t ++ others_say ts

abbrev pub one_name_says : Named → List Lexeme
one_name_says x = name x.name ∷ []

abbrev pub names_say : List Named → List Lexeme
names_say xs = listed_say (map one_name_says xs)

abbrev pub kind_says : Kind → Lexeme
kind_says int_kind = key TokenKind.Int
kind_says real_kind = key TokenKind.Real
kind_says (other_kind x) = name x

abbrev pub decl_says : Declared → List Lexeme
decl_says d = name d.name.name ∷ key TokenKind.Colon ∷ kind_says d.kind ∷ []

abbrev pub decls_say : List Declared → List Lexeme
decls_say ds = listed_say (map decl_says ds)

-- ---- statements

-- the targets of a call: one alone, or a list
abbrev pub targets_say : List Named → List Lexeme
targets_say [] = in_parens []
targets_say (x ∷ []) = name x.name ∷ []
targets_say (x ∷ y ∷ ys) = in_parens (names_say (x ∷ y ∷ ys))

abbrev pub call_says : List Named → List ℕ → List Named → List Lexeme
call_says targets called args =
    targets_say targets ++ key TokenKind.Becomes ∷ name called ∷ key TokenKind.LeftParen
    ∷ (names_say args ++ key TokenKind.RightParen ∷ key TokenKind.Semicolon ∷ [])

abbrev mutual
  pub stmt_says : StmtTree → List Lexeme
  stmt_says (skip at) = key TokenKind.Skip ∷ key TokenKind.Semicolon ∷ []
  stmt_says (halt at) = key TokenKind.Halt ∷ key TokenKind.Semicolon ∷ []
  stmt_says (fail at) = key TokenKind.Fail ∷ key TokenKind.Semicolon ∷ []
  stmt_says (assume e at) = key TokenKind.Assume ∷ (expr_says e ++ key TokenKind.Semicolon ∷ [])
  stmt_says (assign x e at) = name x ∷ key TokenKind.Becomes ∷ (expr_says e ++ key TokenKind.Semicolon ∷ [])
  stmt_says (call targets called args at) = call_says targets called args
  stmt_says (if_then e a at) =
      key TokenKind.If ∷ (expr_says e ++ key TokenKind.Then ∷ (block_says a ++ key TokenKind.Endif ∷ key TokenKind.Semicolon ∷ []))
  stmt_says (if_else e a b at) =
      key TokenKind.If ∷ (expr_says e ++ key TokenKind.Then ∷ (block_says a ++ key TokenKind.Else
      ∷ (block_says b ++ key TokenKind.Endif ∷ key TokenKind.Semicolon ∷ [])))
  stmt_says (while_do e a at) =
      key TokenKind.While ∷ (expr_says e ++ key TokenKind.Do ∷ (block_says a ++ key TokenKind.Done ∷ key TokenKind.Semicolon ∷ []))

  pub block_says : BlockTree → List Lexeme
  block_says empty = []
  block_says (more a s) = block_says a ++ stmt_says s

-- ---- programs

abbrev pub locals_say : List Declared → List Lexeme
locals_say [] = []
locals_say (d ∷ ds) = key TokenKind.Var ∷ (decls_say (d ∷ ds) ++ key TokenKind.Semicolon ∷ [])

abbrev pub body_says : List Declared → BlockTree → List Lexeme
body_says locals body = locals_say locals ++ key TokenKind.Begin ∷ (block_says body ++ key TokenKind.End ∷ [])

abbrev pub proc_says : ProcMeaning → List Lexeme
proc_says p =
    key TokenKind.Proc ∷ name p.name.name ∷ key TokenKind.LeftParen
    ∷ (decls_say p.inputs ++ key TokenKind.RightParen ∷ key TokenKind.Returns ∷ key TokenKind.LeftParen
    ∷ (decls_say p.outputs ++ key TokenKind.RightParen ∷ body_says p.locals p.body))

abbrev pub program_says : Program → List Lexeme
program_says p = flat_map proc_says p.procs ++ body_says p.locals p.body
