-- Pieces of an expression that wait to be written, the next one last in a list.
use Rattle.std.specs.Prelude.{◌≡◌, ℕ, ◌+◌, ◌<◌, Bool, true, false, List, [], ◌∷◌, ◌++◌, length, codes, decimal}
use Rattle.spl_tree.specs.declared.parts.Expr.{Expr}
use Rattle.spl_tree.specs.declared.parts.Expr.TheVariants.{Number, Variable, True, False, Random, Neg, Not, Binary}
use Rattle.spl_tree.specs.Lists.{Lists}
use Rattle.spl_tree.specs.Program.{ExprTree, number, variable, true_value, false_value, random_value, negative, opposite, binary}
use Rattle.spl_tree.specs.Meaning.{name_of, expr_at, exprs_in}
use Rattle.spl_print.specs.declared.expression.Piece.{Piece}
use Rattle.spl_print.specs.declared.expression.Piece.TheVariants.{Operand, Operator, Close}
use Rattle.spl_print.specs.Canonical.{left_level, right_level, level_of, op_text, operand_text, expr_text}

-- a piece whose expression is one of so many
abbrev pub PieceFits : ℕ → Piece → Type 0
PieceFits n (Operand e wanted) = e.0 < n
PieceFits n (Operator op) = Unit {0}
PieceFits n Close = Unit {0}

abbrev pub PiecesFit : ℕ → List Piece → Type 0
PiecesFit n [] = Unit {0}
PiecesFit n (p ∷ ps) = PieceFits n p × PiecesFit n ps

-- the text of a piece, and of all that wait
abbrev pub piece_text : List ExprTree → Piece → List ℕ
piece_text trees (Operand e wanted) = operand_text wanted (level_of (expr_at trees e)) (expr_text (expr_at trees e))
piece_text trees (Operator op) = op_text op
piece_text trees Close = codes ")"

abbrev pub waiting_text : List ExprTree → List Piece → List ℕ
waiting_text trees [] = []
waiting_text trees (p ∷ ps) = waiting_text trees ps ++ piece_text trees p

-- how many turns they take at most
abbrev pub expr_work : ExprTree → ℕ
expr_work (number n at) = 2
expr_work (variable x at) = 2
expr_work (true_value at) = 2
expr_work (false_value at) = 2
expr_work (random_value at) = 2
expr_work (negative a at) = expr_work a + 2
expr_work (opposite a at) = expr_work a + 2
expr_work (binary op a b at) = expr_work a + expr_work b + 3

abbrev pub piece_work : List ExprTree → Piece → ℕ
piece_work trees (Operand e wanted) = expr_work (expr_at trees e)
piece_work trees (Operator op) = 1
piece_work trees Close = 1

abbrev pub waiting_work : List ExprTree → List Piece → ℕ
waiting_work trees [] = 0
waiting_work trees (p ∷ ps) = waiting_work trees ps + piece_work trees p

-- what is written of a parenthesis at once, and what waits
abbrev pub opening : Bool → List ℕ
opening true = codes "("
opening false = []

abbrev pub closing_pieces : Bool → List Piece
closing_pieces true = Close ∷ []
closing_pieces false = []

-- the same of a node
abbrev pub first_text : List (List ℕ) → Expr → List ℕ
first_text names (Number n) = decimal n
first_text names (Variable n) = name_of names n
first_text names True = codes "true"
first_text names False = codes "false"
first_text names Random = codes "random"
first_text names (Neg a) = codes "-"
first_text names (Not a) = codes "not "
first_text names (Binary op a b) = []

abbrev pub later_pieces : Expr → List Piece
later_pieces (Number n) = []
later_pieces (Variable n) = []
later_pieces True = []
later_pieces False = []
later_pieces Random = []
later_pieces (Neg a) = Operand a 6 ∷ []
later_pieces (Not a) = Operand a 2 ∷ []
later_pieces (Binary op a b) = Operand b (right_level op) ∷ (Operator op ∷ (Operand a (left_level op) ∷ []))

-- the piece was taken: what is written now and what waits make the text that they made before with the piece between
-- them, with less work left
pub record Writes (t : Lists) (piece : Piece) (out : List ℕ) (waiting : List Piece) (out' : List ℕ) (waiting' : List Piece) : Type 0 where
  pub text : out' ++ waiting_text (exprs_in t) waiting' ≡ out ++ (piece_text (exprs_in t) piece ++ waiting_text (exprs_in t) waiting)
  pub fit : PiecesFit (length t.exprs) waiting → PiecesFit (length t.exprs) waiting'
  pub work : waiting_work (exprs_in t) waiting' < waiting_work (exprs_in t) waiting + piece_work (exprs_in t) piece
