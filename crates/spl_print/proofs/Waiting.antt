-- Pieces that wait: their text, their work, and what a turn does to both.
use Rattle.std.proofs.Common.{◌≡◌, ℕ, ◌+◌, ◌<◌, ◌≤◌, nat_lt, Bool, true, false, if◌then◌else◌, List, [], ◌∷◌, ◌++◌, length, get_or, codes, decimal, refl, sym, ap, ◌∙◌, subst, arith, append_assoc, append-nil}
use Rattle.spl_tree.specs.declared.parts.ExprId.{ExprId}
use Rattle.spl_tree.specs.declared.parts.Expr.{Expr}
use Rattle.spl_tree.specs.declared.parts.Expr.TheVariants.{Number, Variable, True, False, Random, Neg, Not, Binary}
use Rattle.spl_tree.specs.Lists.{Lists}
use Rattle.spl_tree.specs.Facts.{IsTree, ExprFits}
use Rattle.spl_tree.specs.Program.{ExprTree}
use Rattle.spl_tree.specs.Meaning.{names_in, exprs_in, name_of, expr_at, expr_over}
use Rattle.spl_tree.specs.Laws.{NumbersStandForNodes}
use Rattle.spl_print.specs.declared.expression.Piece.{Piece}
use Rattle.spl_print.specs.declared.expression.Piece.TheVariants.{Operand}
use Rattle.spl_print.specs.Canonical.{left_level, right_level, level_of, op_text, operand_text, expr_text}
use Rattle.spl_print.specs.Pieces.{PieceFits, PiecesFit, piece_text, waiting_text, expr_work, waiting_work, opening, closing_pieces, first_text, later_pieces, Writes}

-- pieces behind others are written before them
waiting_text-append : (trees : List ExprTree) (ws xs : List Piece) → waiting_text trees (ws ++ xs) ≡ waiting_text trees xs ++ waiting_text trees ws
waiting_text-append trees [] xs = sym (append-nil (waiting_text trees xs))
waiting_text-append trees (w ∷ ws) xs =
    ap (λ t. t ++ piece_text trees w) (waiting_text-append trees ws xs) ∙ append_assoc (waiting_text trees xs) (waiting_text trees ws) (piece_text trees w)

waiting_work-append : (trees : List ExprTree) (ws xs : List Piece) → waiting_work trees (ws ++ xs) ≡ waiting_work trees ws + waiting_work trees xs
waiting_work-append trees [] xs = omega arith
waiting_work-append trees (w ∷ ws) xs = omega (arith, waiting_work-append trees ws xs)

PiecesFit-append : (n : ℕ) (ws xs : List Piece) → PiecesFit n ws → PiecesFit n xs → PiecesFit n (ws ++ xs)
PiecesFit-append n [] xs f g = g
PiecesFit-append n (w ∷ ws) xs f g = (f.0, PiecesFit-append n ws xs f.1 g)

fit_front : (n : ℕ) (ws : List Piece) (p : Piece) → PiecesFit n (ws ++ p ∷ []) → PiecesFit n ws
fit_front n [] p f = tt
fit_front n (w ∷ ws) p f = (f.0, fit_front n ws p f.1)

fit_last : (n : ℕ) (ws : List Piece) (p : Piece) → PiecesFit n (ws ++ p ∷ []) → PieceFits n p
fit_last n [] p f = f.0
fit_last n (w ∷ ws) p f = fit_last n ws p f.1

-- a node: what is written at once and what waits
node_text : (names : List (List ℕ)) (trees : List ExprTree) (node : Expr) (at : ℕ) → first_text names node ++ waiting_text trees (later_pieces node) ≡ expr_text (expr_over names trees node at)
node_text names trees (Number n) at = append-nil (decimal n)
node_text names trees (Variable n) at = append-nil (name_of names n)
node_text names trees True at = refl
node_text names trees False at = refl
node_text names trees Random at = refl
node_text names trees (Neg a) at = refl
node_text names trees (Not a) at = refl
node_text names trees (Binary op a b) at = append_assoc (piece_text trees (Operand a (left_level op))) (op_text op) (piece_text trees (Operand b (right_level op)))

node_work : (names : List (List ℕ)) (trees : List ExprTree) (node : Expr) (at : ℕ) → waiting_work trees (later_pieces node) + 2 ≤ expr_work (expr_over names trees node at)
node_work names trees (Number n) at = omega arith
node_work names trees (Variable n) at = omega arith
node_work names trees True at = omega arith
node_work names trees False at = omega arith
node_work names trees Random at = omega arith
node_work names trees (Neg a) at = omega arith
node_work names trees (Not a) at = omega arith
node_work names trees (Binary op a b) at = omega arith

node_fits : (t : Lists) (k n : ℕ) (node : Expr) → k ≤ n → ExprFits t k node → PiecesFit n (later_pieces node)
node_fits t k n (Number x) le f = tt
node_fits t k n (Variable x) le f = tt
node_fits t k n True le f = tt
node_fits t k n False le f = tt
node_fits t k n Random le f = tt
node_fits t k n (Neg a) le f = (omega arith, tt)
node_fits t k n (Not a) le f = (omega arith, tt)
node_fits t k n (Binary op a b) le f = (omega (arith, f.1), (tt, (omega (arith, f.0), tt)))

-- a parenthesis where one is wanted
paren_text : (trees : List ExprTree) (wanted level : ℕ) (text : List ℕ) (b : Bool) → nat_lt level wanted ≡ b → opening b ++ (text ++ waiting_text trees (closing_pieces b)) ≡ operand_text wanted level text
paren_text trees wanted level text true e = ap (λ c. if c then codes "(" ++ (text ++ codes ")") else text) (sym e)
paren_text trees wanted level text false e = append-nil text ∙ ap (λ c. if c then codes "(" ++ (text ++ codes ")") else text) (sym e)

paren_work : (trees : List ExprTree) (b : Bool) → waiting_work trees (closing_pieces b) ≤ 1
paren_work trees true = omega arith
paren_work trees false = omega arith

paren_fits : (n : ℕ) (b : Bool) → PiecesFit n (closing_pieces b)
paren_fits n true = (tt, tt)
paren_fits n false = tt

regroup : (o p f l c w : List ℕ) → ((o ++ p) ++ f) ++ (l ++ (c ++ w)) ≡ o ++ ((p ++ ((f ++ l) ++ c)) ++ w)
regroup o p f l c w = simp append_assoc

pub operand_written : (t : Lists) → NumbersStandForNodes → IsTree t → (e : ExprId) (node : Expr) (wanted : ℕ) (b : Bool) (out out1 out2 : List ℕ) (ws ws1 ws2 : List Piece)
    → e.0 < length t.exprs → node ≡ get_or t.exprs e.0 node → nat_lt (level_of (expr_over (names_in t) (exprs_in t) node (get_or t.expr_places e.0 0))) wanted ≡ b
    → out1 ≡ out ++ opening b → ws1 ≡ ws ++ closing_pieces b → out2 ≡ out1 ++ first_text (names_in t) node → ws2 ≡ ws1 ++ later_pieces node
    → Writes t (Operand e wanted) out ws out2 ws2
operand_written t law tree e node wanted b out out1 out2 ws ws1 ws2 lt found opens o1 w1 o2 w2 =
    let trees = exprs_in t in
    let at = get_or t.expr_places e.0 0 in
    let stands : expr_at trees e ≡ expr_over (names_in t) trees node at = (law t tree).1.expr e.0 node 0 lt ∙ ap (λ x. expr_over (names_in t) trees x at) (sym found) in
    let fits : ExprFits t e.0 node = subst (ExprFits t e.0) (sym found) (tree.in_range.exprs e.0 node lt) in
    let all : ws2 ≡ (ws ++ closing_pieces b) ++ later_pieces node = w2 ∙ ap (λ x. x ++ later_pieces node) w1 in
    record {
      text =
          ap (λ x. x ++ waiting_text trees ws2) (o2 ∙ ap (λ x. x ++ first_text (names_in t) node) o1)
          ∙ ap (λ x. ((out ++ opening b) ++ first_text (names_in t) node) ++ x)
          (ap (waiting_text trees) all ∙ waiting_text-append trees (ws ++ closing_pieces b) (later_pieces node) ∙ ap (λ x. waiting_text trees (later_pieces node) ++ x) (waiting_text-append trees ws (closing_pieces b)))
          ∙ regroup out (opening b) (first_text (names_in t) node) (waiting_text trees (later_pieces node)) (waiting_text trees (closing_pieces b)) (waiting_text trees ws)
          ∙ ap (λ x. out ++ ((opening b ++ (x ++ waiting_text trees (closing_pieces b))) ++ waiting_text trees ws)) (node_text (names_in t) trees node at)
          ∙ ap (λ x. out ++ (x ++ waiting_text trees ws))
          (paren_text trees wanted (level_of (expr_over (names_in t) trees node at)) (expr_text (expr_over (names_in t) trees node at)) b opens
          ∙ ap (λ x. operand_text wanted (level_of x) (expr_text x)) (sym stands));
      fit = λ f. subst (PiecesFit (length t.exprs)) (sym all) (PiecesFit-append (length t.exprs) (ws ++ closing_pieces b) (later_pieces node) (PiecesFit-append (length t.exprs) ws (closing_pieces b) f (paren_fits (length t.exprs) b)) (node_fits t e.0 (length t.exprs) node (omega arith) fits));
      work = omega (arith, ap (waiting_work trees) all, waiting_work-append trees (ws ++ closing_pieces b) (later_pieces node), waiting_work-append trees ws (closing_pieces b), paren_work trees b, node_work (names_in t) trees node at, ap expr_work stands);
    }

-- a turn of the loop, for the pieces that wait before it
pub last_fits : (n : ℕ) (all ws : List Piece) (p : Piece) → all ≡ ws ++ p ∷ [] → PiecesFit n all → PieceFits n p
last_fits n all ws p e f = fit_last n ws p (subst (PiecesFit n) e f)

pub turn_text : (t : Lists) (p : Piece) (all ws ws' : List Piece) (whole out out' : List ℕ) → all ≡ ws ++ p ∷ [] → Writes t p out ws out' ws' → out ++ waiting_text (exprs_in t) all ≡ whole
    → out' ++ waiting_text (exprs_in t) ws' ≡ whole
turn_text t p all ws ws' whole out out' e w h = w.text ∙ ap (λ x. out ++ x) (sym (ap (waiting_text (exprs_in t)) e ∙ waiting_text-append (exprs_in t) ws (p ∷ []))) ∙ h

pub turn_fits : (t : Lists) (p : Piece) (all ws ws' : List Piece) (out out' : List ℕ) → all ≡ ws ++ p ∷ [] → Writes t p out ws out' ws' → PiecesFit (length t.exprs) all → PiecesFit (length t.exprs) ws'
turn_fits t p all ws ws' out out' e w f = w.fit (fit_front (length t.exprs) ws p (subst (PiecesFit (length t.exprs)) e f))

pub turn_work : (t : Lists) (p : Piece) (all ws ws' : List Piece) (out out' : List ℕ) → all ≡ ws ++ p ∷ [] → Writes t p out ws out' ws' → waiting_work (exprs_in t) ws' < waiting_work (exprs_in t) all
turn_work t p all ws ws' out out' e w = omega (arith, w.work, ap (waiting_work (exprs_in t)) e, waiting_work-append (exprs_in t) ws (p ∷ []))
