-- Tokens that say an expression of the canonical text derive it.
use Rattle.std.proofs.Common.{◌≡◌, ℕ, zero, suc, ◌<◌, ◌≤◌, ◌⊎◌, inl, inr, nat_lt, Bool, true, false, cond, List, [], ◌∷◌, ◌++◌, arith, ap, ap₂, sym, ◌∙◌, refl, subst}
use Rattle.std.proofs.lemmas.Bool.{ltb-false, cases_lt}
use Rattle.spl_text.specs.declared.token.Token.{Token}
use Rattle.spl_text.specs.declared.token.TokenKind.{TokenKind}
use Rattle.spl_tree.specs.declared.parts.BinOp.{BinOp}
use Rattle.spl_tree.specs.Program.{ExprTree, number, variable, true_value, false_value, random_value, negative, opposite, binary, placeless_expr}
use Rattle.spl_parser.specs.Grammar.{Leaf, equal, not_equal, less, less_equal, greater, greater_equal, plus, minus, star, slash, percent, E0, only_1, either, E1, only_2, both, E2, only_3, opposite_of, E3, only_4, compared, E4, only_5, sum_of, E5, only_6, product_of, E6, only_atom, negative_of, Atom, number_atom, name_atom, true_atom, false_atom, random_atom, paren_atom}
use Rattle.spl_parser.specs.Spelling.{token, spelled_0, spelled_1, spelled_2, spelled_3, spelled_4, spelled_5, spelled_6, spelled_atom}
use Rattle.spl_parser.specs.TreeOf.{tree_0, tree_1, tree_2, tree_3, tree_4, tree_5, tree_6, tree_atom}
use Rattle.spl_print.specs.Canonical.{op_level, level_of}
use Rattle.read_back.proofs.Lexemes.{Lexeme, key, in_parens, operand, expr_says}
use Rattle.read_back.proofs.Splits.{Says, split, first, first_name, nothing, last}

-- a derivation of this kind spells the tokens, and stands for this expression, places aside
abbrev pub Spells : (D : Type 0) → (D → List Token) → (D → ExprTree) → List Token → ExprTree → Type 0
Spells D spell tree ts e = (d : D) × (spell d ≡ ts) × (placeless_expr (tree d) ≡ placeless_expr e)

-- the tokens derive this expression at this level
abbrev pub Parses : ℕ → List ℕ → List Token → ExprTree → Type 0
Parses zero bytes = Spells E0 spelled_0 (tree_0 bytes)
Parses (suc zero) bytes = Spells E1 spelled_1 (tree_1 bytes)
Parses (suc (suc zero)) bytes = Spells E2 spelled_2 (tree_2 bytes)
Parses (suc (suc (suc zero))) bytes = Spells E3 spelled_3 (tree_3 bytes)
Parses (suc (suc (suc (suc zero)))) bytes = Spells E4 spelled_4 (tree_4 bytes)
Parses (suc (suc (suc (suc (suc zero))))) bytes = Spells E5 spelled_5 (tree_5 bytes)
Parses (suc (suc (suc (suc (suc (suc zero)))))) bytes = Spells E6 spelled_6 (tree_6 bytes)
Parses (suc (suc (suc (suc (suc (suc (suc n))))))) bytes = Spells Atom spelled_atom (tree_atom bytes)

one_down : (k : ℕ) (bytes : List ℕ) (ts : List Token) (e : ExprTree) → k < 7 → Parses (suc k) bytes ts e → Parses k bytes ts e
one_down zero bytes ts e h p = (only_1 p.0, p.1, p.2)
one_down (suc zero) bytes ts e h p = (only_2 p.0, p.1, p.2)
one_down (suc (suc zero)) bytes ts e h p = (only_3 p.0, p.1, p.2)
one_down (suc (suc (suc zero))) bytes ts e h p = (only_4 p.0, p.1, p.2)
one_down (suc (suc (suc (suc zero)))) bytes ts e h p = (only_5 p.0, p.1, p.2)
one_down (suc (suc (suc (suc (suc zero))))) bytes ts e h p = (only_6 p.0, p.1, p.2)
one_down (suc (suc (suc (suc (suc (suc zero)))))) bytes ts e h p = (only_atom p.0, p.1, p.2)
one_down (suc (suc (suc (suc (suc (suc (suc n))))))) bytes ts e h p = absurd (omega arith)

-- an expression of a level is one of each lower level
down : (l w : ℕ) (bytes : List ℕ) (ts : List Token) (e : ExprTree) → w ≤ l → l ≤ 7 → Parses l bytes ts e → Parses w bytes ts e
down zero w bytes ts e h most p = let z : 0 ≡ w = omega arith in subst (λ k. Parses k bytes ts e) z p
down (suc l) w bytes ts e h most p = by (λ k q. down l w bytes ts e k (omega arith) q) (cases_lt l w)
  where
    by : (w ≤ l → Parses l bytes ts e → Parses w bytes ts e) → ((l < w) ⊎ (w ≤ l)) → Parses w bytes ts e
    by lower (inl k) = let z : suc l ≡ w = omega arith in subst (λ k. Parses k bytes ts e) z p
    by lower (inr k) = lower k (one_down l bytes ts e (omega arith) p)

level_small : (e : ExprTree) → level_of e ≤ 7
level_small (number n at) = omega arith
level_small (variable n at) = omega arith
level_small (true_value at) = omega arith
level_small (false_value at) = omega arith
level_small (random_value at) = omega arith
level_small (negative a at) = omega arith
level_small (opposite a at) = omega arith
level_small (binary op a b at) = by op
  where
    by : (op : BinOp) → op_level op ≤ 7
    by BinOp.Or = omega arith
    by BinOp.And = omega arith
    by BinOp.Eq = omega arith
    by BinOp.Ne = omega arith
    by BinOp.Lt = omega arith
    by BinOp.Le = omega arith
    by BinOp.Gt = omega arith
    by BinOp.Ge = omega arith
    by BinOp.Add = omega arith
    by BinOp.Sub = omega arith
    by BinOp.Mul = omega arith
    by BinOp.Div = omega arith
    by BinOp.Rem = omega arith

-- tokens that say this derive this expression at this level
abbrev Own : ℕ → List ℕ → List Lexeme → ExprTree → Type 0
Own level bytes ls e = (ts : List Token) → Says bytes ts ls → Parses level bytes ts e

parens_parse : (level : ℕ) (bytes : List ℕ) (ls : List Lexeme) (e : ExprTree) → level ≤ 7 → Own level bytes ls e → Own 7 bytes (in_parens ls) e
parens_parse level bytes ls e small own ts h =
    let o = first bytes ts TokenKind.LeftParen [] (ls ++ key TokenKind.RightParen ∷ []) h in
    let s = split bytes o.rest ls (key TokenKind.RightParen ∷ []) o.says in
    let c = first bytes s.second TokenKind.RightParen [] [] s.right in
    let p = down level 0 bytes s.first e (omega arith) small (own s.first s.left) in
    let whole : token TokenKind.LeftParen o.place ∷ (spelled_0 p.0 ++ token TokenKind.RightParen c.place ∷ []) ≡ ts =
    ap (λ us. token TokenKind.LeftParen o.place ∷ us) (ap₂ (λ us vs. us ++ vs) p.1 (ap (λ us. token TokenKind.RightParen c.place ∷ us) (sym (nothing bytes c.rest c.says)) ∙ sym c.is) ∙ sym s.joins) ∙ sym o.is in
    (paren_atom o.place p.0 c.place, whole, p.2)

operand_parses : (wanted level : ℕ) (bytes : List ℕ) (ls : List Lexeme) (e : ExprTree) → wanted ≤ 7 → level ≤ 7 → Own level bytes ls e
    → Own wanted bytes (operand wanted level ls) e
operand_parses wanted level bytes ls e high small own ts = by (nat_lt level wanted) refl
  where
    by : (b : Bool) → nat_lt level wanted ≡ b → Says bytes ts (cond b (in_parens ls) ls) → Parses wanted bytes ts e
    by true f h = down 7 wanted bytes ts e high (omega arith) (parens_parse level bytes ls e small own ts h)
    by false f h = down level wanted bytes ts e (ltb-false level wanted f) small (own ts h)

-- two operands and the token between
record Sides (bytes : List ℕ) (ts : List Token) (l r : ℕ) (kind : TokenKind) (a b : ExprTree) : Type 0 where
  us : List Token
  vs : List Token
  place : Leaf
  joins : us ++ token kind place ∷ vs ≡ ts
  x : Parses l bytes us a
  y : Parses r bytes vs b

sides : (bytes : List ℕ) (ts : List Token) (l r : ℕ) (kind : TokenKind) (a b : ExprTree) → l ≤ 7 → r ≤ 7
    → Own (level_of a) bytes (expr_says a) a → Own (level_of b) bytes (expr_says b) b
    → Says bytes ts (operand l (level_of a) (expr_says a) ++ key kind ∷ operand r (level_of b) (expr_says b)) → Sides bytes ts l r kind a b
sides bytes ts l r kind a b lh rh x y h =
    let s = split bytes ts (operand l (level_of a) (expr_says a)) (key kind ∷ operand r (level_of b) (expr_says b)) h in
    let t = first bytes s.second kind [] (operand r (level_of b) (expr_says b)) s.right in
    record {
      us = s.first;
      vs = t.rest;
      place = t.place;
      joins = ap (λ vs. s.first ++ vs) (sym t.is) ∙ sym s.joins;
      x = operand_parses l (level_of a) bytes (expr_says a) a lh (level_small a) x s.first s.left;
      y = operand_parses r (level_of b) bytes (expr_says b) b rh (level_small b) y t.rest t.says;
    }

joined : (us vs us' vs' ts : List Token) (t : Token) → us' ≡ us → vs' ≡ vs → us ++ t ∷ vs ≡ ts → us' ++ t ∷ vs' ≡ ts
joined us vs us' vs' ts t e f h = ap₂ (λ x y. x ++ t ∷ y) e f ∙ h

both_same : (op : BinOp) (x y a b : ExprTree) → placeless_expr x ≡ placeless_expr a → placeless_expr y ≡ placeless_expr b
    → binary op (placeless_expr x) (placeless_expr y) 0 ≡ binary op (placeless_expr a) (placeless_expr b) 0
both_same op x y a b e f = ap₂ (λ u v. binary op u v 0) e f

pub expr_parses : (e : ExprTree) (bytes : List ℕ) (ts : List Token) → Says bytes ts (expr_says e) → Parses (level_of e) bytes ts e
expr_parses (number n at) bytes ts h = let s = last bytes ts (TokenKind.Number n) h in (number_atom n s.0, sym s.1, refl)
expr_parses (variable x at) bytes ts h =
    let t = first_name bytes ts x [] h in
    let whole : token TokenKind.Name t.place ∷ [] ≡ ts = ap (λ us. token TokenKind.Name t.place ∷ us) (sym (nothing bytes t.rest t.says)) ∙ sym t.is in
    (name_atom t.place, whole, ap (λ y. variable y 0) t.named)
expr_parses (true_value at) bytes ts h = let s = last bytes ts TokenKind.True h in (true_atom s.0, sym s.1, refl)
expr_parses (false_value at) bytes ts h = let s = last bytes ts TokenKind.False h in (false_atom s.0, sym s.1, refl)
expr_parses (random_value at) bytes ts h = let s = last bytes ts TokenKind.Random h in (random_atom s.0, sym s.1, refl)
expr_parses (negative a at) bytes ts h =
    let t = first bytes ts TokenKind.Minus [] (operand 6 (level_of a) (expr_says a)) h in
    let p = operand_parses 6 (level_of a) bytes (expr_says a) a (omega arith) (level_small a) (expr_parses a bytes) t.rest t.says in
    (negative_of t.place p.0, ap (λ us. token TokenKind.Minus t.place ∷ us) p.1 ∙ sym t.is, ap (λ x. negative x 0) p.2)
expr_parses (opposite a at) bytes ts h =
    let t = first bytes ts TokenKind.Not [] (operand 2 (level_of a) (expr_says a)) h in
    let p = operand_parses 2 (level_of a) bytes (expr_says a) a (omega arith) (level_small a) (expr_parses a bytes) t.rest t.says in
    (opposite_of t.place p.0, ap (λ us. token TokenKind.Not t.place ∷ us) p.1 ∙ sym t.is, ap (λ x. opposite x 0) p.2)
expr_parses (binary BinOp.Or a b at) bytes ts h =
    let s = sides bytes ts 0 1 TokenKind.Or a b (omega arith) (omega arith) (expr_parses a bytes) (expr_parses b bytes) h in
    (either s.x.0 s.place s.y.0, joined s.us s.vs (spelled_0 s.x.0) (spelled_1 s.y.0) ts (token TokenKind.Or s.place) s.x.1 s.y.1 s.joins, both_same BinOp.Or (tree_0 bytes s.x.0) (tree_1 bytes s.y.0) a b s.x.2 s.y.2)
expr_parses (binary BinOp.And a b at) bytes ts h =
    let s = sides bytes ts 1 2 TokenKind.And a b (omega arith) (omega arith) (expr_parses a bytes) (expr_parses b bytes) h in
    (both s.x.0 s.place s.y.0, joined s.us s.vs (spelled_1 s.x.0) (spelled_2 s.y.0) ts (token TokenKind.And s.place) s.x.1 s.y.1 s.joins, both_same BinOp.And (tree_1 bytes s.x.0) (tree_2 bytes s.y.0) a b s.x.2 s.y.2)
expr_parses (binary BinOp.Eq a b at) bytes ts h =
    let s = sides bytes ts 4 4 TokenKind.Equal a b (omega arith) (omega arith) (expr_parses a bytes) (expr_parses b bytes) h in
    (compared s.x.0 (equal s.place) s.y.0, joined s.us s.vs (spelled_4 s.x.0) (spelled_4 s.y.0) ts (token TokenKind.Equal s.place) s.x.1 s.y.1 s.joins, both_same BinOp.Eq (tree_4 bytes s.x.0) (tree_4 bytes s.y.0) a b s.x.2 s.y.2)
expr_parses (binary BinOp.Ne a b at) bytes ts h =
    let s = sides bytes ts 4 4 TokenKind.NotEqual a b (omega arith) (omega arith) (expr_parses a bytes) (expr_parses b bytes) h in
    (compared s.x.0 (not_equal s.place) s.y.0, joined s.us s.vs (spelled_4 s.x.0) (spelled_4 s.y.0) ts (token TokenKind.NotEqual s.place) s.x.1 s.y.1 s.joins, both_same BinOp.Ne (tree_4 bytes s.x.0) (tree_4 bytes s.y.0) a b s.x.2 s.y.2)
expr_parses (binary BinOp.Lt a b at) bytes ts h =
    let s = sides bytes ts 4 4 TokenKind.Less a b (omega arith) (omega arith) (expr_parses a bytes) (expr_parses b bytes) h in
    (compared s.x.0 (less s.place) s.y.0, joined s.us s.vs (spelled_4 s.x.0) (spelled_4 s.y.0) ts (token TokenKind.Less s.place) s.x.1 s.y.1 s.joins, both_same BinOp.Lt (tree_4 bytes s.x.0) (tree_4 bytes s.y.0) a b s.x.2 s.y.2)
expr_parses (binary BinOp.Le a b at) bytes ts h =
    let s = sides bytes ts 4 4 TokenKind.LessEqual a b (omega arith) (omega arith) (expr_parses a bytes) (expr_parses b bytes) h in
    (compared s.x.0 (less_equal s.place) s.y.0, joined s.us s.vs (spelled_4 s.x.0) (spelled_4 s.y.0) ts (token TokenKind.LessEqual s.place) s.x.1 s.y.1 s.joins, both_same BinOp.Le (tree_4 bytes s.x.0) (tree_4 bytes s.y.0) a b s.x.2 s.y.2)
expr_parses (binary BinOp.Gt a b at) bytes ts h =
    let s = sides bytes ts 4 4 TokenKind.Greater a b (omega arith) (omega arith) (expr_parses a bytes) (expr_parses b bytes) h in
    (compared s.x.0 (greater s.place) s.y.0, joined s.us s.vs (spelled_4 s.x.0) (spelled_4 s.y.0) ts (token TokenKind.Greater s.place) s.x.1 s.y.1 s.joins, both_same BinOp.Gt (tree_4 bytes s.x.0) (tree_4 bytes s.y.0) a b s.x.2 s.y.2)
expr_parses (binary BinOp.Ge a b at) bytes ts h =
    let s = sides bytes ts 4 4 TokenKind.GreaterEqual a b (omega arith) (omega arith) (expr_parses a bytes) (expr_parses b bytes) h in
    (compared s.x.0 (greater_equal s.place) s.y.0, joined s.us s.vs (spelled_4 s.x.0) (spelled_4 s.y.0) ts (token TokenKind.GreaterEqual s.place) s.x.1 s.y.1 s.joins, both_same BinOp.Ge (tree_4 bytes s.x.0) (tree_4 bytes s.y.0) a b s.x.2 s.y.2)
expr_parses (binary BinOp.Add a b at) bytes ts h =
    let s = sides bytes ts 4 5 TokenKind.Plus a b (omega arith) (omega arith) (expr_parses a bytes) (expr_parses b bytes) h in
    (sum_of s.x.0 (plus s.place) s.y.0, joined s.us s.vs (spelled_4 s.x.0) (spelled_5 s.y.0) ts (token TokenKind.Plus s.place) s.x.1 s.y.1 s.joins, both_same BinOp.Add (tree_4 bytes s.x.0) (tree_5 bytes s.y.0) a b s.x.2 s.y.2)
expr_parses (binary BinOp.Sub a b at) bytes ts h =
    let s = sides bytes ts 4 5 TokenKind.Minus a b (omega arith) (omega arith) (expr_parses a bytes) (expr_parses b bytes) h in
    (sum_of s.x.0 (minus s.place) s.y.0, joined s.us s.vs (spelled_4 s.x.0) (spelled_5 s.y.0) ts (token TokenKind.Minus s.place) s.x.1 s.y.1 s.joins, both_same BinOp.Sub (tree_4 bytes s.x.0) (tree_5 bytes s.y.0) a b s.x.2 s.y.2)
expr_parses (binary BinOp.Mul a b at) bytes ts h =
    let s = sides bytes ts 5 6 TokenKind.Star a b (omega arith) (omega arith) (expr_parses a bytes) (expr_parses b bytes) h in
    (product_of s.x.0 (star s.place) s.y.0, joined s.us s.vs (spelled_5 s.x.0) (spelled_6 s.y.0) ts (token TokenKind.Star s.place) s.x.1 s.y.1 s.joins, both_same BinOp.Mul (tree_5 bytes s.x.0) (tree_6 bytes s.y.0) a b s.x.2 s.y.2)
expr_parses (binary BinOp.Div a b at) bytes ts h =
    let s = sides bytes ts 5 6 TokenKind.Slash a b (omega arith) (omega arith) (expr_parses a bytes) (expr_parses b bytes) h in
    (product_of s.x.0 (slash s.place) s.y.0, joined s.us s.vs (spelled_5 s.x.0) (spelled_6 s.y.0) ts (token TokenKind.Slash s.place) s.x.1 s.y.1 s.joins, both_same BinOp.Div (tree_5 bytes s.x.0) (tree_6 bytes s.y.0) a b s.x.2 s.y.2)
expr_parses (binary BinOp.Rem a b at) bytes ts h =
    let s = sides bytes ts 5 6 TokenKind.Percent a b (omega arith) (omega arith) (expr_parses a bytes) (expr_parses b bytes) h in
    (product_of s.x.0 (percent s.place) s.y.0, joined s.us s.vs (spelled_5 s.x.0) (spelled_6 s.y.0) ts (token TokenKind.Percent s.place) s.x.1 s.y.1 s.joins, both_same BinOp.Rem (tree_5 bytes s.x.0) (tree_6 bytes s.y.0) a b s.x.2 s.y.2)

-- as an expression of the lowest level
pub expr_derives : (e : ExprTree) (bytes : List ℕ) (ts : List Token) → Says bytes ts (expr_says e) → Parses 0 bytes ts e
expr_derives e bytes ts h = down (level_of e) 0 bytes ts e (omega arith) (level_small e) (expr_parses e bytes ts h)
