-- In a core each number stands for its own node over what its children's numbers stand for.
use Rattle.std.proofs.Common.{◌≡◌, ℕ, suc, zero, ◌+◌, ◌<◌, List, [], ◌∷◌, ◌++◌, length, get_or, refl, sym, ap, ◌∙◌, subst, arith, length-append}
use Rattle.std.proofs.lemmas.List.{get_or_push}
use Rattle.std.proofs.Math.ListN.{get_or-append}
use Rattle.spl_core.specs.declared.parts.CoreExpr.{CoreExpr}
use Rattle.spl_core.specs.declared.parts.CoreExpr.TheVariants as expr
use Rattle.spl_core.specs.declared.parts.CoreCond.{CoreCond}
use Rattle.spl_core.specs.declared.parts.CoreCond.TheVariants as cond
use Rattle.spl_core.specs.Parts.{Parts}
use Rattle.spl_core.specs.Facts.{Each, ExprFits, CondFits, IsCore}
use Rattle.spl_core.specs.Expression.{Expression, Number, Neg, Add, Sub, Mul, Div, Rem}
use Rattle.spl_core.specs.Condition.{Condition, Random, Not, And, Or}
use Rattle.spl_core.specs.Graph.{expr_at, expr_over, exprs_after, exprs_in, cond_at, cond_over, conds_after, conds_in}
use Rattle.spl_core.specs.Laws.{StandsFor}

-- a fact of each item: of the first and of the others
pub each_head : {X : Type 0} (P : ℕ → X → Type 0) (x : X) (xs : List X) → Each P (x ∷ xs) → P 0 x
each_head P x xs h = h 0 x (omega arith)

-- lengths
length-exprs : (trees : List Expression) (exprs : List CoreExpr) → length (exprs_after trees exprs) ≡ length trees + length exprs
length-exprs trees [] = omega arith
length-exprs trees (x ∷ exprs) = omega (arith, length-exprs (trees ++ expr_over trees x ∷ []) exprs, length-append trees (expr_over trees x ∷ []))

length-conds : (es : List Expression) (trees : List Condition) (conds : List CoreCond) → length (conds_after es trees conds) ≡ length trees + length conds
length-conds es trees [] = omega arith
length-conds es trees (x ∷ conds) = omega (arith, length-conds es (trees ++ cond_over es trees x ∷ []) conds, length-append trees (cond_over es trees x ∷ []))

-- two lists agree below a number
abbrev SameBelow : {X : Type 0} → X → ℕ → List X → List X → Type 0
SameBelow {X} x m xs ys = (j : ℕ) → j < m → get_or xs j x ≡ get_or ys j x

same_push : {X : Type 0} (x y : X) (final xs : List X) (m : ℕ) → SameBelow x (length (xs ++ y ∷ [])) final (xs ++ y ∷ []) → SameBelow x (length xs) final xs
same_push x y final xs m h = λ j lt. h j (omega (arith, length-append xs (y ∷ []))) ∙ get_or-append xs (y ∷ []) x j lt

-- what is there stays
exprs_kept : (trees : List Expression) (exprs : List CoreExpr) → SameBelow (Number 0) (length trees) (exprs_after trees exprs) trees
exprs_kept trees [] = λ j lt. refl
exprs_kept trees (e ∷ exprs) = same_push (Number 0) (expr_over trees e) (exprs_after (trees ++ expr_over trees e ∷ []) exprs) trees 0 (exprs_kept (trees ++ expr_over trees e ∷ []) exprs)

conds_kept : (es : List Expression) (trees : List Condition) (conds : List CoreCond) → SameBelow Random (length trees) (conds_after es trees conds) trees
conds_kept es trees [] = λ j lt. refl
conds_kept es trees (e ∷ conds) = same_push Random (cond_over es trees e) (conds_after es (trees ++ cond_over es trees e ∷ []) conds) trees 0 (conds_kept es (trees ++ cond_over es trees e ∷ []) conds)

-- a node over lists that agree on its children
same_expr : (final trees : List Expression) (k : ℕ) (e : CoreExpr) → ExprFits k e → SameBelow (Number 0) k final trees → expr_over final e ≡ expr_over trees e
same_expr final trees k (expr.Number n) h w = refl
same_expr final trees k (expr.Variable n) h w = refl
same_expr final trees k (expr.Neg a) h w = ap (λ x. Neg x) (w a h)
same_expr final trees k (expr.Add a b) h w = ap (λ x. Add x (expr_at final b)) (w a h.0) ∙ ap (λ x. Add (expr_at trees a) x) (w b h.1)
same_expr final trees k (expr.Sub a b) h w = ap (λ x. Sub x (expr_at final b)) (w a h.0) ∙ ap (λ x. Sub (expr_at trees a) x) (w b h.1)
same_expr final trees k (expr.Mul a b) h w = ap (λ x. Mul x (expr_at final b)) (w a h.0) ∙ ap (λ x. Mul (expr_at trees a) x) (w b h.1)
same_expr final trees k (expr.Div a b) h w = ap (λ x. Div x (expr_at final b)) (w a h.0) ∙ ap (λ x. Div (expr_at trees a) x) (w b h.1)
same_expr final trees k (expr.Rem a b) h w = ap (λ x. Rem x (expr_at final b)) (w a h.0) ∙ ap (λ x. Rem (expr_at trees a) x) (w b h.1)

same_cond : (c : Parts) (es : List Expression) (final trees : List Condition) (k : ℕ) (e : CoreCond) → CondFits c k e → SameBelow Random k final trees → cond_over es final e ≡ cond_over es trees e
same_cond c es final trees k cond.True h w = refl
same_cond c es final trees k cond.False h w = refl
same_cond c es final trees k cond.Random h w = refl
same_cond c es final trees k (cond.Not a) h w = ap (λ x. Not x) (w a h)
same_cond c es final trees k (cond.And a b) h w = ap (λ x. And x (cond_at final b)) (w a h.0) ∙ ap (λ x. And (cond_at trees a) x) (w b h.1)
same_cond c es final trees k (cond.Or a b) h w = ap (λ x. Or x (cond_at final b)) (w a h.0) ∙ ap (λ x. Or (cond_at trees a) x) (w b h.1)
same_cond c es final trees k (cond.Compare r a b) h w = refl

-- what a number past those that are there stands for
expr_node : (trees : List Expression) (exprs : List CoreExpr) (k : ℕ) (d : CoreExpr) → Each (λ j e. ExprFits (length trees + j) e) exprs → k < length exprs
    → get_or (exprs_after trees exprs) (length trees + k) (Number 0) ≡ expr_over (exprs_after trees exprs) (get_or exprs k d)
expr_node trees [] k d h lt = absurd (omega arith)
expr_node trees (x ∷ exprs) zero d h lt =
    let one : List Expression = trees ++ expr_over trees x ∷ [] in
    let final : List Expression = exprs_after one exprs in
    let kept : SameBelow (Number 0) (length one) final one = exprs_kept one exprs in
    let below : SameBelow (Number 0) (length trees + 0) final trees = λ j l. same_push (Number 0) (expr_over trees x) final trees 0 kept j (omega arith) in
    let fits : ExprFits (length trees + 0) x = each_head (λ j y. ExprFits (length trees + j) y) x exprs h in
    kept (length trees + 0) (omega (arith, length-append trees (expr_over trees x ∷ [])))
    ∙ (get_or_push trees (expr_over trees x) (Number 0) (length trees + 0) (omega arith)
    ∙ sym (same_expr final trees (length trees + 0) x fits below))
expr_node trees (x ∷ exprs) (suc k) d h lt =
    let one : List Expression = trees ++ expr_over trees x ∷ [] in
    let final : List Expression = exprs_after one exprs in
    let l : length one ≡ suc (length trees) = omega (arith, length-append trees (expr_over trees x ∷ [])) in
    let i : length one + k ≡ length trees + suc k = omega (arith, l) in
    let fits : Each (λ j y. ExprFits (length one + j) y) exprs = λ j b m. let s : length trees + suc j ≡ length one + j = omega (arith, l) in let P : ℕ → Type 0 = λ n. ExprFits n (get_or exprs j b) in subst P s (h (suc j) b (omega arith)) in
    ap (λ n. get_or final n (Number 0)) (sym i) ∙ expr_node one exprs k d fits (omega arith)

cond_node : (c : Parts) (es : List Expression) (trees : List Condition) (conds : List CoreCond) (k : ℕ) (d : CoreCond) → Each (λ j e. CondFits c (length trees + j) e) conds → k < length conds
    → get_or (conds_after es trees conds) (length trees + k) Random ≡ cond_over es (conds_after es trees conds) (get_or conds k d)
cond_node c es trees [] k d h lt = absurd (omega arith)
cond_node c es trees (x ∷ conds) zero d h lt =
    let one : List Condition = trees ++ cond_over es trees x ∷ [] in
    let final : List Condition = conds_after es one conds in
    let kept : SameBelow Random (length one) final one = conds_kept es one conds in
    let below : SameBelow Random (length trees + 0) final trees = λ j l. same_push Random (cond_over es trees x) final trees 0 kept j (omega arith) in
    let fits : CondFits c (length trees + 0) x = each_head (λ j y. CondFits c (length trees + j) y) x conds h in
    kept (length trees + 0) (omega (arith, length-append trees (cond_over es trees x ∷ [])))
    ∙ (get_or_push trees (cond_over es trees x) Random (length trees + 0) (omega arith)
    ∙ sym (same_cond c es final trees (length trees + 0) x fits below))
cond_node c es trees (x ∷ conds) (suc k) d h lt =
    let one : List Condition = trees ++ cond_over es trees x ∷ [] in
    let final : List Condition = conds_after es one conds in
    let l : length one ≡ suc (length trees) = omega (arith, length-append trees (cond_over es trees x ∷ [])) in
    let i : length one + k ≡ length trees + suc k = omega (arith, l) in
    let fits : Each (λ j y. CondFits c (length one + j) y) conds = λ j b m. let s : length trees + suc j ≡ length one + j = omega (arith, l) in let P : ℕ → Type 0 = λ n. CondFits c n (get_or conds j b) in subst P s (h (suc j) b (omega arith)) in
    ap (λ n. get_or final n Random) (sym i) ∙ cond_node c es one conds k d fits (omega arith)

from_nothing : {X : Type 0} (P : ℕ → X → Type 0) (xs : List X) → Each P xs → Each (λ k x. P (0 + k) x) xs
from_nothing P xs h = λ k d lt. let e : k ≡ 0 + k = omega arith in let Q : ℕ → Type 0 = λ n. P n (get_or xs k d) in subst Q e (h k d lt)

at_nothing : {X : Type 0} (xs : List X) (k : ℕ) (x : X) → get_or xs k x ≡ get_or xs (0 + k) x
at_nothing xs k x = let e : k ≡ 0 + k = omega arith in ap (λ n. get_or xs n x) e

pub stands_for : (c : Parts) → IsCore c → StandsFor c
stands_for c w = record {
  exprs = omega (arith, length-exprs [] c.exprs);
  conds = omega (arith, length-conds (exprs_in c) [] c.conds);
  expr = λ e d lt. at_nothing (exprs_in c) e (Number 0) ∙ expr_node [] c.exprs e d (from_nothing ExprFits c.exprs w.exprs) lt;
  cond = λ e d lt. at_nothing (conds_in c) e Random ∙ cond_node c (exprs_in c) [] c.conds e d (from_nothing (CondFits c) c.conds w.conds) lt;
}
