-- A list of expressions or conditions with one more at its end.
use Rattle.std.proofs.Common.{◌≡◌, ℕ, suc, ◌+◌, ◌<◌, ◌≤◌, List, [], ◌∷◌, ◌++◌, length, get_or, refl, ap, ◌∙◌, arith, length-append}
use Rattle.std.proofs.lemmas.List.{get_or_push}
use Rattle.std.proofs.Math.ListN.{get_or-append}
use Rattle.spl_core.specs.declared.parts.CoreExpr.{CoreExpr}
use Rattle.spl_core.specs.declared.parts.CoreCond.{CoreCond}
use Rattle.spl_core.specs.declared.parts.CoreCond.TheVariants as cond
use Rattle.spl_core.specs.Parts.{Parts}
use Rattle.spl_core.specs.Facts.{CondFits}
use Rattle.spl_core.specs.Expression.{Expression, Number}
use Rattle.spl_core.specs.Condition.{Condition, Random, Compare}
use Rattle.spl_core.specs.Graph.{expr_at, expr_over, exprs_after, cond_at, cond_over, conds_after}
use Rattle.control_points.specs.Nodes.{nodes_of, AreNodes, Grows}

length-exprs : (trees : List Expression) (exprs : List CoreExpr) → length (exprs_after trees exprs) ≡ length trees + length exprs
length-exprs trees [] = omega arith
length-exprs trees (x ∷ exprs) = omega (arith, length-exprs (trees ++ expr_over trees x ∷ []) exprs, length-append trees (expr_over trees x ∷ []))

length-conds : (es : List Expression) (trees : List Condition) (conds : List CoreCond) → length (conds_after es trees conds) ≡ length trees + length conds
length-conds es trees [] = omega arith
length-conds es trees (x ∷ conds) = omega (arith, length-conds es (trees ++ cond_over es trees x ∷ []) conds, length-append trees (cond_over es trees x ∷ []))

exprs_push : (trees : List Expression) (exprs : List CoreExpr) (e : CoreExpr) → exprs_after trees (exprs ++ e ∷ []) ≡ exprs_after trees exprs ++ expr_over (exprs_after trees exprs) e ∷ []
exprs_push trees [] e = refl
exprs_push trees (x ∷ exprs) e = exprs_push (trees ++ expr_over trees x ∷ []) exprs e

conds_push : (es : List Expression) (trees : List Condition) (conds : List CoreCond) (e : CoreCond) → conds_after es trees (conds ++ e ∷ []) ≡ conds_after es trees conds ++ cond_over es (conds_after es trees conds) e ∷ []
conds_push es trees [] e = refl
conds_push es trees (x ∷ conds) e = conds_push es (trees ++ cond_over es trees x ∷ []) conds e

-- two lists of expressions that agree below a number
abbrev Agree : ℕ → List Expression → List Expression → Type 0
Agree n es fs = (k : ℕ) → k < n → expr_at es k ≡ expr_at fs k

cond_same : (c : Parts) (es fs : List Expression) (trees : List Condition) (k : ℕ) (e : CoreCond) → CondFits c k e → Agree (length c.exprs) es fs → cond_over es trees e ≡ cond_over fs trees e
cond_same c es fs trees k cond.True h w = refl
cond_same c es fs trees k cond.False h w = refl
cond_same c es fs trees k cond.Random h w = refl
cond_same c es fs trees k (cond.Not a) h w = refl
cond_same c es fs trees k (cond.And a b) h w = refl
cond_same c es fs trees k (cond.Or a b) h w = refl
cond_same c es fs trees k (cond.Compare r a b) h w = ap (λ x. Compare r x (expr_at es b)) (w a h.0) ∙ ap (λ x. Compare r (expr_at fs a) x) (w b h.1)

-- each condition fits at some number
abbrev FitSomewhere : Parts → List CoreCond → Type 0
FitSomewhere c conds = (k : ℕ) (d : CoreCond) → k < length conds → (n : ℕ) × CondFits c n (get_or conds k d)

conds_same : (c : Parts) (es fs : List Expression) (trees : List Condition) (conds : List CoreCond) → FitSomewhere c conds → Agree (length c.exprs) es fs → conds_after es trees conds ≡ conds_after fs trees conds
conds_same c es fs trees [] h w = refl
conds_same c es fs trees (x ∷ conds) h w =
    let f : (n : ℕ) × CondFits c n x = h 0 x (omega arith) in
    ap (λ y. conds_after es (trees ++ y ∷ []) conds) (cond_same c es fs trees f.0 x f.1 w)
    ∙ conds_same c es fs (trees ++ cond_over fs trees x ∷ []) conds (λ k d lt. h (suc k) d (omega arith)) w

-- an expression more
pub grows_expr : (exprs : List CoreExpr) (conds : List CoreCond) (e : CoreExpr) → AreNodes (nodes_of exprs conds) → Grows (nodes_of exprs conds) (nodes_of (exprs ++ e ∷ []) conds)
grows_expr exprs conds e h =
    let es : List Expression = exprs_after [] exprs in
    let fs : List Expression = exprs_after [] (exprs ++ e ∷ []) in
    let n : length es ≡ length exprs = omega (arith, length-exprs [] exprs) in
    let agree : Agree (length exprs) fs es = λ k lt. ap (λ l. expr_at l k) (exprs_push [] exprs e) ∙ get_or-append es (expr_over es e ∷ []) (Number 0) k (omega (arith, lt, n)) in
    record {
      exprs = omega (arith, length-append exprs (e ∷ []));
      conds = omega arith;
      same_exprs = agree;
      same_conds = λ k lt. ap (λ l. cond_at l k) (conds_same (nodes_of exprs conds) fs es [] conds (λ j d l. (j, h.conds j d l)) agree);
    }

pub expr_pushed : (exprs : List CoreExpr) (e : CoreExpr) → expr_at (exprs_after [] (exprs ++ e ∷ [])) (length exprs) ≡ expr_over (exprs_after [] exprs) e
expr_pushed exprs e = ap (λ l. expr_at l (length exprs)) (exprs_push [] exprs e) ∙ get_or_push (exprs_after [] exprs) (expr_over (exprs_after [] exprs) e) (Number 0) (length exprs) (omega (arith, length-exprs [] exprs))

-- a condition more
pub grows_cond : (exprs : List CoreExpr) (conds : List CoreCond) (e : CoreCond) → Grows (nodes_of exprs conds) (nodes_of exprs (conds ++ e ∷ []))
grows_cond exprs conds e =
    let es : List Expression = exprs_after [] exprs in
    let cs : List Condition = conds_after es [] conds in
    let n : length cs ≡ length conds = omega (arith, length-conds es [] conds) in
    record {
      exprs = omega arith;
      conds = omega (arith, length-append conds (e ∷ []));
      same_exprs = λ k lt. refl;
      same_conds = λ k lt. ap (λ l. cond_at l k) (conds_push es [] conds e) ∙ get_or-append cs (cond_over es cs e ∷ []) Random k (omega (arith, lt, n));
    }

pub cond_pushed : (es : List Expression) (conds : List CoreCond) (e : CoreCond) → cond_at (conds_after es [] (conds ++ e ∷ [])) (length conds) ≡ cond_over es (conds_after es [] conds) e
cond_pushed es conds e = ap (λ l. cond_at l (length conds)) (conds_push es [] conds e) ∙ get_or_push (conds_after es [] conds) (cond_over es (conds_after es [] conds) e) Random (length conds) (omega (arith, length-conds es [] conds))

-- a condition still fits where there are more expressions
pub fits_more : (c b : Parts) (k : ℕ) (e : CoreCond) → length c.exprs ≤ length b.exprs → CondFits c k e → CondFits b k e
fits_more c b k cond.True le h = h
fits_more c b k cond.False le h = h
fits_more c b k cond.Random le h = h
fits_more c b k (cond.Not a) le h = h
fits_more c b k (cond.And x y) le h = h
fits_more c b k (cond.Or x y) le h = h
fits_more c b k (cond.Compare r x y) le h = (omega (arith, h.0), omega (arith, h.1))
