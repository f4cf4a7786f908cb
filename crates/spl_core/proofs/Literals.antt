-- No literal of a core is above the greatest one.
use Rattle.std.proofs.Common.{◌≡◌, ℕ, suc, zero, ◌+◌, ◌<◌, List, [], ◌∷◌, ◌++◌, length, map, get_or, sym, arith}
use Rattle.std.specs.List.{All}
use Rattle.std.proofs.lemmas.List.Elements.{All-nil, All-cons}
use Rattle.spl_core.specs.declared.parts.Edge.{Edge}
use Rattle.spl_core.specs.declared.parts.Action.{Action}
use Rattle.spl_core.specs.declared.parts.Action.TheVariants as action
use Rattle.spl_core.specs.declared.parts.CoreExpr.{CoreExpr}
use Rattle.spl_core.specs.declared.parts.CoreExpr.TheVariants as expr
use Rattle.spl_core.specs.declared.parts.CoreCond.{CoreCond}
use Rattle.spl_core.specs.declared.parts.CoreCond.TheVariants as cond
use Rattle.spl_core.specs.Parts.{Parts}
use Rattle.spl_core.specs.Expression.{Expression, IsLimited}
use Rattle.spl_core.specs.Condition.{Condition, IsConditionLimited}
use Rattle.spl_core.specs.Facts.{ExprFits}
use Rattle.spl_core.specs.Graph.{expr_at, expr_over, exprs_after, exprs_in, cond_at, cond_over, conds_after, conds_in, move_of, arc_of, graph_of}
use Rattle.spl_core.specs.Laws.{MoveIsLimited, LiteralsAreLimited}

-- ---- lists of expressions and of conditions

abbrev AllLimited : List Expression → Type 0
AllLimited [] = Unit {0}
AllLimited (t ∷ trees) = IsLimited t × AllLimited trees

expr_limited : (trees : List Expression) (e : ℕ) → AllLimited trees → IsLimited (expr_at trees e)
expr_limited [] e h = omega arith
expr_limited (t ∷ trees) zero h = h.0
expr_limited (t ∷ trees) (suc e) h = expr_limited trees e h.1

one_limited : (trees : List Expression) (t : Expression) → AllLimited trees → IsLimited t → AllLimited (trees ++ t ∷ [])
one_limited [] t h l = (l, tt)
one_limited (x ∷ trees) t h l = (h.0, one_limited trees t h.1 l)

abbrev AllConditionsLimited : List Condition → Type 0
AllConditionsLimited [] = Unit {0}
AllConditionsLimited (t ∷ trees) = IsConditionLimited t × AllConditionsLimited trees

cond_limited : (trees : List Condition) (e : ℕ) → AllConditionsLimited trees → IsConditionLimited (cond_at trees e)
cond_limited [] e h = tt
cond_limited (t ∷ trees) zero h = h.0
cond_limited (t ∷ trees) (suc e) h = cond_limited trees e h.1

one_condition_limited : (trees : List Condition) (t : Condition) → AllConditionsLimited trees → IsConditionLimited t → AllConditionsLimited (trees ++ t ∷ [])
one_condition_limited [] t h l = (l, tt)
one_condition_limited (x ∷ trees) t h l = (h.0, one_condition_limited trees t h.1 l)

-- ---- nodes

node_limited : (trees : List Expression) (k : ℕ) (e : CoreExpr) → AllLimited trees → ExprFits k e → IsLimited (expr_over trees e)
node_limited trees k (expr.Number n) h f = f
node_limited trees k (expr.Variable v) h f = tt
node_limited trees k (expr.Neg a) h f = expr_limited trees a h
node_limited trees k (expr.Add a b) h f = (expr_limited trees a h, expr_limited trees b h)
node_limited trees k (expr.Sub a b) h f = (expr_limited trees a h, expr_limited trees b h)
node_limited trees k (expr.Mul a b) h f = (expr_limited trees a h, expr_limited trees b h)
node_limited trees k (expr.Div a b) h f = (expr_limited trees a h, expr_limited trees b h)
node_limited trees k (expr.Rem a b) h f = (expr_limited trees a h, expr_limited trees b h)

condition_limited : (exprs : List Expression) (trees : List Condition) (e : CoreCond) → AllLimited exprs → AllConditionsLimited trees → IsConditionLimited (cond_over exprs trees e)
condition_limited exprs trees cond.True g h = tt
condition_limited exprs trees cond.False g h = tt
condition_limited exprs trees cond.Random g h = tt
condition_limited exprs trees (cond.Not a) g h = cond_limited trees a h
condition_limited exprs trees (cond.And a b) g h = (cond_limited trees a h, cond_limited trees b h)
condition_limited exprs trees (cond.Or a b) g h = (cond_limited trees a h, cond_limited trees b h)
condition_limited exprs trees (cond.Compare r a b) g h = (expr_limited exprs a g, expr_limited exprs b g)

exprs_limited : (n : ℕ) (trees : List Expression) (exprs : List CoreExpr) → AllLimited trees → ((k : ℕ) (d : CoreExpr) → k < length exprs → ExprFits (n + k) (get_or exprs k d)) → AllLimited (exprs_after trees exprs)
exprs_limited n trees [] h f = h
exprs_limited n trees (e ∷ exprs) h f =
    exprs_limited (suc n) (trees ++ expr_over trees e ∷ []) exprs
    (one_limited trees (expr_over trees e) h (node_limited trees (n + 0) e h (f 0 e (omega arith))))
    (λ k d lt. let same : n + suc k ≡ suc n + k = omega arith in rw (sym same) (f (suc k) d (omega (arith, lt))))

conds_limited : (exprs : List Expression) (trees : List Condition) (conds : List CoreCond) → AllLimited exprs → AllConditionsLimited trees → AllConditionsLimited (conds_after exprs trees conds)
conds_limited exprs trees [] g h = h
conds_limited exprs trees (e ∷ conds) g h =
    conds_limited exprs (trees ++ cond_over exprs trees e ∷ []) conds g
    (one_condition_limited trees (cond_over exprs trees e) h (condition_limited exprs trees e g h))

-- ---- edges

move_limited : (c : Parts) (a : Action) → AllLimited (exprs_in c) → AllConditionsLimited (conds_in c) → MoveIsLimited (move_of c a)
move_limited c action.Skip g h = tt
move_limited c (action.Assign target e) g h = expr_limited (exprs_in c) e g
move_limited c (action.Havoc target) g h = tt
move_limited c (action.Test e wanted) g h = cond_limited (conds_in c) e h
move_limited c (action.Call callee args targets) g h = tt
move_limited c (action.Start pairs) g h = tt

arcs_limited : (c : Parts) (edges : List Edge) → AllLimited (exprs_in c) → AllConditionsLimited (conds_in c) → All (λ a. MoveIsLimited a.move) (map (arc_of c) edges)
arcs_limited c [] g h = All-nil (λ a. MoveIsLimited a.move)
arcs_limited c (e ∷ edges) g h = All-cons (λ a. MoveIsLimited a.move) (arc_of c e) (map (arc_of c) edges) (move_limited c e.action g h) (arcs_limited c edges g h)

pub literals_are_limited : LiteralsAreLimited
unfolding graph_of
literals_are_limited c is =
    let g : AllLimited (exprs_in c) = exprs_limited 0 [] c.exprs tt (λ k d lt. let same : 0 + k ≡ k = omega arith in rw same (is.exprs k d lt)) in
    let h : AllConditionsLimited (conds_in c) = conds_limited (exprs_in c) [] c.conds g tt in
    record {
      expr = λ e. expr_limited (exprs_in c) e g;
      cond = λ e. cond_limited (conds_in c) e h;
      arcs = arcs_limited c c.edges g h;
    }
