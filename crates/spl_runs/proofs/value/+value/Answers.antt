use Rattle.std.proofs.Common.{◌≡◌, ◌^◌, ◌<◌, ◌≤◌, true, FitsSigned, sym, ap, ◌∙◌, arith}
use Rattle.std.specs.Int.{w128}
use Rattle.std.proofs.lemmas.Int.{to_z-of_z}
use Rattle.spl_core.specs.declared.parts.CoreExpr.TheVariants as expr
use Rattle.spl_core.specs.Expression.{value_of, sum, difference, product, quotient, remainder}
use Rattle.spl_runs.specs.declared.value.Computed.TheVariants as value
use Rattle.spl_runs.specs.Word.{fits}
use Rattle.spl_core.specs.Graph.{expr_at, exprs_in}
use Rattle.spl_runs.specs.Exact.{exact, combined, negated}
use Rattle.spl_runs.proofs.Parted.{node, parts_below, exact_number, exact_variable, exact_neg, exact_sum, exact_difference, exact_product, exact_quotient, exact_remainder}
use Rattle.spl_runs.proofs.value.+value.Goals as goal

pub value-requires : goal.value-requires
value-requires t c = let h : c.in-Neg.a < c.args.e = parts_below c.args.core.now c.in-Neg.ensures.known c.args.e (expr.Neg c.in-Neg.a) c.requires c.in-Neg.ensures.found in (omega (arith, c.decreases), omega arith)

pub value-requires-in-Add : goal.value-requires-in-Add
value-requires-in-Add t c = let h = parts_below c.args.core.now c.in-Add.ensures.known c.args.e (expr.Add c.in-Add.a c.in-Add.b) c.requires c.in-Add.ensures.found in (omega (arith, c.decreases, h.0), omega (arith, h.0))

pub value-requires-in-Add-2 : goal.value-requires-in-Add-2
value-requires-in-Add-2 t c = let h = parts_below c.args.core.now c.in-Add.ensures.known c.args.e (expr.Add c.in-Add.a c.in-Add.b) c.requires c.in-Add.ensures.found in (omega (arith, c.decreases, h.1), omega (arith, h.1))

pub value-requires-in-Sub : goal.value-requires-in-Sub
value-requires-in-Sub t c = let h = parts_below c.args.core.now c.in-Sub.ensures.known c.args.e (expr.Sub c.in-Sub.a c.in-Sub.b) c.requires c.in-Sub.ensures.found in (omega (arith, c.decreases, h.0), omega (arith, h.0))

pub value-requires-in-Sub-2 : goal.value-requires-in-Sub-2
value-requires-in-Sub-2 t c = let h = parts_below c.args.core.now c.in-Sub.ensures.known c.args.e (expr.Sub c.in-Sub.a c.in-Sub.b) c.requires c.in-Sub.ensures.found in (omega (arith, c.decreases, h.1), omega (arith, h.1))

pub value-requires-in-Mul : goal.value-requires-in-Mul
value-requires-in-Mul t c = let h = parts_below c.args.core.now c.in-Mul.ensures.known c.args.e (expr.Mul c.in-Mul.a c.in-Mul.b) c.requires c.in-Mul.ensures.found in (omega (arith, c.decreases, h.0), omega (arith, h.0))

pub value-requires-in-Mul-2 : goal.value-requires-in-Mul-2
value-requires-in-Mul-2 t c = let h = parts_below c.args.core.now c.in-Mul.ensures.known c.args.e (expr.Mul c.in-Mul.a c.in-Mul.b) c.requires c.in-Mul.ensures.found in (omega (arith, c.decreases, h.1), omega (arith, h.1))

pub value-requires-in-Div : goal.value-requires-in-Div
value-requires-in-Div t c = let h = parts_below c.args.core.now c.in-Div.ensures.known c.args.e (expr.Div c.in-Div.a c.in-Div.b) c.requires c.in-Div.ensures.found in (omega (arith, c.decreases, h.0), omega (arith, h.0))

pub value-requires-in-Div-2 : goal.value-requires-in-Div-2
value-requires-in-Div-2 t c = let h = parts_below c.args.core.now c.in-Div.ensures.known c.args.e (expr.Div c.in-Div.a c.in-Div.b) c.requires c.in-Div.ensures.found in (omega (arith, c.decreases, h.1), omega (arith, h.1))

pub value-requires-in-Rem : goal.value-requires-in-Rem
value-requires-in-Rem t c = let h = parts_below c.args.core.now c.in-Rem.ensures.known c.args.e (expr.Rem c.in-Rem.a c.in-Rem.b) c.requires c.in-Rem.ensures.found in (omega (arith, c.decreases, h.0), omega (arith, h.0))

pub value-requires-in-Rem-2 : goal.value-requires-in-Rem-2
value-requires-in-Rem-2 t c = let h = parts_below c.args.core.now c.in-Rem.ensures.known c.args.e (expr.Rem c.in-Rem.a c.in-Rem.b) c.requires c.in-Rem.ensures.found in (omega (arith, c.decreases, h.1), omega (arith, h.1))

pub returns-in-Number : goal.returns-in-Number
returns-in-Number t c =
    let f : FitsSigned w128 c.from.result = record { sfits = c.from.type_inv } in
    let h : c.in-Number.n ≤ 2 ^ 61 = parts_below c.args.core.now c.in-Number.ensures.known c.args.e (expr.Number c.in-Number.n) c.requires c.in-Number.ensures.found in
    ap value.Is (to_z-of_z w128 c.from.result f ∙ c.from.ensures)
    ∙ (exact_number c.in-Number.n c.args.values.now (omega arith)
    ∙ ap (λ x. exact x c.args.values.now) (node c.args.core.now c.law_numbers.ensures c.in-Number.ensures.known c.args.e (expr.Number c.in-Number.n) c.requires c.in-Number.ensures.found))

pub returns-in-Variable : goal.returns-in-Variable
returns-in-Variable t c =
    let f : FitsSigned w128 c.dimension.result = record { sfits = c.dimension.type_inv } in
    let g : fits (value_of c.args.values.now c.in-Variable.v) ≡ true = ap fits (sym c.dimension.ensures.value) ∙ c.dimension.ensures.known in
    ap value.Is (to_z-of_z w128 c.dimension.result f ∙ c.dimension.ensures.value)
    ∙ (exact_variable c.in-Variable.v c.args.values.now g
    ∙ ap (λ x. exact x c.args.values.now) (node c.args.core.now c.law_numbers.ensures c.in-Variable.ensures.known c.args.e (expr.Variable c.in-Variable.v) c.requires c.in-Variable.ensures.found))

pub returns-in-Neg : goal.returns-in-Neg
returns-in-Neg t c =
    c.negation.ensures ∙ (ap negated c.value.ensures
    ∙ (exact_neg (expr_at (exprs_in c.args.core.now) c.in-Neg.a) c.args.values.now
    ∙ ap (λ x. exact x c.args.values.now) (node c.args.core.now c.law_numbers.ensures c.in-Neg.ensures.known c.args.e (expr.Neg c.in-Neg.a) c.requires c.in-Neg.ensures.found)))

pub returns-in-Add : goal.returns-in-Add
returns-in-Add t c =
    c.sum.ensures ∙ (ap (λ x. combined sum x c.value-in-Add-2.result) c.value-in-Add.ensures
    ∙ (ap (λ x. combined sum (exact (expr_at (exprs_in c.args.core.now) c.in-Add.a) c.args.values.now) x) c.value-in-Add-2.ensures
    ∙ (exact_sum (expr_at (exprs_in c.args.core.now) c.in-Add.a) (expr_at (exprs_in c.args.core.now) c.in-Add.b) c.args.values.now
    ∙ ap (λ x. exact x c.args.values.now) (node c.args.core.now c.law_numbers.ensures c.in-Add.ensures.known c.args.e (expr.Add c.in-Add.a c.in-Add.b) c.requires c.in-Add.ensures.found))))

pub returns-in-Sub : goal.returns-in-Sub
returns-in-Sub t c =
    c.difference.ensures ∙ (ap (λ x. combined difference x c.value-in-Sub-2.result) c.value-in-Sub.ensures
    ∙ (ap (λ x. combined difference (exact (expr_at (exprs_in c.args.core.now) c.in-Sub.a) c.args.values.now) x) c.value-in-Sub-2.ensures
    ∙ (exact_difference (expr_at (exprs_in c.args.core.now) c.in-Sub.a) (expr_at (exprs_in c.args.core.now) c.in-Sub.b) c.args.values.now
    ∙ ap (λ x. exact x c.args.values.now) (node c.args.core.now c.law_numbers.ensures c.in-Sub.ensures.known c.args.e (expr.Sub c.in-Sub.a c.in-Sub.b) c.requires c.in-Sub.ensures.found))))

pub returns-in-Mul : goal.returns-in-Mul
returns-in-Mul t c =
    c.product.ensures ∙ (ap (λ x. combined product x c.value-in-Mul-2.result) c.value-in-Mul.ensures
    ∙ (ap (λ x. combined product (exact (expr_at (exprs_in c.args.core.now) c.in-Mul.a) c.args.values.now) x) c.value-in-Mul-2.ensures
    ∙ (exact_product (expr_at (exprs_in c.args.core.now) c.in-Mul.a) (expr_at (exprs_in c.args.core.now) c.in-Mul.b) c.args.values.now
    ∙ ap (λ x. exact x c.args.values.now) (node c.args.core.now c.law_numbers.ensures c.in-Mul.ensures.known c.args.e (expr.Mul c.in-Mul.a c.in-Mul.b) c.requires c.in-Mul.ensures.found))))

pub returns-in-Div : goal.returns-in-Div
returns-in-Div t c =
    c.quotient.ensures ∙ (ap (λ x. combined quotient x c.value-in-Div-2.result) c.value-in-Div.ensures
    ∙ (ap (λ x. combined quotient (exact (expr_at (exprs_in c.args.core.now) c.in-Div.a) c.args.values.now) x) c.value-in-Div-2.ensures
    ∙ (exact_quotient (expr_at (exprs_in c.args.core.now) c.in-Div.a) (expr_at (exprs_in c.args.core.now) c.in-Div.b) c.args.values.now
    ∙ ap (λ x. exact x c.args.values.now) (node c.args.core.now c.law_numbers.ensures c.in-Div.ensures.known c.args.e (expr.Div c.in-Div.a c.in-Div.b) c.requires c.in-Div.ensures.found))))

pub returns-in-Rem : goal.returns-in-Rem
returns-in-Rem t c =
    c.remainder.ensures ∙ (ap (λ x. combined remainder x c.value-in-Rem-2.result) c.value-in-Rem.ensures
    ∙ (ap (λ x. combined remainder (exact (expr_at (exprs_in c.args.core.now) c.in-Rem.a) c.args.values.now) x) c.value-in-Rem-2.ensures
    ∙ (exact_remainder (expr_at (exprs_in c.args.core.now) c.in-Rem.a) (expr_at (exprs_in c.args.core.now) c.in-Rem.b) c.args.values.now
    ∙ ap (λ x. exact x c.args.values.now) (node c.args.core.now c.law_numbers.ensures c.in-Rem.ensures.known c.args.e (expr.Rem c.in-Rem.a c.in-Rem.b) c.requires c.in-Rem.ensures.found))))
