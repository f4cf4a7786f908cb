use Rattle.std.proofs.Common.{◌≡◌, ◌<◌, length, true, false, arith}
use Rattle.spl_core.specs.declared.parts.CoreCond.TheVariants as cond
use Rattle.spl_core.specs.Condition.{Constant, Random, Not, And, Or, Compare}
use Rattle.spl_core.specs.Graph.{expr_at, exprs_in, cond_at, conds_in}
use Rattle.transfer_def.proofs.Conditions.{found, condition_fits}
use Rattle.conc_analysis.proofs.Testing.{condition-in, condition-after, condition-parts, condition-either, condition-of-not, condition-compared, constant-tested, random-tested, not-tested, compare-tested, and-true, and-false, or-true, or-false}
use Rattle.conc_analysis.proofs.tests.+tested.Goals as goal

pub tested-requires-in-And-true-2 : goal.tested-requires-in-And-true-2
tested-requires-in-And-true-2 t c =
    let trees = conds_in c.args.core.now in
    let whole = cond_at trees c.args.cond in
    let v = c.args.v.now in
    let x = cond_at trees c.in-And-true.c in
    let y = cond_at trees c.in-And-true.d in
    let node = cond.And c.in-And-true.c c.in-And-true.d in
    let e : And x y ≡ whole = found c.args.core.now c.law_numbers.ensures c.cond_at.ensures.known c.args.cond c.cond_at.result node c.requires.known c.cond_at.ensures.found c.in-And-true.is-0 in
    let f = condition_fits c.args.core.now c.cond_at.ensures.known c.args.cond node c.requires.known c.in-And-true.ensures.found in
    let o = condition-parts v x y (condition-in v (And x y) whole e c.requires.over) in
    let l : c.in-And-true.d < c.args.cond = f.1 in
    let k : c.args.cond < length c.args.core.now.conds = c.requires.known in
    (omega (arith, c.decreases), (omega arith, condition-after x y true v c.in_ok-first-in-And-true.first c.in_ok-first-in-And-true.ensures o.1))

pub tested-requires-in-Or-false-2 : goal.tested-requires-in-Or-false-2
tested-requires-in-Or-false-2 t c =
    let trees = conds_in c.args.core.now in
    let whole = cond_at trees c.args.cond in
    let v = c.args.v.now in
    let x = cond_at trees c.in-Or-false.c in
    let y = cond_at trees c.in-Or-false.d in
    let node = cond.Or c.in-Or-false.c c.in-Or-false.d in
    let e : Or x y ≡ whole = found c.args.core.now c.law_numbers.ensures c.cond_at.ensures.known c.args.cond c.cond_at.result node c.requires.known c.cond_at.ensures.found c.in-Or-false.is-0 in
    let f = condition_fits c.args.core.now c.cond_at.ensures.known c.args.cond node c.requires.known c.in-Or-false.ensures.found in
    let o = condition-either v x y (condition-in v (Or x y) whole e c.requires.over) in
    let l : c.in-Or-false.d < c.args.cond = f.1 in
    let k : c.args.cond < length c.args.core.now.conds = c.requires.known in
    (omega (arith, c.decreases), (omega arith, condition-after x y false v c.in_ok-first-in-Or-false.first c.in_ok-first-in-Or-false.ensures o.1))

pub returns-in_ok-r-in-True-default : goal.returns-in_ok-r-in-True-default
returns-in_ok-r-in-True-default t c =
    let trees = conds_in c.args.core.now in
    let whole = cond_at trees c.args.cond in
    let v = c.args.v.now in
    let e : Constant true ≡ whole = found c.args.core.now c.law_numbers.ensures c.cond_at.ensures.known c.args.cond c.cond_at.result (cond.True) c.requires.known c.cond_at.ensures.found c.in-True-default.is-0 in
    constant-tested true c.args.wanted whole v c.in_ok-r-in-True-default.r e c.in_ok-r-in-True-default.ensures

pub returns-in_ok-r-in-False-default : goal.returns-in_ok-r-in-False-default
returns-in_ok-r-in-False-default t c =
    let trees = conds_in c.args.core.now in
    let whole = cond_at trees c.args.cond in
    let v = c.args.v.now in
    let e : Constant false ≡ whole = found c.args.core.now c.law_numbers.ensures c.cond_at.ensures.known c.args.cond c.cond_at.result (cond.False) c.requires.known c.cond_at.ensures.found c.in-False-default.is-0 in
    constant-tested false c.args.wanted whole v c.in_ok-r-in-False-default.r e c.in_ok-r-in-False-default.ensures

pub returns-in_ok-r-in-Random-default : goal.returns-in_ok-r-in-Random-default
returns-in_ok-r-in-Random-default t c =
    let trees = conds_in c.args.core.now in
    let whole = cond_at trees c.args.cond in
    let v = c.args.v.now in
    let e : Random ≡ whole = found c.args.core.now c.law_numbers.ensures c.cond_at.ensures.known c.args.cond c.cond_at.result (cond.Random) c.requires.known c.cond_at.ensures.found c.in-Random-default.is-0 in
    random-tested c.args.wanted whole v c.in_ok-r-in-Random-default.r e c.in_ok-r-in-Random-default.ensures

pub returns-in_ok-r-in-Not-default : goal.returns-in_ok-r-in-Not-default
returns-in_ok-r-in-Not-default t c =
    let trees = conds_in c.args.core.now in
    let whole = cond_at trees c.args.cond in
    let v = c.args.v.now in
    let x = cond_at trees c.in-Not-default.c in
    let e : Not x ≡ whole = found c.args.core.now c.law_numbers.ensures c.cond_at.ensures.known c.args.cond c.cond_at.result (cond.Not c.in-Not-default.c) c.requires.known c.cond_at.ensures.found c.in-Not-default.is-0 in
    not-tested c.args.wanted x whole v c.in_ok-r-in-Not-default.r e c.in_ok-r-in-Not-default.ensures

pub returns-in_ok-r-in-And-true : goal.returns-in_ok-r-in-And-true
returns-in_ok-r-in-And-true t c =
    let trees = conds_in c.args.core.now in
    let whole = cond_at trees c.args.cond in
    let v = c.args.v.now in
    let x = cond_at trees c.in-And-true.c in
    let y = cond_at trees c.in-And-true.d in
    let e : And x y ≡ whole = found c.args.core.now c.law_numbers.ensures c.cond_at.ensures.known c.args.cond c.cond_at.result (cond.And c.in-And-true.c c.in-And-true.d) c.requires.known c.cond_at.ensures.found c.in-And-true.is-0 in
    and-true c.args.wanted x y whole v c.in_ok-first-in-And-true.first c.in_ok-r-in-And-true.r e c.in-And-true.is-1 c.in_ok-first-in-And-true.ensures c.in_ok-r-in-And-true.ensures

pub returns-in_ok-r-in-And-false : goal.returns-in_ok-r-in-And-false
returns-in_ok-r-in-And-false t c =
    let trees = conds_in c.args.core.now in
    let whole = cond_at trees c.args.cond in
    let v = c.args.v.now in
    let x = cond_at trees c.in-And-false.c in
    let y = cond_at trees c.in-And-false.d in
    let e : And x y ≡ whole = found c.args.core.now c.law_numbers.ensures c.cond_at.ensures.known c.args.cond c.cond_at.result (cond.And c.in-And-false.c c.in-And-false.d) c.requires.known c.cond_at.ensures.found c.in-And-false.is-0 in
    and-false c.args.wanted x y whole v c.in_ok-first-in-And-false.first c.in_ok-second-in-And-false.second c.in_ok-r-in-And-false.r e c.in-And-false.is-1 c.in_ok-first-in-And-false.ensures c.in_ok-second-in-And-false.ensures c.in_ok-r-in-And-false.ensures

pub returns-in_ok-r-in-Or-true : goal.returns-in_ok-r-in-Or-true
returns-in_ok-r-in-Or-true t c =
    let trees = conds_in c.args.core.now in
    let whole = cond_at trees c.args.cond in
    let v = c.args.v.now in
    let x = cond_at trees c.in-Or-true.c in
    let y = cond_at trees c.in-Or-true.d in
    let e : Or x y ≡ whole = found c.args.core.now c.law_numbers.ensures c.cond_at.ensures.known c.args.cond c.cond_at.result (cond.Or c.in-Or-true.c c.in-Or-true.d) c.requires.known c.cond_at.ensures.found c.in-Or-true.is-0 in
    or-true c.args.wanted x y whole v c.in_ok-first-in-Or-true.first c.in_ok-second-in-Or-true.second c.in_ok-r-in-Or-true.r e c.in-Or-true.is-1 c.in_ok-first-in-Or-true.ensures c.in_ok-second-in-Or-true.ensures c.in_ok-r-in-Or-true.ensures

pub returns-in_ok-r-in-Or-false : goal.returns-in_ok-r-in-Or-false
returns-in_ok-r-in-Or-false t c =
    let trees = conds_in c.args.core.now in
    let whole = cond_at trees c.args.cond in
    let v = c.args.v.now in
    let x = cond_at trees c.in-Or-false.c in
    let y = cond_at trees c.in-Or-false.d in
    let e : Or x y ≡ whole = found c.args.core.now c.law_numbers.ensures c.cond_at.ensures.known c.args.cond c.cond_at.result (cond.Or c.in-Or-false.c c.in-Or-false.d) c.requires.known c.cond_at.ensures.found c.in-Or-false.is-0 in
    or-false c.args.wanted x y whole v c.in_ok-first-in-Or-false.first c.in_ok-r-in-Or-false.r e c.in-Or-false.is-1 c.in_ok-first-in-Or-false.ensures c.in_ok-r-in-Or-false.ensures

pub returns-in_ok-r-in-Compare-default : goal.returns-in_ok-r-in-Compare-default
returns-in_ok-r-in-Compare-default t c =
    let trees = conds_in c.args.core.now in
    let whole = cond_at trees c.args.cond in
    let v = c.args.v.now in
    let exprs = exprs_in c.args.core.now in
    let a = expr_at exprs c.in-Compare-default.a in
    let b = expr_at exprs c.in-Compare-default.b in
    let e : Compare c.in-Compare-default.relation a b ≡ whole = found c.args.core.now c.law_numbers.ensures c.cond_at.ensures.known c.args.cond c.cond_at.result (cond.Compare c.in-Compare-default.relation c.in-Compare-default.a c.in-Compare-default.b) c.requires.known c.cond_at.ensures.found c.in-Compare-default.is-0 in
    compare-tested c.in-Compare-default.relation c.asked.result c.args.wanted a b whole v c.in_ok-r-in-Compare-default.r e c.asked.ensures c.in_ok-r-in-Compare-default.ensures
