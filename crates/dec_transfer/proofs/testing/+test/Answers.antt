use Rattle.std.proofs.Common.{◌≡◌, ◌<◌, length, true, false, ap, ◌∙◌, arith}
use Rattle.spl_core.specs.declared.parts.CoreCond.TheVariants as cond
use Rattle.spl_core.specs.Condition.{Constant, Random, Not, And, Or, Compare}
use Rattle.spl_core.specs.Graph.{expr_at, exprs_in, cond_at, conds_in}
use Rattle.transfer_def.specs.Test.{compare_value}
use Rattle.dec_oct.specs.Value.{octagon}
use Rattle.transfer_def.proofs.Conditions.{found, condition_fits, condition_over, dims-test, over-tested, dims-tested, constant-tested, random-tested, not-tested, compare-tested, compare-asked, and-true, and-false, or-true, or-false}
use Rattle.dec_transfer.proofs.Marked.{constant-marks, random-marks, not-marks, compare-marks, asked-marks, and-true-marks, and-false-marks, or-true-marks, or-false-marks}
use Rattle.dec_transfer.proofs.testing.+test.Goals as goal

pub test-requires-in-And-true-2 : goal.test-requires-in-And-true-2
test-requires-in-And-true-2 t c =
    let trees = conds_in c.args.core.now in
    let whole = cond_at trees c.args.cond in
    let v = octagon c.args.v.now in
    let x = cond_at trees c.in-And-true.c in
    let y = cond_at trees c.in-And-true.d in
    let first = octagon c.in_ok-first-in-And-true.first in
    let e : And x y ≡ whole = found c.args.core.now c.law_numbers.ensures c.cond_at.ensures.known c.args.cond c.cond_at.result (cond.And c.in-And-true.c c.in-And-true.d) c.requires.known c.cond_at.ensures.found c.in-And-true.is-0 in
    let f = condition_fits c.args.core.now c.cond_at.ensures.known c.args.cond (cond.And c.in-And-true.c c.in-And-true.d) c.requires.known c.in-And-true.ensures.found in
    let o = condition_over v.dims (And x y) whole e c.requires.over in
    let l : c.in-And-true.d < c.args.cond = f.1 in
    let k : c.args.cond < length c.args.core.now.conds = c.requires.known in
    let s : first.dims ≡ v.dims = dims-test x true v first c.in_ok-first-in-And-true.ensures.value in
    let m = c.requires.small in
    (omega (arith, c.decreases), (omega (arith, s, m), (omega arith, over-tested x y true v first c.in_ok-first-in-And-true.ensures.value o.1)))

pub test-requires-in-Or-false-2 : goal.test-requires-in-Or-false-2
test-requires-in-Or-false-2 t c =
    let trees = conds_in c.args.core.now in
    let whole = cond_at trees c.args.cond in
    let v = octagon c.args.v.now in
    let x = cond_at trees c.in-Or-false.c in
    let y = cond_at trees c.in-Or-false.d in
    let first = octagon c.in_ok-first-in-Or-false.first in
    let e : Or x y ≡ whole = found c.args.core.now c.law_numbers.ensures c.cond_at.ensures.known c.args.cond c.cond_at.result (cond.Or c.in-Or-false.c c.in-Or-false.d) c.requires.known c.cond_at.ensures.found c.in-Or-false.is-0 in
    let f = condition_fits c.args.core.now c.cond_at.ensures.known c.args.cond (cond.Or c.in-Or-false.c c.in-Or-false.d) c.requires.known c.in-Or-false.ensures.found in
    let o = condition_over v.dims (Or x y) whole e c.requires.over in
    let l : c.in-Or-false.d < c.args.cond = f.1 in
    let k : c.args.cond < length c.args.core.now.conds = c.requires.known in
    let s : first.dims ≡ v.dims = dims-test x false v first c.in_ok-first-in-Or-false.ensures.value in
    let m = c.requires.small in
    (omega (arith, c.decreases), (omega (arith, s, m), (omega arith, over-tested x y false v first c.in_ok-first-in-Or-false.ensures.value o.1)))

pub join-requires : goal.join-requires
join-requires t c =
    let trees = conds_in c.args.core.now in
    let x = cond_at trees c.in-And-false.c in
    let y = cond_at trees c.in-And-false.d in
    dims-tested x y false false (octagon c.args.v.now) (octagon c.in_ok-first-in-And-false.first) (octagon c.in_ok-second-in-And-false.second) c.in_ok-first-in-And-false.ensures.value c.in_ok-second-in-And-false.ensures.value

pub join-requires-in-Or-true : goal.join-requires-in-Or-true
join-requires-in-Or-true t c =
    let trees = conds_in c.args.core.now in
    let x = cond_at trees c.in-Or-true.c in
    let y = cond_at trees c.in-Or-true.d in
    dims-tested x y true true (octagon c.args.v.now) (octagon c.in_ok-first-in-Or-true.first) (octagon c.in_ok-second-in-Or-true.second) c.in_ok-first-in-Or-true.ensures.value c.in_ok-second-in-Or-true.ensures.value

pub returns-in_ok-r-in-True-default-clause-value : goal.returns-in_ok-r-in-True-default-clause-value
returns-in_ok-r-in-True-default-clause-value t c =
    let trees = conds_in c.args.core.now in
    let whole = cond_at trees c.args.cond in
    let v = octagon c.args.v.now in
    let e : Constant true ≡ whole = found c.args.core.now c.law_numbers.ensures c.cond_at.ensures.known c.args.cond c.cond_at.result (cond.True) c.requires.known c.cond_at.ensures.found c.in-True-default.is-0 in
    constant-tested true c.args.wanted whole v (octagon c.in_ok-r-in-True-default.r) e c.in_ok-r-in-True-default.ensures.value

pub returns-in_ok-r-in-False-default-clause-value : goal.returns-in_ok-r-in-False-default-clause-value
returns-in_ok-r-in-False-default-clause-value t c =
    let trees = conds_in c.args.core.now in
    let whole = cond_at trees c.args.cond in
    let v = octagon c.args.v.now in
    let e : Constant false ≡ whole = found c.args.core.now c.law_numbers.ensures c.cond_at.ensures.known c.args.cond c.cond_at.result (cond.False) c.requires.known c.cond_at.ensures.found c.in-False-default.is-0 in
    constant-tested false c.args.wanted whole v (octagon c.in_ok-r-in-False-default.r) e c.in_ok-r-in-False-default.ensures.value

pub returns-in_ok-r-in-Random-default-clause-value : goal.returns-in_ok-r-in-Random-default-clause-value
returns-in_ok-r-in-Random-default-clause-value t c =
    let trees = conds_in c.args.core.now in
    let whole = cond_at trees c.args.cond in
    let v = octagon c.args.v.now in
    let e : Random ≡ whole = found c.args.core.now c.law_numbers.ensures c.cond_at.ensures.known c.args.cond c.cond_at.result (cond.Random) c.requires.known c.cond_at.ensures.found c.in-Random-default.is-0 in
    random-tested c.args.wanted whole v (octagon c.in_ok-r-in-Random-default.r) e (ap octagon c.in_ok-r-in-Random-default.ensures)

pub returns-in_ok-r-in-Not-default-clause-value : goal.returns-in_ok-r-in-Not-default-clause-value
returns-in_ok-r-in-Not-default-clause-value t c =
    let trees = conds_in c.args.core.now in
    let whole = cond_at trees c.args.cond in
    let v = octagon c.args.v.now in
    let x = cond_at trees c.in-Not-default.c in
    let e : Not x ≡ whole = found c.args.core.now c.law_numbers.ensures c.cond_at.ensures.known c.args.cond c.cond_at.result (cond.Not c.in-Not-default.c) c.requires.known c.cond_at.ensures.found c.in-Not-default.is-0 in
    not-tested c.args.wanted x whole v (octagon c.in_ok-r-in-Not-default.r) e c.in_ok-r-in-Not-default.ensures.value

pub returns-in_ok-r-in-And-true-clause-value : goal.returns-in_ok-r-in-And-true-clause-value
returns-in_ok-r-in-And-true-clause-value t c =
    let trees = conds_in c.args.core.now in
    let whole = cond_at trees c.args.cond in
    let v = octagon c.args.v.now in
    let x = cond_at trees c.in-And-true.c in
    let y = cond_at trees c.in-And-true.d in
    let e : And x y ≡ whole = found c.args.core.now c.law_numbers.ensures c.cond_at.ensures.known c.args.cond c.cond_at.result (cond.And c.in-And-true.c c.in-And-true.d) c.requires.known c.cond_at.ensures.found c.in-And-true.is-0 in
    and-true c.args.wanted x y whole v (octagon c.in_ok-first-in-And-true.first) (octagon c.in_ok-r-in-And-true.r) e c.in-And-true.is-1 c.in_ok-first-in-And-true.ensures.value c.in_ok-r-in-And-true.ensures.value

pub returns-in_ok-r-in-And-false-clause-value : goal.returns-in_ok-r-in-And-false-clause-value
returns-in_ok-r-in-And-false-clause-value t c =
    let trees = conds_in c.args.core.now in
    let whole = cond_at trees c.args.cond in
    let v = octagon c.args.v.now in
    let x = cond_at trees c.in-And-false.c in
    let y = cond_at trees c.in-And-false.d in
    let e : And x y ≡ whole = found c.args.core.now c.law_numbers.ensures c.cond_at.ensures.known c.args.cond c.cond_at.result (cond.And c.in-And-false.c c.in-And-false.d) c.requires.known c.cond_at.ensures.found c.in-And-false.is-0 in
    and-false c.args.wanted x y whole v (octagon c.in_ok-first-in-And-false.first) (octagon c.in_ok-second-in-And-false.second) (octagon c.in_ok-r-in-And-false.r) e c.in-And-false.is-1 c.in_ok-first-in-And-false.ensures.value c.in_ok-second-in-And-false.ensures.value c.in_ok-r-in-And-false.ensures.value

pub returns-in_ok-r-in-Or-true-clause-value : goal.returns-in_ok-r-in-Or-true-clause-value
returns-in_ok-r-in-Or-true-clause-value t c =
    let trees = conds_in c.args.core.now in
    let whole = cond_at trees c.args.cond in
    let v = octagon c.args.v.now in
    let x = cond_at trees c.in-Or-true.c in
    let y = cond_at trees c.in-Or-true.d in
    let e : Or x y ≡ whole = found c.args.core.now c.law_numbers.ensures c.cond_at.ensures.known c.args.cond c.cond_at.result (cond.Or c.in-Or-true.c c.in-Or-true.d) c.requires.known c.cond_at.ensures.found c.in-Or-true.is-0 in
    or-true c.args.wanted x y whole v (octagon c.in_ok-first-in-Or-true.first) (octagon c.in_ok-second-in-Or-true.second) (octagon c.in_ok-r-in-Or-true.r) e c.in-Or-true.is-1 c.in_ok-first-in-Or-true.ensures.value c.in_ok-second-in-Or-true.ensures.value c.in_ok-r-in-Or-true.ensures.value

pub returns-in_ok-r-in-Or-false-clause-value : goal.returns-in_ok-r-in-Or-false-clause-value
returns-in_ok-r-in-Or-false-clause-value t c =
    let trees = conds_in c.args.core.now in
    let whole = cond_at trees c.args.cond in
    let v = octagon c.args.v.now in
    let x = cond_at trees c.in-Or-false.c in
    let y = cond_at trees c.in-Or-false.d in
    let e : Or x y ≡ whole = found c.args.core.now c.law_numbers.ensures c.cond_at.ensures.known c.args.cond c.cond_at.result (cond.Or c.in-Or-false.c c.in-Or-false.d) c.requires.known c.cond_at.ensures.found c.in-Or-false.is-0 in
    or-false c.args.wanted x y whole v (octagon c.in_ok-first-in-Or-false.first) (octagon c.in_ok-r-in-Or-false.r) e c.in-Or-false.is-1 c.in_ok-first-in-Or-false.ensures.value c.in_ok-r-in-Or-false.ensures.value

pub returns-in_ok-r-in-Compare-default-clause-value : goal.returns-in_ok-r-in-Compare-default-clause-value
returns-in_ok-r-in-Compare-default-clause-value t c =
    let trees = conds_in c.args.core.now in
    let whole = cond_at trees c.args.cond in
    let v = octagon c.args.v.now in
    let exprs = exprs_in c.args.core.now in
    let a = expr_at exprs c.in-Compare-default.a in
    let b = expr_at exprs c.in-Compare-default.b in
    let e : Compare c.in-Compare-default.relation a b ≡ whole = found c.args.core.now c.law_numbers.ensures c.cond_at.ensures.known c.args.cond c.cond_at.result (cond.Compare c.in-Compare-default.relation c.in-Compare-default.a c.in-Compare-default.b) c.requires.known c.cond_at.ensures.found c.in-Compare-default.is-0 in
    compare-tested c.in-Compare-default.relation c.args.wanted a b whole v (octagon c.in_ok-r-in-Compare-default.r) e (c.in_ok-r-in-Compare-default.ensures.value ∙ (ap (λ k. compare_value k true a b v) c.asked.ensures ∙ compare-asked c.in-Compare-default.relation c.args.wanted a b v))

pub returns-in_ok-r-in-True-default-clause-marks : goal.returns-in_ok-r-in-True-default-clause-marks
returns-in_ok-r-in-True-default-clause-marks t c =
    let trees = conds_in c.args.core.now in
    let whole = cond_at trees c.args.cond in
    let e : Constant true ≡ whole = found c.args.core.now c.law_numbers.ensures c.cond_at.ensures.known c.args.cond c.cond_at.result (cond.True) c.requires.known c.cond_at.ensures.found c.in-True-default.is-0 in
    constant-marks true c.args.wanted whole c.args.v.now c.in_ok-r-in-True-default.r e c.in_ok-r-in-True-default.ensures.marks

pub returns-in_ok-r-in-False-default-clause-marks : goal.returns-in_ok-r-in-False-default-clause-marks
returns-in_ok-r-in-False-default-clause-marks t c =
    let trees = conds_in c.args.core.now in
    let whole = cond_at trees c.args.cond in
    let e : Constant false ≡ whole = found c.args.core.now c.law_numbers.ensures c.cond_at.ensures.known c.args.cond c.cond_at.result (cond.False) c.requires.known c.cond_at.ensures.found c.in-False-default.is-0 in
    constant-marks false c.args.wanted whole c.args.v.now c.in_ok-r-in-False-default.r e c.in_ok-r-in-False-default.ensures.marks

pub returns-in_ok-r-in-Random-default-clause-marks : goal.returns-in_ok-r-in-Random-default-clause-marks
returns-in_ok-r-in-Random-default-clause-marks t c =
    let trees = conds_in c.args.core.now in
    let whole = cond_at trees c.args.cond in
    let e : Random ≡ whole = found c.args.core.now c.law_numbers.ensures c.cond_at.ensures.known c.args.cond c.cond_at.result (cond.Random) c.requires.known c.cond_at.ensures.found c.in-Random-default.is-0 in
    random-marks c.args.wanted whole c.args.v.now c.in_ok-r-in-Random-default.r e c.in_ok-r-in-Random-default.ensures

pub returns-in_ok-r-in-Not-default-clause-marks : goal.returns-in_ok-r-in-Not-default-clause-marks
returns-in_ok-r-in-Not-default-clause-marks t c =
    let trees = conds_in c.args.core.now in
    let whole = cond_at trees c.args.cond in
    let x = cond_at trees c.in-Not-default.c in
    let e : Not x ≡ whole = found c.args.core.now c.law_numbers.ensures c.cond_at.ensures.known c.args.cond c.cond_at.result (cond.Not c.in-Not-default.c) c.requires.known c.cond_at.ensures.found c.in-Not-default.is-0 in
    not-marks c.args.wanted x whole c.args.v.now c.in_ok-r-in-Not-default.r e c.in_ok-r-in-Not-default.ensures.marks

pub returns-in_ok-r-in-And-true-clause-marks : goal.returns-in_ok-r-in-And-true-clause-marks
returns-in_ok-r-in-And-true-clause-marks t c =
    let trees = conds_in c.args.core.now in
    let whole = cond_at trees c.args.cond in
    let x = cond_at trees c.in-And-true.c in
    let y = cond_at trees c.in-And-true.d in
    let e : And x y ≡ whole = found c.args.core.now c.law_numbers.ensures c.cond_at.ensures.known c.args.cond c.cond_at.result (cond.And c.in-And-true.c c.in-And-true.d) c.requires.known c.cond_at.ensures.found c.in-And-true.is-0 in
    and-true-marks c.args.wanted x y whole c.args.v.now c.in_ok-first-in-And-true.first c.in_ok-r-in-And-true.r e c.in-And-true.is-1 c.known.ensures c.in_ok-first-in-And-true.ensures.marks c.in_ok-r-in-And-true.ensures.marks

pub returns-in_ok-r-in-And-false-clause-marks : goal.returns-in_ok-r-in-And-false-clause-marks
returns-in_ok-r-in-And-false-clause-marks t c =
    let trees = conds_in c.args.core.now in
    let whole = cond_at trees c.args.cond in
    let x = cond_at trees c.in-And-false.c in
    let y = cond_at trees c.in-And-false.d in
    let e : And x y ≡ whole = found c.args.core.now c.law_numbers.ensures c.cond_at.ensures.known c.args.cond c.cond_at.result (cond.And c.in-And-false.c c.in-And-false.d) c.requires.known c.cond_at.ensures.found c.in-And-false.is-0 in
    and-false-marks c.args.wanted x y whole c.args.v.now c.in_ok-first-in-And-false.first c.in_ok-second-in-And-false.second c.in_ok-r-in-And-false.r e c.in-And-false.is-1 c.in_ok-first-in-And-false.ensures.marks c.in_ok-second-in-And-false.ensures.marks
    (record { first = c.known-in-And-false.ensures; second = c.known-in-And-false-2.ensures; value = c.in_ok-r-in-And-false.ensures.value; marks = c.in_ok-r-in-And-false.ensures.marks })

pub returns-in_ok-r-in-Or-true-clause-marks : goal.returns-in_ok-r-in-Or-true-clause-marks
returns-in_ok-r-in-Or-true-clause-marks t c =
    let trees = conds_in c.args.core.now in
    let whole = cond_at trees c.args.cond in
    let x = cond_at trees c.in-Or-true.c in
    let y = cond_at trees c.in-Or-true.d in
    let e : Or x y ≡ whole = found c.args.core.now c.law_numbers.ensures c.cond_at.ensures.known c.args.cond c.cond_at.result (cond.Or c.in-Or-true.c c.in-Or-true.d) c.requires.known c.cond_at.ensures.found c.in-Or-true.is-0 in
    or-true-marks c.args.wanted x y whole c.args.v.now c.in_ok-first-in-Or-true.first c.in_ok-second-in-Or-true.second c.in_ok-r-in-Or-true.r e c.in-Or-true.is-1 c.in_ok-first-in-Or-true.ensures.marks c.in_ok-second-in-Or-true.ensures.marks
    (record { first = c.known-in-Or-true.ensures; second = c.known-in-Or-true-2.ensures; value = c.in_ok-r-in-Or-true.ensures.value; marks = c.in_ok-r-in-Or-true.ensures.marks })

pub returns-in_ok-r-in-Or-false-clause-marks : goal.returns-in_ok-r-in-Or-false-clause-marks
returns-in_ok-r-in-Or-false-clause-marks t c =
    let trees = conds_in c.args.core.now in
    let whole = cond_at trees c.args.cond in
    let x = cond_at trees c.in-Or-false.c in
    let y = cond_at trees c.in-Or-false.d in
    let e : Or x y ≡ whole = found c.args.core.now c.law_numbers.ensures c.cond_at.ensures.known c.args.cond c.cond_at.result (cond.Or c.in-Or-false.c c.in-Or-false.d) c.requires.known c.cond_at.ensures.found c.in-Or-false.is-0 in
    or-false-marks c.args.wanted x y whole c.args.v.now c.in_ok-first-in-Or-false.first c.in_ok-r-in-Or-false.r e c.in-Or-false.is-1 c.known-in-Or-false.ensures c.in_ok-first-in-Or-false.ensures.marks c.in_ok-r-in-Or-false.ensures.marks

pub returns-in_ok-r-in-Compare-default-clause-marks : goal.returns-in_ok-r-in-Compare-default-clause-marks
returns-in_ok-r-in-Compare-default-clause-marks t c =
    let trees = conds_in c.args.core.now in
    let whole = cond_at trees c.args.cond in
    let exprs = exprs_in c.args.core.now in
    let a = expr_at exprs c.in-Compare-default.a in
    let b = expr_at exprs c.in-Compare-default.b in
    let e : Compare c.in-Compare-default.relation a b ≡ whole = found c.args.core.now c.law_numbers.ensures c.cond_at.ensures.known c.args.cond c.cond_at.result (cond.Compare c.in-Compare-default.relation c.in-Compare-default.a c.in-Compare-default.b) c.requires.known c.cond_at.ensures.found c.in-Compare-default.is-0 in
    compare-marks c.in-Compare-default.relation c.args.wanted a b whole c.args.v.now c.in_ok-r-in-Compare-default.r e (asked-marks c.in-Compare-default.relation c.asked.result c.args.wanted a b c.args.v.now c.in_ok-r-in-Compare-default.r c.asked.ensures c.in_ok-r-in-Compare-default.ensures.marks)
