use Rattle.std.proofs.Common.{◌≡◌, ◌<◌, length, true, false, arith}
use Rattle.spl_core.specs.declared.parts.CoreCond.TheVariants as cond
use Rattle.spl_core.specs.Condition.{Constant, Random, Not, And, Or, Compare}
use Rattle.spl_core.specs.Graph.{expr_at, exprs_in, cond_at, conds_in}
use Rattle.transfer_def.proofs.Conditions.{found, condition_fits, condition_over, over-tested, dims-tested, constant-tested, random-tested, not-tested, compare-tested, and-true, and-false, or-true, or-false}
use Rattle.full_oct.proofs.value.FullValue.+tested.Goals as goal

pub tested-requires-in-And-true-2 : goal.tested-requires-in-And-true-2
tested-requires-in-And-true-2 t c =
    let trees = conds_in c.args.core.now in
    let whole = cond_at trees c.args.cond in
    let v = c.args.self.now in
    let x = cond_at trees c.in-And-true.c in
    let y = cond_at trees c.in-And-true.d in
    let node = cond.And c.in-And-true.c c.in-And-true.d in
    let e : And x y ≡ whole = found c.args.core.now c.law_numbers.ensures c.cond_at.ensures.known c.args.cond c.cond_at.result node c.requires.known c.cond_at.ensures.found c.in-And-true.is-0 in
    let f = condition_fits c.args.core.now c.cond_at.ensures.known c.args.cond node c.requires.known c.in-And-true.ensures.found in
    let o = condition_over v.dims (And x y) whole e c.requires.over in
    let l : c.in-And-true.d < c.args.cond = f.1 in
    let k : c.args.cond < length c.args.core.now.conds = c.requires.known in
    (omega (arith, c.decreases), (omega arith, over-tested x y true v c.in_ok-first-in-And-true.first c.in_ok-first-in-And-true.ensures o.1))

pub tested-requires-in-Or-false-2 : goal.tested-requires-in-Or-false-2
tested-requires-in-Or-false-2 t c =
    let trees = conds_in c.args.core.now in
    let whole = cond_at trees c.args.cond in
    let v = c.args.self.now in
    let x = cond_at trees c.in-Or-false.c in
    let y = cond_at trees c.in-Or-false.d in
    let node = cond.Or c.in-Or-false.c c.in-Or-false.d in
    let e : Or x y ≡ whole = found c.args.core.now c.law_numbers.ensures c.cond_at.ensures.known c.args.cond c.cond_at.result node c.requires.known c.cond_at.ensures.found c.in-Or-false.is-0 in
    let f = condition_fits c.args.core.now c.cond_at.ensures.known c.args.cond node c.requires.known c.in-Or-false.ensures.found in
    let o = condition_over v.dims (Or x y) whole e c.requires.over in
    let l : c.in-Or-false.d < c.args.cond = f.1 in
    let k : c.args.cond < length c.args.core.now.conds = c.requires.known in
    (omega (arith, c.decreases), (omega arith, over-tested x y false v c.in_ok-first-in-Or-false.first c.in_ok-first-in-Or-false.ensures o.1))

pub returns-in_ok-v-in-True-default : goal.returns-in_ok-v-in-True-default
returns-in_ok-v-in-True-default t c =
    let trees = conds_in c.args.core.now in
    let whole = cond_at trees c.args.cond in
    let v = c.args.self.now in
    let e : Constant true ≡ whole = found c.args.core.now c.law_numbers.ensures c.cond_at.ensures.known c.args.cond c.cond_at.result (cond.True) c.requires.known c.cond_at.ensures.found c.in-True-default.is-0 in
    constant-tested true c.args.wanted whole v c.in_ok-v-in-True-default.v e c.in_ok-v-in-True-default.ensures

pub returns-in_ok-v-in-False-default : goal.returns-in_ok-v-in-False-default
returns-in_ok-v-in-False-default t c =
    let trees = conds_in c.args.core.now in
    let whole = cond_at trees c.args.cond in
    let v = c.args.self.now in
    let e : Constant false ≡ whole = found c.args.core.now c.law_numbers.ensures c.cond_at.ensures.known c.args.cond c.cond_at.result (cond.False) c.requires.known c.cond_at.ensures.found c.in-False-default.is-0 in
    constant-tested false c.args.wanted whole v c.in_ok-v-in-False-default.v e c.in_ok-v-in-False-default.ensures

pub returns-in_ok-v-in-Random-default : goal.returns-in_ok-v-in-Random-default
returns-in_ok-v-in-Random-default t c =
    let trees = conds_in c.args.core.now in
    let whole = cond_at trees c.args.cond in
    let v = c.args.self.now in
    let e : Random ≡ whole = found c.args.core.now c.law_numbers.ensures c.cond_at.ensures.known c.args.cond c.cond_at.result (cond.Random) c.requires.known c.cond_at.ensures.found c.in-Random-default.is-0 in
    random-tested c.args.wanted whole v c.in_ok-v-in-Random-default.v e c.in_ok-v-in-Random-default.ensures.same

pub returns-in_ok-v-in-Not-default : goal.returns-in_ok-v-in-Not-default
returns-in_ok-v-in-Not-default t c =
    let trees = conds_in c.args.core.now in
    let whole = cond_at trees c.args.cond in
    let v = c.args.self.now in
    let x = cond_at trees c.in-Not-default.c in
    let e : Not x ≡ whole = found c.args.core.now c.law_numbers.ensures c.cond_at.ensures.known c.args.cond c.cond_at.result (cond.Not c.in-Not-default.c) c.requires.known c.cond_at.ensures.found c.in-Not-default.is-0 in
    not-tested c.args.wanted x whole v c.in_ok-v-in-Not-default.v e c.in_ok-v-in-Not-default.ensures

pub returns-in_ok-v-in-And-true : goal.returns-in_ok-v-in-And-true
returns-in_ok-v-in-And-true t c =
    let trees = conds_in c.args.core.now in
    let whole = cond_at trees c.args.cond in
    let v = c.args.self.now in
    let x = cond_at trees c.in-And-true.c in
    let y = cond_at trees c.in-And-true.d in
    let e : And x y ≡ whole = found c.args.core.now c.law_numbers.ensures c.cond_at.ensures.known c.args.cond c.cond_at.result (cond.And c.in-And-true.c c.in-And-true.d) c.requires.known c.cond_at.ensures.found c.in-And-true.is-0 in
    and-true c.args.wanted x y whole v c.in_ok-first-in-And-true.first c.in_ok-v-in-And-true.v e c.in-And-true.is-1 c.in_ok-first-in-And-true.ensures c.in_ok-v-in-And-true.ensures

pub joined_with-requires : goal.joined_with-requires
joined_with-requires t c =
    let trees = conds_in c.args.core.now in
    let whole = cond_at trees c.args.cond in
    let v = c.args.self.now in
    let x = cond_at trees c.in-And-false.c in
    let y = cond_at trees c.in-And-false.d in
    record { dims = dims-tested x y false false v c.in_ok-first-in-And-false.first c.in_ok-second-in-And-false.second c.in_ok-first-in-And-false.ensures c.in_ok-second-in-And-false.ensures }

pub returns-in_ok-v-in-And-false : goal.returns-in_ok-v-in-And-false
returns-in_ok-v-in-And-false t c =
    let trees = conds_in c.args.core.now in
    let whole = cond_at trees c.args.cond in
    let v = c.args.self.now in
    let x = cond_at trees c.in-And-false.c in
    let y = cond_at trees c.in-And-false.d in
    let e : And x y ≡ whole = found c.args.core.now c.law_numbers.ensures c.cond_at.ensures.known c.args.cond c.cond_at.result (cond.And c.in-And-false.c c.in-And-false.d) c.requires.known c.cond_at.ensures.found c.in-And-false.is-0 in
    and-false c.args.wanted x y whole v c.in_ok-first-in-And-false.first c.in_ok-second-in-And-false.second c.in_ok-v-in-And-false.v e c.in-And-false.is-1 c.in_ok-first-in-And-false.ensures c.in_ok-second-in-And-false.ensures c.in_ok-v-in-And-false.ensures

pub joined_with-requires-in-Or-true : goal.joined_with-requires-in-Or-true
joined_with-requires-in-Or-true t c =
    let trees = conds_in c.args.core.now in
    let whole = cond_at trees c.args.cond in
    let v = c.args.self.now in
    let x = cond_at trees c.in-Or-true.c in
    let y = cond_at trees c.in-Or-true.d in
    record { dims = dims-tested x y true true v c.in_ok-first-in-Or-true.first c.in_ok-second-in-Or-true.second c.in_ok-first-in-Or-true.ensures c.in_ok-second-in-Or-true.ensures }

pub returns-in_ok-v-in-Or-true : goal.returns-in_ok-v-in-Or-true
returns-in_ok-v-in-Or-true t c =
    let trees = conds_in c.args.core.now in
    let whole = cond_at trees c.args.cond in
    let v = c.args.self.now in
    let x = cond_at trees c.in-Or-true.c in
    let y = cond_at trees c.in-Or-true.d in
    let e : Or x y ≡ whole = found c.args.core.now c.law_numbers.ensures c.cond_at.ensures.known c.args.cond c.cond_at.result (cond.Or c.in-Or-true.c c.in-Or-true.d) c.requires.known c.cond_at.ensures.found c.in-Or-true.is-0 in
    or-true c.args.wanted x y whole v c.in_ok-first-in-Or-true.first c.in_ok-second-in-Or-true.second c.in_ok-v-in-Or-true.v e c.in-Or-true.is-1 c.in_ok-first-in-Or-true.ensures c.in_ok-second-in-Or-true.ensures c.in_ok-v-in-Or-true.ensures

pub returns-in_ok-v-in-Or-false : goal.returns-in_ok-v-in-Or-false
returns-in_ok-v-in-Or-false t c =
    let trees = conds_in c.args.core.now in
    let whole = cond_at trees c.args.cond in
    let v = c.args.self.now in
    let x = cond_at trees c.in-Or-false.c in
    let y = cond_at trees c.in-Or-false.d in
    let e : Or x y ≡ whole = found c.args.core.now c.law_numbers.ensures c.cond_at.ensures.known c.args.cond c.cond_at.result (cond.Or c.in-Or-false.c c.in-Or-false.d) c.requires.known c.cond_at.ensures.found c.in-Or-false.is-0 in
    or-false c.args.wanted x y whole v c.in_ok-first-in-Or-false.first c.in_ok-v-in-Or-false.v e c.in-Or-false.is-1 c.in_ok-first-in-Or-false.ensures c.in_ok-v-in-Or-false.ensures

pub returns-in_ok-v-in-Compare-default : goal.returns-in_ok-v-in-Compare-default
returns-in_ok-v-in-Compare-default t c =
    let trees = conds_in c.args.core.now in
    let whole = cond_at trees c.args.cond in
    let v = c.args.self.now in
    let exprs = exprs_in c.args.core.now in
    let a = expr_at exprs c.in-Compare-default.a in
    let b = expr_at exprs c.in-Compare-default.b in
    let e : Compare c.in-Compare-default.relation a b ≡ whole = found c.args.core.now c.law_numbers.ensures c.cond_at.ensures.known c.args.cond c.cond_at.result (cond.Compare c.in-Compare-default.relation c.in-Compare-default.a c.in-Compare-default.b) c.requires.known c.cond_at.ensures.found c.in-Compare-default.is-0 in
    compare-tested c.in-Compare-default.relation c.args.wanted a b whole v c.in_ok-v-in-Compare-default.v e c.in_ok-v-in-Compare-default.ensures
