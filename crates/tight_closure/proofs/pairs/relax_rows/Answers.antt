use Rattle.std.proofs.Common.{◌≡◌, ℕ, ◌*◌, ◌+◌, ◌<◌, length, refl, ap, ◌∙◌, subst, arith, rules, FitsSigned}
use Rattle.std.specs.Int.{w64}
use Rattle.oct_def.specs.Bound.{bound_of}
use Rattle.minplus_lanes.proofs.Rows.{word_again, again}
use Rattle.std.proofs.lemmas.Int.{to_z-of_z}
use Rattle.oct_def.specs.Matrix.{opposite}
use Rattle.oct_def.specs.Tight.{pair_entry}
use Rattle.tight_closure.proofs.Rows.{RowsDone, no_rows}
use Rattle.tight_closure.proofs.Steps.{word_at, weight_from, row_words, row_word, stepped_more, all_stepped}
use Rattle.tight_closure.proofs.pairs.relax_rows.Goals as goal

pub loop-i-init : goal.loop-i-init
loop-i-init c = record { done = no_rows (pair_entry c.args.k c.args.m.now) c.args.m.now; counted = omega (arith, c.rows.ensures.small) }

pub weight-b-requires-clause-first : goal.weight-b-requires-clause-first
weight-b-requires-clause-first c = word_again _ (row_word c.args.m.now _ c.args.p.now c.opposite-o.result c.requires.in_range c.requires.first (omega arith))

pub weight-b-requires-clause-second : goal.weight-b-requires-clause-second
weight-b-requires-clause-second c = word_again _ (row_word c.args.m.now _ c.args.q.now c.opposite-o.result c.requires.in_range c.requires.second (omega arith))

pub weight-b-requires-clause-third : goal.weight-b-requires-clause-third
weight-b-requires-clause-third c = word_again _ (row_word c.args.m.now _ c.args.p.now (2 * c.args.k + 1) c.requires.in_range c.requires.first (omega arith))

pub relax_row-requires-clause-first_words : goal.relax_row-requires-clause-first_words
relax_row-requires-clause-first_words c = row_words c.args.m.now _ c.args.p.now c.requires.in_range c.requires.first

pub relax_row-requires-clause-second_words : goal.relax_row-requires-clause-second_words
relax_row-requires-clause-second_words c = row_words c.args.m.now _ c.args.q.now c.requires.in_range c.requires.second

pub loop-i-preserved : goal.loop-i-preserved
loop-i-preserved c =
    let m = c.args.m.now in
    let k = c.args.k in
    let n = c.vars-size.result in
    let i = c.loop-i.i in
    let o = c.opposite-o.result in
    let p = c.args.p.now in
    let q = c.args.q.now in
    let e : length m ≡ 2 * n = omega arith in
    let lo : o < length m = omega arith in
    let xa = again _ (row_word m _ q o c.requires.in_range c.requires.second lo) in
    let ya = again _ (row_word m _ p o c.requires.in_range c.requires.first lo) in
    let za = again _ (row_word m _ q (2 * k) c.requires.in_range c.requires.second (omega arith)) in
    let zb = again _ (row_word m _ p (2 * k + 1) c.requires.in_range c.requires.first (omega arith)) in
    let fp = word_at m (2 * k) p o (opposite i) c.requires.first lo c.opposite-o.ensures in
    let fq = word_at m (2 * k + 1) q o (opposite i) c.requires.second lo c.opposite-o.ensures in
    let fpq = word_at m (2 * k) p (2 * k + 1) (2 * k + 1) c.requires.first (omega arith) refl in
    let fqp = word_at m (2 * k + 1) q (2 * k) (2 * k) c.requires.second (omega arith) refl in
    let fa : FitsSigned w64 c.weight-a.result = search rules in
    let fb : FitsSigned w64 c.weight-b.result = search rules in
    record {
      done = stepped_more n k i m c.loop-i.m c.row_mut.result.now c.relax_row.new.dst p q _ _ e c.shape.ensures.coherent (omega arith) (omega arith)
          c.loop-i.invariant.done c.requires.first c.requires.second c.row_mut.ensures.length c.relax_row.ensures.length c.row_mut.ensures.words
          (ap bound_of (to_z-of_z w64 c.weight-a.result fa) ∙ c.weight-a.ensures.bound ∙ weight_from _ _ _ _ _ _ _ _ _ xa ya za fq fp fqp)
          (ap bound_of (to_z-of_z w64 c.weight-b.result fb) ∙ c.weight-b.ensures.bound ∙ weight_from _ _ _ _ _ _ _ _ _ ya xa zb fp fq fpq)
          c.relax_row.ensures.relaxed;
      counted = omega (arith, c.relax_row.ensures.count, c.loop-i.invariant.counted);
    }

pub returns-clause-step : goal.returns-clause-step
returns-clause-step c =
    let m = c.args.m.now in
    let n = c.vars-size.result in
    let e : length m ≡ 2 * n = omega arith in
    let all : c.loop-i.i ≡ 2 * n = omega arith in
    all_stepped n c.args.k m c.loop-i.m e c.shape.ensures.coherent c.shape-2.ensures.square c.shape-2.ensures.coherent (omega arith) (subst (λ (t : ℕ). RowsDone (pair_entry c.args.k m) m t c.loop-i.m) all c.loop-i.invariant.done)
