use Rattle.std.proofs.Common.{◌≡◌, ◌*◌, ◌+◌, ◌<◌, length, refl, ap, ◌∙◌, subst, arith, rules, FitsSigned}
use Rattle.std.specs.Prelude.{ℕ}
use Rattle.std.specs.Int.{w64}
use Rattle.std.proofs.lemmas.Int.{to_z-of_z}
use Rattle.oct_def.specs.Bound.{bound_of}
use Rattle.oct_def.specs.Matrix.{opposite}
use Rattle.oct_def.specs.Tight.{pair_entry}
use Rattle.tight_closure.proofs.Steps.{weight_from, all_stepped}
use Rattle.tight_closure.proofs.Rows.{RowsDone}
use Rattle.tight_closure.proofs.Lowered.{small_again, passed_low, low_bound_at, low_more}
use Rattle.tight_closure.proofs.small.relax_small_rows.Goals as goal

pub near_word-iq-requires : goal.near_word-iq-requires
near_word-iq-requires c = passed_low _ (c.requires.first.low.words c.opposite-o.result (omega (arith, c.requires.first.size)))

pub loop-i-preserved : goal.loop-i-preserved
loop-i-preserved c =
    let m = c.args.m.now in
    let k = c.args.k in
    let n = c.vars-size.result in
    let i = c.loop-i.i in
    let o = c.opposite-o.result in
    let p = c.args.p.now in
    let q = c.args.q.now in
    let e : length m ≡ 2 * n = omega arith in
    let lo : o < length m = omega arith in
    let fp = low_bound_at m (2 * k) p o (opposite i) c.near_word-iq.result c.requires.first lo c.opposite-o.ensures c.near_word-iq.ensures.bound in
    let fq = low_bound_at m (2 * k + 1) q o (opposite i) c.near_word-ip.result c.requires.second lo c.opposite-o.ensures c.near_word-ip.ensures.bound in
    let fpq = low_bound_at m (2 * k) p (2 * k + 1) (2 * k + 1) c.near_word-pq.result c.requires.first (omega arith) refl c.near_word-pq.ensures.bound in
    let fqp = low_bound_at m (2 * k + 1) q (2 * k) (2 * k) c.near_word-qp.result c.requires.second (omega arith) refl c.near_word-qp.ensures.bound in
    let xa = small_again c.near_word-ip.result c.near_word-ip.ensures.small in
    let ya = small_again c.near_word-iq.result c.near_word-iq.ensures.small in
    let za = small_again c.near_word-qp.result c.near_word-qp.ensures.small in
    let zb = small_again c.near_word-pq.result c.near_word-pq.ensures.small in
    let fa : FitsSigned w64 c.small_weight-a.result = search rules in
    let fb : FitsSigned w64 c.small_weight-b.result = search rules in
    record {
      done = low_more n k i m c.loop-i.m c.row_mut.result.now c.relax_small_row.new.dst p q _ _ e c.shape.ensures.coherent (omega arith) (omega arith)
          c.loop-i.invariant.done c.requires.first c.requires.second c.row_mut.ensures.length c.relax_small_row.ensures.length c.row_mut.ensures.words
          (ap bound_of (to_z-of_z w64 c.small_weight-a.result fa) ∙ c.small_weight-a.ensures.bound ∙ weight_from _ _ _ _ _ _ _ _ _ xa ya za fq fp fqp)
          (ap bound_of (to_z-of_z w64 c.small_weight-b.result fb) ∙ c.small_weight-b.ensures.bound ∙ weight_from _ _ _ _ _ _ _ _ _ ya xa zb fp fq fpq)
          c.relax_small_row.ensures.relaxed;
      counted = omega (arith, c.relax_small_row.ensures.count, c.loop-i.invariant.counted);
    }

pub returns-clause-step : goal.returns-clause-step
returns-clause-step c =
    let m = c.args.m.now in
    let n = c.vars-size.result in
    let all : c.loop-i.i ≡ 2 * n = omega arith in
    all_stepped n c.args.k m c.loop-i.m (omega arith) c.shape.ensures.coherent c.shape-2.ensures.square c.shape-2.ensures.coherent (omega arith) (subst (λ (t : ℕ). RowsDone (pair_entry c.args.k m) m t c.loop-i.m) all c.loop-i.invariant.done)
