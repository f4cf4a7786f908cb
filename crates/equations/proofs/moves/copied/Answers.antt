use Rattle.std.proofs.Common.{◌≡◌, ℕ, suc, ◌+◌, ◌*◌, ◌<◌, drop, get_or, length, sym, ap, subst, ◌∙◌, arith}
use Rattle.oct_def.specs.Octagon.{Octagon}
use Rattle.spl_core.specs.Parts.{span_dims}
use Rattle.spl_core.specs.Expression.{Variable}
use Rattle.spl_core.specs.Graph.{pairs_in}
use Rattle.spl_runs.proofs.Spans.{span_at, span_length}
use Rattle.transfer_def.specs.Assign.{assign_value}
use Rattle.transfer_def.specs.Move.{copy_value}
use Rattle.equations.proofs.Copies.{copies_more, copies_end, pairs_at, dims-assigned}
use Rattle.equations.proofs.moves.copied.Goals as goal

pub copy-requires-clause-target : goal.copy-requires-clause-target
copy-requires-clause-target g c =
    let m = g.D.Domain.meaning in
    let s = c.args.core.now in
    let k : ℕ = c.loop-k.k in
    let l : length (span_dims s c.args.pairs) ≡ c.args.pairs.count = span_length s c.args.pairs c.requires.within in
    let r = pairs_at (m c.args.v.now).dims (span_dims s c.args.pairs) k (omega arith) c.requires.over in
    let a : get_or (span_dims s c.args.pairs) (2 * k) 0 ≡ c.span_item-target.result = span_at s c.args.pairs (2 * k) (omega arith) ∙ sym c.span_item-target.ensures.found in
    subst (λ (t : ℕ). t < (m c.loop-k.value).dims) a (subst (λ (n : ℕ). get_or (span_dims s c.args.pairs) (2 * k) 0 < n) (sym c.loop-k.invariant.1) r.0)

pub copy-requires-clause-origin : goal.copy-requires-clause-origin
copy-requires-clause-origin g c =
    let m = g.D.Domain.meaning in
    let s = c.args.core.now in
    let k : ℕ = c.loop-k.k in
    let l : length (span_dims s c.args.pairs) ≡ c.args.pairs.count = span_length s c.args.pairs c.requires.within in
    let r = pairs_at (m c.args.v.now).dims (span_dims s c.args.pairs) k (omega arith) c.requires.over in
    let b : get_or (span_dims s c.args.pairs) (2 * k + 1) 0 ≡ c.span_item-origin.result = span_at s c.args.pairs (2 * k + 1) (omega arith) ∙ sym c.span_item-origin.ensures.found in
    subst (λ (t : ℕ). t < (m c.loop-k.value).dims) b (subst (λ (n : ℕ). get_or (span_dims s c.args.pairs) (2 * k + 1) 0 < n) (sym c.loop-k.invariant.1) r.1)

pub loop-k-preserved : goal.loop-k-preserved
loop-k-preserved g c =
    let m = g.D.Domain.meaning in
    let s = c.args.core.now in
    let k : ℕ = c.loop-k.k in
    let old : Octagon = m c.loop-k.value in
    let new : Octagon = m c.in_ok-value-2.value in
    let l : length (span_dims s c.args.pairs) ≡ c.args.pairs.count = span_length s c.args.pairs c.requires.within in
    let a : get_or (span_dims s c.args.pairs) (2 * k) 0 ≡ c.span_item-target.result = span_at s c.args.pairs (2 * k) (omega arith) ∙ sym c.span_item-target.ensures.found in
    let b : get_or (span_dims s c.args.pairs) (2 * k + 1) 0 ≡ c.span_item-origin.result = span_at s c.args.pairs (2 * k + 1) (omega arith) ∙ sym c.span_item-origin.ensures.found in
    let e : new ≡ assign_value (get_or (span_dims s c.args.pairs) (2 * k) 0) (Variable (get_or (span_dims s c.args.pairs) (2 * k + 1) 0)) old =
    c.in_ok-value-2.ensures.value ∙ ap (λ (t : ℕ). assign_value t (Variable c.span_item-origin.result) old) (sym a)
    ∙ ap (λ (o : ℕ). assign_value (get_or (span_dims s c.args.pairs) (2 * k) 0) (Variable o) old) (sym b) in
    let i : suc k ≡ k + 1 = omega arith in (
      sym (copies_more old new (span_dims s c.args.pairs) k (omega arith) e ∙ ap (λ (n : ℕ). copy_value (pairs_in (drop (2 * n) (span_dims s c.args.pairs))) new) i) ∙ c.loop-k.invariant.0,
      ap (λ (v : Octagon). v.dims) e ∙ dims-assigned (get_or (span_dims s c.args.pairs) (2 * k) 0) (Variable (get_or (span_dims s c.args.pairs) (2 * k + 1) 0)) old ∙ c.loop-k.invariant.1,
      omega (arith, c.loop-k.invariant.2, c.in_ok-value-2.ensures.work),
    )

pub returns-clause-value : goal.returns-clause-value
returns-clause-value g c =
    let s = c.args.core.now in
    let l : length (span_dims s c.args.pairs) ≡ c.args.pairs.count = span_length s c.args.pairs c.requires.within in
    sym (copies_end (g.D.Domain.meaning c.loop-k.value) (span_dims s c.args.pairs) c.loop-k.k (omega arith)) ∙ c.loop-k.invariant.0
