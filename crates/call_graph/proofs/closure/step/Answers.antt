use Rattle.std.proofs.Common.{◌≡◌, ℕ, sym, ap, ◌∙◌, arith, map, length, Bool, Vec, Global}
use Rattle.std.specs.List.{range_with_len}
use Rattle.std.proofs.lemmas.List.{length-map}
use Rattle.call_graph.specs.Steps.{row_over, step_bits}
use Rattle.call_graph.proofs.Closing.{row-is, row-length, rows-more}
use Rattle.call_graph.proofs.closure.step.Goals as goal

pub loop-p-preserved : goal.loop-p-preserved
loop-p-preserved c = rows-more c.args.rows.now c.loop-p.p c.args.k c.in_ok-row.row c.loop-p.out.items c.push.new.self.items c.loop-p.invariant c.in_ok-push.ensures.items
    (row-is c.args.rows.now c.loop-p.p c.args.k c.index-rows-p.result c.index-rows-k.result c.deref.result.now c.deref-in-loop-p.result.now c.in_ok-row.row.items c.requires.shape c.loop-p-test.true c.requires.pivot
    c.index-rows-p.is c.index-rows-k.is c.deref.ensures.value c.deref-in-loop-p.ensures.value c.in_ok-row.ensures)

pub row_over-requires-clause-same : goal.row_over-requires-clause-same
row_over-requires-clause-same c =
    row-length c.args.rows.now c.args.k c.index-rows-k.result c.deref-in-loop-p.result.now c.requires.shape c.requires.pivot c.index-rows-k.is c.deref-in-loop-p.ensures.value
    ∙ sym (row-length c.args.rows.now c.loop-p.p c.index-rows-p.result c.deref.result.now c.requires.shape c.loop-p-test.true c.index-rows-p.is c.deref.ensures.value)

pub row_over-requires-clause-within : goal.row_over-requires-clause-within
row_over-requires-clause-within c =
    omega (arith, c.requires.pivot, row-length c.args.rows.now c.loop-p.p c.index-rows-p.result c.deref.result.now c.requires.shape c.loop-p-test.true c.index-rows-p.is c.deref.ensures.value)

pub returns : goal.returns
unfolding step_bits
returns c =
    let e : c.loop-p.p ≡ length c.args.rows.now = omega arith in
    c.loop-p.invariant ∙ ap (λ (n : ℕ). map (row_over (map (λ (r : Vec Bool Global). r.items) c.args.rows.now) c.args.k) (range_with_len 0 n)) (e ∙ sym (length-map c.args.rows.now (λ (r : Vec Bool Global). r.items)))
