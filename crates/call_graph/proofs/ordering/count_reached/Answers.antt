use Rattle.std.proofs.Common.{◌≡◌, ℕ, ◌||◌, Bool, true, false, inl, inr, eqb, get_or, ◌∙◌, arith}
use Rattle.std.proofs.lemmas.Bool.{or_left, or_right, or_from}
use Rattle.std.proofs.lemmas.Bool.Decides.{Decides-eqb, eqb_tells}
use Rattle.call_graph.proofs.Ranges.{count_yes, count_no}
use Rattle.call_graph.proofs.ordering.count_reached.Goals as goal
use Rattle.call_graph.proofs.ordering.count_reached.Goals.{then-q-p, then-q-p-via-then-q-p, then-q-p-via-else-q-p+then-row-q, else-q-p+else-row-q}

pub loop-q-preserved : goal.loop-q-preserved
loop-q-preserved c =
    let f : ℕ → Bool = λ q. eqb q c.args.p || get_or c.args.row.now q false in
    elim c.if-q-p.branch [
      | then-q-p w ↦
          let held : f c.loop-q.q ≡ true = elim w.then-q-p.branch [
            | then-q-p-via-then-q-p v ↦ or_left _ _ ((Decides-eqb c.loop-q.q c.args.p).1 v.if-q-p.true)
            | then-q-p-via-else-q-p+then-row-q v ↦ or_right _ _ v.if-row-q.true
          ] in
          (count_yes f c.loop-q.q c.loop-q.count c.if-q-p.count c.loop-q.invariant.0 held w.count-is, omega (arith, w.count-is, c.loop-q.invariant.1))
      | else-q-p+else-row-q w ↦
          let none : f c.loop-q.q ≡ false = or_from _ _ (elim (eqb_tells c.loop-q.q c.args.p) [ inl t ↦ absurd (w.if-q-p.false t.1) | inr t ↦ t.0 ]) w.if-row-q.false in
          (w.count-is ∙ count_no f c.loop-q.q c.loop-q.count c.loop-q.invariant.0 none, omega (arith, w.count-is, c.loop-q.invariant.1))
    ]
