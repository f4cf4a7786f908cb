use Rattle.std.proofs.Common.{◌+◌, ◌-◌, length, ◌∙◌, arith}
use Rattle.inv_text.specs.Invariants.{matrix_in}
use Rattle.inv_text.specs.Reading.{lines_from}
use Rattle.inv_text.proofs.Lines.{lines_step, pushed_over, taken_more}
use Rattle.inv_text.proofs.reading.read_lines.Goals as goal

pub returns-in-Err-clause-found : goal.returns-in-Err-clause-found
returns-in-Err-clause-found c = λ whole is e.
    let left = c.loop-p.invariant.found whole is e in
    c.in-Err.ensures.found c.loop-p.p (matrix_in whole c.loop-p.p) (lines_from whole (c.loop-p.p + 1) (length c.args.dims.now - (c.loop-p.p + 1))) (omega arith)
    (is.values c.loop-p.p c.loop-p-test.true) (left.1 ∙ lines_step c.args.dims.now whole c.loop-p.p c.loop-p-test.true)

pub loop-p-preserved : goal.loop-p-preserved
loop-p-preserved c = record {
  over = pushed_over c.args.dims.now c.loop-p.p c.loop-p.x c.push.new.self c.in-Ok.value c.loop-p.invariant.over c.in-Ok.ensures.over c.in_ok-push-in-Ok.ensures.ok;
  found = λ whole is e.
      let left = c.loop-p.invariant.found whole is e in
      let both = c.in-Ok.ensures.found c.loop-p.p (matrix_in whole c.loop-p.p) (lines_from whole (c.loop-p.p + 1) (length c.args.dims.now - (c.loop-p.p + 1))) (omega arith)
      (is.values c.loop-p.p c.loop-p-test.true) (left.1 ∙ lines_step c.args.dims.now whole c.loop-p.p c.loop-p-test.true) in
      (taken_more whole c.loop-p.x c.push.new.self c.in-Ok.value c.loop-p.p (omega (arith, is.points)) left.0 both.0 c.in_ok-push-in-Ok.ensures.ok, both.1);
}
