use Rattle.std.proofs.Common.{◌<◌, ◌++◌, ◌∷◌, [], length, map, get_or, ap, ◌∙◌}
use Rattle.control_points.specs.declared.built.Fail.{Fail}
use Rattle.report.specs.Report.{fail_text}
use Rattle.report.specs.Values.{value_in}
use Rattle.report.proofs.Steps.{one_more_item}
use Rattle.report.proofs.Noting.{line_is}
use Rattle.report.proofs.report.note_fails.Goals as goal

pub loop-fail-preserved : goal.loop-fail-preserved
loop-fail-preserved g c =
    let none : Fail = record { point = 0; offset = 0 } in
    let fail : Fail = get_or c.args.fails.now c.loop-fail.fail-index none in
    let within : fail.point < length c.args.values.now = c.requires.points c.loop-fail.fail-index none c.loop-fail-test.true in
    let line = line_is c.args.bytes.now g.D.Domain.meaning c.args.values.now fail c.index-values-fail.result c.is_bottom-unreachable.result c.in_ok-text.text.items within c.index-values-fail.is
    c.is_bottom-unreachable.ensures.bottom c.in_ok-text.ensures in
    record {
      closing = one_more_item (fail_text c.args.bytes.now (value_in (map g.D.Domain.meaning c.args.values.now))) c.args.fails.now c.loop-fail.fail-index none c.args.notes.now.closing
          c.loop-fail.notes.closing c.closing.new.self.closing c.loop-fail-test.true c.loop-fail.invariant.closing
          (c.in-Ok.ensures.added ∙ ap (λ x. c.loop-fail.notes.closing ++ x ∷ []) (c.deref.ensures.value ∙ line));
      points = c.in-Ok.ensures.points ∙ c.loop-fail.invariant.points;
    }
