use Rattle.std.proofs.Common.{sym, length, ◌∙◌}
use Rattle.std.specs.Prelude.{Vec, Option}
use Rattle.std.specs.declared.alloc.Global.{Global}
use Rattle.std.proofs.lemmas.List.{length-map}
use Rattle.interval_form.specs.declared.interval.Interval.{Interval}
use Rattle.conc_analysis.specs.Tables.{rows_in}
use Rattle.conc_analysis.proofs.Planning.{own_read, shared_read}
use Rattle.conc_analysis.proofs.reading.range_read.Goals as goal

pub returns-in-None : goal.returns-in-None
returns-in-None c = own_read c.args.threads.now (rows_in c.args.writes.now) c.args.t c.args.d c.args.ranges.now c.range_at-range.result (sym c.in-None.is ∙ c.shared.ensures) c.range_at-range.ensures

pub returns-in-Some : goal.returns-in-Some
returns-in-Some c =
    shared_read c.args.threads.now (rows_in c.args.writes.now) c.args.t c.args.d c.in-Some.v (length c.args.writes.now) c.args.ranges.now c.range_at-range.result c.with_others.result
    (sym c.in-Some.is ∙ c.shared.ensures) (sym (length-map c.args.writes.now (λ (r : Vec (Option Interval) Global). r.items))) c.range_at-range.ensures c.with_others.ensures
