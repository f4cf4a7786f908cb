-- A value where a form is at most 0.
use Rattle.std.specs.Prelude.{List, Option}
use Rattle.std.specs.Option.{option_and_then}
use Rattle.oct_def.specs.Tight.{tight}
use Rattle.oct_def.specs.Table.{Matrix}
use Rattle.oct_def.specs.Octagon.{Octagon, on_matrix}
use Rattle.interval_form.specs.declared.interval.Interval.{Interval}
use Rattle.interval_form.specs.Form.{Form}
use Rattle.interval_form.specs.FormBounds.{bounded}

abbrev pub restricted_by : List Interval → Form → Matrix → Option Matrix
restricted_by ranges f m = option_and_then tight (bounded ranges f m)

abbrev pub restricted_value : List Interval → Form → Octagon → Octagon
restricted_value ranges f v = on_matrix (restricted_by ranges f) v
