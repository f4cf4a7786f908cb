-- The worked closures are computed.
use Rattle.std.proofs.Common.{refl}
use Rattle.oct_def.specs.Table.{table, at, some_index}
use Rattle.oct_def.specs.Tight.{path, long_path, pivot_entry, pair_entry, pair_step, pair_steps, closure, negative_cycle, has_negative_cycle, even_entry, evening, crossing, has_crossing, strong_entry, strengthening, tight_even, tight_closed, tight}
use Rattle.oct_def.specs.Examples.{WorkedClosures}

pub worked_closures : WorkedClosures
unfolding table at some_index path long_path pivot_entry pair_entry pair_step pair_steps closure negative_cycle has_negative_cycle even_entry evening crossing has_crossing strong_entry strengthening tight_even tight_closed tight
worked_closures = record {
  of_odd_bound = refl;
  of_two_sides = refl;
  of_two_ranges = refl;
  of_half_point = refl;
  of_crossed = refl;
  of_at_limit = refl;
  of_above_limit = refl;
  of_below_limit = refl;
}
