-- The worked closures are computed.
use Rattle.std.proofs.Common.{refl, arith}
use Rattle.std.proofs.lemmas.Int.{ints}
use Rattle.oct_def.specs.Table.{table, at, some_index}
use Rattle.oct_def.specs.Tight.{path, long_path, pivot_entry, pair_entry, pair_step, pair_steps, closure, negative_cycle, has_negative_cycle, even_entry, evening, crossing, has_crossing, strong_entry, strengthening, tight_even, tight_closed, tight}
use Rattle.tight_laws.specs.Examples.{WorkedClosures}

pub worked_closures : WorkedClosures
unfolding table at some_index path long_path pivot_entry pair_entry pair_step pair_steps closure negative_cycle has_negative_cycle even_entry evening crossing has_crossing strong_entry strengthening tight_even tight_closed tight
worked_closures = record {
  of_half_integer = refl;
  of_one_state = refl;
  of_at_bound = refl;
  is_small = (omega (arith, ints), omega (arith, ints));
}
