use Rattle.quick_close.proofs.Passes.{in_range-small}
use Rattle.block_tests.proofs.quick.a_bound_on_the_last_variable_of_a_chain.Goals as goal

pub closed-requires : goal.closed-requires
closed-requires g c = record { in_range = in_range-small _ c.in_ok-changed.ensures.small }
