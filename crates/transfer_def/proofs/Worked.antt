-- The worked values, computed.
use Rattle.std.proofs.Common.{refl}
use Rattle.oct_def.specs.Table.{table, at, some_index}
use Rattle.oct_def.specs.Octagon.{top_entry, top_matrix, top_value, bottom_value, join_value, join_matrix, join_entry, widen_value, widen_matrix, widen_entry, narrow_value, narrow_matrix, narrow_entry, least_matrix as joined_bounds, least_entry as joined_bound}
use Rattle.oct_def.specs.Tight.{path, long_path, pivot_entry, pair_entry, pair_step, pair_steps, closure, negative_cycle, has_negative_cycle, even_entry, evening, crossing, has_crossing, strong_entry, strengthening, tight_even, tight_closed, tight}
use Rattle.interval_form.specs.Interval.{negated, sum_of, difference_of, times, lesser, greater, least_product, greatest_product, product_of, range_of, ranges_of, range_at}
use Rattle.interval_form.specs.Form.{coefficient, form_of, value_up_to, form_value, has_term, has_terms, has_unbounded_term, has_unbounded_terms}
use Rattle.interval_form.specs.Linear.{no_terms, constant_form, unit_term, variable_form, settled, negated_term, negated_form, sum_term, sum_form, difference_term, difference_form, scaled_term, scaled_form, product_form, linear_form}
use Rattle.interval_form.specs.FormBounds.{signed_coefficient, signed_size, term_without, without, rest_bound, sum_bound, form_entry, form_matrix, form_bounds, least_entry, least_matrix, bounded}
use Rattle.transfer_def.specs.Dimensions.{extended_entry, extended, moved_variable, moved_dimension, moved_entry, moved}
use Rattle.transfer_def.specs.Assign.{extended_ranges, form_minus_new, new_minus_form, equated, assigned, assign_value}
use Rattle.transfer_def.specs.Test.{test_value, at_most_value, below_value, equal_value, different_value, restricted, difference_in, difference_and_one}
use Rattle.transfer_def.specs.Forget.{forgotten_entry, forgotten, forget_value}
use Rattle.transfer_def.specs.Move.{copy_value}
use Rattle.transfer_def.specs.Enter.{argument_dimension, input_entry, enter_entry, enter_matrix, enter_value}
use Rattle.transfer_def.specs.Back.{least_below, joined_variable, joined_dimension, brought_from, brought_in_row, brought_entry, brought, joined, back_value}
use Rattle.transfer_def.specs.Examples.{AssignExamples}
use Rattle.transfer_def.specs.TestExamples.{TestExamples, LatticeExamples}
use Rattle.transfer_def.specs.CallExamples.{CallExamples}

pub assignments : AssignExamples
unfolding test_value at_most_value below_value equal_value different_value restricted difference_in difference_and_one bottom_value join_value join_matrix join_entry assign_value assigned moved moved_entry moved_dimension moved_variable equated new_minus_form form_minus_new extended_ranges extended extended_entry bounded least_matrix least_entry form_bounds form_matrix form_entry sum_bound rest_bound without term_without signed_size signed_coefficient linear_form product_form scaled_form scaled_term difference_form difference_term sum_form sum_term negated_form negated_term settled variable_form unit_term constant_form no_terms has_unbounded_terms has_unbounded_term has_terms has_term form_value value_up_to form_of coefficient range_at ranges_of range_of product_of greatest_product least_product greater lesser times difference_of sum_of negated tight tight_closed tight_even strengthening strong_entry has_crossing crossing evening even_entry has_negative_cycle negative_cycle closure pair_steps pair_step pair_entry pivot_entry long_path path top_value top_matrix top_entry some_index at table forget_value forgotten forgotten_entry copy_value
assignments = record { constant = refl; sum = refl; difference = refl; limit = refl; greatest = refl; random = refl; copies = refl }

pub tests : TestExamples
unfolding test_value at_most_value below_value equal_value different_value restricted difference_in difference_and_one bottom_value join_value join_matrix join_entry assign_value assigned moved moved_entry moved_dimension moved_variable equated new_minus_form form_minus_new extended_ranges extended extended_entry bounded least_matrix least_entry form_bounds form_matrix form_entry sum_bound rest_bound without term_without signed_size signed_coefficient linear_form product_form scaled_form scaled_term difference_form difference_term sum_form sum_term negated_form negated_term settled variable_form unit_term constant_form no_terms has_unbounded_terms has_unbounded_term has_terms has_term form_value value_up_to form_of coefficient range_at ranges_of range_of product_of greatest_product least_product greater lesser times difference_of sum_of negated tight tight_closed tight_even strengthening strong_entry has_crossing crossing evening even_entry has_negative_cycle negative_cycle closure pair_steps pair_step pair_entry pivot_entry long_path path top_value top_matrix top_entry some_index at table
tests = record {
  constant_true = record { when_wanted = refl; when_unwanted = refl };
  constant_false = record { when_wanted = refl; when_unwanted = refl };
  random = record { when_wanted = refl; when_unwanted = refl };
  negation = record { when_wanted = refl; when_unwanted = refl };
  both = record { when_wanted = refl; when_unwanted = refl };
  one_of_two = record { when_wanted = refl; when_unwanted = refl };
  at_most = record { when_wanted = refl; when_unwanted = refl };
  below = record { when_wanted = refl; when_unwanted = refl };
  at_least = record { when_wanted = refl; when_unwanted = refl };
  above = record { when_wanted = refl; when_unwanted = refl };
  equal = record { when_wanted = refl; when_unwanted = refl };
  different = record { when_wanted = refl; when_unwanted = refl };
  of_top = refl;
}

pub lattice : LatticeExamples
unfolding bottom_value join_value join_matrix join_entry widen_value widen_matrix widen_entry narrow_value narrow_matrix narrow_entry at table
lattice = record {
  join = refl;
  join_bottom_left = refl;
  join_bottom_right = refl;
  widening_loses = refl;
  widening_keeps = refl;
  widening_bottom_left = refl;
  widening_bottom_right = refl;
  narrowing_takes = refl;
  narrowing_bottom_left = refl;
  narrowing_bottom_right = refl;
}

pub calls : CallExamples
unfolding bottom_value enter_value enter_matrix enter_entry input_entry argument_dimension back_value joined brought brought_entry brought_in_row brought_from joined_dimension joined_variable least_below extended extended_entry moved moved_entry moved_dimension moved_variable joined_bounds joined_bound top_entry tight tight_closed tight_even strengthening strong_entry has_crossing crossing evening even_entry has_negative_cycle negative_cycle closure pair_steps pair_step pair_entry pivot_entry long_path path some_index at table
calls = record {
  enters = refl;
  turned = refl;
  repeated = refl;
  enters_bottom = refl;
  backs = refl;
  backs_into_argument = refl;
  clashes = refl;
  caller_bottom = refl;
  exit_bottom = refl;
}
