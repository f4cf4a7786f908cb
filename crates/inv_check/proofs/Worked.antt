-- The worked invariants, computed.
use Rattle.std.proofs.Common.{◌≡◌, ℕ, zero, suc, ◌<◌, List, refl, sym, subst, arith, Some, None}
use Rattle.std.specs.Prelude.{pos}
use Rattle.std.proofs.lemmas.Bool.{false≢true}
use Rattle.oct_def.specs.Octagon.{Octagon, bottom_value, top_entry, top_matrix, top_value, tight_value, join_entry, join_matrix, join_value, least_entry, least_matrix, widen_entry, widen_matrix, widen_value, narrow_entry, narrow_matrix, narrow_value}
use Rattle.oct_def.specs.Table.{table, at, some_index}
use Rattle.oct_def.specs.Tight.{path, long_path, pivot_entry, pair_entry, pair_step, pair_steps, closure, negative_cycle, has_negative_cycle, even_entry, evening, crossing, has_crossing, strong_entry, strengthening, tight_even, tight_closed, tight}
use Rattle.interval_form.specs.Interval.{negated, sum_of, difference_of, times, lesser, greater, least_product, greatest_product, product_of, range_of, ranges_of, range_at}
use Rattle.interval_form.specs.Form.{coefficient, form_of, value_up_to, form_value, has_term, has_terms, has_unbounded_term, has_unbounded_terms}
use Rattle.interval_form.specs.Linear.{no_terms, constant_form, unit_term, variable_form, settled, negated_term, negated_form, sum_term, sum_form, difference_term, difference_form, scaled_term, scaled_form, product_form, linear_form}
use Rattle.interval_form.specs.FormBounds.{signed_coefficient, signed_size, term_without, without, rest_bound, sum_bound, form_entry, form_matrix, form_bounds, least_entry as form_least_entry, least_matrix as form_least_matrix, bounded}
use Rattle.transfer_def.specs.Dimensions.{extended_entry, extended, moved_variable, moved_dimension, moved_entry, moved}
use Rattle.transfer_def.specs.Assign.{extended_ranges, form_minus_new, new_minus_form, equated, assigned, assign_value}
use Rattle.transfer_def.specs.Forget.{forgotten_entry, forgotten, forget_value}
use Rattle.transfer_def.specs.Test.{difference_in, difference_and_one, restricted, at_most_value, below_value, equal_value, different_value, test_value}
use Rattle.transfer_def.specs.Move.{copy_value}
use Rattle.call_graph.specs.Reach.{calls_directly, reaches_below, reaches, reach_count}
use Rattle.call_graph.specs.Order.{points_of, procs_with, points_with, order, is_loop_head, is_entry, is_recursive_exit, is_cut}
use Rattle.equations.specs.Sources.{sources, reads_at, readers}
use Rattle.equations.specs.Equations.{equation}
use Rattle.oct_def.specs.Below.{IsBelow}
use Rattle.equations.specs.Equations.{value_in}
use Rattle.equations.specs.Inductive.{IsInductiveAt}
use Rattle.inv_check.specs.Examples.{counting, between, counted, too_sharp, brought_to, WorkedInvariants, InductiveExamples}
use Rattle.oct_def.proofs.Below.{below-same}

worked : WorkedInvariants
unfolding bottom_value top_entry top_matrix top_value tight_value join_entry join_matrix join_value least_entry least_matrix widen_entry widen_matrix widen_value narrow_entry narrow_matrix narrow_value table at some_index path long_path pivot_entry pair_entry pair_step pair_steps closure negative_cycle has_negative_cycle even_entry evening crossing has_crossing strong_entry strengthening tight_even tight_closed tight negated sum_of difference_of times lesser greater least_product greatest_product product_of range_of ranges_of range_at coefficient form_of value_up_to form_value has_term has_terms has_unbounded_term has_unbounded_terms no_terms constant_form unit_term variable_form settled negated_term negated_form sum_term sum_form difference_term difference_form scaled_term scaled_form product_form linear_form signed_coefficient signed_size term_without without rest_bound sum_bound form_entry form_matrix form_bounds form_least_entry form_least_matrix bounded extended_entry extended moved_variable moved_dimension moved_entry moved extended_ranges form_minus_new new_minus_form equated assigned assign_value forgotten_entry forgotten forget_value difference_in difference_and_one restricted at_most_value below_value equal_value different_value test_value copy_value calls_directly reaches_below reaches reach_count points_of procs_with points_with order is_loop_head is_entry is_recursive_exit is_cut sources reads_at readers equation
worked = record {
  at_entry = refl;
  before_assignment = refl;
  before_loop = refl;
  in_loop = refl;
  at_end = refl;
  after_loop = refl;
  sharp_entry = refl;
  sharp_assignment = refl;
  sharp_loop = refl;
}

-- F at a point is the point's own value
own : (values : List Octagon) (p : ℕ) (v : Octagon) → brought_to values p ≡ v → value_in values p ≡ v → IsInductiveAt counting (value_in values) p
own values p v e f = subst (λ (w : Octagon). IsBelow w (value_in values p)) (sym e) (subst (IsBelow v) (sym f) (below-same v.matrix))

each : (p : ℕ) → p < 6 → IsInductiveAt counting (value_in counted) p
each zero l = own counted 0 (between None None) worked.at_entry refl
each (suc zero) l = own counted 1 (between None None) worked.before_assignment refl
each (suc (suc zero)) l = own counted 2 (value_in counted 2) worked.before_loop refl
each (suc (suc (suc zero))) l = own counted 3 (value_in counted 3) worked.in_loop refl
each (suc (suc (suc (suc zero)))) l = own counted 4 (value_in counted 4) worked.at_end refl
each (suc (suc (suc (suc (suc zero))))) l = own counted 5 (value_in counted 5) worked.after_loop refl
each (suc (suc (suc (suc (suc (suc p)))))) l = absurd (omega arith)

before_two : (p : ℕ) → p < 2 → IsInductiveAt counting (value_in too_sharp) p
before_two zero l = own too_sharp 0 (between None None) worked.sharp_entry refl
before_two (suc zero) l = own too_sharp 1 (between None None) worked.sharp_assignment refl
before_two (suc (suc p)) l = absurd (omega arith)

-- 20 is above 18
too_high : IsBelow (between (Some (pos 0)) (Some (pos 20))) (between (Some (pos 0)) (Some (pos 18))) → ⊥
unfolding at
too_high h = false≢true (h.entries 1 0)

breaks : IsInductiveAt counting (value_in too_sharp) 2 → ⊥
breaks h = too_high (subst (λ (w : Octagon). IsBelow w (value_in too_sharp 2)) worked.sharp_loop h)

pub examples : InductiveExamples
examples = record {
  worked = worked;
  holds = record { below = λ p l. each p l };
  fails = record { point = omega arith; breaks = breaks; least = before_two };
}
