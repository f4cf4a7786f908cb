-- Two bounds that a matrix over two variables takes one after the other.
use Rattle.std.proofs.Common.{◌≡◌, List, [], ◌∷◌, ◌++◌, Option, Some, refl, sym, ap, ◌∙◌, subst, arith}
use Rattle.std.specs.Prelude.{pos, negsuc, IsSomeAnd}
use Rattle.std.proofs.lemmas.Int.{ints}
use Rattle.oct_def.specs.Table.{Matrix, table, at}
use Rattle.oct_def.specs.Octagon.{top_entry, top_matrix}
use Rattle.placed_bounds.specs.Bounded.{bounded_entry, bounded_matrix}
use Rattle.inv_text.specs.declared.bound.InvBound.{InvBound}
use Rattle.inv_text.specs.Given.{TakesBound, with_bound, last_in, with_last_bound}

abbrev pub upper : InvBound
upper = record { row = 3; column = 0; word = pos 6 }

abbrev pub lower : InvBound
lower = record { row = 0; column = 2; word = negsuc 2 }

first : TakesBound (top_matrix 2) upper
unfolding top_matrix top_entry table at
first = record {
  row = omega arith;
  column = omega arith;
  off_diagonal = λ e. omega (arith, e);
  free = refl;
  in_range = (omega (arith, ints), omega (arith, ints));
  even = λ e. absurd (omega (arith, e));
}

second : TakesBound (with_bound (top_matrix 2) upper) lower
unfolding bounded_matrix bounded_entry top_matrix top_entry table at
second = record {
  row = omega arith;
  column = omega arith;
  off_diagonal = λ e. omega (arith, e);
  free = refl;
  in_range = (omega (arith, ints), omega (arith, ints));
  even = λ e. absurd (omega (arith, e));
}

pub takes_upper : (x y : List (Option Matrix)) → x ≡ [] → y ≡ x ++ Some (top_matrix 2) ∷ [] → IsSomeAnd (last_in y) (λ m. TakesBound m upper)
takes_upper x y e f = subst (λ (z : List (Option Matrix)). IsSomeAnd (last_in z) (λ m. TakesBound m upper)) (sym (f ∙ ap (λ (z : List (Option Matrix)). z ++ Some (top_matrix 2) ∷ []) e)) first

pub takes_lower : (x y z : List (Option Matrix)) → x ≡ [] → y ≡ x ++ Some (top_matrix 2) ∷ [] → z ≡ with_last_bound y upper → IsSomeAnd (last_in z) (λ m. TakesBound m lower)
takes_lower x y z e f h =
    subst (λ (w : List (Option Matrix)). IsSomeAnd (last_in w) (λ m. TakesBound m lower))
    (sym (h ∙ ap (λ (w : List (Option Matrix)). with_last_bound w upper) (f ∙ ap (λ (w : List (Option Matrix)). w ++ Some (top_matrix 2) ∷ []) e))) second
