-- Worked closures, each a matrix over one or two variables x and y and its tight closure, computed by the definitions.
use Rattle.std.specs.Prelude.{◌≡◌, [], ◌∷◌, Some, None, pos, negsuc}
use Rattle.oct_def.specs.Table.{Matrix}
use Rattle.oct_def.specs.Tight.{tight}

-- 2x is at most 5
abbrev pub odd_bound : Matrix
odd_bound =
    (Some (pos 0) ∷ None ∷ []) ∷
    (Some (pos 5) ∷ Some (pos 0) ∷ []) ∷ []

-- x is at most 2
abbrev pub odd_bound_closed : Matrix
odd_bound_closed =
    (Some (pos 0) ∷ None ∷ []) ∷
    (Some (pos 4) ∷ Some (pos 0) ∷ []) ∷ []

-- x + y is at most 3 and x - y at most 2
abbrev pub two_sides : Matrix
two_sides =
    (Some (pos 0) ∷ None ∷ None ∷ None ∷ []) ∷
    (None ∷ Some (pos 0) ∷ Some (pos 3) ∷ Some (pos 2) ∷ []) ∷
    (Some (pos 2) ∷ None ∷ Some (pos 0) ∷ None ∷ []) ∷
    (Some (pos 3) ∷ None ∷ None ∷ Some (pos 0) ∷ []) ∷ []

-- then 2x is at most 5, and so x at most 2
abbrev pub two_sides_closed : Matrix
two_sides_closed =
    (Some (pos 0) ∷ None ∷ None ∷ None ∷ []) ∷
    (Some (pos 4) ∷ Some (pos 0) ∷ Some (pos 3) ∷ Some (pos 2) ∷ []) ∷
    (Some (pos 2) ∷ None ∷ Some (pos 0) ∷ None ∷ []) ∷
    (Some (pos 3) ∷ None ∷ None ∷ Some (pos 0) ∷ []) ∷ []

-- x is at most 2 and y at most 3
abbrev pub two_ranges : Matrix
two_ranges =
    (Some (pos 0) ∷ None ∷ None ∷ None ∷ []) ∷
    (Some (pos 4) ∷ Some (pos 0) ∷ None ∷ None ∷ []) ∷
    (None ∷ None ∷ Some (pos 0) ∷ None ∷ []) ∷
    (None ∷ None ∷ Some (pos 6) ∷ Some (pos 0) ∷ []) ∷ []

-- then x + y is at most 5
abbrev pub two_ranges_closed : Matrix
two_ranges_closed =
    (Some (pos 0) ∷ None ∷ None ∷ None ∷ []) ∷
    (Some (pos 4) ∷ Some (pos 0) ∷ Some (pos 5) ∷ None ∷ []) ∷
    (None ∷ None ∷ Some (pos 0) ∷ None ∷ []) ∷
    (Some (pos 5) ∷ None ∷ Some (pos 6) ∷ Some (pos 0) ∷ []) ∷ []

-- x + y is 1 and x - y is 0, so 2x is 1
abbrev pub half_point : Matrix
half_point =
    (Some (pos 0) ∷ None ∷ Some (pos 0) ∷ Some (negsuc 0) ∷ []) ∷
    (None ∷ Some (pos 0) ∷ Some (pos 1) ∷ Some (pos 0) ∷ []) ∷
    (Some (pos 0) ∷ Some (negsuc 0) ∷ Some (pos 0) ∷ None ∷ []) ∷
    (Some (pos 1) ∷ Some (pos 0) ∷ None ∷ Some (pos 0) ∷ []) ∷ []

-- x is at most 1 and at least 3
abbrev pub crossed : Matrix
crossed =
    (Some (pos 0) ∷ Some (negsuc 5) ∷ []) ∷
    (Some (pos 2) ∷ Some (pos 0) ∷ []) ∷ []

-- x - y and x + y are at most 2^60
abbrev pub at_limit : Matrix
at_limit =
    (Some (pos 0) ∷ None ∷ None ∷ None ∷ []) ∷
    (None ∷ Some (pos 0) ∷ Some (pos 1152921504606846976) ∷ Some (pos 1152921504606846976) ∷ []) ∷
    (Some (pos 1152921504606846976) ∷ None ∷ Some (pos 0) ∷ None ∷ []) ∷
    (Some (pos 1152921504606846976) ∷ None ∷ None ∷ Some (pos 0) ∷ []) ∷ []

-- then 2x is at most 2^61, which is a bound
abbrev pub at_limit_closed : Matrix
at_limit_closed =
    (Some (pos 0) ∷ None ∷ None ∷ None ∷ []) ∷
    (Some (pos 2305843009213693952) ∷ Some (pos 0) ∷ Some (pos 1152921504606846976) ∷ Some (pos 1152921504606846976) ∷ []) ∷
    (Some (pos 1152921504606846976) ∷ None ∷ Some (pos 0) ∷ None ∷ []) ∷
    (Some (pos 1152921504606846976) ∷ None ∷ None ∷ Some (pos 0) ∷ []) ∷ []

-- x - y is at most 2^60 and x + y at most 2^60 + 1
abbrev pub above_limit : Matrix
above_limit =
    (Some (pos 0) ∷ None ∷ None ∷ None ∷ []) ∷
    (None ∷ Some (pos 0) ∷ Some (pos 1152921504606846977) ∷ Some (pos 1152921504606846976) ∷ []) ∷
    (Some (pos 1152921504606846976) ∷ None ∷ Some (pos 0) ∷ None ∷ []) ∷
    (Some (pos 1152921504606846977) ∷ None ∷ None ∷ Some (pos 0) ∷ []) ∷ []

-- 2x would be at most 2^61 + 1, which is no bound
abbrev pub above_limit_closed : Matrix
above_limit_closed =
    (Some (pos 0) ∷ None ∷ None ∷ None ∷ []) ∷
    (None ∷ Some (pos 0) ∷ Some (pos 1152921504606846977) ∷ Some (pos 1152921504606846976) ∷ []) ∷
    (Some (pos 1152921504606846976) ∷ None ∷ Some (pos 0) ∷ None ∷ []) ∷
    (Some (pos 1152921504606846977) ∷ None ∷ None ∷ Some (pos 0) ∷ []) ∷ []

-- x - y and x + y are at most -2^60 - 1
abbrev pub below_limit : Matrix
below_limit =
    (Some (pos 0) ∷ None ∷ None ∷ None ∷ []) ∷
    (None ∷ Some (pos 0) ∷ Some (negsuc 1152921504606846976) ∷ Some (negsuc 1152921504606846976) ∷ []) ∷
    (Some (negsuc 1152921504606846976) ∷ None ∷ Some (pos 0) ∷ None ∷ []) ∷
    (Some (negsuc 1152921504606846976) ∷ None ∷ None ∷ Some (pos 0) ∷ []) ∷ []

-- 2x would be at most -2^61 - 2, and the bound is -2^61
abbrev pub below_limit_closed : Matrix
below_limit_closed =
    (Some (pos 0) ∷ None ∷ None ∷ None ∷ []) ∷
    (Some (negsuc 2305843009213693951) ∷ Some (pos 0) ∷ Some (negsuc 1152921504606846976) ∷ Some (negsuc 1152921504606846976) ∷ []) ∷
    (Some (negsuc 1152921504606846976) ∷ None ∷ Some (pos 0) ∷ None ∷ []) ∷
    (Some (negsuc 1152921504606846976) ∷ None ∷ None ∷ Some (pos 0) ∷ []) ∷ []

-- what the definitions compute
pub record WorkedClosures : Type 0 where
  pub of_odd_bound : tight odd_bound ≡ Some odd_bound_closed
  pub of_two_sides : tight two_sides ≡ Some two_sides_closed
  pub of_two_ranges : tight two_ranges ≡ Some two_ranges_closed
  pub of_half_point : tight half_point ≡ None
  pub of_crossed : tight crossed ≡ None
  pub of_at_limit : tight at_limit ≡ Some at_limit_closed
  pub of_above_limit : tight above_limit ≡ Some above_limit_closed
  pub of_below_limit : tight below_limit ≡ Some below_limit_closed
