-- Worked closures of small entries, computed by the definitions, over one, two and three variables x, y and z.
use Rattle.std.specs.Prelude.{◌≡◌, [], ◌∷◌, Some, None, pos, negsuc}
use Rattle.oct_def.specs.Table.{Matrix}
use Rattle.oct_def.specs.Tight.{tight}
use Rattle.tight_laws.specs.Laws.{IsSmall}

-- 2x is 5: only an integer's parity is against it
abbrev pub half_integer : Matrix
half_integer =
    (Some (pos 0) ∷ Some (negsuc 4) ∷ []) ∷
    (Some (pos 5) ∷ Some (pos 0) ∷ []) ∷ []

-- x is y, x + y is at most 5 and x at least 2
abbrev pub one_state : Matrix
one_state =
    (Some (pos 0) ∷ Some (negsuc 3) ∷ Some (pos 0) ∷ None ∷ []) ∷
    (None ∷ Some (pos 0) ∷ Some (pos 5) ∷ Some (pos 0) ∷ []) ∷
    (Some (pos 0) ∷ None ∷ Some (pos 0) ∷ None ∷ []) ∷
    (Some (pos 5) ∷ Some (pos 0) ∷ None ∷ Some (pos 0) ∷ []) ∷ []

-- only x = y = 2 is left, and attains every bound
abbrev pub one_state_closed : Matrix
one_state_closed =
    (Some (pos 0) ∷ Some (negsuc 3) ∷ Some (pos 0) ∷ Some (negsuc 3) ∷ []) ∷
    (Some (pos 4) ∷ Some (pos 0) ∷ Some (pos 4) ∷ Some (pos 0) ∷ []) ∷
    (Some (pos 0) ∷ Some (negsuc 3) ∷ Some (pos 0) ∷ Some (negsuc 3) ∷ []) ∷
    (Some (pos 4) ∷ Some (pos 0) ∷ Some (pos 4) ∷ Some (pos 0) ∷ []) ∷ []

-- 2x, y - x and z - y are at most 2^57, which for three variables is the greatest small entry
abbrev pub at_bound : Matrix
at_bound =
    (Some (pos 0) ∷ None ∷ Some (pos 144115188075855872) ∷ None ∷ None ∷ None ∷ []) ∷
    (Some (pos 144115188075855872) ∷ Some (pos 0) ∷ None ∷ None ∷ None ∷ None ∷ []) ∷
    (None ∷ None ∷ Some (pos 0) ∷ None ∷ Some (pos 144115188075855872) ∷ None ∷ []) ∷
    (None ∷ Some (pos 144115188075855872) ∷ None ∷ Some (pos 0) ∷ None ∷ None ∷ []) ∷
    (None ∷ None ∷ None ∷ None ∷ Some (pos 0) ∷ None ∷ []) ∷
    (None ∷ None ∷ None ∷ Some (pos 144115188075855872) ∷ None ∷ Some (pos 0) ∷ []) ∷ []

-- then 2z is at most 5 * 2^57
abbrev pub at_bound_closed : Matrix
at_bound_closed =
    (Some (pos 0) ∷ None ∷ Some (pos 144115188075855872) ∷ None ∷ Some (pos 288230376151711744) ∷ None ∷ []) ∷
    (Some (pos 144115188075855872) ∷ Some (pos 0) ∷ Some (pos 288230376151711744) ∷ None ∷ Some (pos 432345564227567616) ∷ None ∷ []) ∷
    (None ∷ None ∷ Some (pos 0) ∷ None ∷ Some (pos 144115188075855872) ∷ None ∷ []) ∷
    (Some (pos 288230376151711744) ∷ Some (pos 144115188075855872) ∷ Some (pos 432345564227567616) ∷ Some (pos 0) ∷ Some (pos 576460752303423488) ∷ None ∷ []) ∷
    (None ∷ None ∷ None ∷ None ∷ Some (pos 0) ∷ None ∷ []) ∷
    (Some (pos 432345564227567616) ∷ Some (pos 288230376151711744) ∷ Some (pos 576460752303423488) ∷ Some (pos 144115188075855872) ∷ Some (pos 720575940379279360) ∷ Some (pos 0) ∷ []) ∷ []

-- what the definitions compute
pub record WorkedClosures : Type 0 where
  pub of_half_integer : tight half_integer ≡ None
  pub of_one_state : tight one_state ≡ Some one_state_closed
  pub of_at_bound : tight at_bound ≡ Some at_bound_closed
  pub is_small : IsSmall 3 (Some (pos 144115188075855872))
