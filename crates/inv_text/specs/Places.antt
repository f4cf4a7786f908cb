-- The order of the places of bounds.
use Rattle.std.specs.Prelude.{ℕ, ◌+◌, ◌*◌, ◌/◌, Bool, nat_le, nat_lt, if◌then◌else◌, List, [], ◌∷◌}
use Rattle.oct_def.specs.Matrix.{opposite}
use Rattle.inv_text.specs.declared.bound.InvBound.{InvBound}

-- rows follow each other; no row has 2^32 columns
abbrev pub order_key : InvBound → ℕ
order_key b = b.row * 4294967296 + b.column

abbrev pub is_before : InvBound → InvBound → Bool
is_before a b = nat_lt (order_key a) (order_key b)

-- the bound at its place, or at the coherent one where only that is stored
unfoldable pub stored_bound : InvBound → InvBound
stored_bound b =
    if nat_le (b.column / 2) (b.row / 2) then b
    else record { row = opposite b.column; column = opposite b.row; word = b.word }

-- the bound among others that are in order of their places
abbrev pub put_in : InvBound → List InvBound → List InvBound
put_in b [] = b ∷ []
put_in b (x ∷ xs) = if is_before b x then b ∷ x ∷ xs else x ∷ put_in b xs
