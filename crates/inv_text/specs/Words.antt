-- Words of a text, which end at a space or at the end of a line.
use Rattle.std.specs.Prelude.{ℕ, suc, ◌^◌, ◌<◌, ◌≤◌, List, [], ◌∷◌, ℤ, pos, negsuc}

-- no byte of it is a space or the end of a line, or any other byte below
abbrev pub Plain : List ℕ → Type 0
Plain [] = Unit {0}
Plain (c ∷ cs) = (32 < c) × Plain cs

-- it begins with a space or the end of a line, or another byte below
abbrev pub Stops : List ℕ → Type 0
Stops [] = ⊥
Stops (c ∷ cs) = c ≤ 32

-- an integer of 63 bits
abbrev pub IsShort : ℤ → Type 0
IsShort (pos n) = n < 2 ^ 63
IsShort (negsuc n) = suc n < 2 ^ 63
