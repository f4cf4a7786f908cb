-- Integers within 128 bits.
use Rattle.std.specs.Prelude.{◌^◌, Bool, nat_lt, ℤ, pos, negsuc}

-- whether an integer is from -2^127 to 2^127 - 1
abbrev pub fits : ℤ → Bool
fits (pos n) = nat_lt n (2 ^ 127)
fits (negsuc n) = nat_lt n (2 ^ 127)
