-- Bounds: an integer from -2^61 to 2^61, or none. None is above every integer.
use Rattle.std.specs.Prelude.{◌≡◌, ◌⊎◌, ◌/◌, Bool, true, false, Option, Some, None, ℤ, pos, negsuc, ◌+ℤ◌, ◌≤ℤ◌, int_lt, int_le, if◌then◌else◌}
use Rattle.std.specs.Int.{int_min, int_max}
use Rattle.std.specs.Ordering.{int_eq}

-- a bound; None is no bound
abbrev pub Bound : Type 0
Bound = Option ℤ

-- the greatest and the least integer that a bound may be
abbrev pub top_limit : ℤ
top_limit = pos 2305843009213693952

abbrev pub low_limit : ℤ
low_limit = negsuc 2305843009213693951

-- outward into the limits: none above the greatest, the least below the least
abbrev pub clamp : ℤ → Bound
clamp x = if int_lt top_limit x then None else (if int_lt x low_limit then Some low_limit else Some x)

-- a sum, not yet clamped; a sum with none is none
abbrev pub plus : Bound → Bound → Bound
plus None b = None
plus (Some x) None = None
plus (Some x) (Some y) = Some (x +ℤ y)

-- a sum, clamped
abbrev pub clamped : Bound → Bound
clamped None = None
clamped (Some x) = clamp x

-- the lesser and the greater of two bounds
abbrev pub least : Bound → Bound → Bound
least None b = b
least (Some x) None = Some x
least (Some x) (Some y) = Some (int_min x y)

abbrev pub greatest : Bound → Bound → Bound
greatest None b = None
greatest (Some x) None = None
greatest (Some x) (Some y) = Some (int_max x y)

-- the first bound isn't above the second
abbrev pub at_most : Bound → Bound → Bool
at_most a None = true
at_most None (Some y) = false
at_most (Some x) (Some y) = int_le x y

-- a bound below 0
abbrev pub is_negative : Bound → Bool
is_negative None = false
is_negative (Some x) = int_lt x (pos 0)

-- half of an integer, rounded down: that of -(n + 1) is -(n / 2 + 1)
abbrev pub floor_half : ℤ → ℤ
floor_half (pos n) = pos (n / 2)
floor_half (negsuc n) = negsuc (n / 2)

-- half of a bound, rounded down
abbrev pub half : Bound → Bound
half None = None
half (Some x) = Some (floor_half x)

-- twice the half of a bound: the greatest even bound that isn't above it
abbrev pub evened : Bound → Bound
evened b = plus (half b) (half b)

-- an even bound
abbrev pub IsEven : Bound → Type 0
IsEven b = evened b ≡ b

-- an integer is within a bound
abbrev pub Within : ℤ → Bound → Type 0
Within x None = Unit {0}
Within x (Some y) = x ≤ℤ y

-- a bound between the limits
abbrev pub InRange : Bound → Type 0
InRange None = Unit {0}
InRange (Some x) = (low_limit ≤ℤ x) × (x ≤ℤ top_limit)

-- the word that stands for none in the code
abbrev pub none_word : ℤ
none_word = pos 9223372036854775807

-- the bound that a word of the code stands for, and the word of a bound
abbrev pub bound_of : ℤ → Bound
bound_of w = if int_eq w none_word then None else Some w

abbrev pub word_of : Bound → ℤ
word_of None = none_word
word_of (Some x) = x

-- a word of the code that is the word of a bound between the limits
abbrev pub IsWord : ℤ → Type 0
IsWord w = (w ≡ none_word) ⊎ ((low_limit ≤ℤ w) × (w ≤ℤ top_limit))
