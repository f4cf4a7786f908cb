-- The numbers that words write.
use Rattle.std.specs.Prelude.{◌≡◌, ℕ, ◌<◌, ◌≤◌, ◌^◌, ◌&&◌, true, Option, Some, None, length, if◌then◌else◌}
use Rattle.std.specs.Int.{is_in_range}
use Rattle.std.specs.Str.{all_ascii_digits}
use Rattle.std.specs.Str.Parse.{digits_value}
use Rattle.command_words.specs.Texts.{Text}

-- the number that a word writes in decimal digits alone, one to so many of them, where it lies between these two
abbrev pub number_of : (digits least greatest : ℕ) → Text → Option ℕ
number_of digits least greatest word =
    if all_ascii_digits word && is_in_range 1 digits (length word) && is_in_range least greatest (digits_value 10 word)
    then Some (digits_value 10 word) else None

-- the value is that of the word's decimal digits; there is none where the word is no such digits, or their value is too great for a u32
abbrev pub IsValueOf : Text → Option ℕ → Type 0
IsValueOf word (Some value) = (all_ascii_digits word ≡ true) × (0 < length word) × (value ≡ digits_value 10 word)
IsValueOf word None = all_ascii_digits word ≡ true → 0 < length word → 2 ^ 32 ≤ digits_value 10 word

-- how often to join, or how many rounds: one to four digits, at most 1000
abbrev pub rounds_of : Text → Option ℕ
rounds_of = number_of 4 0 1000

-- a generated program's number: one or two digits, 1 to 42
abbrev pub program_of : Text → Option ℕ
program_of = number_of 2 1 42
