-- Names and numbers.
use Rattle.std.specs.Prelude.{ℕ, ◌+◌, ◌-◌, ◌*◌, List, drop, fold}
use Rattle.std.specs.List.{prefix_len}
use Rattle.spl_text.specs.Bytes.{is_digit, is_name_byte}

-- past the letters, digits and underscores of a name, as many as follow
abbrev pub past_name : List ℕ → ℕ → ℕ
past_name bytes at = at + prefix_len is_name_byte (drop at bytes)

-- past the digits of a number, as many as follow
abbrev pub past_digits : List ℕ → ℕ → ℕ
past_digits bytes at = at + prefix_len is_digit (drop at bytes)

-- the number that digits write, without limit; zeros may lead
abbrev pub value_of_digits : List ℕ → ℕ
value_of_digits digits = fold (λ value digit. 10 * value + (digit - 48)) 0 digits
