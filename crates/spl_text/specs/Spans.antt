-- What the tokens of a text are, by their spans.
use Rattle.std.specs.Prelude.{◌≡◌, ℕ, ◌^◌, ◌<◌, ◌≤◌, true, List, length, All, None, slice_index}
use Rattle.std.specs.List.{list_all, slice_range}
use Rattle.spl_text.specs.Bytes.{is_letter, is_digit, is_name_byte}
use Rattle.spl_text.specs.Words.{value_of_digits}
use Rattle.spl_text.specs.Keyword.{keyword_kind}
use Rattle.spl_text.specs.TokenList.{AreTokens}
use Rattle.spl_text.specs.Pieces.{Cut}
use Rattle.spl_text.specs.TextRules.{IsUnbroken}
use Rattle.spl_text.specs.declared.token.Token.{Token}
use Rattle.spl_text.specs.declared.token.TokenKind.TheVariants.{Name, Number}

-- a name: a letter or an underscore, then letters, digits and underscores, at most 64 bytes, and no keyword
pub record IsName (text : List ℕ) : Type 0 where
  pub first : is_letter (slice_index text 0) ≡ true
  pub rest : list_all is_name_byte text ≡ true
  pub short : length text ≤ 64
  pub free : keyword_kind text ≡ None

-- the digits of a number of at most 2^61
pub record IsNumeral (text : List ℕ) (value : ℕ) : Type 0 where
  pub digits : list_all is_digit text ≡ true
  pub exact : value ≡ value_of_digits text
  pub small : value ≤ 2 ^ 61

-- a token of a text that breaks no rule
pub record IsTokenOf (bytes : List ℕ) (t : Token) : Type 0 where
  pub filled : t.start < t.end
  pub within : t.end ≤ length bytes
  pub name : t.kind ≡ Name → IsName (slice_range bytes t.start t.end)
  pub number : (value : ℕ) → t.kind ≡ Number value → IsNumeral (slice_range bytes t.start t.end) value

-- the tokens of a text that breaks no rule stand in order inside it
abbrev pub TokensStandInOrder : Type 0
TokensStandInOrder = (bytes : List ℕ) (tokens : List Token) → length bytes ≤ 2 ^ 20 → Cut bytes tokens → IsUnbroken bytes → AreTokens tokens

-- its names are names, and its numbers have the values of their digits
abbrev pub TokensAreSpelled : Type 0
TokensAreSpelled = (bytes : List ℕ) (tokens : List Token) → Cut bytes tokens → IsUnbroken bytes → All (IsTokenOf bytes) tokens
