-- How a text is cut into pieces: blanks, comments and tokens.
use Rattle.std.specs.Prelude.{◌≡◌, ℕ, ◌+◌, if◌then◌else◌, List, [], ◌∷◌, length, Option, None, Some, unwrap_or, slice_index}
use Rattle.std.specs.Option.{option_map_or}
use Rattle.std.specs.List.{slice_range}
use Rattle.spl_text.specs.Bytes.{is_blank, is_letter, is_digit}
use Rattle.spl_text.specs.Gaps.{stand_at, past_line, past_block}
use Rattle.spl_text.specs.Words.{past_name, past_digits, value_of_digits}
use Rattle.spl_text.specs.Keyword.{keyword_kind}
use Rattle.spl_text.specs.Signs.{short_sign, long_sign}
use Rattle.spl_text.specs.declared.text_rule.TextRule.TheVariants.{BadByte, OpenComment}
use Rattle.spl_text.specs.declared.piece.Piece.{Piece}
use Rattle.spl_text.specs.declared.piece.Piece.TheVariants.{Gap, Taken, Broken}
use Rattle.spl_text.specs.declared.token.Token.{Token}
use Rattle.spl_text.specs.declared.token.TokenKind.{TokenKind}
use Rattle.spl_text.specs.declared.token.TokenKind.TheVariants.{Name, Number}

-- a token of this kind from one offset to another
abbrev pub taken : ℕ → ℕ → TokenKind → Piece
taken start end kind = Taken (record { kind = kind; start = start; end = end })

-- a comment that begins with `/*` must have an end
abbrev pub block_at : List ℕ → ℕ → Piece
block_at bytes at = option_map_or Gap (past_block bytes at) (Broken OpenComment)

-- a name, or the keyword that it is
abbrev pub word_at : List ℕ → ℕ → Piece
word_at bytes at =
    let end = past_name bytes at in
    taken at end (unwrap_or (keyword_kind (slice_range bytes at end)) Name)

-- a number, without limit
abbrev pub number_at : List ℕ → ℕ → Piece
number_at bytes at =
    let end = past_digits bytes at in
    taken at end (Number (value_of_digits (slice_range bytes at end)))

-- the longest sign: one of two bytes, or else one of one byte
abbrev pub longest : ℕ → Option TokenKind → Option TokenKind → Piece
longest at (Some kind) short = taken at (at + 2) kind
longest at None short = option_map_or (taken at (at + 1)) short (Broken BadByte)

abbrev pub sign_at : List ℕ → ℕ → Piece
sign_at bytes at = longest at (long_sign (slice_index bytes at) (slice_index bytes (at + 1))) (short_sign (slice_index bytes at))

-- what stands at an offset: a blank, a comment, a name or keyword, a number, a sign, or a broken rule
unfoldable pub piece_at : List ℕ → ℕ → Piece
piece_at bytes at =
    if is_blank (slice_index bytes at) then Gap (at + 1)
    else (if stand_at 47 47 bytes at then Gap (past_line bytes at)
    else (if stand_at 47 42 bytes at then block_at bytes at
    else (if is_letter (slice_index bytes at) then word_at bytes at
    else (if is_digit (slice_index bytes at) then number_at bytes at
    else sign_at bytes at))))

-- From one offset to another the bytes are one piece after the other, and these are their tokens.
pub data Pieces (bytes : List ℕ) : ℕ → List Token → ℕ → Type 0 where
  none : (at : ℕ) → Pieces bytes at [] at
  gap : (at end to : ℕ) (tokens : List Token) → piece_at bytes at ≡ Gap end → Pieces bytes end tokens to → Pieces bytes at tokens to
  token : (at to : ℕ) (t : Token) (tokens : List Token) → piece_at bytes at ≡ Taken t → Pieces bytes t.end tokens to → Pieces bytes at (t ∷ tokens) to

-- the whole text is one piece after the other, and these are its tokens
abbrev pub Cut : List ℕ → List Token → Type 0
Cut bytes tokens = Pieces bytes 0 tokens (length bytes)
