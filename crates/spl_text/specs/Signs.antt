-- The signs.
use Rattle.std.specs.Prelude.{ℕ, ◌==◌, if◌then◌else◌, List, [], ◌∷◌, find, Option, None}
use Rattle.std.specs.Option.{option_map}
use Rattle.spl_text.specs.declared.token.TokenKind.{TokenKind}
use Rattle.spl_text.specs.declared.token.TokenKind.TheVariants.{LeftParen, RightParen, Comma, Semicolon, Colon, Becomes, Equal, NotEqual, Less, LessEqual, Greater, GreaterEqual, Plus, Minus, Star, Slash, Percent}

-- ( ) , ; : = < > + - * / %
abbrev pub short_signs : List (ℕ × TokenKind)
short_signs =
    (40, LeftParen) ∷ (41, RightParen) ∷ (44, Comma) ∷ (59, Semicolon) ∷ (58, Colon) ∷ (61, Becomes) ∷ (60, Less) ∷ (62, Greater)
    ∷ (43, Plus) ∷ (45, Minus) ∷ (42, Star) ∷ (47, Slash) ∷ (37, Percent) ∷ []

-- == != <= >=, by the byte before the `=`
abbrev pub long_signs : List (ℕ × TokenKind)
long_signs = (61, Equal) ∷ (33, NotEqual) ∷ (60, LessEqual) ∷ (62, GreaterEqual) ∷ []

-- the sign of one byte
abbrev pub short_sign : ℕ → Option TokenKind
short_sign byte = option_map (λ s. s.1) (find (λ s. byte == s.0) short_signs)

-- the sign of two bytes
abbrev pub long_sign : ℕ → ℕ → Option TokenKind
long_sign byte next = if next == 61 then option_map (λ s. s.1) (find (λ s. byte == s.0) long_signs) else None
