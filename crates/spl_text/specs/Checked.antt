-- What a token breaks by itself, and what it breaks after others, in the order of the rules.
use Rattle.std.specs.Prelude.{ℕ, ◌-◌, ◌^◌, nat_le, nat_lt, if◌then◌else◌, Option, None, Some}
use Rattle.spl_text.specs.declared.text_rule.TextRule.{TextRule}
use Rattle.spl_text.specs.declared.text_rule.TextRule.TheVariants.{BigLiteral, LongName, TooDeep, LongRun}
use Rattle.spl_text.specs.declared.piece.Piece.{Piece}
use Rattle.spl_text.specs.declared.piece.Piece.TheVariants.{Gap, Taken, Broken}
use Rattle.spl_text.specs.declared.token.Token.{Token}
use Rattle.spl_text.specs.declared.token.TokenKind.{TokenKind}
use Rattle.spl_text.specs.declared.token.TokenKind.TheVariants.{Name, Number}

-- a name of at most 64 bytes, a number of at most 2^61, any other token
abbrev pub checked_token : TokenKind → Token → Piece
checked_token Name t = if nat_le (t.end - t.start) 64 then Taken t else Broken LongName
checked_token (Number value) t = if nat_le value (2 ^ 61) then Taken t else Broken BigLiteral
checked_token _ t = Taken t

-- a piece, or the rule that its token breaks by itself
abbrev pub checked : Piece → Piece
checked (Gap end) = Gap end
checked (Taken t) = checked_token t.kind t
checked (Broken rule) = Broken rule

-- the rule that is broken where the depth and the run become these
abbrev pub limit_rule : ℕ → ℕ → Option TextRule
limit_rule depth run = if nat_lt 64 depth then Some TooDeep else (if nat_lt 1024 run then Some LongRun else None)
