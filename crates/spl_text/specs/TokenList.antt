-- Lists of tokens: what each of them keeps.
use Rattle.std.specs.Prelude.{◌≡◌, ℕ, ◌+◌, ◌^◌, ◌<◌, ◌≤◌, List, length, slice_index_or}
use Rattle.spl_text.specs.declared.token.TokenKind.TheVariants.{Number, End}
use Rattle.spl_text.specs.declared.token.Token.{Token}

-- the token with this number; past the end an empty one, of which nothing is said
abbrev pub token_at : List Token → ℕ → Token
token_at tokens k = slice_index_or tokens k (record { kind = End; start = 0; end = 0 })

-- tokens that stand one after the other in a source of at most a mebibyte, none of them empty, and no number above 2^61
pub record AreTokens (tokens : List Token) : Type 0 where
  pub filled : (k : ℕ) → k < length tokens → (token_at tokens k).start < (token_at tokens k).end
  pub ordered : (k : ℕ) → k + 1 < length tokens → (token_at tokens k).end ≤ (token_at tokens (k + 1)).start
  pub within : (k : ℕ) → k < length tokens → (token_at tokens k).end ≤ 2 ^ 20
  pub small : (k n : ℕ) → k < length tokens → (token_at tokens k).kind ≡ Number n → n ≤ 2 ^ 61
