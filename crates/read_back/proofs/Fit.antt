-- What is fit to be written.
use Rattle.std.proofs.Common.{◌≡◌, ℕ, ◌^◌, ◌≤◌, List, [], ◌∷◌, ◌++◌}
use Rattle.spl_text.specs.Spans.{IsName}
use Rattle.spl_text.specs.declared.token.TokenKind.{TokenKind}
use Rattle.read_back.proofs.Lexemes.{Lexeme}

-- a name is a name, and a number at most 2^61
pub record IsFit (l : Lexeme) : Type 0 where
  pub name : l.kind ≡ TokenKind.Name → IsName l.text
  pub number : (value : ℕ) → l.kind ≡ TokenKind.Number value → value ≤ 2 ^ 61

abbrev pub AreFit : List Lexeme → Type 0
AreFit [] = Unit {0}
AreFit (l ∷ ls) = IsFit l × AreFit ls

pub fit_left : (xs ys : List Lexeme) → AreFit (xs ++ ys) → AreFit xs
fit_left [] ys h = tt
fit_left (x ∷ xs) ys h = (h.0, fit_left xs ys h.1)

pub fit_right : (xs ys : List Lexeme) → AreFit (xs ++ ys) → AreFit ys
fit_right [] ys h = h
fit_right (x ∷ xs) ys h = fit_right xs ys h.1
