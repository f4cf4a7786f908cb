-- No open parentheses.
use Rattle.std.proofs.Common.{◌≡◌, ◌≤◌, List, [], ◌∷◌, length, refl, arith}

pub no_parens : {X : Type 0} (xs : List X) → length xs ≡ 0 → xs ≡ []
no_parens [] h = refl
no_parens (x ∷ xs) h = absurd (omega arith)

pub no_parens_le : {X : Type 0} (xs : List X) → length xs ≤ 0 → xs ≡ []
no_parens_le [] h = refl
no_parens_le (x ∷ xs) h = absurd (omega arith)
