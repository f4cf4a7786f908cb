-- Variables in the places of others, from the lists of the code.
use Rattle.std.proofs.Common.{◌≡◌, ◌≢◌, ℕ, ◌+◌, ◌*◌, ◌<◌, List, length, get_or, ◌∙◌, arith}
use Rattle.std.specs.List.{All}
use Rattle.std.proofs.lemmas.List.{get_or_default}
use Rattle.transfer_def.specs.Dimensions.{moved_dimension}
use Rattle.transfer_def.proofs.Dimensions.{moved_dimension-below}
use Rattle.full_oct.specs.Places.{AreMoved}

-- none of the first targets is v
abbrev pub NoneIs : List ℕ → ℕ → ℕ → Type 0
NoneIs targets k v = (i : ℕ) → i < k → get_or targets i 0 ≢ v

-- each place is one of the matrix's
pub moved-inside : (n size : ℕ) (targets places : List ℕ) → AreMoved n targets places → size ≡ 2 * (n + length targets) → All (λ p. p < size) places
moved-inside n size targets places h e k d lt =
    let below = moved_dimension-below n targets k (omega (arith, h.size)) in
    let same : get_or places k d ≡ moved_dimension n targets k = get_or_default places k d 0 lt ∙ h.each k (omega (arith, h.size)) in
    omega (arith, below, same, e)
