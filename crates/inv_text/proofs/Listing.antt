-- The text of a matrix is that of the list of its finite half entries.
use Rattle.std.proofs.Common.{◌≡◌, ℕ, ◌+◌, List, [], ◌∷◌, ◌++◌, length, Option, Some, None, refl, sym, ap, ◌∙◌, arith, append_assoc, append-nil}
use Rattle.std.specs.Prelude.{IsSomeAnd}
use Rattle.std.specs.List.{flat_map, range_with_len}
use Rattle.std.proofs.lemmas.Grind.{flat_map-append}
use Rattle.oct_def.specs.Bound.{Bound}
use Rattle.oct_def.specs.Table.{Matrix}
use Rattle.inv_text.specs.declared.bound.InvBound.{InvBound}
use Rattle.inv_text.specs.CertText.{Place, places, told, bound_text, entry_text, value_text}
use Rattle.inv_text.specs.Listed.{bound_item, told_item, half_bounds, item_text}
use Rattle.inv_text.proofs.Places.{range_more}

one_item : (p : Place) (b : Bound) → flat_map item_text (bound_item p b) ≡ bound_text p b
one_item p None = refl
one_item p (Some w) = append-nil (bound_text p (Some w))

items_text : (m : Matrix) (ps : List Place) → flat_map item_text (flat_map (told_item m) ps) ≡ flat_map (entry_text m) ps
items_text m [] = refl
items_text m (p ∷ ps) =
    flat_map-append item_text (told_item m p) (flat_map (told_item m) ps)
    ∙ ap (λ (xs : List ℕ). xs ++ flat_map item_text (flat_map (told_item m) ps)) (one_item p (told m p))
    ∙ ap (λ (xs : List ℕ). entry_text m p ++ xs) (items_text m ps)

pub half_text : (m : Matrix) → flat_map item_text (half_bounds m) ≡ value_text (Some m)
unfolding half_bounds
half_text m = items_text m (places (length m))

pub listed_text : (v : Option Matrix) (bs : List InvBound) → IsSomeAnd v (λ m. bs ≡ half_bounds m) → flat_map item_text bs ≡ value_text v
listed_text None bs h = absurd h
listed_text (Some m) bs h = ap (flat_map item_text) h ∙ half_text m

-- one line more
pub lines_more : (f : ℕ → List ℕ) (p : ℕ) (a b c : List ℕ) → b ≡ a ++ flat_map f (range_with_len 0 p) → c ≡ b ++ f p → c ≡ a ++ flat_map f (range_with_len 0 (p + 1))
lines_more f p a b c e h =
    h ∙ ap (λ (t : List ℕ). t ++ f p) e ∙ append_assoc a (flat_map f (range_with_len 0 p)) (f p)
    ∙ ap (λ (t : List ℕ). a ++ t) (sym (ap (flat_map f) (sym (range_more 0 p (p + 1) p 1 (omega arith) refl))
    ∙ flat_map-append f (range_with_len 0 p) (p ∷ []) ∙ ap (λ (t : List ℕ). flat_map f (range_with_len 0 p) ++ t) (append-nil (f p))))
