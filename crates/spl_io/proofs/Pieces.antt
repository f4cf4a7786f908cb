-- A text that goes out, and a file that comes in, piece by piece.
use Rattle.std.proofs.Common.{◌≡◌, ℕ, List, ◌+◌, ◌++◌, Option, None, Some, take, drop, ap, sym, subst, ◌∙◌, append_assoc, take-add, take_all, length, length-drop, ◌-◌, arith}
use Rattle.std.proofs.KnownBytes.{Appends-trans}
use Rattle.std.specs.Io.KnownBytes.{Appends}
use Rattle.spl_io.specs.Store.{Told, Has, WhereTold, EndsWith}

-- the front of a text went out, and then the front of its rest
pub front-more : (a b c : Option (List ℕ)) (text : List ℕ) (gone count : ℕ) → Appends a b (take gone text)
    → Appends b c (take count (take (length text - gone) (drop gone text))) → Appends a c (take (gone + count) text)
front-more a b c text gone count first second =
    let whole : take (length text - gone) (drop gone text) ≡ drop gone text = take_all _ _ (omega (arith, length-drop gone text)) in
    let rest : take count (take (length text - gone) (drop gone text)) ≡ take count (drop gone text) = ap (take count) whole in
    subst (Appends a c) (sym (take-add gone count text)) (Appends-trans a b c _ _ first (subst (Appends b c) rest second))

-- after one more read the file ends with what is left
ends : (told : Told) (name all left rest piece : List ℕ) → Has told name (all ++ left) → WhereTold told (left ≡ piece ++ rest) → EndsWith told name rest
ends None name all left rest piece has taken = tt
ends (Some files) name all left rest piece has taken = (all ++ piece, has ∙ ap Some (ap (λ l. all ++ l) taken ∙ sym (append_assoc all piece rest)))

-- the same, where what is told was kept until the read
pub ends-read : (told now : Told) (name all left rest piece : List ℕ) → now ≡ told → Has told name (all ++ left) → WhereTold now (left ≡ piece ++ rest) → EndsWith told name rest
ends-read told now name all left rest piece same has taken =
    ends told name all left rest piece has (subst (λ t. WhereTold t (left ≡ piece ++ rest)) same taken)
