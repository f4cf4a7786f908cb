-- Reading words as text, one by one.
use Rattle.std.proofs.Common.{◌≡◌, ℕ, zero, suc, List, [], ◌∷◌, ◌++◌, map, take, length, ◌<◌, ◌+◌, ◌∙◌, ap, ap₂, sym, subst, arith, IsUtf8, slice_index_or, Bor, Vec, add-one}
use Rattle.std.proofs.lemmas.List.{map-append}
use Rattle.std.proofs.Math.Seq.{take-suc}
use Rattle.std.proofs.Common.{Bool, true, false, ◌&&◌, true≢false, refl}
use Rattle.std.specs.List.{list_all}
use Rattle.std.specs.Str.{is_utf8}
use Rattle.std.proofs.lemmas.Str.{IsUtf8-from_is_utf8, is_utf8-from_IsUtf8}
use Rattle.command_words.specs.Texts.{AreText}

pub text-at : (words : List (List ℕ)) (i : ℕ) → i < length words → AreText words → IsUtf8 (slice_index_or words i [])
text-at [] i lt are = absurd (omega arith)
text-at (word ∷ rest) zero lt are = are.0
text-at (word ∷ rest) (suc i) lt are = text-at rest i (omega arith) are.1

text-suc : (words : List (List ℕ)) (i : ℕ) → i < length words → IsUtf8 (slice_index_or words i []) → AreText (take i words) → AreText (take (suc i) words)
text-suc [] i lt u are = tt
text-suc (word ∷ rest) zero lt u are = (u, tt)
text-suc (word ∷ rest) (suc i) lt u are = (are.0, text-suc rest i (omega arith) u are.1)

pub text-more : (words : List (List ℕ)) (i : ℕ) (word : List ℕ) → i < length words → word ≡ slice_index_or words i [] → IsUtf8 word → AreText (take i words) → AreText (take (i + 1) words)
text-more words i word lt at u are = rw add-one (text-suc words i lt (subst IsUtf8 at u) are)

pub same-more : (words : List (List ℕ)) (i : ℕ) (texts now : List (Bor (List ℕ))) (text : Bor (List ℕ)) → i < length words → text.now ≡ slice_index_or words i [] → now ≡ texts ++ text ∷ []
    → map (λ (s : Bor (List ℕ)). s.now) texts ≡ take i words → map (λ (s : Bor (List ℕ)). s.now) now ≡ take (i + 1) words
same-more words i texts now text lt at added same =
    rw add-one (ap (map (λ (s : Bor (List ℕ)). s.now)) added ∙ map-append (λ (s : Bor (List ℕ)). s.now) texts (text ∷ []) ∙ ap₂ (λ xs x. xs ++ x ∷ []) same at ∙ sym (take-suc words i [] lt))

pub is-text : (words : List (List ℕ)) → AreText words → list_all is_utf8 words ≡ true
is-text [] are = refl
is-text (word ∷ rest) are = ap₂ (λ a b. a && b) (is_utf8-from_IsUtf8 word are.0) (is-text rest are.1)

from-test : (words : List (List ℕ)) → list_all is_utf8 words ≡ true → AreText words
from-test [] e = tt
from-test (word ∷ rest) e = go (is_utf8 word) refl e (from-test rest)
  where
    go : (b : Bool) → is_utf8 word ≡ b → (b && list_all is_utf8 rest) ≡ true → (list_all is_utf8 rest ≡ true → AreText rest) → IsUtf8 word × AreText rest
    go true f e more = (IsUtf8-from_is_utf8 word f, more e)
    go false f e more = absurd (true≢false (sym e))

pub not-text : (words : List (List ℕ)) → (AreText words → ⊥) → list_all is_utf8 words ≡ false
not-text words never = go (list_all is_utf8 words) refl
  where
    go : (b : Bool) → list_all is_utf8 words ≡ b → b ≡ false
    go true e = absurd (never (from-test words e))
    go false e = refl

-- ---- words as vectors

pub length-items : {Z : Type 0} (words : List (Vec ℕ Z)) (i : ℕ) → i < length words → i < length (map (λ word. word.items) words)
length-items [] i lt = absurd (omega arith)
length-items (word ∷ rest) zero lt = omega arith
length-items (word ∷ rest) (suc i) lt = let more = length-items rest i (omega arith) in omega (arith, more)

pub item-at : {Z : Type 0} (words : List (Vec ℕ Z)) (i : ℕ) (word : Vec ℕ Z) → i < length words → word ≡ slice_index_or words i word → word.items ≡ slice_index_or (map (λ word. word.items) words) i []
item-at [] i word lt is = absurd (omega arith)
item-at (w ∷ rest) zero word lt is = ap (λ v. v.items) is
item-at (w ∷ rest) (suc i) word lt is = item-at rest i word (omega arith) is
