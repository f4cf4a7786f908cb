-- When a word writes a number.
use Rattle.std.proofs.Common.{◌≡◌, ◌≢◌, refl, ℕ, ◌<◌, ◌≤◌, ◌^◌, ◌&&◌, Bool, true, false, Some, None, cond, length, arith, le-leb, leb-true, ltb-true, ltb-false, Result, Ok, Err, slice_index}
use Rattle.std.proofs.Math.Dec.{leb, ltb}
use Rattle.std.specs.Result.{result_ok}
use Rattle.std.proofs.lemmas.Str.Parse.{numerals_by_value, parse_plain, tells_all_ascii_digits}
use Rattle.std.specs.Str.{all_ascii_digits}
use Rattle.std.specs.Str.Parse.{ParsesUnsigned, digits_value}
use Rattle.command_words.specs.Texts.{Text}
use Rattle.command_words.specs.Number.{IsValueOf, number_of}

module _ (digits least greatest : ℕ) (word : Text) where
  abbrev value : ℕ
  value = digits_value 10 word

  pub some-number : all_ascii_digits word ≡ true → 0 < length word → length word ≤ digits → least ≤ value → value ≤ greatest → Some value ≡ number_of digits least greatest word
  some-number all some short low high = rw (all, le-leb 1 (length word) (omega arith), le-leb (length word) digits short, le-leb least value low, le-leb value greatest high) refl

  pub no-number : (all_ascii_digits word ≡ true → 0 < length word → length word ≤ digits → least ≤ value → value ≤ greatest → ⊥) → None ≡ number_of digits least greatest word
  no-number never = go (all_ascii_digits word) (leb 1 (length word)) (leb (length word) digits) (leb least value) (leb value greatest) refl refl refl refl refl
    where
      go : (a b c d e : Bool) → all_ascii_digits word ≡ a → leb 1 (length word) ≡ b → leb (length word) digits ≡ c → leb least value ≡ d → leb value greatest ≡ e
          → None ≡ cond (a && (b && c) && (d && e)) (Some value) None
      go true true true true true f g h i j = absurd (never f (leb-true 1 (length word) g) (leb-true (length word) digits h) (leb-true least value i) (leb-true value greatest j))
      go true true true true false f g h i j = refl
      go true true true false e f g h i j = refl
      go true true false d e f g h i j = refl
      go true false c d e f g h i j = refl
      go false b c d e f g h i j = refl

-- what `parse` reads, where no plus stands first
pub parsed : {E : Type 0} (word : Text) (r : Result ℕ E) → ParsesUnsigned 32 10 word r → slice_index word 0 ≢ 43 → IsValueOf word (result_ok r)
parsed {E} word (Ok n) h plain =
    let k = parse_plain (numerals_by_value _ tells_all_ascii_digits) {E = E} 32 word (Ok n) h plain in
    (k.0.0, k.0.1, k.1)
parsed {E} word (Err e) h plain =
    let never = parse_plain (numerals_by_value _ tells_all_ascii_digits) {E = E} 32 word (Err e) h plain in
    λ all some. go (ltb (digits_value 10 word) (2 ^ 32)) refl (λ small. never (all, some, small))
  where
    go : (b : Bool) → ltb (digits_value 10 word) (2 ^ 32) ≡ b → (digits_value 10 word < 2 ^ 32 → ⊥) → 2 ^ 32 ≤ digits_value 10 word
    go true e large = absurd (large (ltb-true (digits_value 10 word) (2 ^ 32) e))
    go false e large = omega (arith, ltb-false (digits_value 10 word) (2 ^ 32) e)
