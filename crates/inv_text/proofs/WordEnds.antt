-- Where a word ends, and what a word of digits writes.
use Rattle.std.proofs.Common.{rules, FitsSigned, ◌≡◌, ℕ, zero, suc, ◌+◌, ◌^◌, ◌<◌, ◌≤◌, ◌⊎◌, inl, inr, List, [], ◌∷◌, ◌++◌, length, get_or, decimal, sym, ap, subst, ◌∙◌, arith}
use lib.Signed.{mag}
use Rattle.std.specs.Prelude.{ℤ, pos, negsuc}
use Rattle.std.specs.Int.{w64}
use Rattle.std.specs.Fmt.{signed_decimal}
use Rattle.std.specs.Str.{IsUtf8}
use Rattle.std.proofs.lemmas.Str.{IsUtf8-from_ascii}
use Rattle.std.proofs.lemmas.Fmt.{IsAscii-decimal, IsAscii-signed}
use Rattle.inv_text.specs.Words.{Plain, Stops, IsShort}

-- a byte of the word is above 32, and the one behind it isn't
in_word : (word rest : List ℕ) (k : ℕ) → Plain word → k < length word → 32 < get_or (word ++ rest) k 0
in_word [] rest k p l = absurd (omega arith)
in_word (c ∷ cs) rest zero p l = p.0
in_word (c ∷ cs) rest (suc k) p l = in_word cs rest k p.1 (omega arith)

behind_word : (word rest : List ℕ) → Stops rest → get_or (word ++ rest) (length word) 0 ≤ 32
behind_word [] [] s = absurd s
behind_word [] (c ∷ rest) s = s
behind_word (c ∷ cs) rest s = behind_word cs rest s

pub ends_here : (text word rest : List ℕ) (k : ℕ) → text ≡ word ++ rest → Plain word → k ≤ length word → get_or text k 0 ≤ 32 → k ≡ length word
ends_here text word rest k e p l low = by (grind arith)
  where
    by : (k ≡ length word) ⊎ (k < length word) → k ≡ length word
    by (inl s) = s
    by (inr less) =
        let same : get_or text k 0 ≡ get_or (word ++ rest) k 0 = ap (λ (t : List ℕ). get_or t k 0) e in
        let big = in_word word rest k p less in
        absurd (omega (arith, same, big, low))

pub goes_on : (text word rest : List ℕ) (k : ℕ) → text ≡ word ++ rest → Stops rest → k ≤ length word → 32 < get_or text k 0 → k + 1 ≤ length word
goes_on text word rest k e s l high = by (grind arith)
  where
    by : (k ≡ length word) ⊎ (k < length word) → k + 1 ≤ length word
    by (inl t) =
        let same : get_or text k 0 ≡ get_or (word ++ rest) (length word) 0 = ap (λ (t : List ℕ). get_or t k 0) e ∙ ap (λ (i : ℕ). get_or (word ++ rest) i 0) t in
        let low = behind_word word rest s in
        absurd (omega (arith, same, low, high))
    by (inr less) = omega arith

pub utf8_decimal : (n : ℕ) (bs : List ℕ) → n < 2 ^ 32 → bs ≡ decimal n → IsUtf8 bs
utf8_decimal n bs l e = subst IsUtf8 (sym e) (IsUtf8-from_ascii (decimal n) (IsAscii-decimal n (omega arith)))

pub utf8_signed : (z : ℤ) (bs : List ℕ) → IsShort z → bs ≡ signed_decimal z → IsUtf8 bs
utf8_signed (pos n) bs l e = subst IsUtf8 (sym e) (IsUtf8-from_ascii (signed_decimal (pos n)) (IsAscii-signed (pos n) (omega arith)))
utf8_signed (negsuc n) bs l e = subst IsUtf8 (sym e) (IsUtf8-from_ascii (signed_decimal (negsuc n)) (IsAscii-signed (negsuc n) (omega arith)))

pub short_fits : (z : ℤ) → IsShort z → (mag z < 2 ^ 63) × FitsSigned w64 z
short_fits (pos n) l = (omega arith, search rules)
short_fits (negsuc n) l = (omega arith, search rules)
