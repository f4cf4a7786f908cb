-- The digits of a number.
use Rattle.std.proofs.Common.{◌≡◌, ℕ, zero, suc, ◌+◌, ◌-◌, ◌*◌, ◌/◌, ◌%◌, ◌^◌, ◌<◌, ◌==◌, nat_le, not, Bool, true, false, cond, List, [], ◌∷◌, ◌++◌, length, slice_index, decimal, arith, ap, ◌∙◌, refl, div-add-mod', mod-lt}
use Rattle.std.specs.List.{list_all}
use Rattle.std.specs.Fmt.{digits, digits_onto, digit_glyph}
use Rattle.std.proofs.lemmas.Bool.{and_parts, and_from, le-leb, lt-ltb, not_from_false}
use Rattle.std.proofs.lemmas.List.{length_push}
use Rattle.std.proofs.lemmas.List.Sums.{fold_push}
use Rattle.std.proofs.lemmas.Fmt.{decimal_by_steps}
use Rattle.spl_text.specs.Bytes.{is_digit}
use Rattle.spl_text.specs.Words.{value_of_digits}
use Rattle.spl_text.specs.Pieces.{taken}
use Rattle.spl_text.specs.declared.token.TokenKind.TheVariants.{Number}
use Rattle.read_back.proofs.Lexemes.{Lexeme, key}
use Rattle.read_back.proofs.Words.{Reads, takes, Stops, differs, number_piece}

digit_is : (d : ℕ) → d < 10 → is_digit (digit_glyph false d) ≡ true
digit_is d h = rw (lt-ltb d 10 h) (and_from (nat_le 48 (48 + d)) (nat_le (48 + d) 57) (le-leb 48 (48 + d) (omega arith)) (le-leb (48 + d) 57 (omega arith)))

digits_onto_all : (k n : ℕ) (acc : List ℕ) → list_all is_digit acc ≡ true → list_all is_digit (digits_onto k 10 false n acc) ≡ true
digits_onto_all zero n acc h = h
digits_onto_all (suc k) n acc h =
    let g : ℕ = digit_glyph false (n % 10) in
    let one : list_all is_digit (g ∷ acc) ≡ true = and_from (is_digit g) (list_all is_digit acc) (digit_is (n % 10) (mod-lt n (omega arith))) h in
    by (n / 10 == 0) one (digits_onto_all k (n / 10) (g ∷ acc) one)
  where
    by : (b : Bool) → list_all is_digit (digit_glyph false (n % 10) ∷ acc) ≡ true
        → list_all is_digit (digits_onto k 10 false (n / 10) (digit_glyph false (n % 10) ∷ acc)) ≡ true
        → list_all is_digit (cond b (digit_glyph false (n % 10) ∷ acc) (digits_onto k 10 false (n / 10) (digit_glyph false (n % 10) ∷ acc))) ≡ true
    by true x y = x
    by false x y = y

pub decimal_digits : (n : ℕ) → list_all is_digit (decimal n) ≡ true
unfolding digits
decimal_digits n = digits_onto_all 64 n [] refl

decimal_value : (n : ℕ) → n < 2 ^ 64 → (value_of_digits (decimal n) ≡ n) × (0 < length (decimal n))
decimal_value = decimal_by_steps (λ n ds. (value_of_digits ds ≡ n) × (0 < length ds))
    (λ n small. (omega arith, omega arith))
    (λ n ds large h. (
      fold_push (λ value digit. 10 * value + (digit - 48)) 0 ds (48 + n % 10) ∙ tail n (value_of_digits ds) h.0,
      omega (arith, length_push ds (48 + n % 10)),
    ))
  where
    tail : (n v : ℕ) → v ≡ n / 10 → 10 * v + (48 + n % 10 - 48) ≡ n
    tail n v e = omega (arith, div-add-mod' n 10)

first_digit : (ds : List ℕ) → list_all is_digit ds ≡ true → 0 < length ds → is_digit (slice_index ds 0) ≡ true
first_digit [] all some = absurd (omega arith)
first_digit (d ∷ ds) all some = (and_parts (is_digit d) (list_all is_digit ds) all).0

-- digits are no stars
pub digits_calm : (ds : List ℕ) → list_all is_digit ds ≡ true → list_all (λ x. not (x == 42)) ds ≡ true
digits_calm [] all = refl
digits_calm (d ∷ ds) all =
    let p = and_parts (is_digit d) (list_all is_digit ds) all in
    and_from (not (d == 42)) (list_all (λ x. not (x == 42)) ds) (not_from_false (d == 42) (differs is_digit d 42 p.0 refl)) (digits_calm ds p.1)

pub read_number : (n : ℕ) (rest : List ℕ) (ls : List Lexeme) → n < 2 ^ 64 → Stops rest → Reads rest ls → Reads (decimal n ++ rest) (key (Number n) ∷ ls)
read_number n rest ls small stops r =
    let all = decimal_digits n in
    let v = decimal_value n small in
    let p = number_piece (decimal n) rest (first_digit (decimal n) all v.1) all stops in
    takes (decimal n) rest (Number n) ls (p ∙ ap (λ k. taken 0 (length (decimal n)) (Number k)) v.0) r
