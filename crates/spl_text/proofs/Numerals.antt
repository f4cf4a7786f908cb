-- A number never falls when digits are added.
use Rattle.std.proofs.Common.{◌≡◌, ℕ, ◌+◌, ◌-◌, ◌*◌, ◌≤◌, ◌<◌, nat_le, cond, List, [], ◌∷◌, length, take, drop, fold, get_or, arith, ap, sym, ◌∙◌, Some, None}
use Rattle.std.proofs.lemmas.Bool.{lt-leb, cond-false}
use Rattle.std.proofs.lemmas.List.{take-append-drop}
use Rattle.std.proofs.lemmas.List.Sums.{fold-append, fold_more}
use Rattle.spl_text.specs.Words.{value_of_digits}

abbrev more : ℕ → ℕ → ℕ
more value digit = 10 * value + (digit - 48)

fold-grows : (value : ℕ) (digits : List ℕ) → value ≤ fold more value digits
fold-grows value [] = omega arith
fold-grows value (d ∷ ds) = omega (arith, fold-grows (10 * value + (d - 48)) ds)

value_of_digits-take : (digits : List ℕ) (n : ℕ) → value_of_digits (take n digits) ≤ value_of_digits digits
value_of_digits-take digits n =
    let e : value_of_digits digits ≡ fold more (value_of_digits (take n digits)) (drop n digits) =
    ap value_of_digits (sym (take-append-drop n digits)) ∙ fold-append more 0 (take n digits) (drop n digits) in
    omega (arith, fold-grows (value_of_digits (take n digits)) (drop n digits))

-- some digits write a number that is too large, so all of them do
pub value-large : (digits : List ℕ) (n value most : ℕ) → n < length digits → value ≡ value_of_digits (take n digits)
    → most < 10 * value + (get_or digits n 0 - 48)
    → cond (nat_le (value_of_digits digits) most) (Some (value_of_digits digits)) None ≡ None
value-large digits n value most within is large =
    let e : value_of_digits (take (n + 1) digits) ≡ more (value_of_digits (take n digits)) (get_or digits n 0) =
    fold_more more 0 digits n 0 within in
    let e2 : 10 * value ≡ 10 * value_of_digits (take n digits) = ap (λ v. 10 * v) is in
    let above : most < value_of_digits digits = omega (arith, value_of_digits-take digits (n + 1)) in
    cond-false _ _ _ (lt-leb _ _ above)
