-- Where numbers past 128 bits begin in a text of choices.
use Rattle.std.proofs.Common.{◌≡◌, ℕ, suc, zero, ◌+◌, ◌-◌, ◌*◌, ◌<◌, ◌≤◌, Bool, true, false, List, [], ◌∷◌, ◌++◌, length, drop, get_or, None, Some, ℤ, FitsSigned, refl, sym, ap, subst, ◌∙◌, arith, append_assoc, append-nil, length-append}
use Rattle.std.specs.Prelude.{nat_eq, nat_le, ◌&&◌, ◌||◌, not}
use Rattle.std.specs.List.{fold}
use Rattle.std.specs.Int.{w128}
use Rattle.std.proofs.lemmas.Int.{ints}
use Rattle.std.proofs.lemmas.Bool.{eqb-true}
use Rattle.std.proofs.lemmas.Bool.Decides.{nat_tests}
use Rattle.std.proofs.lemmas.List.Sums.{fold-append}
use Rattle.spl_runs.specs.Word.{fits}
use Rattle.spl_runs.specs.ChoicesText.{is_digit, decimal, signed, Numeral, digits_of, sign_bytes, numeral_bytes, number_of, AllDigits, blanks, line_bytes, lines_bytes, opens, front_digits, front_number, wide_at}
use Rattle.spl_runs.proofs.Fitting.{fits_of, unfit}
use Rattle.spl_runs.proofs.Spelling.{blanks_more}
use Rattle.spl_runs.proofs.Trees.{Place, start, gap, place_bytes, context_bytes}

abbrev is_gap : ℕ → Bool
is_gap b = nat_eq b 32 || nat_eq b 10

-- ---- the number at a place

-- a text doesn't begin with a digit
abbrev pub NoDigit : List ℕ → Type 0
NoDigit [] = Unit {0}
NoDigit (b ∷ bytes) = is_digit b ≡ false

front_digits-append : (ds rest : List ℕ) → AllDigits ds → front_digits (ds ++ rest) ≡ ds ++ front_digits rest
front_digits-append [] rest h = refl
front_digits-append (d ∷ ds) rest h = rw h.0 (ap (λ x. d ∷ x) (front_digits-append ds rest h.1))

front_digits-none : (rest : List ℕ) → NoDigit rest → front_digits rest ≡ []
front_digits-none [] h = refl
front_digits-none (b ∷ rest) h = rw h refl

digit_no_minus : (b : ℕ) → is_digit b ≡ true → nat_eq b 45 ≡ false
digit_no_minus b h = grind (arith, nat_tests)

digit_no_gap : (b : ℕ) → is_digit b ≡ true → is_gap b ≡ false
digit_no_gap b h = grind (arith, nat_tests)

front_numeral : (n : Numeral) (rest : List ℕ) (minus : Bool) → n.minus ≡ minus → AllDigits (digits_of n)
    → front_number ((sign_bytes minus ++ digits_of n) ++ rest) ≡ signed minus (decimal (digits_of n ++ front_digits rest))
front_numeral n rest true e h = ap (λ ds. signed true (decimal ds)) (front_digits-append (digits_of n) rest h)
front_numeral n rest false e h = rw (digit_no_minus n.first h.0) (ap (λ ds. signed false (decimal ds)) (front_digits-append (digits_of n) rest h))

-- the number that begins with a numeral
pub front_of : (n : Numeral) (rest : List ℕ) → AllDigits (digits_of n) → front_number (numeral_bytes n ++ rest) ≡ signed n.minus (decimal (digits_of n ++ front_digits rest))
front_of n rest h = front_numeral n rest n.minus refl h

pub front_whole : (n : Numeral) (rest : List ℕ) → AllDigits (digits_of n) → NoDigit rest → front_number (numeral_bytes n ++ rest) ≡ number_of n
front_whole n rest h d = front_of n rest h ∙ ap (λ ds. signed n.minus (decimal ds)) (ap (λ x. digits_of n ++ x) (front_digits-none rest d) ∙ append-nil (digits_of n))

fold_grows : (v : ℕ) (ds : List ℕ) → v ≤ fold (λ value digit. value * 10 + (digit - 48)) v ds
fold_grows v [] = omega arith
fold_grows v (d ∷ ds) = omega (arith, fold_grows (v * 10 + (d - 48)) ds)

decimal_grows : (xs ys : List ℕ) → decimal xs ≤ decimal (xs ++ ys)
decimal_grows xs ys = let e : decimal (xs ++ ys) ≡ fold (λ value digit. value * 10 + (digit - 48)) (decimal xs) ys = fold-append (λ value digit. value * 10 + (digit - 48)) 0 xs ys in omega (arith, e, fold_grows (decimal xs) ys)

pub greater_unfit : (minus : Bool) (v w : ℕ) → v ≤ w → fits (signed minus v) ≡ false → fits (signed minus w) ≡ false
greater_unfit true v w l h = unfit (signed true w) (λ f. let g : FitsSigned w128 (signed true v) = omega (arith, ints) in let t : fits (signed true v) ≡ true = fits_of (signed true v) g in absurd (cc))
greater_unfit false v w l h = unfit (signed false w) (λ f. let g : FitsSigned w128 (signed false v) = omega (arith, ints) in let t : fits (signed false v) ≡ true = fits_of (signed false v) g in absurd (cc))

-- the number that begins with a numeral past 128 bits
pub front_wide : (n : Numeral) (rest : List ℕ) → AllDigits (digits_of n) → fits (number_of n) ≡ false → fits (front_number (numeral_bytes n ++ rest)) ≡ false
front_wide n rest h u = rw (front_of n rest h) (greater_unfit n.minus (decimal (digits_of n)) (decimal (digits_of n ++ front_digits rest)) (decimal_grows (digits_of n) (front_digits rest)) u)

-- ---- places

-- no number past 128 bits begins before a place
abbrev pub Clean : List ℕ → ℕ → Type 0
Clean bytes n = (m : ℕ) → m < n → wide_at bytes m ≡ false

pub clean_more : (bytes : List ℕ) (n : ℕ) → Clean bytes n → wide_at bytes n ≡ false → Clean bytes (suc n)
clean_more bytes n h here m lt = by (nat_eq m n) refl
  where
    by : (t : Bool) → nat_eq m n ≡ t → wide_at bytes m ≡ false
    by true e = let i : n ≡ m = sym (eqb-true m n e) in subst (λ (k : ℕ). wide_at bytes k ≡ false) i here
    by false e = h m (grind (arith, nat_tests))

drop-front : (front rest : List ℕ) → drop (length front) (front ++ rest) ≡ rest
drop-front [] rest = refl
drop-front (x ∷ front) rest = drop-front front rest

and_false : (a b : Bool) → b ≡ false → (a && b) ≡ false
and_false true b h = h
and_false false b h = refl

not_wide : (x : ℤ) → fits x ≡ true → not (fits x) ≡ false
not_wide x h = rw h refl

-- where the number that begins after a front fits
fine_at : (bytes front rest : List ℕ) → bytes ≡ front ++ rest → fits (front_number rest) ≡ true → wide_at bytes (length front) ≡ false
fine_at bytes front rest e h =
    let d : drop (length front) bytes ≡ rest = ap (drop (length front)) e ∙ drop-front front rest in
    and_false (opens bytes (length front)) (not (fits (front_number (drop (length front) bytes))))
    (ap (λ x. not (fits (front_number x))) d ∙ not_wide (front_number rest) h)

no_number : (b : ℕ) (rest : List ℕ) → nat_eq b 45 ≡ false → is_digit b ≡ false → fits (front_number (b ∷ rest)) ≡ true
no_number b rest m d = rw (m, d) refl

-- a byte with which no number begins
pub fine_byte : (bytes front rest : List ℕ) (b : ℕ) → bytes ≡ front ++ (b ∷ rest) → nat_eq b 45 ≡ false → is_digit b ≡ false → wide_at bytes (length front) ≡ false
fine_byte bytes front rest b e m d = fine_at bytes front (b ∷ rest) e (no_number b rest m d)

-- a minus without a digit
lone_minus : (rest : List ℕ) → NoDigit rest → fits (front_number (45 ∷ rest)) ≡ true
lone_minus rest h = rw (front_digits-none rest h) refl

-- ---- within a number no other begins

abbrev pub NoGaps : List ℕ → Type 0
NoGaps [] = Unit {0}
NoGaps (b ∷ bytes) = (is_gap b ≡ false) × NoGaps bytes

no_gaps : (ds : List ℕ) → AllDigits ds → NoGaps ds
no_gaps [] h = tt
no_gaps (d ∷ ds) h = (digit_no_gap d h.0, no_gaps ds h.1)

numeral_gaps : (minus : Bool) (ds : List ℕ) → AllDigits ds → NoGaps (sign_bytes minus ++ ds)
numeral_gaps true ds h = (refl, no_gaps ds h)
numeral_gaps false ds h = no_gaps ds h

gap_within : (front num rest : List ℕ) (j : ℕ) → length front ≤ j → j < length front + length num → NoGaps num → is_gap (get_or (front ++ (num ++ rest)) j 0) ≡ false
gap_within [] [] rest j l h g = absurd (omega arith)
gap_within [] (b ∷ num) rest zero l h g = g.0
gap_within [] (b ∷ num) rest (suc j) l h g = gap_within [] num rest j (omega arith) (omega arith) g.1
gap_within (x ∷ front) num rest zero l h g = absurd (omega arith)
gap_within (x ∷ front) num rest (suc j) l h g = gap_within front num rest j (omega arith) (omega arith) g

-- no number begins right after a byte of another
closed : (bytes front num rest : List ℕ) (m : ℕ) → bytes ≡ front ++ (num ++ rest) → NoGaps num → length front < m → m ≤ length front + length num → wide_at bytes m ≡ false
closed bytes front num rest zero e g l h = absurd (omega arith)
closed bytes front num rest (suc m) e g l h =
    let s : opens bytes (suc m) ≡ false = ap (λ x. is_gap (get_or x m 0)) e ∙ gap_within front num rest m (omega arith) (omega arith) g in
    ap (λ x. x && not (fits (front_number (drop (suc m) bytes)))) s

-- after a number that fits
past_number : (bytes front num rest : List ℕ) → bytes ≡ front ++ (num ++ rest) → NoGaps num → fits (front_number (num ++ rest)) ≡ true
    → Clean bytes (length front) → Clean bytes (suc (length front + length num))
past_number bytes front num rest e g f h m lt = by (nat_le m (length front)) refl
  where
    by : (t : Bool) → nat_le m (length front) ≡ t → wide_at bytes m ≡ false
    by true i = clean_more bytes (length front) h (fine_at bytes front (num ++ rest) e f) m (grind (arith, nat_tests))
    by false i = closed bytes front num rest m e g (grind (arith, nat_tests)) (omega arith)

pub clean_numeral : (bytes front rest : List ℕ) (n : Numeral) → bytes ≡ front ++ (numeral_bytes n ++ rest) → AllDigits (digits_of n) → NoDigit rest → fits (number_of n) ≡ true
    → Clean bytes (length front) → Clean bytes (suc (length front + length (numeral_bytes n)))
clean_numeral bytes front rest n e d nd f h =
    past_number bytes front (numeral_bytes n) rest e (numeral_gaps n.minus (digits_of n) d) (ap fits (front_whole n rest d nd) ∙ f) h

pub clean_minus : (bytes front rest : List ℕ) → bytes ≡ front ++ (45 ∷ rest) → NoDigit rest → Clean bytes (length front) → Clean bytes (suc (length front + 1))
clean_minus bytes front rest e nd h = past_number bytes front (45 ∷ []) rest e (refl, tt) (lone_minus rest nd) h

-- ---- a number can begin at a place

opens_after : (bytes xs more : List ℕ) (b : ℕ) → bytes ≡ (xs ++ b ∷ []) ++ more → is_gap b ≡ true → opens bytes (suc (length xs)) ≡ true
opens_after bytes xs more b e g =
    let at : get_or bytes (length xs) 0 ≡ b = ap (λ x. get_or x (length xs) 0) (e ∙ append_assoc xs (b ∷ []) more) ∙ here xs in
    ap is_gap at ∙ g
  where
    here : (ys : List ℕ) → get_or (ys ++ (b ∷ more)) (length ys) 0 ≡ b
    here [] = refl
    here (y ∷ ys) = here ys

opens_front : (bytes front xs more : List ℕ) (b : ℕ) → bytes ≡ front ++ more → front ≡ xs ++ b ∷ [] → is_gap b ≡ true → opens bytes (length front) ≡ true
opens_front bytes front xs more b e f g =
    let l : suc (length xs) ≡ length front = omega (arith, ap length f, length-append xs (b ∷ [])) in
    subst (λ (k : ℕ). opens bytes k ≡ true) l (opens_after bytes xs more b (e ∙ ap (λ x. x ++ more) f) g)

pub opens_place : (bytes more : List ℕ) (p : Place) → bytes ≡ place_bytes p ++ more → opens bytes (length (place_bytes p)) ≡ true
opens_place bytes more (start None) e = refl
opens_place bytes more (start (Some t)) e = opens_front bytes (lines_bytes t ++ 10 ∷ []) (lines_bytes t) more 10 e refl refl
opens_place bytes more (gap c l k) e =
    opens_front bytes (place_bytes (gap c l k)) (context_bytes c ++ (line_bytes l ++ blanks k)) more 32 e
    (ap (λ x. context_bytes c ++ (line_bytes l ++ x)) (blanks_more k) ∙ simp append_assoc) refl

pub wide_number : (bytes rest : List ℕ) (p : Place) (n : Numeral) → bytes ≡ place_bytes p ++ (numeral_bytes n ++ rest) → AllDigits (digits_of n) → fits (number_of n) ≡ false → wide_at bytes (length (place_bytes p)) ≡ true
wide_number bytes rest p n e d u =
    let o : opens bytes (length (place_bytes p)) ≡ true = opens_place bytes (numeral_bytes n ++ rest) p e in
    let r : drop (length (place_bytes p)) bytes ≡ numeral_bytes n ++ rest = ap (drop (length (place_bytes p))) e ∙ drop-front (place_bytes p) (numeral_bytes n ++ rest) in
    let w : fits (front_number (drop (length (place_bytes p)) bytes)) ≡ false = ap (λ x. fits (front_number x)) r ∙ front_wide n rest d u in
    rw (o, w) refl
