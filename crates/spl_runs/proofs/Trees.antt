-- Reading a text of choices byte by byte, with the derivation of what was read.
use Rattle.std.proofs.Common.{◌≡◌, ℕ, suc, ◌+◌, ◌-◌, ◌*◌, Bool, true, false, List, [], ◌∷◌, ◌++◌, Option, None, Some, ℤ, pos, refl, sym, ap, ◌∙◌, arith}
use Rattle.std.specs.List.{fold}
use Rattle.std.proofs.lemmas.Int.{ints}
use Rattle.std.proofs.lemmas.List.Sums.{fold-append}
use Rattle.spl_runs.specs.declared.reader.Mode.{Mode}
use Rattle.spl_runs.specs.declared.reader.Mode.TheVariants as mode
use Rattle.spl_runs.specs.Choices.{Given}
use Rattle.spl_runs.specs.ChoicesText.{decimal, signed, Numeral, digits_of, numeral_bytes, number_of, Line, lone, after, blanks, line_bytes, line_numbers, Lines, nothing, only, more, lines_bytes, lines_given}
use Rattle.spl_runs.specs.Reading.{Reading, Kind, a_digit, a_minus, a_space, a_line_feed, another, kind_of, next_by, next, ended, more_digits}

-- ---- where a number begins

-- the lines before this one; none on the first line
abbrev pub Context : Type 0
Context = Option Lines

-- at the start of a line, or in it after a front of it and spaces, of which there are so many besides one
pub data Place : Type 0 where
  start : Context → Place
  gap : Context → Line → ℕ → Place

abbrev pub context_of : Place → Context
context_of (start c) = c
context_of (gap c l k) = c

abbrev pub context_bytes : Context → List ℕ
context_bytes None = []
context_bytes (Some t) = lines_bytes t ++ 10 ∷ []

abbrev pub place_bytes : Place → List ℕ
place_bytes (start c) = context_bytes c
place_bytes (gap c l k) = context_bytes c ++ (line_bytes l ++ 32 ∷ blanks k)

-- the line that ends with a number from there, and all lines then
abbrev pub line_of : Place → Numeral → Line
line_of (start c) n = lone n
line_of (gap c l k) n = after l k n

abbrev pub joined : Context → Line → Lines
joined None l = only l
joined (Some t) l = more t l

abbrev pub lines_of : Place → Numeral → Lines
lines_of p n = joined (context_of p) (line_of p n)

-- ---- states

pub data State : Type 0 where
  at_place : Place → State
  after_minus : Place → State
  in_digits : Place → Numeral → State

abbrev pub place_of : State → Place
place_of (at_place p) = p
place_of (after_minus p) = p
place_of (in_digits p n) = p

abbrev pub own_bytes : State → List ℕ
own_bytes (at_place p) = []
own_bytes (after_minus p) = 45 ∷ []
own_bytes (in_digits p n) = numeral_bytes n

abbrev pub state_bytes : State → List ℕ
state_bytes s = place_bytes (place_of s) ++ own_bytes s

abbrev pub one_digit : Bool → ℕ → Numeral
one_digit minus b = record { minus = minus; first = b; others = [] }

abbrev pub with_other : Numeral → List ℕ → Numeral
with_other n bs = record { minus = n.minus; first = n.first; others = n.others ++ bs }

abbrev pub on_digit : State → ℕ → State
on_digit (at_place p) b = in_digits p (one_digit false b)
on_digit (after_minus p) b = in_digits p (one_digit true b)
on_digit (in_digits p n) b = in_digits p (with_other n (b ∷ []))

abbrev pub on_minus : State → Option State
on_minus (at_place p) = Some (after_minus p)
on_minus (after_minus p) = None
on_minus (in_digits p n) = None

abbrev pub on_space : State → Option State
on_space (at_place (start c)) = None
on_space (at_place (gap c l k)) = Some (at_place (gap c l (suc k)))
on_space (after_minus p) = None
on_space (in_digits p n) = Some (at_place (gap (context_of p) (line_of p n) 0))

abbrev pub on_line_feed : State → Option State
on_line_feed (at_place (start None)) = Some (at_place (start (Some nothing)))
on_line_feed (at_place (start (Some t))) = None
on_line_feed (at_place (gap c l k)) = None
on_line_feed (after_minus p) = None
on_line_feed (in_digits p n) = Some (at_place (start (Some (lines_of p n))))

abbrev pub step_by : Kind → State → ℕ → Option State
step_by a_digit s b = Some (on_digit s b)
step_by a_minus s b = on_minus s
step_by a_space s b = on_space s
step_by a_line_feed s b = on_line_feed s
step_by another s b = None

abbrev pub step : Option State → ℕ → Option State
step None b = None
step (Some s) b = step_by (kind_of b) s b

abbrev pub run : Option State → List ℕ → Option State
run s bs = fold step s bs

abbrev pub begin : State
begin = at_place (start None)

-- the lines, if the text can end here
abbrev pub ending : State → Option Lines
ending (at_place (start None)) = Some nothing
ending (at_place (start (Some t))) = Some t
ending (at_place (gap c l k)) = None
ending (after_minus p) = None
ending (in_digits p n) = Some (lines_of p n)

-- ---- what a state means

abbrev pub given_in : Context → Given
given_in None = record { start = []; steps = [] }
given_in (Some t) = lines_given t

abbrev pub is_first : Context → Bool
is_first None = true
is_first (Some t) = false

abbrev pub line_in : Place → List ℤ
line_in (start c) = []
line_in (gap c l k) = line_numbers l

abbrev pub mode_in : Place → Mode
mode_in (start c) = mode.LineStart
mode_in (gap c l k) = mode.Gap

abbrev pub meaning_by : State → Place → Mode → Bool → ℤ → Reading
meaning_by s p m minus number = record { given = given_in (context_of p); first_line = is_first (context_of p); line = line_in p; mode = m; minus = minus; number = number }

abbrev pub meaning : State → Reading
meaning (at_place p) = meaning_by (at_place p) p (mode_in p) false (pos 0)
meaning (after_minus p) = meaning_by (after_minus p) p mode.Sign true (pos 0)
meaning (in_digits p n) = meaning_by (in_digits p n) p mode.Digits n.minus (number_of n)

abbrev pub meant : Option State → Option Reading
meant None = None
meant (Some s) = Some (meaning s)

abbrev pub given_of_lines : Option Lines → Option Given
given_of_lines None = None
given_of_lines (Some t) = Some (lines_given t)

-- a digit more
pub decimal_more : (digits : List ℕ) (b : ℕ) → decimal (digits ++ b ∷ []) ≡ decimal digits * 10 + (b - 48)
decimal_more digits b = fold-append (λ value digit. value * 10 + (digit - 48)) 0 digits (b ∷ [])

more_signed : (minus : Bool) (v d : ℕ) → more_digits minus (signed minus v) d ≡ signed minus (v * 10 + d)
more_signed true v d = omega (arith, ints)
more_signed false v d = omega (arith, ints)

more_first : (minus : Bool) (d : ℕ) → more_digits minus (pos 0) d ≡ signed minus (0 * 10 + d)
more_first true d = omega (arith, ints)
more_first false d = omega (arith, ints)

number_more : (n : Numeral) (b : ℕ) → more_digits n.minus (number_of n) (b - 48) ≡ number_of (with_other n (b ∷ []))
number_more n b = more_signed n.minus (decimal (digits_of n)) (b - 48) ∙ ap (signed n.minus) (sym (decimal_more (digits_of n) b))

digit_means : (s : State) (b : ℕ) → next_by a_digit (meaning s) b ≡ Some (meaning (on_digit s b))
digit_means (at_place p) b = ap (λ x. Some (meaning_by begin p mode.Digits false x)) (more_first false (b - 48))
digit_means (after_minus p) b = ap (λ x. Some (meaning_by begin p mode.Digits true x)) (more_first true (b - 48))
digit_means (in_digits p n) b = ap (λ x. Some (meaning_by begin p mode.Digits n.minus x)) (number_more n b)

minus_means : (s : State) (b : ℕ) → next_by a_minus (meaning s) b ≡ meant (on_minus s)
minus_means (at_place (start c)) b = refl
minus_means (at_place (gap c l k)) b = refl
minus_means (after_minus p) b = refl
minus_means (in_digits p n) b = refl

space_means : (s : State) (b : ℕ) → next_by a_space (meaning s) b ≡ meant (on_space s)
space_means (at_place (start c)) b = refl
space_means (at_place (gap c l k)) b = refl
space_means (after_minus p) b = refl
space_means (in_digits (start c) n) b = refl
space_means (in_digits (gap c l k) n) b = refl

line_feed_means : (s : State) (b : ℕ) → next_by a_line_feed (meaning s) b ≡ meant (on_line_feed s)
line_feed_means (at_place (start None)) b = refl
line_feed_means (at_place (start (Some t))) b = refl
line_feed_means (at_place (gap c l k)) b = refl
line_feed_means (after_minus p) b = refl
line_feed_means (in_digits (start None) n) b = refl
line_feed_means (in_digits (start (Some t)) n) b = refl
line_feed_means (in_digits (gap None l k) n) b = refl
line_feed_means (in_digits (gap (Some t) l k) n) b = refl

kind_means : (kind : Kind) (s : State) (b : ℕ) → next_by kind (meaning s) b ≡ meant (step_by kind s b)
kind_means a_digit s b = digit_means s b
kind_means a_minus s b = minus_means s b
kind_means a_space s b = space_means s b
kind_means a_line_feed s b = line_feed_means s b
kind_means another s b = refl

pub step_means : (s : State) (b : ℕ) → next (meaning s) b ≡ meant (step (Some s) b)
step_means s b = kind_means (kind_of b) s b

pub ending_means : (s : State) → ended (meaning s) ≡ given_of_lines (ending s)
ending_means (at_place (start None)) = refl
ending_means (at_place (start (Some t))) = refl
ending_means (at_place (gap c l k)) = refl
ending_means (after_minus p) = refl
ending_means (in_digits (start None) n) = refl
ending_means (in_digits (start (Some t)) n) = refl
ending_means (in_digits (gap None l k) n) = refl
ending_means (in_digits (gap (Some t) l k) n) = refl
