-- What holds after some bytes of a text of choices, and the answers that follow.
use Rattle.std.proofs.Common.{◌≡◌, ℕ, suc, ◌+◌, ◌≤◌, true, false, List, [], ◌∷◌, ◌++◌, length, Option, None, Some, ℤ, refl, sym, ap, subst, ◌∙◌, arith, append_assoc, append-nil, length-append}
use Rattle.std.specs.Prelude.{nat_eq}
use Rattle.spl_runs.specs.Word.{fits}
use Rattle.spl_runs.specs.Choices.{Choice, Given}
use Rattle.spl_runs.specs.ChoicesText.{is_digit, Numeral, numeral_bytes, number_of, Line, lone, after, line_numbers, Lines, nothing, only, more, with_step, lines_given, AllFit, ChoicesFit, GivenFits}
use Rattle.spl_runs.specs.Reading.{Kind, a_digit, a_minus, a_space, a_line_feed, another, next, is_in_number}
use Rattle.spl_runs.proofs.Trees.{Context, Place, start, gap, context_of, place_bytes, line_of, joined, lines_of, State, at_place, after_minus, in_digits, place_of, state_bytes, on_digit, on_minus, on_space, on_line_feed, step_by, meaning}
use Rattle.spl_runs.proofs.Spelling.{KindTells, IsState, Follows}
use Rattle.spl_runs.proofs.Wide.{NoDigit, Clean, clean_more, clean_numeral, clean_minus, fine_byte}

-- ---- numbers of a derivation fit

abbrev pub LineFits : Line → Type 0
LineFits (lone n) = fits (number_of n) ≡ true
LineFits (after l k n) = LineFits l × (fits (number_of n) ≡ true)

abbrev pub LinesFit : Lines → Type 0
LinesFit nothing = Unit {0}
LinesFit (only l) = LineFits l
LinesFit (more t l) = LinesFit t × LineFits l

abbrev pub ContextFits : Context → Type 0
ContextFits None = Unit {0}
ContextFits (Some t) = LinesFit t

abbrev pub PlaceFits : Place → Type 0
PlaceFits (start c) = ContextFits c
PlaceFits (gap c l k) = ContextFits c × LineFits l

abbrev pub OwnFits : State → Type 0
OwnFits (at_place p) = Unit {0}
OwnFits (after_minus p) = Unit {0}
OwnFits (in_digits p n) = fits (number_of n) ≡ true

pub own_fits : (s : State) → fits (meaning s).number ≡ true → OwnFits s
own_fits (at_place p) h = tt
own_fits (after_minus p) h = tt
own_fits (in_digits p n) h = h

line_of_fits : (p : Place) (n : Numeral) → PlaceFits p → fits (number_of n) ≡ true → LineFits (line_of p n)
line_of_fits (start c) n w f = f
line_of_fits (gap c l k) n w f = (w.1, f)

context_fits : (p : Place) → PlaceFits p → ContextFits (context_of p)
context_fits (start c) w = w
context_fits (gap c l k) w = w.0

joined_fits : (c : Context) (l : Line) → ContextFits c → LineFits l → LinesFit (joined c l)
joined_fits None l w f = f
joined_fits (Some t) l w f = (w, f)

pub lines_of_fit : (p : Place) (n : Numeral) → PlaceFits p → fits (number_of n) ≡ true → LinesFit (lines_of p n)
lines_of_fit p n w f = joined_fits (context_of p) (line_of p n) (context_fits p w) (line_of_fits p n w f)

all_fit-append : (xs : List ℤ) (x : ℤ) → AllFit xs → fits x ≡ true → AllFit (xs ++ x ∷ [])
all_fit-append [] x h f = (f, tt)
all_fit-append (y ∷ xs) x h f = (h.0, all_fit-append xs x h.1 f)

numbers_fit : (l : Line) → LineFits l → AllFit (line_numbers l)
numbers_fit (lone n) h = (h, tt)
numbers_fit (after l k n) h = all_fit-append (line_numbers l) (number_of n) (numbers_fit l h.0) h.1

choices_fit-append : (steps : List Choice) (s : Choice) → ChoicesFit steps → fits s.edge ≡ true → AllFit s.values → ChoicesFit (steps ++ s ∷ [])
choices_fit-append [] s h e v = (e, v, tt)
choices_fit-append (x ∷ steps) s h e v = (h.0, h.1, choices_fit-append steps s h.2 e v)

with_step_fits : (g : Given) (line : List ℤ) → GivenFits g → AllFit line → GivenFits (with_step g line)
with_step_fits g [] h f = h
with_step_fits g (edge ∷ values) h f = (h.0, choices_fit-append g.steps (record { edge = edge; values = values }) h.1 f.0 f.1)

pub given_fits : (t : Lines) → LinesFit t → GivenFits (lines_given t)
given_fits nothing h = (tt, tt)
given_fits (only l) h = (numbers_fit l h, tt)
given_fits (more t l) h = with_step_fits (lines_given t) (line_numbers l) (given_fits t h.0) (numbers_fit l h.1)

-- ---- no number past 128 bits before

clean_less : (bytes : List ℕ) (m n : ℕ) → m ≤ n → Clean bytes n → Clean bytes m
clean_less bytes m n l h k lt = h k (omega arith)

-- up to the end of what is read, where no digit follows
pub clean_upto : (bytes rest : List ℕ) (s : State) → bytes ≡ state_bytes s ++ rest → IsState s → OwnFits s → NoDigit rest → Clean bytes (length (place_bytes (place_of s))) → Clean bytes (length (state_bytes s))
clean_upto bytes rest (at_place p) e w f d h = let l : length (state_bytes (at_place p)) ≡ length (place_bytes p) = ap length (append-nil (place_bytes p)) in clean_less bytes _ _ (omega arith) h
clean_upto bytes rest (after_minus p) e w f d h =
    let l : length (place_bytes p ++ 45 ∷ []) ≡ length (place_bytes p) + 1 = length-append (place_bytes p) (45 ∷ []) in
    clean_less bytes (length (place_bytes p ++ 45 ∷ [])) (suc (length (place_bytes p) + 1)) (omega arith) (clean_minus bytes (place_bytes p) rest (e ∙ append_assoc (place_bytes p) (45 ∷ []) rest) d h)
clean_upto bytes rest (in_digits p n) e w f d h =
    let l : length (place_bytes p ++ numeral_bytes n) ≡ length (place_bytes p) + length (numeral_bytes n) = length-append (place_bytes p) (numeral_bytes n) in
    clean_less bytes (length (place_bytes p ++ numeral_bytes n)) (suc (length (place_bytes p) + length (numeral_bytes n))) (omega arith) (clean_numeral bytes (place_bytes p) rest n (e ∙ append_assoc (place_bytes p) (numeral_bytes n) rest) w.1 d f h)

-- and past a byte with which no number begins
clean_past : (bytes rest : List ℕ) (b : ℕ) (s : State) → bytes ≡ state_bytes s ++ (b ∷ rest) → IsState s → OwnFits s → is_digit b ≡ false → nat_eq b 45 ≡ false
    → Clean bytes (length (place_bytes (place_of s))) → Clean bytes (suc (length (state_bytes s)))
clean_past bytes rest b s e w f d m h = clean_more bytes (length (state_bytes s)) (clean_upto bytes (b ∷ rest) s e w f d h) (fine_byte bytes (state_bytes s) rest b e m d)

-- ---- one byte more

-- what a next state keeps
pub record Keeps (bytes : List ℕ) (s next : State) : Type 0 where
  pub fit : PlaceFits (place_of next)
  pub same : is_in_number (meaning next).mode ≡ true → place_of next ≡ place_of s
  pub clean : Clean bytes (length (place_bytes (place_of next)))

abbrev pub KeepsWell : List ℕ → State → Option State → Type 0
KeepsWell bytes s None = Unit {0}
KeepsWell bytes s (Some next) = Keeps bytes s next

-- what is known before a byte
pub record Before (bytes rest : List ℕ) (s : State) (b : ℕ) : Type 0 where
  pub is : bytes ≡ state_bytes s ++ (b ∷ rest)
  pub well : IsState s
  pub fit : PlaceFits (place_of s)
  pub own : OwnFits s
  pub clean : Clean bytes (length (place_bytes (place_of s)))

-- a state that is at a place has read that place's bytes
place_length : (s : State) (b : ℕ) (q : Place) → Follows s b (at_place q) → suc (length (state_bytes s)) ≡ length (place_bytes q)
place_length s b q f = omega (arith, ap length (sym (append-nil (place_bytes q)) ∙ f.bytes), length-append (state_bytes s) (b ∷ []))

to_place : (bytes rest : List ℕ) (s : State) (b : ℕ) (q : Place) → Before bytes rest s b → is_digit b ≡ false → nat_eq b 45 ≡ false → Follows s b (at_place q) → Clean bytes (length (place_bytes q))
to_place bytes rest s b q h d m f = subst (Clean bytes) (place_length s b q f) (clean_past bytes rest b s h.is h.well h.own d m h.clean)

digit_keeps : (bytes rest : List ℕ) (s : State) (b : ℕ) → Before bytes rest s b → Keeps bytes s (on_digit s b)
digit_keeps bytes rest (at_place p) b h = record { fit = h.fit; same = λ e. refl; clean = h.clean }
digit_keeps bytes rest (after_minus p) b h = record { fit = h.fit; same = λ e. refl; clean = h.clean }
digit_keeps bytes rest (in_digits p n) b h = record { fit = h.fit; same = λ e. refl; clean = h.clean }

minus_keeps : (bytes rest : List ℕ) (s : State) (b : ℕ) → Before bytes rest s b → KeepsWell bytes s (on_minus s)
minus_keeps bytes rest (at_place p) b h = record { fit = h.fit; same = λ e. refl; clean = h.clean }
minus_keeps bytes rest (after_minus p) b h = tt
minus_keeps bytes rest (in_digits p n) b h = tt

-- a step that ends at a place
abbrev pub FollowsWell : State → ℕ → Option State → Type 0
FollowsWell s b None = Unit {0}
FollowsWell s b (Some next) = Follows s b next

space_keeps : (bytes rest : List ℕ) (s : State) (b : ℕ) → Before bytes rest s b → is_digit b ≡ false → nat_eq b 45 ≡ false → FollowsWell s b (on_space s) → KeepsWell bytes s (on_space s)
space_keeps bytes rest (at_place (start c)) b h d m f = tt
space_keeps bytes rest (at_place (gap c l k)) b h d m f = record { fit = h.fit; same = λ e. absurd (cc); clean = to_place bytes rest (at_place (gap c l k)) b (gap c l (suc k)) h d m f }
space_keeps bytes rest (after_minus p) b h d m f = tt
space_keeps bytes rest (in_digits p n) b h d m f = record {
  fit = (context_fits p h.fit, line_of_fits p n h.fit h.own);
  same = λ e. absurd (cc);
  clean = to_place bytes rest (in_digits p n) b (gap (context_of p) (line_of p n) 0) h d m f;
}

feed_keeps : (bytes rest : List ℕ) (s : State) (b : ℕ) → Before bytes rest s b → is_digit b ≡ false → nat_eq b 45 ≡ false → FollowsWell s b (on_line_feed s) → KeepsWell bytes s (on_line_feed s)
feed_keeps bytes rest (at_place (start None)) b h d m f = record { fit = tt; same = λ e. absurd (cc); clean = to_place bytes rest (at_place (start None)) b (start (Some nothing)) h d m f }
feed_keeps bytes rest (at_place (start (Some t))) b h d m f = tt
feed_keeps bytes rest (at_place (gap c l k)) b h d m f = tt
feed_keeps bytes rest (after_minus p) b h d m f = tt
feed_keeps bytes rest (in_digits p n) b h d m f = record {
  fit = lines_of_fit p n h.fit h.own;
  same = λ e. absurd (cc);
  clean = to_place bytes rest (in_digits p n) b (start (Some (lines_of p n))) h d m f;
}

no_minus : (b c : ℕ) → b ≡ c → nat_eq c 45 ≡ false → nat_eq b 45 ≡ false
no_minus b c e h = ap (λ x. nat_eq x 45) e ∙ h

pub kind_keeps : (bytes rest : List ℕ) (kind : Kind) (s : State) (b : ℕ) → Before bytes rest s b → KindTells kind b → FollowsWell s b (step_by kind s b) → KeepsWell bytes s (step_by kind s b)
kind_keeps bytes rest a_digit s b h t f = digit_keeps bytes rest s b h
kind_keeps bytes rest a_minus s b h t f = minus_keeps bytes rest s b h
kind_keeps bytes rest a_space s b h t f = space_keeps bytes rest s b h t.1 (no_minus b 32 t.0 refl) f
kind_keeps bytes rest a_line_feed s b h t f = feed_keeps bytes rest s b h t.1 (no_minus b 10 t.0 refl) f
kind_keeps bytes rest another s b h t f = tt
