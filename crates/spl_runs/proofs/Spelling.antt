-- Each text of choices is read to its derivation, and what is read is a text of choices so far.
use Rattle.std.proofs.Common.{◌≡◌, ℕ, suc, zero, ◌+◌, Bool, true, false, List, [], ◌∷◌, ◌++◌, Option, None, Some, refl, sym, ap, subst, ◌∙◌, arith, append_assoc, append-nil}
use Rattle.std.specs.Prelude.{nat_eq, if◌then◌else◌}
use Rattle.std.proofs.lemmas.List.Sums.{fold-append}
use Rattle.std.proofs.lemmas.Bool.{eqb-true}
use Rattle.spl_runs.specs.Choices.{Given}
use Rattle.spl_runs.specs.ChoicesText.{is_digit, Numeral, digits_of, sign_bytes, numeral_bytes, AllDigits, Line, lone, after, blanks, line_bytes, IsLine, Lines, nothing, only, more, lines_bytes, AreLines, lines_given, last_bytes, Spells, Begins}
use Rattle.spl_runs.specs.Reading.{Kind, a_digit, a_minus, a_space, a_line_feed, another, kind_of}
use Rattle.spl_runs.proofs.Trees.{Context, Place, start, gap, context_of, context_bytes, place_bytes, line_of, joined, lines_of, State, at_place, after_minus, in_digits, state_bytes, one_digit, with_other, on_digit, on_minus, on_space, on_line_feed, step_by, step, run, begin, ending}

-- ---- each text is read

pub run-append : (s : Option State) (xs ys : List ℕ) → run s (xs ++ ys) ≡ run (run s xs) ys
run-append s xs ys = fold-append step s xs ys

digit_kind : (b : ℕ) (t : Bool) → t ≡ true → (rest : Kind) → (if t then a_digit else rest) ≡ a_digit
digit_kind b t e rest = rw e

pub on_a_digit : (s : State) (b : ℕ) → is_digit b ≡ true → step (Some s) b ≡ Some (on_digit s b)
on_a_digit s b e = ap (λ k. step_by k s b) (digit_kind b (is_digit b) e _)

digits_run : (p : Place) (n : Numeral) (bs : List ℕ) → AllDigits bs → run (Some (in_digits p n)) bs ≡ Some (in_digits p (with_other n bs))
digits_run p n [] h = ap (λ os. Some (in_digits p (record { minus = n.minus; first = n.first; others = os }))) (simp append-nil)
digits_run p n (b ∷ bs) h =
    ap (λ s. run s bs) (on_a_digit (in_digits p n) b h.0)
    ∙ (digits_run p (with_other n (b ∷ [])) bs h.1
    ∙ ap (λ os. Some (in_digits p (record { minus = n.minus; first = n.first; others = os }))) (append_assoc n.others (b ∷ []) bs))

numeral_run : (p : Place) (n : Numeral) (minus : Bool) → n.minus ≡ minus → AllDigits (digits_of n) → run (Some (at_place p)) (sign_bytes minus ++ digits_of n) ≡ Some (in_digits p n)
numeral_run p n true e h =
    ap (λ s. run s n.others) (on_a_digit (after_minus p) n.first h.0)
    ∙ (digits_run p (one_digit true n.first) n.others h.1
    ∙ ap (λ m. Some (in_digits p (record { minus = m; first = n.first; others = n.others }))) (sym e))
numeral_run p n false e h =
    ap (λ s. run s n.others) (on_a_digit (at_place p) n.first h.0)
    ∙ (digits_run p (one_digit false n.first) n.others h.1
    ∙ ap (λ m. Some (in_digits p (record { minus = m; first = n.first; others = n.others }))) (sym e))

blanks_run : (c : Context) (l : Line) (k j : ℕ) → run (Some (at_place (gap c l k))) (blanks j) ≡ Some (at_place (gap c l (k + j)))
blanks_run c l k zero = let e : k ≡ k + 0 = omega arith in ap (λ n. Some (at_place (gap c l n))) e
blanks_run c l k (suc j) = let e : suc k + j ≡ k + suc j = omega arith in blanks_run c l (suc k) j ∙ ap (λ n. Some (at_place (gap c l n))) e

-- the state after a line
abbrev after_line : Context → Line → State
after_line c (lone n) = in_digits (start c) n
after_line c (after l k n) = in_digits (gap c l k) n

space_after : (c : Context) (l : Line) → on_space (after_line c l) ≡ Some (at_place (gap c l 0))
space_after c (lone n) = refl
space_after c (after l k n) = refl

feed_after : (c : Context) (l : Line) → on_line_feed (after_line c l) ≡ Some (at_place (start (Some (joined c l))))
feed_after c (lone n) = refl
feed_after c (after l k n) = refl

end_after : (c : Context) (l : Line) → ending (after_line c l) ≡ Some (joined c l)
end_after c (lone n) = refl
end_after c (after l k n) = refl

line_run : (c : Context) (l : Line) → IsLine l → run (Some (at_place (start c))) (line_bytes l) ≡ Some (after_line c l)
line_run c (lone n) h = numeral_run (start c) n n.minus refl h
line_run c (after l k n) h =
    run-append (Some (at_place (start c))) (line_bytes l) ((32 ∷ blanks k) ++ numeral_bytes n)
    ∙ (ap (λ s. run s ((32 ∷ blanks k) ++ numeral_bytes n)) (line_run c l h.0)
    ∙ (ap (λ s. run s (blanks k ++ numeral_bytes n)) (space_after c l)
    ∙ (run-append (Some (at_place (gap c l 0))) (blanks k) (numeral_bytes n)
    ∙ (ap (λ s. run s (numeral_bytes n)) (blanks_run c l 0 k ∙ (let e : 0 + k ≡ k = omega arith in ap (λ m. Some (at_place (gap c l m))) e))
    ∙ numeral_run (gap c l k) n n.minus refl h.1))))

-- the state after lines
abbrev after_lines : Lines → State
after_lines nothing = begin
after_lines (only l) = after_line None l
after_lines (more t l) = after_line (Some t) l

feed_after_lines : (t : Lines) → on_line_feed (after_lines t) ≡ Some (at_place (start (Some t)))
feed_after_lines nothing = refl
feed_after_lines (only l) = feed_after None l
feed_after_lines (more t l) = feed_after (Some t) l

end_after_lines : (t : Lines) → ending (after_lines t) ≡ Some t
end_after_lines nothing = refl
end_after_lines (only l) = end_after None l
end_after_lines (more t l) = end_after (Some t) l

lines_run : (t : Lines) → AreLines t → run (Some begin) (lines_bytes t) ≡ Some (after_lines t)
lines_run nothing h = refl
lines_run (only l) h = line_run None l h
lines_run (more t l) h =
    run-append (Some begin) (lines_bytes t) (10 ∷ line_bytes l)
    ∙ (ap (λ s. run s (10 ∷ line_bytes l)) (lines_run t h.0)
    ∙ (ap (λ s. run s (line_bytes l)) (feed_after_lines t)
    ∙ line_run (Some t) l h.1))

-- how a reading ends
pub record EndsIn (s : Option State) (t : Lines) : Type 0 where
  pub state : State
  pub is : s ≡ Some state
  pub ends : ending state ≡ Some t

text_run : (t : Lines) (last : Bool) → AreLines t → EndsIn (run (Some begin) (lines_bytes t ++ last_bytes last)) t
text_run t true h = record {
  state = at_place (start (Some t));
  is = run-append (Some begin) (lines_bytes t) (10 ∷ []) ∙ (ap (λ s. run s (10 ∷ [])) (lines_run t h) ∙ feed_after_lines t);
  ends = refl;
}
text_run t false h = record {
  state = after_lines t;
  is = run-append (Some begin) (lines_bytes t) [] ∙ lines_run t h;
  ends = end_after_lines t;
}

-- a text of choices is read, to its own lines
pub complete : (bytes : List ℕ) (g : Given) (w : Spells bytes g) → EndsIn (run (Some begin) bytes) w.lines
complete bytes g w = subst (λ (x : List ℕ). EndsIn (run (Some begin) x) w.lines) (sym w.text) (text_run w.lines w.last w.well)

-- ---- what is read is a text so far

abbrev pub IsContext : Context → Type 0
IsContext None = Unit {0}
IsContext (Some t) = AreLines t

abbrev pub IsPlace : Place → Type 0
IsPlace (start c) = IsContext c
IsPlace (gap c l k) = IsContext c × IsLine l

abbrev pub IsState : State → Type 0
IsState (at_place p) = IsPlace p
IsState (after_minus p) = IsPlace p
IsState (in_digits p n) = IsPlace p × AllDigits (digits_of n)

-- the bytes of lines that end with a number
pub joined_bytes : (p : Place) (n : Numeral) → lines_bytes (lines_of p n) ≡ place_bytes p ++ numeral_bytes n
joined_bytes (start None) n = refl
joined_bytes (start (Some t)) n = sym (append_assoc (lines_bytes t) (10 ∷ []) (numeral_bytes n))
joined_bytes (gap None l k) n = sym (append_assoc (line_bytes l) (32 ∷ blanks k) (numeral_bytes n))
joined_bytes (gap (Some t) l k) n = simp append_assoc

line_is : (p : Place) (n : Numeral) → IsPlace p → AllDigits (digits_of n) → IsLine (line_of p n)
line_is (start c) n w d = d
line_is (gap c l k) n w d = (w.1, d)

context_is : (p : Place) → IsPlace p → IsContext (context_of p)
context_is (start c) w = w
context_is (gap c l k) w = w.0

joined_is : (c : Context) (l : Line) → IsContext c → IsLine l → AreLines (joined c l)
joined_is None l w h = h
joined_is (Some t) l w h = (w, h)

lines_are : (p : Place) (n : Numeral) → IsPlace p → AllDigits (digits_of n) → AreLines (lines_of p n)
lines_are p n w d = joined_is (context_of p) (line_of p n) (context_is p w) (line_is p n w d)

-- a text that ends with a number
ends_with : (p : Place) (n : Numeral) → IsPlace p → AllDigits (digits_of n) → Spells (place_bytes p ++ numeral_bytes n) (lines_given (lines_of p n))
ends_with p n w d = record {
  lines = lines_of p n;
  last = false;
  well = lines_are p n w d;
  text = sym (joined_bytes p n) ∙ simp append-nil;
  means = refl;
}

-- some continuation of what is read is a text
pub continues : (s : State) → IsState s → Begins (state_bytes s)
continues (at_place p) w = record { rest = 48 ∷ []; given = lines_given (lines_of p (one_digit false 48)); spells = let e : place_bytes p ++ (48 ∷ []) ≡ (place_bytes p ++ []) ++ (48 ∷ []) = simp append-nil in subst (λ (x : List ℕ). Spells x (lines_given (lines_of p (one_digit false 48)))) e (ends_with p (one_digit false 48) w (refl, tt)) }
continues (after_minus p) w = record { rest = 48 ∷ []; given = lines_given (lines_of p (one_digit true 48)); spells = let e : place_bytes p ++ (45 ∷ 48 ∷ []) ≡ (place_bytes p ++ (45 ∷ [])) ++ (48 ∷ []) = simp append_assoc in subst (λ (x : List ℕ). Spells x (lines_given (lines_of p (one_digit true 48)))) e (ends_with p (one_digit true 48) w (refl, tt)) }
continues (in_digits p n) w = record { rest = []; given = lines_given (lines_of p n); spells = let e : place_bytes p ++ numeral_bytes n ≡ (place_bytes p ++ numeral_bytes n) ++ [] = simp append-nil in subst (λ (x : List ℕ). Spells x (lines_given (lines_of p n))) e (ends_with p n w.0 w.1) }

-- what ends is a text
abbrev EndsWell : List ℕ → Option Lines → Type 0
EndsWell bytes None = Unit {0}
EndsWell bytes (Some t) = Spells bytes (lines_given t)

ends_well : (s : State) → IsState s → EndsWell (state_bytes s) (ending s)
ends_well (at_place (start None)) w = record { lines = nothing; last = false; well = tt; text = refl; means = refl }
ends_well (at_place (start (Some t))) w = record { lines = t; last = true; well = w; text = append-nil (lines_bytes t ++ 10 ∷ []); means = refl }
ends_well (at_place (gap c l k)) w = tt
ends_well (after_minus p) w = tt
ends_well (in_digits p n) w = ends_with p n w.0 w.1

pub sound : (s : State) (t : Lines) → IsState s → ending s ≡ Some t → Spells (state_bytes s) (lines_given t)
sound s t w e = subst (EndsWell (state_bytes s)) e (ends_well s w)

-- ---- one byte

abbrev pub KindTells : Kind → ℕ → Type 0
KindTells a_digit b = is_digit b ≡ true
KindTells a_minus b = (b ≡ 45) × (is_digit b ≡ false)
KindTells a_space b = (b ≡ 32) × (is_digit b ≡ false)
KindTells a_line_feed b = (b ≡ 10) × (is_digit b ≡ false)
KindTells another b = (is_digit b ≡ false) × (nat_eq b 45 ≡ false)

tells : (b : ℕ) (d m s l : Bool) → is_digit b ≡ d → nat_eq b 45 ≡ m → nat_eq b 32 ≡ s → nat_eq b 10 ≡ l
    → KindTells (if d then a_digit else (if m then a_minus else (if s then a_space else (if l then a_line_feed else another)))) b
tells b true m s l d e f g = d
tells b false true s l d e f g = (eqb-true b 45 e, d)
tells b false false true l d e f g = (eqb-true b 32 f, d)
tells b false false false true d e f g = (eqb-true b 10 g, d)
tells b false false false false d e f g = (d, e)

pub kind_tells : (b : ℕ) → KindTells (kind_of b) b
kind_tells b = tells b (is_digit b) (nat_eq b 45) (nat_eq b 32) (nat_eq b 10) refl refl refl refl

digits_more : (xs : List ℕ) (b : ℕ) → AllDigits xs → is_digit b ≡ true → AllDigits (xs ++ b ∷ [])
digits_more [] b h d = (d, tt)
digits_more (x ∷ xs) b h d = (h.0, digits_more xs b h.1 d)

pub blanks_more : (k : ℕ) → 32 ∷ blanks k ≡ blanks k ++ 32 ∷ []
blanks_more zero = refl
blanks_more (suc k) = ap (λ bs. 32 ∷ bs) (blanks_more k)

-- a state that follows another over a byte
pub record Follows (s : State) (b : ℕ) (next : State) : Type 0 where
  pub bytes : state_bytes next ≡ state_bytes s ++ b ∷ []
  pub well : IsState next

abbrev pub StepsWell : State → ℕ → Option State → Type 0
StepsWell s b None = Unit {0}
StepsWell s b (Some next) = Follows s b next

digit_follows : (s : State) (b : ℕ) → IsState s → is_digit b ≡ true → Follows s b (on_digit s b)
digit_follows (at_place p) b w d = record { bytes = simp append-nil; well = (w, (d, tt)) }
digit_follows (after_minus p) b w d = record { bytes = sym (append_assoc (place_bytes p) (45 ∷ []) (b ∷ [])); well = (w, (d, tt)) }
digit_follows (in_digits p n) b w d = record { bytes = simp append_assoc; well = (w.0, digits_more (digits_of n) b w.1 d) }

minus_follows : (s : State) (b : ℕ) → IsState s → b ≡ 45 → StepsWell s b (on_minus s)
minus_follows (at_place p) b w e = record { bytes = ap (λ x. place_bytes p ++ (x ∷ [])) (sym e) ∙ ap (λ y. y ++ b ∷ []) (sym (append-nil (place_bytes p))); well = w }
minus_follows (after_minus p) b w e = tt
minus_follows (in_digits p n) b w e = tt

gap_bytes : (p : Place) (n : Numeral) → place_bytes (gap (context_of p) (line_of p n) 0) ≡ (place_bytes p ++ numeral_bytes n) ++ 32 ∷ []
gap_bytes (start None) n = refl
gap_bytes (start (Some t)) n = sym (append_assoc (lines_bytes t ++ 10 ∷ []) (numeral_bytes n) (32 ∷ []))
gap_bytes (gap None l k) n = ap (λ x. x ++ 32 ∷ []) (sym (append_assoc (line_bytes l) (32 ∷ blanks k) (numeral_bytes n)))
gap_bytes (gap (Some t) l k) n = simp append_assoc

space_follows : (s : State) (b : ℕ) → IsState s → b ≡ 32 → StepsWell s b (on_space s)
space_follows (at_place (start c)) b w e = tt
space_follows (at_place (gap c l k)) b w e = record {
  bytes = append-nil (place_bytes (gap c l (suc k)))
      ∙ (ap (λ x. context_bytes c ++ (line_bytes l ++ 32 ∷ x)) (blanks_more k)
      ∙ (sym (ap (λ x. context_bytes c ++ x) (append_assoc (line_bytes l) (32 ∷ blanks k) (32 ∷ [])))
      ∙ (sym (append_assoc (context_bytes c) (line_bytes l ++ 32 ∷ blanks k) (32 ∷ []))
      ∙ (ap (λ x. x ++ 32 ∷ []) (sym (append-nil (place_bytes (gap c l k))))
      ∙ ap (λ x. (place_bytes (gap c l k) ++ []) ++ x ∷ []) (sym e)))));
  well = w;
}
space_follows (after_minus p) b w e = tt
space_follows (in_digits p n) b w e = record {
  bytes = append-nil _ ∙ (gap_bytes p n ∙ ap (λ x. (place_bytes p ++ numeral_bytes n) ++ x ∷ []) (sym e));
  well = (context_is p w.0, line_is p n w.0 w.1);
}

line_feed_follows : (s : State) (b : ℕ) → IsState s → b ≡ 10 → StepsWell s b (on_line_feed s)
line_feed_follows (at_place (start None)) b w e = record { bytes = ap (λ x. x ∷ []) (sym e); well = tt }
line_feed_follows (at_place (start (Some t))) b w e = tt
line_feed_follows (at_place (gap c l k)) b w e = tt
line_feed_follows (after_minus p) b w e = tt
line_feed_follows (in_digits p n) b w e = record {
  bytes = append-nil (lines_bytes (lines_of p n) ++ 10 ∷ []) ∙ (ap (λ x. x ++ 10 ∷ []) (joined_bytes p n) ∙ ap (λ x. (place_bytes p ++ numeral_bytes n) ++ x ∷ []) (sym e));
  well = lines_are p n w.0 w.1;
}

pub kind_follows : (kind : Kind) (s : State) (b : ℕ) → KindTells kind b → IsState s → StepsWell s b (step_by kind s b)
kind_follows a_digit s b t w = digit_follows s b w t
kind_follows a_minus s b t w = minus_follows s b w t.0
kind_follows a_space s b t w = space_follows s b w t.0
kind_follows a_line_feed s b t w = line_feed_follows s b w t.0
kind_follows another s b t w = tt

pub follows : (s next : State) (b : ℕ) → IsState s → step (Some s) b ≡ Some next → Follows s b next
follows s next b w e = subst (StepsWell s b) e (kind_follows (kind_of b) s b (kind_tells b) w)

-- ---- what can't be taken

pub none_run : (bytes : List ℕ) → run None bytes ≡ None
none_run [] = refl
none_run (b ∷ bytes) = none_run bytes

stops_after : (front rest : List ℕ) (b : ℕ) (s : State) → run (Some begin) front ≡ Some s → step (Some s) b ≡ None → run (Some begin) ((front ++ b ∷ []) ++ rest) ≡ None
stops_after front rest b s r e =
    run-append (Some begin) (front ++ b ∷ []) rest
    ∙ (ap (λ x. run x rest) (run-append (Some begin) front (b ∷ []) ∙ (ap (λ x. step x b) r ∙ e))
    ∙ none_run rest)

-- after a byte that isn't taken no continuation is a text
pub no_more : (front : List ℕ) (b : ℕ) (s : State) → run (Some begin) front ≡ Some s → step (Some s) b ≡ None → Begins (front ++ b ∷ []) → ⊥
no_more front b s r e h =
    let c : EndsIn (run (Some begin) ((front ++ b ∷ []) ++ h.rest)) h.spells.lines = complete ((front ++ b ∷ []) ++ h.rest) h.given h.spells in
    let n : run (Some begin) ((front ++ b ∷ []) ++ h.rest) ≡ None = stops_after front h.rest b s r e in
    let i : run (Some begin) ((front ++ b ∷ []) ++ h.rest) ≡ Some c.state = c.is in
    cc

-- where the reading can't end there's no text
pub no_end : (bytes : List ℕ) (g : Given) (s : State) → run (Some begin) bytes ≡ Some s → ending s ≡ None → Spells bytes g → ⊥
no_end bytes g s r e w =
    let c : EndsIn (run (Some begin) bytes) w.lines = complete bytes g w in
    let i : run (Some begin) bytes ≡ Some c.state = c.is in
    let f : ending c.state ≡ Some w.lines = c.ends in
    cc

-- a text spells one thing
pub one_meaning : (bytes : List ℕ) (g h : Given) → Spells bytes g → Spells bytes h → g ≡ h
one_meaning bytes g h v w =
    let c : EndsIn (run (Some begin) bytes) v.lines = complete bytes g v in
    let d : EndsIn (run (Some begin) bytes) w.lines = complete bytes h w in
    let i : run (Some begin) bytes ≡ Some c.state = c.is in
    let j : run (Some begin) bytes ≡ Some d.state = d.is in
    let e : ending c.state ≡ Some v.lines = c.ends in
    let f : ending d.state ≡ Some w.lines = d.ends in
    let same : v.lines ≡ w.lines = cc in
    v.means ∙ (ap lines_given same ∙ sym w.means)
