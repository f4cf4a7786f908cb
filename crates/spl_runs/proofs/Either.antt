-- Each text has the choices of one run or a first fault, and not both.
use Rattle.std.proofs.Common.{◌≡◌, ℕ, suc, zero, ◌+◌, ◌<◌, ◌≤◌, ◌⊎◌, inl, inr, Bool, true, false, List, [], ◌∷◌, ◌++◌, length, take, drop, get_or, Option, None, Some, ℤ, refl, sym, ap, subst, ◌∙◌, arith, append-nil, drop-cons}
use Rattle.std.specs.Prelude.{nat_le, ◌&&◌, not}
use Rattle.std.proofs.Math.Seq.{take-length}
use Rattle.std.proofs.lemmas.Bool.{leb-true}
use Rattle.std.proofs.lemmas.Bool.Decides.{nat_tests}
use Rattle.std.proofs.lemmas.List.{take-append-drop}
use Rattle.spl_runs.specs.Word.{fits}
use Rattle.spl_runs.specs.Choices.{Choice, Given}
use Rattle.spl_runs.specs.ChoicesText.{Numeral, decimal, digits_of, number_of, Line, lone, after, line_numbers, Lines, nothing, only, more, with_step, lines_given, Spells, AllFit, ChoicesFit, GivenFits, IsChoices, FaultsAt, FaultAt, opens, front_number, wide_at}
use Rattle.spl_runs.specs.Reading.{Reading, Kind, a_digit, a_minus, a_space, a_line_feed, another, kind_of, next, ended, begun_reading, IsPast}
use Rattle.spl_runs.proofs.Trees.{Context, Place, start, gap, context_of, place_bytes, line_of, joined, State, at_place, after_minus, in_digits, place_of, state_bytes, with_other, on_digit, on_minus, on_space, on_line_feed, step_by, step, run, begin, ending, meaning, meant, step_means, decimal_more}
use Rattle.spl_runs.proofs.Spelling.{EndsIn, complete, none_run, run-append}
use Rattle.spl_runs.proofs.Wide.{Clean, greater_unfit}
use Rattle.spl_runs.proofs.Progress.{LineFits, LinesFit, ContextFits, PlaceFits, OwnFits, clean_upto}
use Rattle.spl_runs.proofs.Answering.{Progress, at_start, one_more, bad_byte, wide_byte, bad_end, good_end, own_of}

-- ---- one or the other

abbrev pub HasEither : List ℕ → Type 0
HasEither bytes = ((g : Given) × IsChoices bytes g) ⊎ ((at : ℕ) × FaultAt bytes at)

either_end : (bytes : List ℕ) (from : ℕ) (r : Reading) (o : Option Given) → ended r ≡ o → Progress bytes (length bytes) r from → fits r.number ≡ true → HasEither bytes
either_end bytes from r None e p f = inr (length bytes, bad_end bytes from r p f e)
either_end bytes from r (Some g) e p f = inl (g, good_end bytes from r g p f e)

either_from : (n : ℕ) (bytes : List ℕ) (at from : ℕ) (r : Reading) → n + at ≡ length bytes → Progress bytes at r from → fits r.number ≡ true → HasEither bytes
either_from zero bytes at from r l p f =
    let e : at ≡ length bytes = omega arith in
    either_end bytes from r (ended r) refl (subst (λ (k : ℕ). Progress bytes k r from) e p) f
either_from (suc n) bytes at from r l p f = by (next r (get_or bytes at 0)) refl (λ new other q. either_from n bytes (suc at) other new (omega arith) q)
  where
    few : at < length bytes
    few = omega arith

    checked : (new : Reading) (t : Bool) → fits new.number ≡ t → next r (get_or bytes at 0) ≡ Some new → ((x : Reading) (other : ℕ) → Progress bytes (suc at) x other → fits x.number ≡ true → HasEither bytes) → HasEither bytes
    checked new true g e go = go new (length (place_bytes (place_of p.state))) (one_more bytes at from (length (place_bytes (place_of p.state))) r new p f few e refl) g
    checked new false g e go = inr (length (place_bytes (place_of p.state)), wide_byte bytes at from r p f few (subst IsPast (sym e) g))

    by : (o : Option Reading) → next r (get_or bytes at 0) ≡ o → ((x : Reading) (other : ℕ) → Progress bytes (suc at) x other → fits x.number ≡ true → HasEither bytes) → HasEither bytes
    by None e go = inr (at, bad_byte bytes at from r p f few e)
    by (Some new) e go = checked new (fits new.number) refl e go

pub has_either : (bytes : List ℕ) → HasEither bytes
has_either bytes = either_from (length bytes) bytes 0 0 begun_reading (omega arith) (at_start bytes begun_reading refl) refl

-- ---- not both: in a text of choices no number is past 128 bits

StateFits : State → Type 0
StateFits s = PlaceFits (place_of s) × OwnFits s

fit_front : (xs : List ℤ) (x : ℤ) → AllFit (xs ++ x ∷ []) → AllFit xs × (fits x ≡ true)
fit_front [] x h = (tt, h.0)
fit_front (y ∷ xs) x h = let r = fit_front xs x h.1 in ((h.0, r.0), r.1)

line_fits : (l : Line) → AllFit (line_numbers l) → LineFits l
line_fits (lone n) h = h.0
line_fits (after l k n) h = let r = fit_front (line_numbers l) (number_of n) h in (line_fits l r.0, r.1)

steps_front : (steps : List Choice) (s : Choice) → ChoicesFit (steps ++ s ∷ []) → ChoicesFit steps × (fits s.edge ≡ true) × AllFit s.values
steps_front [] s h = (tt, h.0, h.1)
steps_front (x ∷ steps) s h = let r = steps_front steps s h.2 in ((h.0, h.1, r.0), r.1, r.2)

step_front : (g : Given) (line : List ℤ) → GivenFits (with_step g line) → GivenFits g × AllFit line
step_front g [] h = (h, tt)
step_front g (edge ∷ values) h = let r = steps_front g.steps (record { edge = edge; values = values }) h.1 in ((h.0, r.0), (r.1, r.2))

lines_fit : (t : Lines) → GivenFits (lines_given t) → LinesFit t
lines_fit nothing h = tt
lines_fit (only l) h = line_fits l h.0
lines_fit (more t l) h = let r = step_front (lines_given t) (line_numbers l) h in (lines_fit t r.0, line_fits l r.1)

line_back : (p : Place) (n : Numeral) → ContextFits (context_of p) → LineFits (line_of p n) → PlaceFits p × (fits (number_of n) ≡ true)
line_back (start c) n w f = (w, f)
line_back (gap c l k) n w f = ((w, f.0), f.1)

joined_back : (c : Context) (l : Line) → LinesFit (joined c l) → ContextFits c × LineFits l
joined_back None l h = (tt, h)
joined_back (Some t) l h = h

digits_back : (n : Numeral) (b : ℕ) (t : Bool) → fits (number_of n) ≡ t → fits (number_of (with_other n (b ∷ []))) ≡ true → fits (number_of n) ≡ true
digits_back n b true e h = e
digits_back n b false e h =
    let grows : decimal (digits_of n) ≤ decimal (digits_of n ++ b ∷ []) = omega (arith, decimal_more (digits_of n) b) in
    let u : fits (number_of (with_other n (b ∷ []))) ≡ false = greater_unfit n.minus (decimal (digits_of n)) (decimal (digits_of n ++ b ∷ [])) grows e in
    absurd (cc)

Back : State → Option State → Type 0
Back s None = Unit {0}
Back s (Some next) = StateFits next → StateFits s

digit_back : (s : State) (b : ℕ) → StateFits (on_digit s b) → StateFits s
unfolding StateFits
digit_back (at_place p) b h = (h.0, tt)
digit_back (after_minus p) b h = (h.0, tt)
digit_back (in_digits p n) b h = (h.0, digits_back n b (fits (number_of n)) refl h.1)

minus_back : (s : State) → Back s (on_minus s)
unfolding StateFits Back
minus_back (at_place p) = λ h. (h.0, tt)
minus_back (after_minus p) = tt
minus_back (in_digits p n) = tt

space_back : (s : State) → Back s (on_space s)
unfolding StateFits Back
space_back (at_place (start c)) = tt
space_back (at_place (gap c l k)) = λ h. h
space_back (after_minus p) = tt
space_back (in_digits p n) = λ h. line_back p n h.0.0 h.0.1

feed_back : (s : State) → Back s (on_line_feed s)
unfolding StateFits Back
feed_back (at_place (start None)) = λ h. (tt, tt)
feed_back (at_place (start (Some t))) = tt
feed_back (at_place (gap c l k)) = tt
feed_back (after_minus p) = tt
feed_back (in_digits p n) = λ h. let r = joined_back (context_of p) (line_of p n) h.0 in line_back p n r.0 r.1

kind_back : (kind : Kind) (s : State) (b : ℕ) → Back s (step_by kind s b)
unfolding Back
kind_back a_digit s b = digit_back s b
kind_back a_minus s b = minus_back s
kind_back a_space s b = space_back s
kind_back a_line_feed s b = feed_back s
kind_back another s b = tt

step_back : (s next : State) (b : ℕ) → step (Some s) b ≡ Some next → StateFits next → StateFits s
unfolding Back
step_back s next b e h = let w : Back s (Some next) = subst (Back s) e (kind_back (kind_of b) s b) in w h

run_back : (bs : List ℕ) (s last : State) → run (Some s) bs ≡ Some last → StateFits last → StateFits s
run_back [] s last e h = let same : last ≡ s = cc in subst StateFits same h
run_back (b ∷ bs) s last e h = by (step (Some s) b) refl e (λ next r. run_back bs next last r h)
  where
    by : (o : Option State) → step (Some s) b ≡ o → run o bs ≡ Some last → ((next : State) → run (Some next) bs ≡ Some last → StateFits next) → StateFits s
    by None i j go = let n : run None bs ≡ None = none_run bs in absurd (cc)
    by (Some next) i j go = step_back s next b i (go next j)

EndBack : State → Option Lines → Type 0
EndBack s None = Unit {0}
EndBack s (Some t) = LinesFit t → StateFits s

ends_back : (s : State) → EndBack s (ending s)
unfolding StateFits EndBack
ends_back (at_place (start None)) = λ h. (tt, tt)
ends_back (at_place (start (Some t))) = λ h. (h, tt)
ends_back (at_place (gap c l k)) = tt
ends_back (after_minus p) = tt
ends_back (in_digits p n) = λ h. let r = joined_back (context_of p) (line_of p n) h in line_back p n r.0 r.1

end_back : (s : State) (t : Lines) → ending s ≡ Some t → LinesFit t → StateFits s
unfolding EndBack
end_back s t e h = let w : EndBack s (Some t) = subst (EndBack s) e (ends_back s) in w h

number_fits : (s : State) → OwnFits s → fits (meaning s).number ≡ true
number_fits (at_place p) f = refl
number_fits (after_minus p) f = refl
number_fits (in_digits p n) f = f

rest_run : (bytes : List ℕ) (at from : ℕ) (r : Reading) (p : Progress bytes at r from) (last : State) → run (Some begin) bytes ≡ Some last → run (Some p.state) (drop at bytes) ≡ Some last
rest_run bytes at from r p last e =
    ap (λ x. run x (drop at bytes)) (sym p.ran)
    ∙ (sym (run-append (Some begin) (take at bytes) (drop at bytes))
    ∙ (ap (run (Some begin)) (take-append-drop at bytes) ∙ e))

state_fits : (bytes : List ℕ) (at from : ℕ) (r : Reading) (p : Progress bytes at r from) (last : State) → run (Some begin) bytes ≡ Some last → StateFits last → StateFits p.state
state_fits bytes at from r p last e h = run_back (drop at bytes) p.state last (rest_run bytes at from r p last e) h

reading_fits : (bytes : List ℕ) (at from : ℕ) (r : Reading) (p : Progress bytes at r from) → StateFits p.state → fits r.number ≡ true
unfolding StateFits
reading_fits bytes at from r p h = ap (λ x. fits x.number) p.means ∙ number_fits p.state h.1

clean_end : (bytes : List ℕ) (from : ℕ) (r : Reading) (p : Progress bytes (length bytes) r from) → fits r.number ≡ true → Clean bytes (length bytes)
clean_end bytes from r p f =
    let all : take (length bytes) bytes ≡ bytes = take-length bytes in
    let n : length (state_bytes p.state) ≡ length bytes = ap length (p.read ∙ all) in
    subst (Clean bytes) n (clean_upto bytes [] p.state (sym all ∙ (sym p.read ∙ sym (append-nil (state_bytes p.state)))) p.well (own_of bytes (length bytes) from r p f) tt p.clean)

walk : (n : ℕ) (bytes : List ℕ) (at from : ℕ) (r : Reading) (last : State) → n + at ≡ length bytes → (p : Progress bytes at r from) → run (Some begin) bytes ≡ Some last → StateFits last → Clean bytes (length bytes)
walk zero bytes at from r last l p e h =
    let i : at ≡ length bytes = omega arith in
    let f : fits r.number ≡ true = reading_fits bytes at from r p (state_fits bytes at from r p last e h) in
    clean_end bytes from r (subst (λ (k : ℕ). Progress bytes k r from) i p) f
walk (suc n) bytes at from r last l p e h = by (step (Some p.state) (get_or bytes at 0)) refl (λ new other q. walk n bytes (suc at) other new last (omega arith) q e h)
  where
    few : at < length bytes
    few = omega arith

    after_it : run (step (Some p.state) (get_or bytes at 0)) (drop (suc at) bytes) ≡ Some last
    after_it = ap (run (Some p.state)) (sym (drop-cons bytes at 0 few)) ∙ rest_run bytes at from r p last e

    by : (o : Option State) → step (Some p.state) (get_or bytes at 0) ≡ o → ((new : Reading) (other : ℕ) → Progress bytes (suc at) new other → Clean bytes (length bytes)) → Clean bytes (length bytes)
    by None i go = let a : run None (drop (suc at) bytes) ≡ Some last = ap (λ x. run x (drop (suc at) bytes)) (sym i) ∙ after_it in let b : run None (drop (suc at) bytes) ≡ None = none_run (drop (suc at) bytes) in absurd (cc)
    by (Some next_state) i go =
        let f : fits r.number ≡ true = reading_fits bytes at from r p (state_fits bytes at from r p last e h) in
        go (meaning next_state) (length (place_bytes (place_of p.state)))
        (one_more bytes at from (length (place_bytes (place_of p.state))) r (meaning next_state) p f few (ap (λ x. next x (get_or bytes at 0)) p.means ∙ (step_means p.state (get_or bytes at 0) ∙ ap meant i)) refl)

choices_clean : (bytes : List ℕ) (g : Given) → IsChoices bytes g → Clean bytes (length bytes)
choices_clean bytes g w =
    let c : EndsIn (run (Some begin) bytes) w.spells.lines = complete bytes g w.spells in
    walk (length bytes) bytes 0 0 begun_reading c.state (omega arith) (at_start bytes begun_reading refl) c.is
    (end_back c.state w.spells.lines c.ends (lines_fit w.spells.lines (subst GivenFits w.spells.means w.within)))

drop_past : (bytes : List ℕ) (n : ℕ) → length bytes ≤ n → drop n bytes ≡ []
drop_past [] zero l = refl
drop_past [] (suc n) l = refl
drop_past (b ∷ bytes) zero l = absurd (omega arith)
drop_past (b ∷ bytes) (suc n) l = drop_past bytes n (omega arith)

not_and : (a b : Bool) → b ≡ false → (a && b) ≡ false
not_and true b h = h
not_and false b h = refl

wide_past : (bytes : List ℕ) (n : ℕ) → length bytes ≤ n → wide_at bytes n ≡ false
wide_past bytes n l = not_and (opens bytes n) (not (fits (front_number (drop n bytes)))) (ap (λ x. not (fits (front_number x))) (drop_past bytes n l))

no_fault : (bytes : List ℕ) (g : Given) (n : ℕ) (t : Bool) → nat_le (suc n) (length bytes) ≡ t → IsChoices bytes g → FaultsAt bytes n → ⊥
no_fault bytes g n true e w (inl stop) =
    stop.stops (leb-true (suc n) (length bytes) e)
    (record { rest = drop (suc n) bytes; given = g; spells = subst (λ (x : List ℕ). Spells x g) (sym (take-append-drop (suc n) bytes)) w.spells })
no_fault bytes g n false e w (inl stop) = let i : n ≡ length bytes = grind (arith, nat_tests, stop.within) in stop.ends i g w.spells
no_fault bytes g n true e w (inr h) = let c : wide_at bytes n ≡ false = choices_clean bytes g w n (leb-true (suc n) (length bytes) e) in cc
no_fault bytes g n false e w (inr h) = let l : length bytes ≤ n = grind (arith, nat_tests) in let c : wide_at bytes n ≡ false = wide_past bytes n l in cc

pub not_both : (bytes : List ℕ) (g : Given) (at : ℕ) → IsChoices bytes g → FaultAt bytes at → ⊥
not_both bytes g at w f = no_fault bytes g at (nat_le (suc at) (length bytes)) refl w f.here

pub one_fault : (bytes : List ℕ) (m n : ℕ) → FaultAt bytes m → FaultAt bytes n → m ≡ n
one_fault bytes m n f h = by (nat_le (suc m) n) (nat_le (suc n) m) refl refl
  where
    by : (s t : Bool) → nat_le (suc m) n ≡ s → nat_le (suc n) m ≡ t → m ≡ n
    by true t e i = absurd (h.first m (leb-true (suc m) n e) f.here)
    by false true e i = absurd (f.first n (leb-true (suc n) m i) h.here)
    by false false e i = grind (arith, nat_tests)
