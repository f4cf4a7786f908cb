-- What holds at a byte of a text of choices, and the answers there.
use Rattle.std.proofs.Common.{◌≡◌, ℕ, suc, zero, ◌+◌, ◌<◌, ◌≤◌, inl, inr, Bool, true, false, List, [], ◌∷◌, ◌++◌, length, take, drop, get_or, Option, None, Some, refl, sym, ap, subst, ◌∙◌, arith, append_assoc, append-nil, drop-cons, length-append}
use Rattle.std.proofs.Math.Seq.{take-suc, take-length}
use Rattle.std.proofs.lemmas.List.{length-take-le, take-append-drop}
use Rattle.std.proofs.lemmas.Int.{ints}
use Rattle.spl_runs.specs.Word.{fits}
use Rattle.spl_runs.specs.Choices.{Given}
use Rattle.spl_runs.specs.ChoicesText.{is_digit, decimal, signed, Numeral, digits_of, numeral_bytes, Lines, lines_given, Spells, GivenFits, IsChoices, Begins, FaultsAt, FaultAt, wide_at}
use Rattle.spl_runs.specs.Reading.{Reading, kind_of, next, ended, begun_reading, is_in_number, IsPast, Agrees}
use Rattle.spl_runs.proofs.Trees.{Place, start, gap, place_bytes, State, at_place, after_minus, in_digits, place_of, own_bytes, state_bytes, on_digit, step, run, begin, ending, meaning, meant, given_of_lines, step_means, ending_means}
use Rattle.spl_runs.proofs.Spelling.{kind_tells, IsState, Follows, follows, kind_follows, continues, sound, no_more, no_end, on_a_digit, run-append}
use Rattle.spl_runs.proofs.Wide.{Clean, wide_number}
use Rattle.spl_runs.proofs.Progress.{LinesFit, PlaceFits, OwnFits, own_fits, lines_of_fit, given_fits, clean_upto, Keeps, KeepsWell, Before, kind_keeps}

-- after so many bytes
pub record Progress (bytes : List ℕ) (at : ℕ) (r : Reading) (from : ℕ) : Type 0 where
  pub state : State
  pub means : r ≡ meaning state
  pub ran : run (Some begin) (take at bytes) ≡ Some state
  pub read : state_bytes state ≡ take at bytes
  pub well : IsState state
  pub fit : PlaceFits (place_of state)
  -- the place where the number that is being read begins
  pub begins : is_in_number r.mode ≡ true → from ≡ length (place_bytes (place_of state))
  pub clean : Clean bytes (length (place_bytes (place_of state)))

pub at_start : (bytes : List ℕ) (r : Reading) → r ≡ begun_reading → Progress bytes 0 r 0
at_start bytes r e = record {
  state = begin;
  means = e;
  ran = refl;
  read = refl;
  well = tt;
  fit = tt;
  begins = λ i. refl;
  clean = λ m lt. absurd (omega arith);
}

-- where the number at a byte begins
pub from_of : (bytes : List ℕ) (at from : ℕ) (r : Reading) (p : Progress bytes at r from) → at ≤ length bytes → is_in_number r.mode ≡ false → at ≡ length (place_bytes (place_of p.state))
from_of bytes at from r p l e = by p.state (ap (λ x. is_in_number x.mode) (sym p.means) ∙ e) p.read
  where
    by : (s : State) → is_in_number (meaning s).mode ≡ false → state_bytes s ≡ take at bytes → at ≡ length (place_bytes (place_of s))
    by (at_place q) i h = sym (length-take-le at bytes l) ∙ (ap length (sym h) ∙ ap length (append-nil (place_bytes q)))
    by (after_minus q) i h = absurd (cc)
    by (in_digits q n) i h = absurd (cc)

pub own_of : (bytes : List ℕ) (at from : ℕ) (r : Reading) (p : Progress bytes at r from) → fits r.number ≡ true → OwnFits p.state
own_of bytes at from r p f = own_fits p.state (ap (λ x. fits x.number) (sym p.means) ∙ f)

before : (bytes : List ℕ) (at from : ℕ) (r : Reading) (p : Progress bytes at r from) → fits r.number ≡ true → at < length bytes → Before bytes (drop (suc at) bytes) p.state (get_or bytes at 0)
before bytes at from r p f l = record {
  is = sym (take-append-drop at bytes) ∙ (ap (λ x. x ++ drop at bytes) (sym p.read) ∙ ap (λ x. state_bytes p.state ++ x) (drop-cons bytes at 0 l));
  well = p.well;
  fit = p.fit;
  own = own_of bytes at from r p f;
  clean = p.clean;
}

-- one byte more
next_progress : (bytes : List ℕ) (at from other : ℕ) (r new : Reading) (p : Progress bytes at r from) (s : State) → fits r.number ≡ true → at < length bytes → step (Some p.state) (get_or bytes at 0) ≡ Some s → new ≡ meaning s
    → other ≡ length (place_bytes (place_of p.state)) → Progress bytes (suc at) new other
next_progress bytes at from other r new p s f l e m o =
    let b : ℕ = get_or bytes at 0 in
    let w : Follows p.state b s = follows p.state s b p.well e in
    let k : Keeps bytes p.state s = subst (KeepsWell bytes p.state) e (kind_keeps bytes (drop (suc at) bytes) (kind_of b) p.state b (before bytes at from r p f l) (kind_tells b) (kind_follows (kind_of b) p.state b (kind_tells b) p.well)) in
    let t : take (suc at) bytes ≡ take at bytes ++ b ∷ [] = take-suc bytes at 0 l in
    record {
      state = s;
      means = m;
      ran = ap (λ x. run (Some begin) x) t ∙ (run-append (Some begin) (take at bytes) (b ∷ []) ∙ (ap (λ x. step x b) p.ran ∙ e));
      read = w.bytes ∙ (ap (λ x. x ++ b ∷ []) p.read ∙ sym t);
      well = w.well;
      fit = k.fit;
      begins = λ i. o ∙ ap (λ q. length (place_bytes q)) (sym (k.same (ap (λ x. is_in_number x.mode) (sym m) ∙ i)));
      clean = k.clean;
    }

some_meant : (o : Option State) (new : Reading) → meant o ≡ Some new → (s : State) × (o ≡ Some s) × (new ≡ meaning s)
some_meant None new e = absurd (cc)
some_meant (Some s) new e = (s, refl, cc)

pub one_more : (bytes : List ℕ) (at from other : ℕ) (r new : Reading) (p : Progress bytes at r from) → fits r.number ≡ true → at < length bytes → next r (get_or bytes at 0) ≡ Some new → other ≡ length (place_bytes (place_of p.state)) → Progress bytes (suc at) new other
one_more bytes at from other r new p f l e o =
    let m = some_meant (step (Some p.state) (get_or bytes at 0)) new (sym (step_means p.state (get_or bytes at 0)) ∙ (ap (λ x. next x (get_or bytes at 0)) (sym p.means) ∙ e)) in
    next_progress bytes at from other r new p m.0 f l m.1 m.2 o

-- ---- faults

begins_prefix : (xs ys : List ℕ) → Begins (xs ++ ys) → Begins xs
begins_prefix xs ys h = record { rest = ys ++ h.rest; given = h.given; spells = subst (λ (x : List ℕ). Spells x h.given) (append_assoc xs ys h.rest) h.spells }

take_split : (m at : ℕ) (bytes : List ℕ) → m ≤ at → (ys : List ℕ) × (take at bytes ≡ take m bytes ++ ys)
take_split zero at bytes l = (take at bytes, refl)
take_split (suc m) zero bytes l = absurd (omega arith)
take_split (suc m) (suc at) [] l = ([], refl)
take_split (suc m) (suc at) (b ∷ bytes) l = let t = take_split m at bytes (omega arith) in (t.0, ap (λ x. b ∷ x) t.1)

begins_before : (bytes : List ℕ) (m at : ℕ) → m ≤ at → Begins (take at bytes) → Begins (take m bytes)
begins_before bytes m at l h = let t = take_split m at bytes l in begins_prefix (take m bytes) t.0 (subst Begins t.1 h)

-- before a byte that is reached and before wide numbers there's no fault
no_fault : (bytes : List ℕ) (at m : ℕ) → at ≤ length bytes → Begins (take at bytes) → m < at → wide_at bytes m ≡ false → FaultsAt bytes m → ⊥
no_fault bytes at m l h lt w (inl stop) = stop.stops (omega arith) (begins_before bytes (suc m) at (omega arith) h)
no_fault bytes at m l h lt w (inr e) = cc

begins_at : (bytes : List ℕ) (at from : ℕ) (r : Reading) (p : Progress bytes at r from) → Begins (take at bytes)
begins_at bytes at from r p = subst Begins p.read (continues p.state p.well)

no_digit : (s : State) (b : ℕ) (t : Bool) → is_digit b ≡ t → step (Some s) b ≡ None → is_digit b ≡ false
no_digit s b true d e = let i : step (Some s) b ≡ Some (on_digit s b) = on_a_digit s b d in absurd (cc)
no_digit s b false d e = d

none_meant : (o : Option State) → meant o ≡ None → o ≡ None
none_meant None e = refl
none_meant (Some s) e = absurd (cc)

read_length : (bytes : List ℕ) (at from : ℕ) (r : Reading) (p : Progress bytes at r from) → at ≤ length bytes → length (state_bytes p.state) ≡ at
read_length bytes at from r p l = ap length p.read ∙ length-take-le at bytes l

-- a byte that isn't taken
pub bad_byte : (bytes : List ℕ) (at from : ℕ) (r : Reading) → Progress bytes at r from → fits r.number ≡ true → at < length bytes → next r (get_or bytes at 0) ≡ None → FaultAt bytes at
bad_byte bytes at from r p f l e =
    let b : ℕ = get_or bytes at 0 in
    let s : step (Some p.state) b ≡ None = none_meant (step (Some p.state) b) (sym (step_means p.state b) ∙ (ap (λ x. next x b) (sym p.means) ∙ e)) in
    let g : Begins (take at bytes) = begins_at bytes at from r p in
    let w : Before bytes (drop (suc at) bytes) p.state b = before bytes at from r p f l in
    let c : Clean bytes (length (state_bytes p.state)) = clean_upto bytes (b ∷ drop (suc at) bytes) p.state w.is p.well w.own (no_digit p.state b (is_digit b) refl s) p.clean in
    let n : length (state_bytes p.state) ≡ at = read_length bytes at from r p (omega arith) in
    record {
      here = inl (record {
        within = omega arith;
        before = g;
        stops = λ lt h. no_more (take at bytes) b p.state p.ran s (subst Begins (take-suc bytes at 0 l) h);
        ends = λ i given h. absurd (omega arith);
      });
      first = λ m lt h. no_fault bytes at m (omega arith) g lt (c m (omega arith)) h;
    }

-- a number that passes 128 bits
past_number : (s : State) → fits (meaning s).number ≡ false → (p : Place) × (n : Numeral) × (s ≡ in_digits p n)
past_number (at_place p) h = absurd (cc)
past_number (after_minus p) h = absurd (cc)
past_number (in_digits p n) h = (p, n, refl)

past_meant : (o : Option State) → IsPast (meant o) → (s : State) × (o ≡ Some s) × (fits (meaning s).number ≡ false)
past_meant None h = absurd h
past_meant (Some s) h = (s, refl, h)

wide_step : (bytes : List ℕ) (at from : ℕ) (r : Reading) (p : Progress bytes at r from) (s : State) → fits r.number ≡ true → at < length bytes → step (Some p.state) (get_or bytes at 0) ≡ Some s → fits (meaning s).number ≡ false
    → wide_at bytes (length (place_bytes (place_of p.state))) ≡ true
wide_step bytes at from r p s f l e u = by s (follows p.state s b p.well e) k.same u
  where
    b : ℕ
    b = get_or bytes at 0

    k : Keeps bytes p.state s
    k = subst (KeepsWell bytes p.state) e (kind_keeps bytes (drop (suc at) bytes) (kind_of b) p.state b (before bytes at from r p f l) (kind_tells b) (kind_follows (kind_of b) p.state b (kind_tells b) p.well))

    whole : (x : State) → Follows p.state b x → bytes ≡ state_bytes x ++ drop (suc at) bytes
    whole x g = (before bytes at from r p f l).is ∙ (sym (append_assoc (state_bytes p.state) (b ∷ []) (drop (suc at) bytes)) ∙ ap (λ y. y ++ drop (suc at) bytes) (sym g.bytes))

    by : (x : State) → Follows p.state b x → (is_in_number (meaning x).mode ≡ true → place_of x ≡ place_of p.state) → fits (meaning x).number ≡ false → wide_at bytes (length (place_bytes (place_of p.state))) ≡ true
    by (at_place q) g same h = absurd (cc)
    by (after_minus q) g same h = absurd (cc)
    by (in_digits q n) g same h =
        subst (λ (y : Place). wide_at bytes (length (place_bytes y)) ≡ true) (same refl)
        (wide_number bytes (drop (suc at) bytes) q n (whole (in_digits q n) g ∙ append_assoc (place_bytes q) (numeral_bytes n) (drop (suc at) bytes)) g.well.1 h)

pub wide_byte : (bytes : List ℕ) (at from : ℕ) (r : Reading) (p : Progress bytes at r from) → fits r.number ≡ true → at < length bytes → IsPast (next r (get_or bytes at 0)) → FaultAt bytes (length (place_bytes (place_of p.state)))
wide_byte bytes at from r p w l h =
    let b : ℕ = get_or bytes at 0 in
    let i : IsPast (meant (step (Some p.state) b)) = subst IsPast (ap (λ x. next x b) p.means ∙ step_means p.state b) h in
    let m = past_meant (step (Some p.state) b) i in
    let n : length (state_bytes p.state) ≡ at = read_length bytes at from r p (omega arith) in
    let o : length (state_bytes p.state) ≡ length (place_bytes (place_of p.state)) + length (own_bytes p.state) = length-append (place_bytes (place_of p.state)) (own_bytes p.state) in
    record {
      here = inr (wide_step bytes at from r p m.0 w l m.1 m.2);
      first = λ k lt f. no_fault bytes at k (omega arith) (begins_at bytes at from r p) (omega arith) (p.clean k lt) f;
    }

-- ---- the end

none_given : (o : Option Lines) → given_of_lines o ≡ None → o ≡ None
none_given None e = refl
none_given (Some t) e = absurd (cc)

some_given : (o : Option Lines) (g : Given) → given_of_lines o ≡ Some g → (t : Lines) × (o ≡ Some t) × (g ≡ lines_given t)
some_given None g e = absurd (cc)
some_given (Some t) g e = (t, refl, cc)

EndFits : Option Lines → Type 0
EndFits None = Unit {0}
EndFits (Some t) = LinesFit t

end_fits : (s : State) → PlaceFits (place_of s) → OwnFits s → EndFits (ending s)
unfolding EndFits
end_fits (at_place (start None)) f o = tt
end_fits (at_place (start (Some t))) f o = f
end_fits (at_place (gap c l k)) f o = tt
end_fits (after_minus p) f o = tt
end_fits (in_digits p n) f o = lines_of_fit p n f o

lines_fit : (s : State) (t : Lines) → PlaceFits (place_of s) → OwnFits s → ending s ≡ Some t → LinesFit t
unfolding EndFits
lines_fit s t f o e = subst EndFits e (end_fits s f o)

pub bad_end : (bytes : List ℕ) (from : ℕ) (r : Reading) → Progress bytes (length bytes) r from → fits r.number ≡ true → ended r ≡ None → FaultAt bytes (length bytes)
bad_end bytes from r p f e =
    let s : ending p.state ≡ None = none_given (ending p.state) (sym (ending_means p.state) ∙ (ap ended (sym p.means) ∙ e)) in
    let all : take (length bytes) bytes ≡ bytes = take-length bytes in
    let g : Begins (take (length bytes) bytes) = begins_at bytes (length bytes) from r p in
    let ran : run (Some begin) bytes ≡ Some p.state = ap (λ x. run (Some begin) x) (sym all) ∙ p.ran in
    let c : Clean bytes (length (state_bytes p.state)) = clean_upto bytes [] p.state (sym all ∙ (sym p.read ∙ sym (append-nil (state_bytes p.state)))) p.well (own_of bytes (length bytes) from r p f) tt p.clean in
    let n : length (state_bytes p.state) ≡ length bytes = read_length bytes (length bytes) from r p (omega arith) in
    record {
      here = inl (record {
        within = omega arith;
        before = g;
        stops = λ lt h. absurd (omega arith);
        ends = λ i given h. no_end bytes given p.state ran s h;
      });
      first = λ m lt h. no_fault bytes (length bytes) m (omega arith) g lt (c m (omega arith)) h;
    }

pub good_end : (bytes : List ℕ) (from : ℕ) (r : Reading) (g : Given) → Progress bytes (length bytes) r from → fits r.number ≡ true → ended r ≡ Some g → IsChoices bytes g
good_end bytes from r g p f e =
    let m = some_given (ending p.state) g (sym (ending_means p.state) ∙ (ap ended (sym p.means) ∙ e)) in
    let t : state_bytes p.state ≡ bytes = p.read ∙ take-length bytes in
    record {
      spells = subst (λ (x : List ℕ). Spells x g) t (subst (λ (h : Given). Spells (state_bytes p.state) h) (sym m.2) (sound p.state m.0 p.well m.1));
      within = subst GivenFits (sym m.2) (given_fits m.0 (lines_fit p.state m.0 p.fit (own_of bytes (length bytes) from r p f) m.1));
    }

-- the number that is being read has its sign
state_agrees : (s : State) → Agrees (meaning s).minus (meaning s).number
state_agrees (at_place p) = omega (arith, ints)
state_agrees (after_minus p) = omega (arith, ints)
state_agrees (in_digits p n) = by n.minus
  where
    by : (minus : Bool) → Agrees minus (signed minus (decimal (digits_of n)))
    by true = omega (arith, ints)
    by false = omega (arith, ints)

pub agrees : (bytes : List ℕ) (at from : ℕ) (r : Reading) → Progress bytes at r from → Agrees r.minus r.number
agrees bytes at from r p = subst (λ (x : Reading). Agrees x.minus x.number) (sym p.means) (state_agrees p.state)

-- where the number at a byte begins, as the code keeps it
pub from_here : (bytes : List ℕ) (at from : ℕ) (r : Reading) (p : Progress bytes at r from) → at < length bytes → is_in_number r.mode ≡ false → at ≡ length (place_bytes (place_of p.state))
from_here bytes at from r p l e = from_of bytes at from r p (omega arith) e

-- where the number at a byte begins: here, unless one is being read
pub from_there : (bytes : List ℕ) (at from other : ℕ) (r : Reading) (p : Progress bytes at r from) → true ≡ is_in_number r.mode → other ≡ from → other ≡ length (place_bytes (place_of p.state))
from_there bytes at from other r p i e = e ∙ p.begins (sym i)

pub from_now : (bytes : List ℕ) (at from other : ℕ) (r : Reading) (p : Progress bytes at r from) → at < length bytes → false ≡ is_in_number r.mode → other ≡ at → other ≡ length (place_bytes (place_of p.state))
from_now bytes at from other r p l i e = e ∙ from_here bytes at from r p l (sym i)
