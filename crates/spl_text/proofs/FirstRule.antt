-- The first rule that a piece breaks, in the order of the rules.
use Rattle.std.proofs.Common.{◌≡◌, ℕ, ◌+◌, ◌-◌, ◌^◌, ◌<◌, ◌≤◌, nat_le, nat_lt, Bool, true, false, cond, List, Option, None, Some, arith, refl, subst}
use Rattle.std.proofs.lemmas.Bool.{leb-true, leb-false, ltb-true, ltb-false}
use Rattle.spl_text.specs.TextRules.{raises, lowers, restarts, depth_after, run_after, depth_of, run_of, TokenBreaks, Breaks, rank}
use Rattle.spl_text.specs.Checked.{checked_token, checked, limit_rule}
use Rattle.spl_text.specs.declared.text_rule.TextRule.{TextRule}
use Rattle.spl_text.specs.declared.text_rule.TextRule.TheVariants.{BadByte, OpenComment, BigLiteral, LongName, TooDeep, LongRun}
use Rattle.spl_text.specs.declared.piece.Piece.{Piece}
use Rattle.spl_text.specs.declared.piece.Piece.TheVariants.{Gap, Taken, Broken}
use Rattle.spl_text.specs.declared.token.Token.{Token}
use Rattle.spl_text.specs.declared.token.TokenKind.{TokenKind}
use Rattle.spl_text.specs.declared.token.TokenKind.TheVariants.{Name, Number}

-- ---- what a token breaks by itself

pub data Own (t : Token) (kind : TokenKind) : Type 0 where
  fine : checked_token kind t ≡ Taken t → (kind ≡ Name → 64 < t.end - t.start → ⊥) → ((v : ℕ) → kind ≡ Number v → 2 ^ 61 < v → ⊥) → Own t kind
  long : checked_token kind t ≡ Broken LongName → kind ≡ Name → 64 < t.end - t.start → Own t kind
  big : checked_token kind t ≡ Broken BigLiteral → (v : ℕ) → kind ≡ Number v → 2 ^ 61 < v → Own t kind

number_is : (a b : ℕ) → Number a ≡ Number b → a ≡ b
number_is a b h = cc

pub own : (t : Token) (kind : TokenKind) → Own t kind
own t Name = by (nat_le (t.end - t.start) 64) refl
  where
    by : (b : Bool) → nat_le (t.end - t.start) 64 ≡ b → Own t Name
    by true e = fine (rw e refl) (λ _ h. omega (arith, leb-true _ _ e)) (λ v h _. absurd cc)
    by false e = long (rw e refl) refl (leb-false _ _ e)
own t (Number value) = by (nat_le value (2 ^ 61)) refl
  where
    by : (b : Bool) → nat_le value (2 ^ 61) ≡ b → Own t (Number value)
    by true e = fine (rw e refl) (λ h _. absurd cc) (λ v h g. omega (arith, leb-true _ _ e, number_is value v h))
    by false e = big (rw e refl) value refl (leb-false _ _ e)
own t _ = fine refl (λ h _. absurd cc) (λ v h _. absurd cc)

-- ---- what it breaks after others

pub data Limit (depth run : ℕ) : Type 0 where
  deep : limit_rule depth run ≡ Some TooDeep → 64 < depth → Limit depth run
  many : limit_rule depth run ≡ Some LongRun → depth ≤ 64 → 1024 < run → Limit depth run
  fine : limit_rule depth run ≡ None → depth ≤ 64 → run ≤ 1024 → Limit depth run

pub limit : (depth run : ℕ) → Limit depth run
limit depth run = by (nat_lt 64 depth) (nat_lt 1024 run) refl refl
  where
    by : (d r : Bool) → nat_lt 64 depth ≡ d → nat_lt 1024 run ≡ r → Limit depth run
    by true r e f = deep (rw e refl) (ltb-true _ _ e)
    by false true e f = many (rw (e, f) refl) (ltb-false _ _ e) (ltb-true _ _ f)
    by false false e f = fine (rw (e, f) refl) (ltb-false _ _ e) (ltb-false _ _ f)

-- from a depth that isn't too deep, only a token that raises it goes too deep
deep_raises : (depth : ℕ) (kind : TokenKind) → depth ≤ 64 → 64 < depth_after depth kind → (raises kind ≡ true) × (64 < depth + 1)
deep_raises depth kind shallow h = by (raises kind) (lowers kind) refl h
  where
    by : (up down : Bool) → raises kind ≡ up → 64 < cond up (depth + 1) (cond down (depth - 1) depth) → (raises kind ≡ true) × (64 < depth + 1)
    by true down e g = (e, g)
    by false true e g = absurd (omega arith)
    by false false e g = absurd (omega arith)

raises_deep : (depth : ℕ) (kind : TokenKind) → raises kind ≡ true → depth_after depth kind ≡ depth + 1
raises_deep depth kind up = rw up refl

long_run : (run : ℕ) (kind : TokenKind) → run ≤ 1024 → 1024 < run_after run kind → run_after run kind ≡ 1025
long_run run kind short h = by (restarts kind) h
  where
    by : (b : Bool) → 1024 < cond b 0 (run + 1) → cond b 0 (run + 1) ≡ 1025
    by true g = absurd (omega arith)
    by false g = omega arith

-- ---- the first rule

abbrev own_or : Piece → Option TextRule → Option TextRule
own_or (Gap end) later = later
own_or (Taken t) later = later
own_or (Broken rule) later = Some rule

-- the first rule that a piece breaks after these tokens
abbrev pub first_rule : List Token → Piece → Option TextRule
first_rule before (Gap end) = None
first_rule before (Broken rule) = Some rule
first_rule before (Taken t) = own_or (checked_token t.kind t) (limit_rule (depth_after (depth_of before) t.kind) (run_after (run_of before) t.kind))

-- What the first rule is: none where no rule is broken, else one that is broken, before all others in the order.
abbrev pub IsFirst : List Token → Piece → Option TextRule → Type 0
IsFirst before piece None = (other : TextRule) → Breaks before piece other → ⊥
IsFirst before piece (Some rule) = Breaks before piece rule × ((other : TextRule) → Breaks before piece other → rank rule ≤ rank other)

first_of_token : (before : List Token) (t : Token) → depth_of before ≤ 64 → run_of before ≤ 1024 → Own t t.kind
    → Limit (depth_after (depth_of before) t.kind) (run_after (run_of before) t.kind) → IsFirst before (Taken t) (first_rule before (Taken t))
first_of_token before t shallow short (long e name lengthy) limited = rw e ((name, lengthy), after)
  where
    after : (other : TextRule) → TokenBreaks before t other → rank LongName ≤ rank other
    after BadByte h = absurd h
    after OpenComment h = absurd h
    after LongName h = omega arith
    after BigLiteral h = omega arith
    after TooDeep h = omega arith
    after LongRun h = omega arith
first_of_token before t shallow short (big e value number above) limited = rw e ((value, number, above), after)
  where
    after : (other : TextRule) → TokenBreaks before t other → rank BigLiteral ≤ rank other
    after BadByte h = absurd h
    after OpenComment h = absurd h
    after LongName h = absurd cc
    after BigLiteral h = omega arith
    after TooDeep h = omega arith
    after LongRun h = omega arith
first_of_token before t shallow short (fine e not_long not_big) (deep f below) = rw (e, f) (deep_raises (depth_of before) t.kind shallow below, after)
  where
    after : (other : TextRule) → TokenBreaks before t other → rank TooDeep ≤ rank other
    after BadByte h = absurd h
    after OpenComment h = absurd h
    after LongName h = absurd (not_long h.0 h.1)
    after BigLiteral h = absurd (not_big h.0 h.1 h.2)
    after TooDeep h = omega arith
    after LongRun h = omega arith
first_of_token before t shallow short (fine e not_long not_big) (many f flat above) = rw (e, f) (long_run (run_of before) t.kind short above, after)
  where
    after : (other : TextRule) → TokenBreaks before t other → rank LongRun ≤ rank other
    after BadByte h = absurd h
    after OpenComment h = absurd h
    after LongName h = absurd (not_long h.0 h.1)
    after BigLiteral h = absurd (not_big h.0 h.1 h.2)
    after TooDeep h = absurd (omega (arith, raises_deep (depth_of before) t.kind h.0, h.1))
    after LongRun h = omega arith
first_of_token before t shallow short (fine e not_long not_big) (fine f flat few) = rw (e, f) unbroken
  where
    unbroken : (other : TextRule) → TokenBreaks before t other → ⊥
    unbroken BadByte h = h
    unbroken OpenComment h = h
    unbroken LongName h = not_long h.0 h.1
    unbroken BigLiteral h = not_big h.0 h.1 h.2
    unbroken TooDeep h = omega (arith, raises_deep (depth_of before) t.kind h.0, h.1)
    unbroken LongRun h = omega arith

pub first : (before : List Token) (piece : Piece) → depth_of before ≤ 64 → run_of before ≤ 1024 → IsFirst before piece (first_rule before piece)
first before (Gap end) shallow short = λ other h. h
first before (Taken t) shallow short =
    first_of_token before t shallow short (own t t.kind) (limit (depth_after (depth_of before) t.kind) (run_after (run_of before) t.kind))
first before (Broken rule) shallow short = (refl, λ other h. subst (λ r. rank rule ≤ rank r) h (omega arith))

-- a token that breaks no rule is checked, and keeps the depth and the run within their limits
pub record Kept (before : List Token) (t : Token) : Type 0 where
  pub depth : depth_after (depth_of before) t.kind ≤ 64
  pub run : run_after (run_of before) t.kind ≤ 1024

pub first_none : (before : List Token) (t : Token) → first_rule before (Taken t) ≡ None → Kept before t
first_none before t h = by (own t t.kind) (limit (depth_after (depth_of before) t.kind) (run_after (run_of before) t.kind))
  where
    by : Own t t.kind → Limit (depth_after (depth_of before) t.kind) (run_after (run_of before) t.kind) → Kept before t
    by (long e name lengthy) limited = absurd (clash (rw e at h))
      where
        clash : Some LongName ≡ None → ⊥
        clash g = cc
    by (big e value number above) limited = absurd (clash (rw e at h))
      where
        clash : Some BigLiteral ≡ None → ⊥
        clash g = cc
    by (fine e a b) (deep f below) = absurd (clash (rw (e, f) at h))
      where
        clash : Some TooDeep ≡ None → ⊥
        clash g = cc
    by (fine e a b) (many f flat above) = absurd (clash (rw (e, f) at h))
      where
        clash : Some LongRun ≡ None → ⊥
        clash g = cc
    by (fine e a b) (fine f flat few) = record { depth = flat; run = few }

-- ---- what the code finds

pub checked-gap : (piece : Piece) (end : ℕ) → checked piece ≡ Gap end → piece ≡ Gap end
checked-gap (Gap e) end h = h
checked-gap (Broken rule) end h = absurd cc
checked-gap (Taken t) end h = by (own t t.kind)
  where
    by : Own t t.kind → Taken t ≡ Gap end
    by (fine e a b) = absurd cc
    by (long e name lengthy) = absurd cc
    by (big e value number above) = absurd cc

pub checked-taken : (piece : Piece) (t : Token) → checked piece ≡ Taken t → (piece ≡ Taken t) × (checked_token t.kind t ≡ Taken t)
checked-taken (Gap e) t h = absurd cc
checked-taken (Broken rule) t h = absurd cc
checked-taken (Taken s) t h = by (own s s.kind)
  where
    by : Own s s.kind → (Taken s ≡ Taken t) × (checked_token t.kind t ≡ Taken t)
    by (fine e a b) =
        let same : s ≡ t = cc in
        (cc, subst (λ x. checked_token x.kind x ≡ Taken x) same e)
    by (long e name lengthy) = absurd cc
    by (big e value number above) = absurd cc

pub checked-broken : (before : List Token) (piece : Piece) (rule : TextRule) → checked piece ≡ Broken rule → first_rule before piece ≡ Some rule
checked-broken before (Gap e) rule h = absurd cc
checked-broken before (Broken r) rule h = cc
checked-broken before (Taken t) rule h = rw h refl

pub checked-limit : (before : List Token) (piece : Piece) (t : Token) (depth run : ℕ) (rule : Option TextRule) → checked piece ≡ Taken t
    → depth ≡ depth_of before → run ≡ run_of before → limit_rule (depth_after depth t.kind) (run_after run t.kind) ≡ rule → first_rule before piece ≡ rule
checked-limit before piece t depth run rule h d r e =
    let c = checked-taken piece t h in
    rw (c.0, c.1, ← d, ← r) e
