-- What is known of a text up to an offset, and of each text as a whole.
use Rattle.std.proofs.Common.{◌≡◌, ℕ, zero, suc, ◌+◌, ◌-◌, ◌^◌, ◌<◌, ◌≤◌, ◌⊎◌, inl, inr, List, [], ◌∷◌, ◌++◌, length, drop, Option, None, Some, arith, ap, sym, refl, subst}
use Rattle.std.specs.List.{All, slice_range}
use Rattle.std.proofs.lemmas.Bool.{cases_lt}
use Rattle.std.proofs.lemmas.List.{length-drop, length-take-le}
use Rattle.std.proofs.lemmas.List.Elements.{All-cons, All-nil}
use Rattle.std.proofs.lemmas.List.Sums.{fold_push}
use Rattle.spl_text.specs.Pieces.{piece_at, Pieces, Cut}
use Rattle.spl_text.specs.Pieces.Pieces.{none, gap, token}
use Rattle.spl_text.specs.TextRules.{depth_after, run_after, depth_of, run_of, Breaks, rank, IsBroken, TokenFault, IsUnbroken, HasOneCut, HasOneFault, EachTextHasOneReading}
use Rattle.spl_text.specs.Spans.{IsName, IsTokenOf, TokensStandInOrder, TokensAreSpelled}
use Rattle.spl_text.specs.TokenList.{token_at}
use Rattle.spl_text.specs.declared.text_rule.TextRule.{TextRule}
use Rattle.spl_text.specs.declared.text_rule.TextRule.TheVariants.{BadByte, OpenComment, BigLiteral, LongName, TooDeep, LongRun}
use Rattle.spl_text.specs.declared.piece.Piece.{Piece}
use Rattle.spl_text.specs.declared.piece.Piece.TheVariants.{Gap, Taken, Broken}
use Rattle.spl_text.specs.declared.token.Token.{Token}
use Rattle.spl_text.specs.declared.token.TokenKind.TheVariants.{Name, Number, End}
use Rattle.spl_text.proofs.Spelling.{IsSpelled, IsLongName, stands_gap, stands_token}
use Rattle.spl_text.proofs.Chains.{end_of, Pieces-gap, Pieces-token, Meet, meet, Cut-unique}
use Rattle.spl_text.proofs.Chains.Meet.{same, before, after}
use Rattle.spl_text.proofs.FirstRule.{IsFirst, first_rule, first, first_none}

-- pieces lead to an offset, these are their tokens, and no rule is broken before it
pub record Cursor (bytes : List ℕ) (at : ℕ) (items : List Token) : Type 0 where
  pub within : at ≤ length bytes
  pub reached : Pieces bytes 0 items at
  pub sound : (rule : TextRule) (place : ℕ) → place < at → IsBroken bytes rule place → ⊥
  pub shallow : depth_of items ≤ 64
  pub short : run_of items ≤ 1024

pub Cursor-start : (bytes : List ℕ) → Cursor bytes 0 []
Cursor-start bytes = record {
  within = omega arith;
  reached = none 0;
  sound = λ rule place h _. omega arith;
  shallow = omega arith;
  short = omega arith;
}

-- what stands at the offset breaks this rule first
pub Cursor-fault : (bytes : List ℕ) (at : ℕ) (items : List Token) (rule : TextRule) → Cursor bytes at items → at < length bytes
    → first_rule items (piece_at bytes at) ≡ Some rule → TokenFault bytes rule at
Cursor-fault bytes at items rule cursor here is = record {
  broken = record { within = here; before = items; reached = cursor.reached; breaks = found.0 };
  first = λ other place b. by other place b (meet bytes 0 at place items b.before cursor.reached b.reached);
}
  where
    found : IsFirst items (piece_at bytes at) (Some rule)
    found = subst (IsFirst items (piece_at bytes at)) is (first items (piece_at bytes at) cursor.shallow cursor.short)

    by : (other : TextRule) (place : ℕ) (b : IsBroken bytes other place) → Meet bytes items b.before at place → (at < place) ⊎ ((at ≡ place) × (rank rule ≤ rank other))
    by other place b (same e f) =
        inr (e, found.1 other (subst (λ x. Breaks x (piece_at bytes at) other) (sym f) (subst (λ x. Breaks b.before (piece_at bytes x) other) (sym e) b.breaks)))
    by other place b (before e f) = inl e
    by other place b (after e f) = absurd (cursor.sound other place e b)

-- what stands at the offset breaks no rule, so no rule is broken before its end
pub Cursor-sound : (bytes : List ℕ) (at : ℕ) (items : List Token) → Cursor bytes at items → first_rule items (piece_at bytes at) ≡ None
    → (next : ℕ) → end_of (piece_at bytes at) ≡ next → (rule : TextRule) (place : ℕ) → place < next → IsBroken bytes rule place → ⊥
Cursor-sound bytes at items cursor nothing next ends rule place h b = by (meet bytes 0 at place items b.before cursor.reached b.reached)
  where
    found : IsFirst items (piece_at bytes at) None
    found = subst (IsFirst items (piece_at bytes at)) nothing (first items (piece_at bytes at) cursor.shallow cursor.short)

    by : Meet bytes items b.before at place → ⊥
    by (same e f) = found rule (subst (λ x. Breaks x (piece_at bytes at) rule) (sym f) (subst (λ x. Breaks b.before (piece_at bytes x) rule) (sym e) b.breaks))
    by (before e f) = omega arith
    by (after e f) = cursor.sound rule place e b

pub Cursor-gap : (bytes : List ℕ) (at next : ℕ) (items : List Token) → Cursor bytes at items → piece_at bytes at ≡ Gap next → Cursor bytes next items
Cursor-gap bytes at next items cursor is = record {
  within = (stands_gap bytes at next is).1;
  reached = Pieces-gap bytes 0 at next items cursor.reached is;
  sound = Cursor-sound bytes at items cursor (ap (first_rule items) is) next (ap end_of is);
  shallow = cursor.shallow;
  short = cursor.short;
}

pub depth_of-push : (items : List Token) (t : Token) → depth_of (items ++ t ∷ []) ≡ depth_after (depth_of items) t.kind
depth_of-push items t = fold_push (λ depth x. depth_after depth x.kind) 0 items t

pub run_of-push : (items : List Token) (t : Token) → run_of (items ++ t ∷ []) ≡ run_after (run_of items) t.kind
run_of-push items t = fold_push (λ run x. run_after run x.kind) 0 items t

pub Cursor-token : (bytes : List ℕ) (at : ℕ) (items : List Token) (t : Token) → Cursor bytes at items → piece_at bytes at ≡ Taken t
    → first_rule items (piece_at bytes at) ≡ None → Cursor bytes t.end (items ++ t ∷ [])
Cursor-token bytes at items t cursor is nothing =
    let kept = first_none items t (rw is at nothing) in
    record {
      within = (stands_token bytes at t is).within;
      reached = Pieces-token bytes 0 at t items cursor.reached is;
      sound = Cursor-sound bytes at items cursor nothing t.end (ap end_of is);
      shallow = rw (depth_of-push items t) kept.depth;
      short = rw (run_of-push items t) kept.run;
    }

pub Cursor-cut : (bytes : List ℕ) (at : ℕ) (items : List Token) → Cursor bytes at items → length bytes ≤ at → Cut bytes items
Cursor-cut bytes at items cursor past =
    let e : at ≡ length bytes = omega (arith, cursor.within) in
    subst (Pieces bytes 0 items) e cursor.reached

pub Cursor-unbroken : (bytes : List ℕ) (at : ℕ) (items : List Token) → Cursor bytes at items → length bytes ≤ at → IsUnbroken bytes
Cursor-unbroken bytes at items cursor past rule place b = cursor.sound rule place (omega (arith, b.within)) b

-- ---- each text has one reading

rank_same : (a b : TextRule) → rank a ≡ rank b → a ≡ b
rank_same BadByte b h = by b h
  where
    by : (b : TextRule) → 0 ≡ rank b → BadByte ≡ b
    by BadByte h = refl
    by _ h = absurd (omega arith)
rank_same OpenComment b h = by b h
  where
    by : (b : TextRule) → 1 ≡ rank b → OpenComment ≡ b
    by OpenComment h = refl
    by _ h = absurd (omega arith)
rank_same LongName b h = by b h
  where
    by : (b : TextRule) → 2 ≡ rank b → LongName ≡ b
    by LongName h = refl
    by _ h = absurd (omega arith)
rank_same BigLiteral b h = by b h
  where
    by : (b : TextRule) → 3 ≡ rank b → BigLiteral ≡ b
    by BigLiteral h = refl
    by _ h = absurd (omega arith)
rank_same TooDeep b h = by b h
  where
    by : (b : TextRule) → 4 ≡ rank b → TooDeep ≡ b
    by TooDeep h = refl
    by _ h = absurd (omega arith)
rank_same LongRun b h = by b h
  where
    by : (b : TextRule) → 5 ≡ rank b → LongRun ≡ b
    by LongRun h = refl
    by _ h = absurd (omega arith)

-- the fault of a text is determined
pub TokenFault-unique : (bytes : List ℕ) (rule other : TextRule) (at place : ℕ) → TokenFault bytes rule at → TokenFault bytes other place → (other ≡ rule) × (place ≡ at)
TokenFault-unique bytes rule other at place f g = by (f.first other place g.broken) (g.first rule at f.broken)
  where
    by : ((at < place) ⊎ ((at ≡ place) × (rank rule ≤ rank other))) → ((place < at) ⊎ ((place ≡ at) × (rank other ≤ rank rule))) → (other ≡ rule) × (place ≡ at)
    by (inl a) (inl b) = absurd (omega arith)
    by (inl a) (inr b) = absurd (omega (arith, b.0))
    by (inr a) (inl b) = absurd (omega (arith, a.0))
    by (inr a) (inr b) = (rank_same other rule (omega (arith, a.1, b.1)), b.0)

reading_cut : (bytes : List ℕ) (at : ℕ) (items : List Token) → Cursor bytes at items → length bytes ≤ at → HasOneCut bytes ⊎ HasOneFault bytes
reading_cut bytes at items cursor past =
    let cut = Cursor-cut bytes at items cursor past in
    inl (record { tokens = items; cut = cut; unbroken = Cursor-unbroken bytes at items cursor past; only = λ others h. Cut-unique bytes others items h cut })

reading_fault : (bytes : List ℕ) (at : ℕ) (rule : TextRule) → TokenFault bytes rule at → HasOneCut bytes ⊎ HasOneFault bytes
reading_fault bytes at rule fault = inr (record { rule = rule; at = at; fault = fault; only = λ other place h. TokenFault-unique bytes rule other at place fault h })

reading_from : (fuel : ℕ) (bytes : List ℕ) (at : ℕ) (items : List Token) → Cursor bytes at items → length bytes ≤ at + fuel → HasOneCut bytes ⊎ HasOneFault bytes
reading_from zero bytes at items cursor enough = reading_cut bytes at items cursor (omega arith)
reading_from (suc fuel) bytes at items cursor enough =
    by (λ next more c h. reading_from fuel bytes next more c h) (cases_lt at (length bytes)) (piece_at bytes at) (first_rule items (piece_at bytes at)) refl refl
  where
    by : ((next : ℕ) (more : List Token) → Cursor bytes next more → length bytes ≤ next + fuel → HasOneCut bytes ⊎ HasOneFault bytes)
        → ((at < length bytes) ⊎ (length bytes ≤ at)) → (piece : Piece) (rule : Option TextRule) → piece_at bytes at ≡ piece → first_rule items (piece_at bytes at) ≡ rule
        → HasOneCut bytes ⊎ HasOneFault bytes
    by later (inr past) piece rule e f = reading_cut bytes at items cursor past
    by later (inl here) piece (Some rule) e f = reading_fault bytes at rule (Cursor-fault bytes at items rule cursor here f)
    by later (inl here) (Gap next) None e f = later next items (Cursor-gap bytes at next items cursor e) (omega (arith, (stands_gap bytes at next e).0))
    by later (inl here) (Taken t) None e f = later t.end (items ++ t ∷ []) (Cursor-token bytes at items t cursor e f) (omega (arith, (stands_token bytes at t e).filled))
    by later (inl here) (Broken rule) None e f = absurd (clash (rw e at f))
      where
        clash : Some rule ≡ None → ⊥
        clash g = cc

pub one_reading : EachTextHasOneReading
one_reading bytes = reading_from (length bytes) bytes 0 [] (Cursor-start bytes) (omega arith)

-- ---- the tokens of a text that breaks no rule

token_of : (bytes : List ℕ) (at : ℕ) (earlier : List Token) (t : Token) → IsUnbroken bytes → Pieces bytes 0 earlier at → piece_at bytes at ≡ Taken t → IsTokenOf bytes t
token_of bytes at earlier t unbroken reached is =
    let s = stands_token bytes at t is in
    record {
      filled = omega (arith, s.start, s.filled);
      within = s.within;
      name = λ h. rw s.start (named s h (s.name h));
      number = λ value h. rw s.start (record { digits = (s.number value h).0; exact = (s.number value h).1; small = fits s value h (cases_lt (2 ^ 61) value) });
    }
  where
    breaks : IsSpelled bytes at t → (rule : TextRule) → Breaks earlier (Taken t) rule → ⊥
    breaks s rule h = unbroken rule at (record { within = omega (arith, s.filled, s.within); before = earlier; reached = reached; breaks = rw is h })

    fits : IsSpelled bytes at t → (value : ℕ) → t.kind ≡ Number value → ((2 ^ 61 < value) ⊎ (value ≤ 2 ^ 61)) → value ≤ 2 ^ 61
    fits s value h (inl above) = absurd (breaks s BigLiteral (value, h, above))
    fits s value h (inr below) = below

    short : IsSpelled bytes at t → t.kind ≡ Name → ((64 < t.end - t.start) ⊎ (t.end - t.start ≤ 64)) → t.end - at ≤ 64
    short s h (inl above) = absurd (breaks s LongName (h, above))
    short s h (inr below) = omega (arith, s.start)

    named : IsSpelled bytes at t → t.kind ≡ Name → IsLongName (slice_range bytes at t.end) → IsName (slice_range bytes at t.end)
    named s h n = record {
      first = n.first;
      rest = n.rest;
      short = omega (arith, length-take-le (t.end - at) (drop at bytes) (omega (arith, length-drop at bytes, s.within)), short s h (cases_lt 64 (t.end - t.start)));
      free = n.free;
    }

tokens_of : (bytes : List ℕ) (at to : ℕ) (earlier tokens : List Token) → IsUnbroken bytes → Pieces bytes 0 earlier at → Pieces bytes at tokens to → All (IsTokenOf bytes) tokens
tokens_of bytes _ _ earlier _ unbroken reached (none at) = All-nil (IsTokenOf bytes)
tokens_of bytes _ _ earlier _ unbroken reached (gap at end to tokens e r) =
    tokens_of bytes end to earlier tokens unbroken (Pieces-gap bytes 0 at end earlier reached e) r
tokens_of bytes _ _ earlier _ unbroken reached (token at to t tokens e r) =
    All-cons (IsTokenOf bytes) t tokens (token_of bytes at earlier t unbroken reached e)
    (tokens_of bytes t.end to (earlier ++ t ∷ []) tokens unbroken (Pieces-token bytes 0 at t earlier reached e) r)

pub tokens_are_spelled : TokensAreSpelled
tokens_are_spelled bytes tokens cut unbroken = tokens_of bytes 0 (length bytes) [] tokens unbroken (none 0) cut

starts_after : (bytes : List ℕ) (at to : ℕ) (tokens : List Token) → Pieces bytes at tokens to → 0 < length tokens → at ≤ (token_at tokens 0).start
starts_after bytes _ _ _ (none at) h = absurd (omega arith)
starts_after bytes _ _ _ (gap at end to tokens e r) h = omega (arith, (stands_gap bytes at end e).0, starts_after bytes end to tokens r h)
starts_after bytes _ _ _ (token at to t tokens e r) h = omega (arith, (stands_token bytes at t e).start)

in_order : (bytes : List ℕ) (at to : ℕ) (tokens : List Token) → Pieces bytes at tokens to → (k : ℕ) → k + 1 < length tokens → (token_at tokens k).end ≤ (token_at tokens (k + 1)).start
in_order bytes _ _ _ (none at) k h = absurd (omega arith)
in_order bytes _ _ _ (gap at end to tokens e r) k h = in_order bytes end to tokens r k h
in_order bytes _ _ _ (token at to t tokens e r) zero h = starts_after bytes t.end to tokens r (omega arith)
in_order bytes _ _ _ (token at to t tokens e r) (suc k) h =
    let one : suc k + 1 ≡ suc (k + 1) = omega arith in
    rw one (in_order bytes t.end to tokens r k (omega arith))

pub tokens_stand_in_order : TokensStandInOrder
tokens_stand_in_order bytes tokens small cut unbroken =
    let all = tokens_are_spelled bytes tokens cut unbroken in
    let d : Token = record { kind = End; start = 0; end = 0 } in
    record {
      filled = λ k h. (all k d h).filled;
      ordered = in_order bytes 0 (length bytes) tokens cut;
      within = λ k h. omega (arith, (all k d h).within);
      small = λ k n h e. ((all k d h).number n e).small;
    }
