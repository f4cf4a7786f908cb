-- A text breaks no rule exactly where its tokens are fit and keep the limits.
use Rattle.std.proofs.Common.{◌≡◌, ℕ, ◌+◌, ◌-◌, ◌<◌, ◌≤◌, ◌⊎◌, inl, inr, Bool, true, false, cond, List, [], ◌∷◌, ◌++◌, map, length, drop, fold, arith, ap, sym, ◌∙◌, refl, subst}
use Rattle.std.specs.List.{All}
use Rattle.std.proofs.lemmas.Bool.{cases_lt}
use Rattle.std.proofs.lemmas.List.{map-append, length-drop, length-take-le}
use Rattle.std.proofs.lemmas.List.Elements.{All-head, All-tail}
use Rattle.spl_text.specs.Pieces.{piece_at, Pieces, Cut}
use Rattle.spl_text.specs.Pieces.Pieces.{none, gap, token}
use Rattle.spl_text.specs.TextRules.{raises, lowers, restarts, depth_after, run_after, depth_of, run_of, TokenBreaks, Breaks, IsUnbroken}
use Rattle.spl_text.specs.Spans.{IsName, IsTokenOf}
use Rattle.spl_text.specs.declared.text_rule.TextRule.{TextRule}
use Rattle.spl_text.specs.declared.text_rule.TextRule.TheVariants.{BadByte, OpenComment, BigLiteral, LongName, TooDeep, LongRun}
use Rattle.spl_text.specs.declared.piece.Piece.TheVariants.{Gap, Taken}
use Rattle.spl_text.specs.declared.token.Token.{Token}
use Rattle.spl_text.specs.declared.token.TokenKind.{TokenKind}
use Rattle.spl_text.proofs.Spelling.{piece_at-end, stands_token}
use Rattle.spl_text.proofs.Chains.{Pieces-gap, Pieces-token}
use Rattle.spl_text.proofs.Cursors.{depth_of-push, run_of-push}
use Rattle.spl_tree.specs.Meaning.{span_of}
use Rattle.read_back.proofs.Lexemes.{kept, said}
use Rattle.read_back.proofs.Fit.{IsFit, AreFit, fit_right}
use Rattle.read_back.proofs.Limits.{depth_to, run_to, Keeps, keeps_right}

depth_said : (bytes : List ℕ) (d : ℕ) (ts : List Token) → fold (λ depth (t : Token). depth_after depth t.kind) d ts ≡ depth_to d (map (said bytes) ts)
depth_said bytes d [] = refl
depth_said bytes d (t ∷ ts) = depth_said bytes (depth_after d t.kind) ts

run_said : (bytes : List ℕ) (r : ℕ) (ts : List Token) → fold (λ run (t : Token). run_after run t.kind) r ts ≡ run_to r (map (said bytes) ts)
run_said bytes r [] = refl
run_said bytes r (t ∷ ts) = run_said bytes (run_after r t.kind) ts

-- ---- of a text that breaks no rule

token_fit : (bytes : List ℕ) (t : Token) → IsTokenOf bytes t → IsFit (said bytes t)
token_fit bytes t h = record {
  name = λ e. subst (λ k. IsName (kept k (span_of bytes t.start (t.end - t.start)))) (sym e) (h.name e);
  number = λ value e. (h.number value e).small;
}

pub tokens_fit : (bytes : List ℕ) (ts : List Token) → All (IsTokenOf bytes) ts → AreFit (map (said bytes) ts)
tokens_fit bytes [] h = tt
tokens_fit bytes (t ∷ ts) h = (token_fit bytes t (All-head (IsTokenOf bytes) t ts h), tokens_fit bytes ts (All-tail (IsTokenOf bytes) t ts h))

depth_kept : (d : ℕ) (kind : TokenKind) → d ≤ 64 → (raises kind ≡ true → 64 < d + 1 → ⊥) → depth_after d kind ≤ 64
depth_kept d kind h unbroken = by (raises kind) (lowers kind) refl (cases_lt 64 (d + 1))
  where
    by : (a b : Bool) → raises kind ≡ a → ((64 < d + 1) ⊎ (d + 1 ≤ 64)) → cond a (d + 1) (cond b (d - 1) d) ≤ 64
    by true b e (inl above) = absurd (unbroken e above)
    by true b e (inr below) = below
    by false true e c = omega arith
    by false false e c = h

run_kept : (r : ℕ) (kind : TokenKind) → r ≤ 1024 → (run_after r kind ≡ 1025 → ⊥) → run_after r kind ≤ 1024
run_kept r kind h unbroken = by (restarts kind) unbroken
  where
    by : (a : Bool) → (cond a 0 (r + 1) ≡ 1025 → ⊥) → cond a 0 (r + 1) ≤ 1024
    by true u = omega arith
    by false u = split (cases_lt 1023 r)
      where
        split : ((1023 < r) ⊎ (r ≤ 1023)) → r + 1 ≤ 1024
        split (inl above) = absurd (u (omega arith))
        split (inr below) = omega arith

tokens_keep_from : (bytes : List ℕ) (at to : ℕ) (earlier tokens : List Token) → IsUnbroken bytes → Pieces bytes 0 earlier at → Pieces bytes at tokens to
    → depth_of earlier ≤ 64 → run_of earlier ≤ 1024 → Keeps (depth_of earlier) (run_of earlier) (map (said bytes) tokens)
tokens_keep_from bytes _ _ earlier _ unbroken reached (none at) d r = tt
tokens_keep_from bytes _ _ earlier _ unbroken reached (gap at end to tokens e p) d r =
    tokens_keep_from bytes end to earlier tokens unbroken (Pieces-gap bytes 0 at end earlier reached e) p d r
tokens_keep_from bytes _ _ earlier _ unbroken reached (token at to t tokens e p) d r =
    let s = stands_token bytes at t e in
    let breaks : (rule : TextRule) → Breaks earlier (Taken t) rule → ⊥ =
    λ rule h. unbroken rule at (record { within = omega (arith, s.filled, s.within); before = earlier; reached = reached; breaks = rw e h }) in
    let deep : depth_after (depth_of earlier) t.kind ≤ 64 = depth_kept (depth_of earlier) t.kind d (λ a b. breaks TooDeep (a, b)) in
    let long : run_after (run_of earlier) t.kind ≤ 1024 = run_kept (run_of earlier) t.kind r (λ a. breaks LongRun a) in
    let de = depth_of-push earlier t in
    let re = run_of-push earlier t in
    let rest = tokens_keep_from bytes t.end to (earlier ++ t ∷ []) tokens unbroken (Pieces-token bytes 0 at t earlier reached e) p (rw de deep) (rw re long) in
    (deep, long, keeps_at bytes tokens de re rest)
  where
    keeps_at : (bytes : List ℕ) (tokens : List Token) {a b x y : ℕ} → a ≡ b → x ≡ y → Keeps a x (map (said bytes) tokens) → Keeps b y (map (said bytes) tokens)
    keeps_at bytes tokens {a} {b} {x} {y} e f h = subst (λ n. Keeps n y (map (said bytes) tokens)) e (subst (λ n. Keeps a n (map (said bytes) tokens)) f h)

pub tokens_keep : (bytes : List ℕ) (tokens : List Token) → IsUnbroken bytes → Cut bytes tokens → Keeps 0 0 (map (said bytes) tokens)
tokens_keep bytes tokens unbroken cut = tokens_keep_from bytes 0 (length bytes) [] tokens unbroken (none 0) cut (omega arith) (omega arith)

-- ---- of a text whose tokens are fit and keep the limits

gap_is : {a b : ℕ} → Gap a ≡ Gap b → a ≡ b
gap_is h = cc

taken_is : {s t : Token} → Taken s ≡ Taken t → s ≡ t
taken_is h = cc

after_gap : (bytes : List ℕ) (at end to : ℕ) (tokens : List Token) → to ≡ length bytes → piece_at bytes at ≡ Gap end → Pieces bytes at tokens to → Pieces bytes end tokens to
after_gap bytes _ end _ _ w e (none at) = let past = piece_at-end bytes at (omega arith) in absurd cc
after_gap bytes _ end _ _ w e (gap at end' to tokens e' p) = subst (λ n. Pieces bytes n tokens to) (gap_is (sym e' ∙ e)) p
after_gap bytes _ end _ _ w e (token at to t tokens e' p) = absurd cc

after_token : (bytes : List ℕ) (at to : ℕ) (t : Token) (tokens : List Token) → to ≡ length bytes → piece_at bytes at ≡ Taken t → Pieces bytes at tokens to
    → (rest : List Token) × (tokens ≡ t ∷ rest) × Pieces bytes t.end rest to
after_token bytes _ _ t _ w e (none at) = let past = piece_at-end bytes at (omega arith) in absurd cc
after_token bytes _ _ t _ w e (gap at end to tokens e' p) = absurd cc
after_token bytes _ _ t _ w e (token at to u tokens e' p) =
    let same : u ≡ t = taken_is (sym e' ∙ e) in
    (tokens, ap (λ x. x ∷ tokens) same, subst (λ (x : Token). Pieces bytes x.end tokens to) same p)

-- pieces that lead to an offset go on to the end of the text
follow : (bytes : List ℕ) (at place : ℕ) (before tokens : List Token) → Pieces bytes at before place → Pieces bytes at tokens (length bytes)
    → (rest : List Token) × (tokens ≡ before ++ rest) × Pieces bytes place rest (length bytes)
follow bytes _ _ _ tokens (none at) h = (tokens, refl, h)
follow bytes _ _ _ tokens (gap at end place before e p) h = follow bytes end place before tokens p (after_gap bytes at end (length bytes) tokens refl e h)
follow bytes _ _ _ tokens (token at place t before e p) h =
    let a = after_token bytes at (length bytes) t tokens refl e h in
    let f = follow bytes t.end place before a.0 p a.2 in
    (f.0, a.1 ∙ ap (λ us. t ∷ us) f.1, f.2)

-- a token that is fit and keeps the limits breaks no rule
refute : (bytes : List ℕ) (at : ℕ) (before : List Token) (t : Token) (rest : List Token) (rule : TextRule) → piece_at bytes at ≡ Taken t
    → AreFit (map (said bytes) (before ++ t ∷ rest)) → Keeps 0 0 (map (said bytes) (before ++ t ∷ rest)) → TokenBreaks before t rule → ⊥
refute bytes at before t rest rule e fits keeps = by rule
  where
    fit : IsFit (said bytes t)
    fit = (fit_right (map (said bytes) before) (map (said bytes) (t ∷ rest)) (subst AreFit (map-append (said bytes) before (t ∷ rest)) fits)).0

    keep : Keeps (depth_to 0 (map (said bytes) before)) (run_to 0 (map (said bytes) before)) (map (said bytes) (t ∷ rest))
    keep = keeps_right 0 0 (map (said bytes) before) (map (said bytes) (t ∷ rest)) (subst (Keeps 0 0) (map-append (said bytes) before (t ∷ rest)) keeps)

    short : t.kind ≡ TokenKind.Name → t.end - t.start ≤ 64
    short is =
        let s = stands_token bytes at t e in
        let named : IsName (span_of bytes t.start (t.end - t.start)) = subst (λ k. IsName (kept k (span_of bytes t.start (t.end - t.start)))) is (fit.name is) in
        let n = length-take-le (t.end - t.start) (drop t.start bytes) (omega (arith, length-drop t.start bytes, s.within)) in
        omega (arith, n, named.short)

    by : (rule : TextRule) → TokenBreaks before t rule → ⊥
    by BadByte h = h
    by OpenComment h = h
    by BigLiteral (value, is, large) = omega (arith, fit.number value is, large)
    by LongName (is, long) = omega (arith, short is, long)
    by TooDeep (up, deep) =
        let d : depth_after (depth_to 0 (map (said bytes) before)) t.kind ≡ depth_to 0 (map (said bytes) before) + 1 = rw up refl in
        omega (arith, keep.0, d, deep, depth_said bytes 0 before)
    by LongRun long =
        let r : run_after (run_to 0 (map (said bytes) before)) t.kind ≡ 1025 = subst (λ n. run_after n t.kind ≡ 1025) (run_said bytes 0 before) long in
        omega (arith, keep.1, r)

pub unbroken_from : (bytes : List ℕ) (tokens : List Token) → Cut bytes tokens → AreFit (map (said bytes) tokens) → Keeps 0 0 (map (said bytes) tokens) → IsUnbroken bytes
unbroken_from bytes tokens cut fits keeps rule at b =
    let f = follow bytes 0 at b.before tokens b.reached cut in
    next f.0 (subst (λ us. AreFit (map (said bytes) us)) f.1 fits) (subst (λ us. Keeps 0 0 (map (said bytes) us)) f.1 keeps) at (length bytes) refl b.within f.2 b.breaks
  where
    next : (rest : List Token) → AreFit (map (said bytes) (b.before ++ rest)) → Keeps 0 0 (map (said bytes) (b.before ++ rest))
        → (place to : ℕ) → to ≡ length bytes → place < length bytes → Pieces bytes place rest to → Breaks b.before (piece_at bytes place) rule → ⊥
    next _ fits keeps _ _ w within (none place) breaks = omega arith
    next _ fits keeps _ _ w within (gap place end to rest e p) breaks = rw e at breaks
    next _ fits keeps _ _ w within (token place to t rest e p) breaks = refute bytes place b.before t rest rule e fits keeps (rw e at breaks)
