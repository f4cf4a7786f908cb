-- The limits on depth and run, and when a list of lexemes keeps them where another does.
use Rattle.std.proofs.Common.{◌≡◌, ℕ, ◌+◌, ◌-◌, ◌≤◌, nat_lt, Bool, true, false, cond, List, [], ◌∷◌, ◌++◌, map, arith, ap, sym, ◌∙◌, refl, subst}
use Rattle.std.proofs.lemmas.Bool.{ltb-true, ltb-false}
use Rattle.std.proofs.lemmas.List.{map-append}
use Rattle.spl_text.specs.TextRules.{raises, lowers, restarts, depth_after, run_after}
use Rattle.spl_text.specs.declared.token.Token.{Token}
use Rattle.spl_text.specs.declared.token.TokenKind.{TokenKind}
use Rattle.read_back.proofs.Lexemes.{Lexeme, key, in_parens, operand}
use Rattle.read_back.proofs.Fit.{AreFit, fit_left, fit_right}

-- the depth and the run after these
abbrev pub depth_to : ℕ → List Lexeme → ℕ
depth_to depth [] = depth
depth_to depth (l ∷ ls) = depth_to (depth_after depth l.kind) ls

abbrev pub run_to : ℕ → List Lexeme → ℕ
run_to run [] = run
run_to run (l ∷ ls) = run_to (run_after run l.kind) ls

-- from this depth and this run on, no limit is passed
abbrev pub Keeps : ℕ → ℕ → List Lexeme → Type 0
Keeps depth run [] = Unit {0}
Keeps depth run (l ∷ ls) =
    (depth_after depth l.kind ≤ 64) × (run_after run l.kind ≤ 1024) × Keeps (depth_after depth l.kind) (run_after run l.kind) ls

-- the second list is no heavier than the first: it is as fit, and it keeps the limits where the first does
pub record Lighter (xs ys : List Lexeme) : Type 0 where
  pub fit : AreFit xs → AreFit ys
  pub keeps : (d r d' r' : ℕ) → d' ≤ d → r' ≤ r → Keeps d r xs → Keeps d' r' ys
  pub depth : (d d' : ℕ) → d' ≤ d → depth_to d' ys ≤ depth_to d xs
  pub run : (r r' : ℕ) → r' ≤ r → run_to r' ys ≤ run_to r xs

depth_after_mono : (d d' : ℕ) (kind : TokenKind) → d' ≤ d → depth_after d' kind ≤ depth_after d kind
depth_after_mono d d' kind h = by (raises kind) (lowers kind)
  where
    by : (a b : Bool) → cond a (d' + 1) (cond b (d' - 1) d') ≤ cond a (d + 1) (cond b (d - 1) d)
    by true b = omega arith
    by false true = omega arith
    by false false = h

run_after_mono : (r r' : ℕ) (kind : TokenKind) → r' ≤ r → run_after r' kind ≤ run_after r kind
run_after_mono r r' kind h = by (restarts kind)
  where
    by : (a : Bool) → cond a 0 (r' + 1) ≤ cond a 0 (r + 1)
    by true = omega arith
    by false = omega arith

pub lighter_nil : Lighter [] []
lighter_nil = record { fit = λ h. h; keeps = λ d r d' r' h k x. x; depth = λ d d' h. h; run = λ r r' h. h }

pub lighter_cons : (l : Lexeme) (xs ys : List Lexeme) → Lighter xs ys → Lighter (l ∷ xs) (l ∷ ys)
lighter_cons l xs ys w = record {
  fit = λ h. (h.0, w.fit h.1);
  keeps = λ d r d' r' h k x. (
    omega (arith, depth_after_mono d d' l.kind h, x.0),
    omega (arith, run_after_mono r r' l.kind k, x.1),
    w.keeps (depth_after d l.kind) (run_after r l.kind) (depth_after d' l.kind) (run_after r' l.kind) (depth_after_mono d d' l.kind h) (run_after_mono r r' l.kind k) x.2,
  );
  depth = λ d d' h. w.depth (depth_after d l.kind) (depth_after d' l.kind) (depth_after_mono d d' l.kind h);
  run = λ r r' h. w.run (run_after r l.kind) (run_after r' l.kind) (run_after_mono r r' l.kind h);
}

pub lighter_same : (xs : List Lexeme) → Lighter xs xs
lighter_same [] = lighter_nil
lighter_same (l ∷ xs) = lighter_cons l xs xs (lighter_same xs)

pub lighter_equal : (xs ys : List Lexeme) → xs ≡ ys → Lighter xs ys
lighter_equal xs ys e = subst (Lighter xs) e (lighter_same xs)

pub lighter_then : (xs ys zs : List Lexeme) → Lighter xs ys → Lighter ys zs → Lighter xs zs
lighter_then xs ys zs v w = record {
  fit = λ h. w.fit (v.fit h);
  keeps = λ d r d' r' h k x. w.keeps d' r' d' r' (omega arith) (omega arith) (v.keeps d r d' r' h k x);
  depth = λ d d' h. omega (arith, v.depth d d' h, w.depth d' d' (omega arith));
  run = λ r r' h. omega (arith, v.run r r' h, w.run r' r' (omega arith));
}

-- ---- lists after one another

pub depth_to-append : (d : ℕ) (xs ys : List Lexeme) → depth_to d (xs ++ ys) ≡ depth_to (depth_to d xs) ys
depth_to-append d [] ys = refl
depth_to-append d (x ∷ xs) ys = depth_to-append (depth_after d x.kind) xs ys

pub run_to-append : (r : ℕ) (xs ys : List Lexeme) → run_to r (xs ++ ys) ≡ run_to (run_to r xs) ys
run_to-append r [] ys = refl
run_to-append r (x ∷ xs) ys = run_to-append (run_after r x.kind) xs ys

keeps_left : (d r : ℕ) (xs ys : List Lexeme) → Keeps d r (xs ++ ys) → Keeps d r xs
keeps_left d r [] ys h = tt
keeps_left d r (x ∷ xs) ys h = (h.0, h.1, keeps_left (depth_after d x.kind) (run_after r x.kind) xs ys h.2)

pub keeps_right : (d r : ℕ) (xs ys : List Lexeme) → Keeps d r (xs ++ ys) → Keeps (depth_to d xs) (run_to r xs) ys
keeps_right d r [] ys h = h
keeps_right d r (x ∷ xs) ys h = keeps_right (depth_after d x.kind) (run_after r x.kind) xs ys h.2

pub keeps_join : (d r : ℕ) (xs ys : List Lexeme) → Keeps d r xs → Keeps (depth_to d xs) (run_to r xs) ys → Keeps d r (xs ++ ys)
keeps_join d r [] ys h k = k
keeps_join d r (x ∷ xs) ys h k = (h.0, h.1, keeps_join (depth_after d x.kind) (run_after r x.kind) xs ys h.2 k)

pub fit_join : (xs ys : List Lexeme) → AreFit xs → AreFit ys → AreFit (xs ++ ys)
fit_join [] ys h k = k
fit_join (x ∷ xs) ys h k = (h.0, fit_join xs ys h.1 k)

pub lighter_append : (xs ys xs' ys' : List Lexeme) → Lighter xs ys → Lighter xs' ys' → Lighter (xs ++ xs') (ys ++ ys')
lighter_append xs ys xs' ys' v w = record {
  fit = λ h. fit_join ys ys' (v.fit (fit_left xs xs' h)) (w.fit (fit_right xs xs' h));
  keeps = λ d r d' r' h k x. keeps_join d' r' ys ys' (v.keeps d r d' r' h k (keeps_left d r xs xs' x))
      (w.keeps (depth_to d xs) (run_to r xs) (depth_to d' ys) (run_to r' ys) (v.depth d d' h) (v.run r r' k) (keeps_right d r xs xs' x));
  depth = λ d d' h. rw (depth_to-append d' ys ys', depth_to-append d xs xs') (w.depth (depth_to d xs) (depth_to d' ys) (v.depth d d' h));
  run = λ r r' h. rw (run_to-append r' ys ys', run_to-append r xs xs') (w.run (run_to r xs) (run_to r' ys) (v.run r r' h));
}

-- what tokens say, in two parts
pub lighter_both : (f : Token → Lexeme) (us vs : List Token) (xs ys : List Lexeme) → Lighter (map f us) xs → Lighter (map f vs) ys → Lighter (map f (us ++ vs)) (xs ++ ys)
lighter_both f us vs xs ys v w = subst (λ z. Lighter z (xs ++ ys)) (sym (map-append f us vs)) (lighter_append (map f us) xs (map f vs) ys v w)

-- the same around a token
pub lighter_around : (f : Token → Lexeme) (us : List Token) (t : Token) (vs : List Token) (xs ys : List Lexeme) → Lighter (map f us) xs → Lighter (map f vs) ys
    → Lighter (map f (us ++ t ∷ vs)) (xs ++ f t ∷ ys)
lighter_around f us t vs xs ys v w = lighter_both f us (t ∷ vs) xs (f t ∷ ys) v (lighter_cons (f t) (map f vs) ys w)

-- ---- parentheses

-- it ends at the depth at which it begins
abbrev pub IsBalanced : List Lexeme → Type 0
IsBalanced xs = (d : ℕ) → depth_to d xs ≡ d

pub balanced_append : (xs ys : List Lexeme) → IsBalanced xs → IsBalanced ys → IsBalanced (xs ++ ys)
balanced_append xs ys v w d = depth_to-append d xs ys ∙ w (depth_to d xs) ∙ v d

pub balanced_parens : (xs : List Lexeme) → IsBalanced xs → IsBalanced (in_parens xs)
balanced_parens xs v d =
    let e : d + 1 - 1 ≡ d = omega arith in
    depth_to-append (d + 1) xs (key TokenKind.RightParen ∷ []) ∙ ap (λ n. n - 1) (v (d + 1)) ∙ e

pub balanced_operand : (wanted level : ℕ) (xs : List Lexeme) → IsBalanced xs → IsBalanced (operand wanted level xs)
balanced_operand wanted level xs v = by (nat_lt level wanted)
  where
    by : (b : Bool) → IsBalanced (cond b (in_parens xs) xs)
    by true = balanced_parens xs v
    by false = v

-- without parentheses around it
pub lighter_bare : (xs : List Lexeme) → IsBalanced xs → Lighter (in_parens xs) xs
lighter_bare xs v =
    let same = lighter_same xs in
    let close : List Lexeme = key TokenKind.RightParen ∷ [] in
    record {
      fit = λ h. fit_left xs close h.1;
      keeps = λ d r d' r' h k x. same.keeps (d + 1) (r + 1) d' r' (omega arith) (omega arith) (keeps_left (d + 1) (r + 1) xs close x.2);
      depth = λ d d' h. let e = balanced_parens xs v d in omega (arith, e, v d');
      run = λ r r' h. let e = run_to-append (r + 1) xs close in omega (arith, e, same.run (r + 1) r' (omega arith));
    }

-- at a lower level than was wanted
pub lighter_lower : (wanted lower level : ℕ) (xs : List Lexeme) → lower ≤ wanted → IsBalanced xs → Lighter (operand wanted level xs) (operand lower level xs)
lighter_lower wanted lower level xs h v = by (nat_lt level wanted) (nat_lt level lower) refl refl
  where
    by : (a b : Bool) → nat_lt level wanted ≡ a → nat_lt level lower ≡ b → Lighter (cond a (in_parens xs) xs) (cond b (in_parens xs) xs)
    by true true e f = lighter_same (in_parens xs)
    by true false e f = lighter_bare xs v
    by false false e f = lighter_same xs
    by false true e f = absurd (omega (arith, ltb-false level wanted e, ltb-true level lower f))

-- in parentheses only where they are wanted
pub lighter_wanted : (wanted level : ℕ) (xs : List Lexeme) → IsBalanced xs → Lighter (in_parens xs) (operand wanted level xs)
lighter_wanted wanted level xs v = by (nat_lt level wanted)
  where
    by : (b : Bool) → Lighter (in_parens xs) (cond b (in_parens xs) xs)
    by true = lighter_same (in_parens xs)
    by false = lighter_bare xs v

-- nothing is below the lowest level
pub lighter_lowest : (level : ℕ) (xs ys : List Lexeme) → Lighter xs (operand 0 level ys) → Lighter xs ys
lighter_lowest level xs ys = by (nat_lt level 0) refl
  where
    by : (b : Bool) → nat_lt level 0 ≡ b → Lighter xs (cond b (in_parens ys) ys) → Lighter xs ys
    by true e w = absurd (omega (arith, ltb-true level 0 e))
    by false e w = w

-- ---- words that are put for others, or in

pub lighter_random : Lighter (key TokenKind.Brandom ∷ []) (key TokenKind.Random ∷ [])
lighter_random = record {
  fit = λ h. (record { name = λ e. absurd cc; number = λ value e. absurd cc }, tt);
  keeps = λ d r d' r' h k x. (omega (arith, x.0), omega (arith, x.1), tt);
  depth = λ d d' h. h;
  run = λ r r' h. omega arith;
}

pub lighter_endif : Lighter (key TokenKind.Endif ∷ []) (key TokenKind.Endif ∷ key TokenKind.Semicolon ∷ [])
lighter_endif = record {
  fit = λ h. (h.0, (record { name = λ e. absurd cc; number = λ value e. absurd cc }, tt));
  keeps = λ d r d' r' h k x. (omega (arith, x.0), omega (arith, x.1), (omega (arith, x.0), omega arith, tt));
  depth = λ d d' h. omega arith;
  run = λ r r' h. omega arith;
}

pub lighter_done : Lighter (key TokenKind.Done ∷ []) (key TokenKind.Done ∷ key TokenKind.Semicolon ∷ [])
lighter_done = record {
  fit = λ h. (h.0, (record { name = λ e. absurd cc; number = λ value e. absurd cc }, tt));
  keeps = λ d r d' r' h k x. (omega (arith, x.0), omega (arith, x.1), (omega (arith, x.0), omega arith, tt));
  depth = λ d d' h. omega arith;
  run = λ r r' h. omega arith;
}
