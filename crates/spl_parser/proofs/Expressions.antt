-- The machine reads every derivation: over the tokens of an expression, of a statement and of statements it comes to
-- the state that holds them.
use Rattle.std.proofs.Common.{◌≡◌, ℕ, List, [], ◌∷◌, ◌++◌, Option, Some, None, refl, ap, ◌∙◌, option_and_then}
use Rattle.spl_text.specs.declared.token.Token.{Token}
use Rattle.spl_text.specs.declared.token.TokenKind.TheVariants.{Name, Number, Random, Brandom, Not, And, Or, True, False, LeftParen, RightParen, Minus}
use Rattle.spl_parser.specs.Grammar.{Leaf, Cmp, equal, not_equal, less, less_equal, greater, greater_equal, SumSign, plus, minus, ProductSign, star, slash, percent, E0, only_1, either, E1, only_2, both, E2, only_3, opposite_of, E3, only_4, compared, E4, only_5, sum_of, E5, only_6, product_of, E6, only_atom, negative_of, Atom, number_atom, name_atom, true_atom, false_atom, random_atom, brandom_atom, paren_atom}
use Rattle.spl_parser.specs.Spelling.{token, spelled_cmp, spelled_sum, spelled_product, spelled_0, spelled_1, spelled_2, spelled_3, spelled_4, spelled_5, spelled_6, spelled_atom}
use Rattle.spl_parser.specs.Machine.{Algebra, Body, Goal, Pending, Paren, State, want, have, nothing_before, under_minuses, under_nots, with_product, with_sum, with_cmp, with_either, closed_1, closed_0, leaf_of, run, step, on_not, step_want, on_cmp, on_right, step_have}
use Rattle.spl_parser.proofs.Algebras.{derivations as D}

-- a run over two lists is one over the first, and then one over the second
pub run-append : (A : Algebra) (s : State A) (xs ys : List Token) → run A s (xs ++ ys) ≡ option_and_then (λ s'. run A s' ys) (run A s xs)
run-append A s [] ys = refl
run-append A s (t ∷ xs) ys = go (step A s t.kind (A.place (leaf_of t))) (λ s'. run-append A s' xs ys)
  where
    go : (o : Option (State A)) → ((s' : State A) → run A s' (xs ++ ys) ≡ option_and_then (λ s''. run A s'' ys) (run A s' xs)) → option_and_then (λ s'. run A s' (xs ++ ys)) o ≡ option_and_then (λ s''. run A s'' ys) (option_and_then (λ s'. run A s' xs) o)
    go None h = refl
    go (Some s') h = h s'

pub then_run : (A : Algebra) (s s1 : State A) (xs ys : List Token) (r : Option (State A)) → run A s xs ≡ Some s1 → run A s1 ys ≡ r → run A s (xs ++ ys) ≡ r
then_run A s s1 xs ys r e h = run-append A s xs ys ∙ (ap (λ o. option_and_then (λ s'. run A s' ys) o) e ∙ h)

-- a run, a step, and a run
pub goes_on : (s s1 s2 : State D) (xs ys : List Token) (t : Token) (r : Option (State D)) → run D s xs ≡ Some s1 → step D s1 t.kind (leaf_of t) ≡ Some s2 → run D s2 ys ≡ r → run D s (xs ++ t ∷ ys) ≡ r
goes_on s s1 s2 xs ys t r e f h = then_run D s s1 xs (t ∷ ys) r e (ap (λ o. option_and_then (λ s'. run D s' ys) o) f ∙ h)

-- what stands before an operand, by its levels
abbrev pend : Option (E0 × Leaf) → Option (E1 × Leaf) → List Leaf → Option (E4 × Cmp) → Option (E4 × SumSign) → Option (E5 × ProductSign) → List Leaf → Pending D
pend o a n c s q m = record { either_left = o; both_left = a; nots = n; cmp_left = c; sum_left = s; product_left = q; minuses = m }

under_minuses-more : (ms : List Leaf) (l : Leaf) (e : E6) → under_minuses D (ms ++ l ∷ []) e ≡ under_minuses D ms (negative_of l e)
under_minuses-more [] l e = refl
under_minuses-more (m ∷ ms) l e = ap (λ x. negative_of m x) (under_minuses-more ms l e)

under_nots-more : (ms : List Leaf) (l : Leaf) (e : E2) → under_nots D (ms ++ l ∷ []) e ≡ under_nots D ms (opposite_of l e)
under_nots-more [] l e = refl
under_nots-more (m ∷ ms) l e = ap (λ x. opposite_of m x) (under_nots-more ms l e)

step-cmp : (b : Body D) (g : Goal D) (ps : List (Paren D)) (o : Option (E0 × Leaf)) (a : Option (E1 × Leaf)) (n : List Leaf) (s : Option (E4 × SumSign)) (q : Option (E5 × ProductSign)) (m : List Leaf) (x : Atom) (c : Cmp) (d : E4) → with_sum D s (with_product D q (under_minuses D m (only_atom x))) ≡ d → step D (have b g ps (pend o a n None s q m) x) (spelled_cmp c).kind (leaf_of (spelled_cmp c)) ≡ Some (want b g ps (pend o a n (Some (d, c)) None None []))
unfolding step step_have on_cmp
step-cmp b g ps o a n s q m x (equal l) d h = ap (λ y. Some (want b g ps (pend o a n (Some (y, equal l)) None None []))) h
step-cmp b g ps o a n s q m x (not_equal l) d h = ap (λ y. Some (want b g ps (pend o a n (Some (y, not_equal l)) None None []))) h
step-cmp b g ps o a n s q m x (less l) d h = ap (λ y. Some (want b g ps (pend o a n (Some (y, less l)) None None []))) h
step-cmp b g ps o a n s q m x (less_equal l) d h = ap (λ y. Some (want b g ps (pend o a n (Some (y, less_equal l)) None None []))) h
step-cmp b g ps o a n s q m x (greater l) d h = ap (λ y. Some (want b g ps (pend o a n (Some (y, greater l)) None None []))) h
step-cmp b g ps o a n s q m x (greater_equal l) d h = ap (λ y. Some (want b g ps (pend o a n (Some (y, greater_equal l)) None None []))) h

step-sum : (b : Body D) (g : Goal D) (ps : List (Paren D)) (o : Option (E0 × Leaf)) (a : Option (E1 × Leaf)) (n : List Leaf) (c : Option (E4 × Cmp)) (s : Option (E4 × SumSign)) (q : Option (E5 × ProductSign)) (m : List Leaf) (x : Atom) (y : SumSign) (d : E4) → with_sum D s (with_product D q (under_minuses D m (only_atom x))) ≡ d → step D (have b g ps (pend o a n c s q m) x) (spelled_sum y).kind (leaf_of (spelled_sum y)) ≡ Some (want b g ps (pend o a n c (Some (d, y)) None []))
unfolding step step_have
step-sum b g ps o a n c s q m x (plus l) d h = ap (λ y. Some (want b g ps (pend o a n c (Some (y, plus l)) None []))) h
step-sum b g ps o a n c s q m x (minus l) d h = ap (λ y. Some (want b g ps (pend o a n c (Some (y, minus l)) None []))) h

step-product : (b : Body D) (g : Goal D) (ps : List (Paren D)) (o : Option (E0 × Leaf)) (a : Option (E1 × Leaf)) (n : List Leaf) (c : Option (E4 × Cmp)) (s : Option (E4 × SumSign)) (q : Option (E5 × ProductSign)) (m : List Leaf) (x : Atom) (y : ProductSign) (d : E5) → with_product D q (under_minuses D m (only_atom x)) ≡ d → step D (have b g ps (pend o a n c s q m) x) (spelled_product y).kind (leaf_of (spelled_product y)) ≡ Some (want b g ps (pend o a n c s (Some (d, y)) []))
unfolding step step_have
step-product b g ps o a n c s q m x (star l) d h = ap (λ y. Some (want b g ps (pend o a n c s (Some (y, star l)) []))) h
step-product b g ps o a n c s q m x (slash l) d h = ap (λ y. Some (want b g ps (pend o a n c s (Some (y, slash l)) []))) h
step-product b g ps o a n c s q m x (percent l) d h = ap (λ y. Some (want b g ps (pend o a n c s (Some (y, percent l)) []))) h

step-both : (b : Body D) (g : Goal D) (ps : List (Paren D)) (p : Pending D) (x : Atom) (l : Leaf) (d : E1) → closed_1 D p x ≡ d → step D (have b g ps p x) And l ≡ Some (want b g ps (pend p.either_left (Some (d, l)) [] None None None []))
unfolding step step_have
step-both b g ps p x l d h = ap (λ y. Some (want b g ps (pend p.either_left (Some (y, l)) [] None None None []))) h

step-either : (b : Body D) (g : Goal D) (ps : List (Paren D)) (p : Pending D) (x : Atom) (l : Leaf) (d : E0) → closed_0 D p x ≡ d → step D (have b g ps p x) Or l ≡ Some (want b g ps (pend (Some (d, l)) None [] None None None []))
unfolding step step_have
step-either b g ps p x l d h = ap (λ y. Some (want b g ps (pend (Some (y, l)) None [] None None None []))) h

step-right : (b : Body D) (g : Goal D) (ps : List (Paren D)) (p : Pending D) (o : Leaf) (q : Pending D) (x : Atom) (c : Leaf) (d : E0) → closed_0 D q x ≡ d → step D (have b g (record { pending = p; left = o } ∷ ps) q x) RightParen c ≡ Some (have b g ps p (paren_atom o d c))
unfolding step step_have on_right
step-right b g ps p o q x c d h = ap (λ y. Some (have b g ps p (paren_atom o y c))) h

-- what the machine holds after an expression of each level, from a state that wants one
record Reads6 (b : Body D) (g : Goal D) (ps : List (Paren D)) (o : Option (E0 × Leaf)) (a : Option (E1 × Leaf)) (n : List Leaf) (c : Option (E4 × Cmp)) (s : Option (E4 × SumSign)) (q : Option (E5 × ProductSign)) (m : List Leaf) (d : E6) : Type 0 where
  m' : List Leaf
  pub x : Atom
  pub runs : run D (want b g ps (pend o a n c s q m)) (spelled_6 d) ≡ Some (have b g ps (pend o a n c s q m') x)
  pub closes : under_minuses D m' (only_atom x) ≡ under_minuses D m d

record Reads5 (b : Body D) (g : Goal D) (ps : List (Paren D)) (o : Option (E0 × Leaf)) (a : Option (E1 × Leaf)) (n : List Leaf) (c : Option (E4 × Cmp)) (s : Option (E4 × SumSign)) (d : E5) : Type 0 where
  q' : Option (E5 × ProductSign)
  m' : List Leaf
  pub x : Atom
  pub runs : run D (want b g ps (pend o a n c s None [])) (spelled_5 d) ≡ Some (have b g ps (pend o a n c s q' m') x)
  pub closes : with_product D q' (under_minuses D m' (only_atom x)) ≡ d

record Reads4 (b : Body D) (g : Goal D) (ps : List (Paren D)) (o : Option (E0 × Leaf)) (a : Option (E1 × Leaf)) (n : List Leaf) (c : Option (E4 × Cmp)) (d : E4) : Type 0 where
  s' : Option (E4 × SumSign)
  q' : Option (E5 × ProductSign)
  m' : List Leaf
  pub x : Atom
  pub runs : run D (want b g ps (pend o a n c None None [])) (spelled_4 d) ≡ Some (have b g ps (pend o a n c s' q' m') x)
  pub closes : with_sum D s' (with_product D q' (under_minuses D m' (only_atom x))) ≡ d

record Reads3 (b : Body D) (g : Goal D) (ps : List (Paren D)) (o : Option (E0 × Leaf)) (a : Option (E1 × Leaf)) (n : List Leaf) (d : E3) : Type 0 where
  c' : Option (E4 × Cmp)
  s' : Option (E4 × SumSign)
  q' : Option (E5 × ProductSign)
  m' : List Leaf
  pub x : Atom
  pub runs : run D (want b g ps (pend o a n None None None [])) (spelled_3 d) ≡ Some (have b g ps (pend o a n c' s' q' m') x)
  pub closes : with_cmp D c' (with_sum D s' (with_product D q' (under_minuses D m' (only_atom x)))) ≡ d

record Reads2 (b : Body D) (g : Goal D) (ps : List (Paren D)) (o : Option (E0 × Leaf)) (a : Option (E1 × Leaf)) (n : List Leaf) (d : E2) : Type 0 where
  n' : List Leaf
  c' : Option (E4 × Cmp)
  s' : Option (E4 × SumSign)
  q' : Option (E5 × ProductSign)
  m' : List Leaf
  pub x : Atom
  pub runs : run D (want b g ps (pend o a n None None None [])) (spelled_2 d) ≡ Some (have b g ps (pend o a n' c' s' q' m') x)
  pub closes : under_nots D n' (only_3 (with_cmp D c' (with_sum D s' (with_product D q' (under_minuses D m' (only_atom x)))))) ≡ under_nots D n d

record Reads1 (b : Body D) (g : Goal D) (ps : List (Paren D)) (o : Option (E0 × Leaf)) (d : E1) : Type 0 where
  pub p : Pending D
  pub x : Atom
  pub runs : run D (want b g ps (pend o None [] None None None [])) (spelled_1 d) ≡ Some (have b g ps p x)
  outer : p.either_left ≡ o
  pub closes : closed_1 D p x ≡ d

pub record Reads0 (b : Body D) (g : Goal D) (ps : List (Paren D)) (d : E0) : Type 0 where
  pub p : Pending D
  pub x : Atom
  pub runs : run D (want b g ps (nothing_before D)) (spelled_0 d) ≡ Some (have b g ps p x)
  pub closes : closed_0 D p x ≡ d

-- the first steps of a wanted operand
run-not : (b : Body D) (g : Goal D) (ps : List (Paren D)) (o : Option (E0 × Leaf)) (a : Option (E1 × Leaf)) (n : List Leaf) (l : Leaf) (ts : List Token) → run D (want b g ps (pend o a n None None None [])) (token Not l ∷ ts) ≡ run D (want b g ps (pend o a (n ++ l ∷ []) None None None [])) ts
unfolding step step_want on_not
run-not b g ps o a n l ts = refl

run-minus : (b : Body D) (g : Goal D) (ps : List (Paren D)) (o : Option (E0 × Leaf)) (a : Option (E1 × Leaf)) (n : List Leaf) (c : Option (E4 × Cmp)) (s : Option (E4 × SumSign)) (q : Option (E5 × ProductSign)) (m : List Leaf) (l : Leaf) (ts : List Token) → run D (want b g ps (pend o a n c s q m)) (token Minus l ∷ ts) ≡ run D (want b g ps (pend o a n c s q (m ++ l ∷ []))) ts
unfolding step step_want
run-minus b g ps o a n c s q m l ts = refl

run-left : (b : Body D) (g : Goal D) (ps : List (Paren D)) (p : Pending D) (o : Leaf) (ts : List Token) → run D (want b g ps p) (token LeftParen o ∷ ts) ≡ run D (want b g (record { pending = p; left = o } ∷ ps) (nothing_before D)) ts
unfolding step step_want
run-left b g ps p o ts = refl

-- an atom of one token
run-number : (n : ℕ) (l : Leaf) (b : Body D) (g : Goal D) (ps : List (Paren D)) (p : Pending D) → run D (want b g ps p) (token (Number n) l ∷ []) ≡ Some (have b g ps p (number_atom n l))
unfolding step step_want
run-number n l b g ps p = refl

run-name : (l : Leaf) (b : Body D) (g : Goal D) (ps : List (Paren D)) (p : Pending D) → run D (want b g ps p) (token Name l ∷ []) ≡ Some (have b g ps p (name_atom l))
unfolding step step_want
run-name l b g ps p = refl

run-true : (l : Leaf) (b : Body D) (g : Goal D) (ps : List (Paren D)) (p : Pending D) → run D (want b g ps p) (token True l ∷ []) ≡ Some (have b g ps p (true_atom l))
unfolding step step_want
run-true l b g ps p = refl

run-false : (l : Leaf) (b : Body D) (g : Goal D) (ps : List (Paren D)) (p : Pending D) → run D (want b g ps p) (token False l ∷ []) ≡ Some (have b g ps p (false_atom l))
unfolding step step_want
run-false l b g ps p = refl

run-random : (l : Leaf) (b : Body D) (g : Goal D) (ps : List (Paren D)) (p : Pending D) → run D (want b g ps p) (token Random l ∷ []) ≡ Some (have b g ps p (random_atom l))
unfolding step step_want
run-random l b g ps p = refl

run-brandom : (l : Leaf) (b : Body D) (g : Goal D) (ps : List (Paren D)) (p : Pending D) → run D (want b g ps p) (token Brandom l ∷ []) ≡ Some (have b g ps p (brandom_atom l))
unfolding step step_want
run-brandom l b g ps p = refl

mutual
  pub reads_0 : (d : E0) (b : Body D) (g : Goal D) (ps : List (Paren D)) → Reads0 b g ps d
  reads_0 (only_1 d) b g ps =
      let r = reads_1 d b g ps None in
      record { p = r.p; x = r.x; runs = r.runs; closes = ap (λ o. with_either D o (closed_1 D r.p r.x)) r.outer ∙ ap (λ e. only_1 e) r.closes }
  reads_0 (either d l e) b g ps =
      let r = reads_0 d b g ps in
      let q = reads_1 e b g ps (Some (d, l)) in
      record {
        p = q.p;
        x = q.x;
        runs = goes_on _ _ _ (spelled_0 d) (spelled_1 e) (token Or l) _ r.runs (step-either b g ps r.p r.x l d r.closes) q.runs;
        closes = ap (λ o. with_either D o (closed_1 D q.p q.x)) q.outer ∙ ap (λ y. either d l y) q.closes;
      }

  reads_1 : (d : E1) (b : Body D) (g : Goal D) (ps : List (Paren D)) (o : Option (E0 × Leaf)) → Reads1 b g ps o d
  reads_1 (only_2 d) b g ps o =
      let r = reads_2 d b g ps o None [] in
      record { p = pend o None r.n' r.c' r.s' r.q' r.m'; x = r.x; runs = r.runs; outer = refl; closes = ap (λ e. only_2 e) r.closes }
  reads_1 (both d l e) b g ps o =
      let r = reads_1 d b g ps o in
      let q = reads_2 e b g ps o (Some (d, l)) [] in
      record {
        p = pend o (Some (d, l)) q.n' q.c' q.s' q.q' q.m';
        x = q.x;
        runs = goes_on _ _ _ (spelled_1 d) (spelled_2 e) (token And l) _ r.runs (step-both b g ps r.p r.x l d r.closes ∙ ap (λ y. Some (want b g ps (pend y (Some (d, l)) [] None None None []))) r.outer) q.runs;
        outer = refl;
        closes = ap (λ y. both d l y) q.closes;
      }

  reads_2 : (d : E2) (b : Body D) (g : Goal D) (ps : List (Paren D)) (o : Option (E0 × Leaf)) (a : Option (E1 × Leaf)) (n : List Leaf) → Reads2 b g ps o a n d
  reads_2 (only_3 d) b g ps o a n =
      let r = reads_3 d b g ps o a n in
      record { n' = n; c' = r.c'; s' = r.s'; q' = r.q'; m' = r.m'; x = r.x; runs = r.runs; closes = ap (λ y. under_nots D n (only_3 y)) r.closes }
  reads_2 (opposite_of l d) b g ps o a n =
      let r = reads_2 d b g ps o a (n ++ l ∷ []) in
      record { n' = r.n'; c' = r.c'; s' = r.s'; q' = r.q'; m' = r.m'; x = r.x; runs = run-not b g ps o a n l (spelled_2 d) ∙ r.runs; closes = r.closes ∙ under_nots-more n l d }

  reads_3 : (d : E3) (b : Body D) (g : Goal D) (ps : List (Paren D)) (o : Option (E0 × Leaf)) (a : Option (E1 × Leaf)) (n : List Leaf) → Reads3 b g ps o a n d
  reads_3 (only_4 d) b g ps o a n =
      let r = reads_4 d b g ps o a n None in
      record { c' = None; s' = r.s'; q' = r.q'; m' = r.m'; x = r.x; runs = r.runs; closes = ap (λ y. only_4 y) r.closes }
  reads_3 (compared d c e) b g ps o a n =
      let r = reads_4 d b g ps o a n None in
      let q = reads_4 e b g ps o a n (Some (d, c)) in
      record {
        c' = Some (d, c);
        s' = q.s';
        q' = q.q';
        m' = q.m';
        x = q.x;
        runs = goes_on _ _ _ (spelled_4 d) (spelled_4 e) (spelled_cmp c) _ r.runs (step-cmp b g ps o a n r.s' r.q' r.m' r.x c d r.closes) q.runs;
        closes = ap (λ y. compared d c y) q.closes;
      }

  reads_4 : (d : E4) (b : Body D) (g : Goal D) (ps : List (Paren D)) (o : Option (E0 × Leaf)) (a : Option (E1 × Leaf)) (n : List Leaf) (c : Option (E4 × Cmp)) → Reads4 b g ps o a n c d
  reads_4 (only_5 d) b g ps o a n c =
      let r = reads_5 d b g ps o a n c None in
      record { s' = None; q' = r.q'; m' = r.m'; x = r.x; runs = r.runs; closes = ap (λ y. only_5 y) r.closes }
  reads_4 (sum_of d s e) b g ps o a n c =
      let r = reads_4 d b g ps o a n c in
      let q = reads_5 e b g ps o a n c (Some (d, s)) in
      record {
        s' = Some (d, s);
        q' = q.q';
        m' = q.m';
        x = q.x;
        runs = goes_on _ _ _ (spelled_4 d) (spelled_5 e) (spelled_sum s) _ r.runs (step-sum b g ps o a n c r.s' r.q' r.m' r.x s d r.closes) q.runs;
        closes = ap (λ y. sum_of d s y) q.closes;
      }

  reads_5 : (d : E5) (b : Body D) (g : Goal D) (ps : List (Paren D)) (o : Option (E0 × Leaf)) (a : Option (E1 × Leaf)) (n : List Leaf) (c : Option (E4 × Cmp)) (s : Option (E4 × SumSign)) → Reads5 b g ps o a n c s d
  reads_5 (only_6 d) b g ps o a n c s =
      let r = reads_6 d b g ps o a n c s None [] in
      record { q' = None; m' = r.m'; x = r.x; runs = r.runs; closes = ap (λ y. only_6 y) r.closes }
  reads_5 (product_of d y e) b g ps o a n c s =
      let r = reads_5 d b g ps o a n c s in
      let q = reads_6 e b g ps o a n c s (Some (d, y)) [] in
      record {
        q' = Some (d, y);
        m' = q.m';
        x = q.x;
        runs = goes_on _ _ _ (spelled_5 d) (spelled_6 e) (spelled_product y) _ r.runs (step-product b g ps o a n c s r.q' r.m' r.x y d r.closes) q.runs;
        closes = ap (λ z. product_of d y z) q.closes;
      }

  reads_6 : (d : E6) (b : Body D) (g : Goal D) (ps : List (Paren D)) (o : Option (E0 × Leaf)) (a : Option (E1 × Leaf)) (n : List Leaf) (c : Option (E4 × Cmp)) (s : Option (E4 × SumSign)) (q : Option (E5 × ProductSign)) (m : List Leaf) → Reads6 b g ps o a n c s q m d
  reads_6 (only_atom x) b g ps o a n c s q m = record { m' = m; x = x; runs = reads_atom x b g ps (pend o a n c s q m); closes = refl }
  reads_6 (negative_of l d) b g ps o a n c s q m =
      let r = reads_6 d b g ps o a n c s q (m ++ l ∷ []) in
      record { m' = r.m'; x = r.x; runs = run-minus b g ps o a n c s q m l (spelled_6 d) ∙ r.runs; closes = r.closes ∙ under_minuses-more m l d }

  reads_atom : (x : Atom) (b : Body D) (g : Goal D) (ps : List (Paren D)) (p : Pending D) → run D (want b g ps p) (spelled_atom x) ≡ Some (have b g ps p x)
  reads_atom (number_atom n l) b g ps p = run-number n l b g ps p
  reads_atom (name_atom l) b g ps p = run-name l b g ps p
  reads_atom (true_atom l) b g ps p = run-true l b g ps p
  reads_atom (false_atom l) b g ps p = run-false l b g ps p
  reads_atom (random_atom l) b g ps p = run-random l b g ps p
  reads_atom (brandom_atom l) b g ps p = run-brandom l b g ps p
  reads_atom (paren_atom o e c) b g ps p =
      let r = reads_0 e b g (record { pending = p; left = o } ∷ ps) in
      run-left b g ps p o (spelled_0 e ++ token RightParen c ∷ []) ∙ goes_on _ _ _ (spelled_0 e) [] (token RightParen c) _ r.runs (step-right b g ps p o r.p r.x c e r.closes) refl
