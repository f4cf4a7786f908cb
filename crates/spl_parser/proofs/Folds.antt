-- Expressions that are added one over the other.
use Rattle.std.proofs.Common.{◌≡◌, ℕ, ◌+◌, List, [], ◌∷◌, ◌++◌, length, get_or, refl, sym, ap, ◌∙◌, subst, arith, length-append}
use Rattle.std.proofs.Math.ListN.{get_or-append}
use Rattle.std.proofs.lemmas.List.{get_or_push}
use Rattle.spl_tree.specs.declared.parts.ExprId.{ExprId}
use Rattle.spl_tree.specs.Lists.{Lists}
use Rattle.spl_tree.specs.Facts.{Each, IsPlace, IsTree}
use Rattle.spl_tree.specs.Program.{ExprTree, number}
use Rattle.spl_tree.specs.Meaning.{expr_at}
use Rattle.spl_parser.specs.Growth.{Grown, grown, Grew}
use Rattle.spl_parser.specs.Machine as m
use Rattle.spl_parser.specs.Trees.{trees}
use Rattle.spl_parser.specs.View.{ExprThere, Grows, Folds}
use Rattle.spl_tree.specs.Program.{negative, opposite}
use Rattle.spl_parser.proofs.Stay.{grows_none, grows_exprs, grows_then}

-- nothing was added
pub folds_none : (t : Lists) (e : ExprId) → IsTree t → ExprThere (grown t) e → Folds t t 0 e (expr_at (grown t).exprs e)
folds_none t e w h = record { whole = w; only = refl; grows = grows_none (grown t); count = omega arith; there = h; is = refl }

-- one expression was added
pub folds_one : (t t' : Lists) (e : ExprId) (x : ExprTree) → e.0 ≡ length (grown t).exprs → Grew t' (record (grown t) { exprs = (grown t).exprs ++ x ∷ [] }) → Folds t t' 1 e x
folds_one t t' e x h g =
    let r : Grown = record (grown t) { exprs = (grown t).exprs ++ x ∷ [] } in
    let E : (grown t').exprs ≡ (grown t).exprs ++ x ∷ [] = ap (λ (q : Grown). q.exprs) g.meaning in
    record {
      whole = g.tree;
      only = g.meaning ∙ ap (λ l. record (grown t) { exprs = l }) (sym E);
      grows = subst (λ (q : Grown). Grows (grown t) q) (sym g.meaning) (grows_exprs (grown t) x);
      count = omega (arith, ap length E, length-append (grown t).exprs (x ∷ []));
      there = omega (arith, ap length E, length-append (grown t).exprs (x ∷ []));
      is = ap (λ l. get_or l e.0 (number 0 0)) E ∙ get_or_push (grown t).exprs x (number 0 0) e.0 (sym h);
    }

-- one addition after another
pub folds_then : (t t1 t2 : Lists) (n k : ℕ) (e f : ExprId) (x y : ExprTree) → Folds t t1 n e x → Folds t1 t2 k f y → Folds t t2 (n + k) f y
folds_then t t1 t2 n k e f x y a b = record {
  whole = b.whole;
  only = b.only ∙ ap (λ (q : Grown). record q { exprs = (grown t2).exprs }) a.only;
  grows = grows_then (grown t) (grown t1) (grown t2) a.grows b.grows;
  count = omega (arith, a.count, b.count);
  there = b.there;
  is = b.is;
}

pub folds_is : (t t' : Lists) (n k : ℕ) (e : ExprId) (x y : ExprTree) → n ≡ k → x ≡ y → Folds t t' n e x → Folds t t' k e y
folds_is t t' n k e x y p q h = record { whole = h.whole; only = h.only; grows = h.grows; count = omega (arith, h.count); there = h.there; is = h.is ∙ q }

-- a loop that adds one expression for each place, the last one first
pub record Folding (under : List ℕ → ExprTree → ExprTree) (t0 t : Lists) (all left : List ℕ) (operand inner : ExprId) : Type 0 where
  pub count : ℕ
  pub folds : Folds t0 t count inner (expr_at (grown t).exprs inner)
  pub total : count + length left ≡ length all
  pub placed : Each (λ k at. IsPlace at) left
  pub is : under left (expr_at (grown t).exprs inner) ≡ under all (expr_at (grown t0).exprs operand)

pub folding_start : (under : List ℕ → ExprTree → ExprTree) (t : Lists) (all : List ℕ) (operand : ExprId) → IsTree t → ExprThere (grown t) operand → Each (λ k at. IsPlace at) all → Folding under t t all all operand operand
folding_start under t all operand w h placed = record { count = 0; folds = folds_none t operand w h; total = omega arith; placed = placed; is = refl }

each_front : (xs ys : List ℕ) → Each (λ k at. IsPlace at) (xs ++ ys) → Each (λ k at. IsPlace at) xs
each_front xs ys h = λ k d lt. let e = get_or-append xs ys d k lt in let f = h k d (omega (arith, length-append xs ys)) in let P : ℕ → Type 0 = λ x. IsPlace x in subst P e f

each_last : (xs : List ℕ) (y : ℕ) → Each (λ k at. IsPlace at) (xs ++ y ∷ []) → IsPlace y
each_last xs y h = let e = get_or_push xs y y (length xs) refl in let P : ℕ → Type 0 = λ x. IsPlace x in subst P e (h (length xs) y (omega (arith, length-append xs (y ∷ []))))

pub folding_place : (under : List ℕ → ExprTree → ExprTree) (t0 t : Lists) (all left rest : List ℕ) (at : ℕ) (operand inner : ExprId) → left ≡ rest ++ at ∷ [] → Folding under t0 t all left operand inner → IsPlace at
folding_place under t0 t all left rest at operand inner e h = each_last rest at (subst (λ (l : List ℕ). Each (λ k x. IsPlace x) l) e h.placed)

pub folding_step : (under : List ℕ → ExprTree → ExprTree) (wrap : ExprTree → ℕ → ExprTree) (t0 t t' : Lists) (all left rest : List ℕ) (at : ℕ) (operand inner inner' : ExprId) → ((ms : List ℕ) (m' : ℕ) (x : ExprTree) → under (ms ++ m' ∷ []) x ≡ under ms (wrap x m')) → left ≡ rest ++ at ∷ [] → inner'.0 ≡ length (grown t).exprs → Grew t' (record (grown t) { exprs = (grown t).exprs ++ wrap (expr_at (grown t).exprs inner) at ∷ [] }) → Folding under t0 t all left operand inner → Folding under t0 t' all rest operand inner'
folding_step under wrap t0 t t' all left rest at operand inner inner' law e place g h =
    let one = folds_one t t' inner' (wrap (expr_at (grown t).exprs inner) at) place g in
    record {
      count = h.count + 1;
      folds = folds_is t0 t' (h.count + 1) (h.count + 1) inner' (wrap (expr_at (grown t).exprs inner) at) (expr_at (grown t').exprs inner') refl (sym one.is) (folds_then t0 t t' h.count 1 inner inner' (expr_at (grown t).exprs inner) (wrap (expr_at (grown t).exprs inner) at) h.folds one);
      total = omega (arith, h.total, ap length e, length-append rest (at ∷ []));
      placed = each_front rest (at ∷ []) (subst (λ (l : List ℕ). Each (λ k x. IsPlace x) l) e h.placed);
      is = ap (λ x. under rest x) one.is ∙ (sym (law rest at (expr_at (grown t).exprs inner)) ∙ (ap (λ l. under l (expr_at (grown t).exprs inner)) (sym e) ∙ h.is));
    }

pub minuses_more : (ms : List ℕ) (m' : ℕ) (x : ExprTree) → m.under_minuses (trees []) (ms ++ m' ∷ []) x ≡ m.under_minuses (trees []) ms (negative x m')
minuses_more [] m' x = refl
minuses_more (y ∷ ms) m' x = ap (λ z. negative z y) (minuses_more ms m' x)

pub nots_more : (ms : List ℕ) (m' : ℕ) (x : ExprTree) → m.under_nots (trees []) (ms ++ m' ∷ []) x ≡ m.under_nots (trees []) ms (opposite x m')
nots_more [] m' x = refl
nots_more (y ∷ ms) m' x = ap (λ z. opposite z y) (nots_more ms m' x)

-- the levels over trees
pub minuses_any : (source : List ℕ) (ms : List ℕ) (x : ExprTree) → m.under_minuses (trees source) ms x ≡ m.under_minuses (trees []) ms x
minuses_any source [] x = refl
minuses_any source (y ∷ ms) x = ap (λ z. negative z y) (minuses_any source ms x)

pub nots_any : (source : List ℕ) (ms : List ℕ) (x : ExprTree) → m.under_nots (trees source) ms x ≡ m.under_nots (trees []) ms x
nots_any source [] x = refl
nots_any source (y ∷ ms) x = ap (λ z. opposite z y) (nots_any source ms x)
