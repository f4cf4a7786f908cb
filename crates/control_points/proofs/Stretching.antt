-- How many expressions a procedure may make yet, and what it has made.
use Rattle.std.proofs.Common.{◌≡◌, ◌⊎◌, inl, inr, ℕ, suc, zero, ◌+◌, ◌^◌, ◌<◌, ◌≤◌, List, [], ◌∷◌, ◌++◌, length, refl, ap, ◌∙◌, subst, sym, arith, length-append, Result, Ok, Err, IfOk}
use Rattle.spl_tree.specs.Program.{ExprTree}
use Rattle.spl_core.specs.declared.parts.Edge.{Edge}
use Rattle.spl_core.specs.declared.parts.CoreExpr.{CoreExpr}
use Rattle.spl_core.specs.declared.parts.CoreCond.{CoreCond}
use Rattle.spl_core.specs.Parts.{Parts}
use Rattle.spl_core.specs.Graph.{expr_at, exprs_after, cond_at, conds_after}
use Rattle.control_points.specs.declared.built.Fail.{Fail}
use Rattle.control_points.specs.declared.nodes_made.Made.{Made}
use Rattle.control_points.specs.CoreOf.{Spoken}
use Rattle.control_points.specs.Nodes.{Grows, AreMade, Stretch, left_from, left_in, HasRoom, Spends}
use Rattle.control_points.specs.Building.{Building, with_edges, building, Remembers, CanMake, MakesMore, SameNodes, HasFew}
use Rattle.control_points.proofs.Keeping.{all_stay}

-- ---- what is left

left_less : (low n : ℕ) → low + n < 2 ^ 20 → left_from low (n + 1) + 1 ≤ left_from low n
left_less zero n lt = omega (arith, lt)
left_less (suc low) n lt = omega (arith, lt)

left_most : (low n : ℕ) → left_from low n ≤ 2 ^ 21
left_most zero n = omega arith
left_most (suc low) n = omega arith

-- a node more
pub room_now : (c d : Parts) (v w : Stretch) → w.low + length w.made < 2 ^ 20 → HasRoom c v → Spends c v d w → (length d.exprs + 1 < 2 ^ 31) × (length d.conds + 1 < 2 ^ 31)
room_now c d v w lt h s =
    let less = left_less w.low (length w.made) lt in
    (omega (arith, h.exprs, s.exprs, less), omega (arith, h.conds, s.conds, less))

pub spends_more : (c d e : Parts) (v w x : Stretch) (m : Made) → w.low + length w.made < 2 ^ 20 → x ≡ record { low = w.low; made = w.made ++ m ∷ [] } → length e.exprs ≤ length d.exprs + 1 → length e.conds ≤ length d.conds + 1 → Spends c v d w → Spends c v e x
spends_more c d e v w x m lt is f g s =
    let less = left_less w.low (length w.made) lt in
    let now : left_in x ≡ left_from w.low (length w.made + 1) = ap left_in is ∙ ap (λ n. left_from w.low n) (omega (arith, length-append w.made (m ∷ []))) in
    record { exprs = omega (arith, f, s.exprs, less, now); conds = omega (arith, g, s.conds, less, now) }

-- ---- what is made stays made

-- a stretch as it was, or an empty one
pub kept_made : (c : Parts) (names : Spoken) (trees : List ExprTree) (v w : Stretch) → (w ≡ v) ⊎ (w.made ≡ []) → AreMade c names trees v.low v.made → AreMade c names trees w.low w.made
kept_made c names trees v w (inl e) h = let P : Stretch → Type 0 = λ x. AreMade c names trees x.low x.made in subst P (sym e) h
kept_made c names trees v w (inr e) h = λ j d lt. absurd (omega (arith, lt, ap length e))

pub grows_same : (a b : Parts) → b.exprs ≡ a.exprs → b.conds ≡ a.conds → Grows a b
grows_same a b e f = record {
  exprs = omega (arith, ap length e);
  conds = omega (arith, ap length f);
  same_exprs = λ k lt. ap (λ (l : List CoreExpr). expr_at (exprs_after [] l) k) e;
  same_conds = λ k lt. ap (λ (l : List CoreExpr). cond_at (conds_after (exprs_after [] l) [] b.conds) k) e ∙ ap (λ (l : List CoreCond). cond_at (conds_after (exprs_after [] a.exprs) [] l) k) f;
}

pub makes_none : (names : Spoken) (trees : List ExprTree) (a : Building) → Remembers names trees a → MakesMore names trees a a
makes_none names trees a h = record { so_far = h; spends = record { exprs = omega arith; conds = omega arith } }

pub makes_then : (names : Spoken) (trees : List ExprTree) (a b c : Building) → MakesMore names trees a b → MakesMore names trees b c → MakesMore names trees a c
makes_then names trees a b c f g = record {
  so_far = g.so_far;
  spends = record { exprs = omega (arith, f.spends.exprs, g.spends.exprs); conds = omega (arith, f.spends.conds, g.spends.conds) };
}

pub makes_same : (names : Spoken) (trees : List ExprTree) (a b c : Building) → MakesMore names trees a b → SameNodes b c → MakesMore names trees a c
makes_same names trees a b c f g =
    let left : left_in c.stretch ≡ left_in b.stretch = ap left_in g.stretch in
    let P : Stretch → Type 0 = λ x. AreMade c.parts names trees x.low x.made in
    record {
      so_far = subst P (sym g.stretch) (all_stay b.parts c.parts names trees b.stretch.low b.stretch.made (grows_same b.parts c.parts g.exprs g.conds) f.so_far);
      spends = record { exprs = omega (arith, f.spends.exprs, left, ap length g.exprs); conds = omega (arith, f.spends.conds, left, ap length g.conds) };
    }

pub same_then : (a b c : Building) → SameNodes a b → SameNodes b c → SameNodes a c
same_then a b c f g = record { exprs = g.exprs ∙ f.exprs; conds = g.conds ∙ f.conds; stretch = g.stretch ∙ f.stretch }

pub can_now : (names : Spoken) (trees : List ExprTree) (a b : Building) → CanMake names trees a → MakesMore names trees a b → CanMake names trees b
can_now names trees a b h w = record {
  so_far = w.so_far;
  room = record { exprs = omega (arith, h.room.exprs, w.spends.exprs); conds = omega (arith, h.room.conds, w.spends.conds) };
}

-- at the end of a statement
pub ends_same : {E : Type 0} (r : Result (Unit {0}) E) (names : Spoken) (trees : List ExprTree) (a b c : Building) → MakesMore names trees a b → IfOk r (λ _. SameNodes b c) → IfOk r (λ _. MakesMore names trees a c)
ends_same (Ok v) names trees a b c f g = makes_same names trees a b c f g
ends_same (Err e) names trees a b c f g = g

pub ends_making : {E : Type 0} (r : Result (Unit {0}) E) (names : Spoken) (trees : List ExprTree) (a b c : Building) → MakesMore names trees a b → IfOk r (λ _. MakesMore names trees b c) → IfOk r (λ _. MakesMore names trees a c)
ends_making (Ok v) names trees a b c f g = makes_then names trees a b c f g
ends_making (Err e) names trees a b c f g = g

-- ---- a builder's state

pub nodes_made : (names : Spoken) (trees : List ExprTree) (n : Parts) (es : List Edge) (ds : List ℕ) (fs : List Fail) (points : ℕ) (v : Stretch) (a : Building) → building n es ds fs points v ≡ a → CanMake names trees a → AreMade n names trees v.low v.made × HasRoom n v
nodes_made names trees n es ds fs points v a e h =
    let P : Building → Type 0 = λ x. CanMake names trees x in
    let w = subst P (sym e) h in
    (all_stay (with_edges n es ds) n names trees v.low v.made (grows_same (with_edges n es ds) n refl refl) w.so_far, record { exprs = w.room.exprs; conds = w.room.conds })

pub building_makes : (names : Spoken) (trees : List ExprTree) (n m : Parts) (es : List Edge) (ds : List ℕ) (fs : List Fail) (points : ℕ) (v w : Stretch) (a : Building) → building n es ds fs points v ≡ a → AreMade m names trees w.low w.made → Spends n v m w → MakesMore names trees a (building m es ds fs points w)
building_makes names trees n m es ds fs points v w a e h s =
    let P : Building → Type 0 = λ x. MakesMore names trees x (building m es ds fs points w) in
    subst P e (record { so_far = all_stay m (with_edges m es ds) names trees w.low w.made (grows_same m (with_edges m es ds) refl refl) h; spends = record { exprs = s.exprs; conds = s.conds } })

-- ---- a procedure

can_begin : (names : Spoken) (trees : List ExprTree) (p : ℕ) (a : Building) → p ≤ 256 → HasFew p a.parts → a.stretch.made ≡ [] → CanMake names trees a
can_begin names trees p a le h e =
    let most = left_most a.stretch.low (length a.stretch.made) in
    record {
      so_far = λ j d lt. absurd (omega (arith, lt, ap length e));
      room = record { exprs = omega (arith, le, h.exprs, most); conds = omega (arith, le, h.conds, most) };
    }

pub few_now : (names : Spoken) (trees : List ExprTree) (p : ℕ) (a b : Building) → HasFew p a.parts → MakesMore names trees a b → HasFew (p + 1) b.parts
few_now names trees p a b h w =
    let most = left_most a.stretch.low (length a.stretch.made) in
    record { exprs = omega (arith, h.exprs, w.spends.exprs, most); conds = omega (arith, h.conds, w.spends.conds, most) }

-- a procedure's start, where nothing is made of its expressions
pub starts_making : (names : Spoken) (trees : List ExprTree) (p : ℕ) (a b c : Building) → p ≤ 256 → HasFew p a.parts → b.parts ≡ a.parts → b.stretch.made ≡ [] → SameNodes b c → MakesMore names trees b c × CanMake names trees c × HasFew p b.parts
starts_making names trees p a b c le h e none same =
    let P : Parts → Type 0 = λ x. HasFew p x in
    let few : HasFew p b.parts = subst P (sym e) h in
    let can = can_begin names trees p b le few none in
    let makes = makes_same names trees b b c (makes_none names trees b can.so_far) same in
    (makes, can_now names trees b c can makes, few)
