-- The closure by pivots is the relation of reaching, and a procedure that is reached and doesn't reach back has a lower count.
use Rattle.std.proofs.Common.{◌≡◌, ℕ, suc, zero, ◌+◌, ◌<◌, ◌≤◌, ◌⊎◌, inl, inr, Bool, true, false, cond, ◌&&◌, eqb, List, [], ◌∷◌, length, get_or, refl, sym, ◌∙◌, subst, arith}
use Rattle.std.specs.List.{count_by, range_with_len}
use Rattle.std.proofs.lemmas.Bool.{cases_lt, or_cases, or_left, or_right, or_from, false≢true}
use Rattle.std.proofs.lemmas.Bool.Decides.{Decides-eqb}
use Rattle.std.proofs.lemmas.List.{get_or_default}
use Rattle.std.proofs.lemmas.List.Sums.{sum_by-cons}
use Rattle.std.proofs.lemmas.List.Folds.{Any-from_list_any}
use Rattle.std.proofs.lemmas.List.FromFn.{length-range_with_len, get_or-range_with_len}
use Rattle.spl_core.specs.declared.parts.Proc.{Proc}
use Rattle.spl_core.specs.Graph.{Move, skips, assigns, havocs, tests, calls, starts, Arc, Graph, owner_of, proc_of, arc_at, no_arc}
use Rattle.spl_core.specs.GraphFacts.{IsGraph, MoveFits}
use Rattle.call_graph.specs.Reach.{is_call_of, is_call_from, calls_directly, Reaches, directly, onward, reaches_below, reaches, is_reached, reach_count}

-- ---- tests

pub and_parts : (a b : Bool) → (a && b) ≡ true → (a ≡ true) × (b ≡ true)
and_parts true b h = (refl, h)
and_parts false b h = absurd (grind arith)

pub and_from : (a b : Bool) → a ≡ true → b ≡ true → (a && b) ≡ true
and_from a b p q = cc

-- one more pivot
more : (g : Graph) (k p q : ℕ) → reaches_below g k p q ≡ true → reaches_below g (suc k) p q ≡ true
unfolding reaches_below
more g k p q h = or_left _ _ h

over : (g : Graph) (k p q : ℕ) → reaches_below g k p k ≡ true → reaches_below g k k q ≡ true → reaches_below g (suc k) p q ≡ true
unfolding reaches_below
over g k p q h u = or_right _ _ (and_from _ _ h u)

parts : (g : Graph) (k p q : ℕ) → reaches_below g (suc k) p q ≡ true → (reaches_below g k p q ≡ true) ⊎ ((reaches_below g k p k ≡ true) × (reaches_below g k k q ≡ true))
unfolding reaches_below
parts g k p q h = elim (or_cases _ _ h) [ inl a ↦ inl a | inr b ↦ inr (and_parts _ _ b) ]

to_pivot : (g : Graph) (k p : ℕ) → reaches_below g (suc k) p k ≡ true → reaches_below g k p k ≡ true
to_pivot g k p h = elim (parts g k p k h) [ inl a ↦ a | inr b ↦ b.0 ]

from_pivot : (g : Graph) (k q : ℕ) → reaches_below g (suc k) k q ≡ true → reaches_below g k k q ≡ true
from_pivot g k q h = elim (parts g k k q h) [ inl a ↦ a | inr b ↦ b.1 ]

-- over a procedure that is already a pivot
through : (g : Graph) (k m p q : ℕ) → m < k → reaches_below g k p m ≡ true → reaches_below g k m q ≡ true → reaches_below g k p q ≡ true
through g zero m p q lt h u = absurd (omega arith)
through g (suc k) m p q lt h u = elim (cases_lt m k) [ inl l ↦ below (λ x y a b. through g k m x y l a b) (parts g k p m h) (parts g k m q u) | inr l ↦ at_pivot (omega arith) ]
  where
    at_pivot : m ≡ k → reaches_below g (suc k) p q ≡ true
    at_pivot e =
        over g k p q (to_pivot g k p (subst (λ n. reaches_below g (suc k) p n ≡ true) e h))
        (from_pivot g k q (subst (λ n. reaches_below g (suc k) n q ≡ true) e u))

    below : ((x y : ℕ) → reaches_below g k x m ≡ true → reaches_below g k m y ≡ true → reaches_below g k x y ≡ true) → (reaches_below g k p m ≡ true) ⊎ ((reaches_below g k p k ≡ true) × (reaches_below g k k m ≡ true)) → (reaches_below g k m q ≡ true) ⊎ ((reaches_below g k m k ≡ true) × (reaches_below g k k q ≡ true)) → reaches_below g (suc k) p q ≡ true
    below on (inl a) (inl b) = more g k p q (on p q a b)
    below on (inl a) (inr b) = over g k p q (on p k a b.0) b.1
    below on (inr a) (inl b) = over g k p q a.0 (on k q a.1 b)
    below on (inr a) (inr b) = over g k p q a.0 b.1

-- a call is there with any pivots
direct : (g : Graph) (k p q : ℕ) → calls_directly g p q ≡ true → reaches_below g k p q ≡ true
unfolding reaches_below
direct g zero p q h = h
direct g (suc k) p q h = or_left _ _ (direct g k p q h)

-- ---- the relation

joined : (g : Graph) (p m q : ℕ) → Reaches g p m → Reaches g m q → Reaches g p q
joined g _ _ q (directly p m h) u = onward p m q h u
joined g _ _ q (onward p n m h k) u = onward p n q h (joined g n m q k u)

related : (g : Graph) (k p q : ℕ) → reaches_below g k p q ≡ true → Reaches g p q
unfolding reaches_below
related g zero p q h = directly p q h
related g (suc k) p q h = elim (parts g k p q h) [ inl a ↦ related g k p q a | inr b ↦ joined g p k q (related g k p k b.0) (related g k k q b.1) ]

-- a called procedure is in range
pub callee_fits : (g : Graph) (p : Proc) (q : ℕ) (a : Move) → MoveFits g.procs p a → is_call_of q a ≡ true → q < length g.procs
callee_fits g p q skips fit h = absurd (grind arith)
callee_fits g p q (assigns target e) fit h = absurd (grind arith)
callee_fits g p q (havocs target) fit h = absurd (grind arith)
callee_fits g p q (tests e wanted) fit h = absurd (grind arith)
callee_fits g p q (calls callee args targets) fit h = let e : callee ≡ q = (Decides-eqb callee q).0 h in omega (arith, fit.callee_in_range)
callee_fits g p q (starts pairs) fit h = absurd (grind arith)

callee_in_range : (g : Graph) (p q : ℕ) → IsGraph g → calls_directly g p q ≡ true → q < length g.procs
unfolding calls_directly
callee_in_range g p q is h =
    let some = Any-from_list_any (is_call_from g p q) g.arcs h in
    let edge : arc_at g some.0 ≡ some.1 = get_or_default g.arcs some.0 no_arc some.1 some.2 ∙ some.3 in
    callee_fits g (proc_of g (owner_of g (arc_at g some.0).source)) q (arc_at g some.0).move (is.arcs some.0 no_arc some.2).acts
    (subst (λ (e : Arc). is_call_of q e.move ≡ true) (sym edge) (and_parts _ _ some.4).1)

closed : (g : Graph) (p q : ℕ) → IsGraph g → Reaches g p q → reaches_below g (length g.procs) p q ≡ true
closed g _ _ is (directly p q h) = direct g (length g.procs) p q h
closed g _ _ is (onward p m q h u) = through g (length g.procs) m p q (callee_in_range g p m is h) (direct g (length g.procs) p m h) (closed g m q is u)

pub reaches_exact : (g : Graph) (p q : ℕ) → IsGraph g → ((reaches g p q ≡ true → Reaches g p q) × (Reaches g p q → reaches g p q ≡ true))
unfolding reaches
reaches_exact g p q is = (related g (length g.procs) p q, closed g p q is)

pub reaches-joined : (g : Graph) (p m q : ℕ) → IsGraph g → reaches g p m ≡ true → reaches g m q ≡ true → reaches g p q ≡ true
reaches-joined g p m q is h u = (reaches_exact g p q is).1 (joined g p m q ((reaches_exact g p m is).0 h) ((reaches_exact g m q is).0 u))

pub reaches-call : (g : Graph) (p q : ℕ) → calls_directly g p q ≡ true → reaches g p q ≡ true
unfolding reaches
reaches-call g p q h = direct g (length g.procs) p q h

-- ---- counts

count_most : {X : Type 0} → (f u : X → Bool) (xs : List X) → ((x : X) → f x ≡ true → u x ≡ true) → count_by f xs ≤ count_by u xs
count_most f u [] h = omega arith
count_most f u (x ∷ xs) h = by (count_most f u xs h) (f x) (u x) refl refl
  where
    by : count_by f xs ≤ count_by u xs → (a b : Bool) → f x ≡ a → u x ≡ b → count_by f (x ∷ xs) ≤ count_by u (x ∷ xs)
    by le true true p q = rw (sum_by-cons (λ y. cond (f y) 1 0) x xs) (rw (sum_by-cons (λ y. cond (u y) 1 0) x xs) (rw p (rw q (omega arith))))
    by le true false p q = absurd (grind (arith, h x p))
    by le false true p q = rw (sum_by-cons (λ y. cond (f y) 1 0) x xs) (rw (sum_by-cons (λ y. cond (u y) 1 0) x xs) (rw p (rw q (omega arith))))
    by le false false p q = rw (sum_by-cons (λ y. cond (f y) 1 0) x xs) (rw (sum_by-cons (λ y. cond (u y) 1 0) x xs) (rw p (rw q (omega arith))))

count_fewer : {X : Type 0} → (f u : X → Bool) (d : X) (xs : List X) (i : ℕ) → ((x : X) → f x ≡ true → u x ≡ true) → i < length xs → f (get_or xs i d) ≡ false → u (get_or xs i d) ≡ true → count_by f xs < count_by u xs
count_fewer f u d [] i h lt p q = absurd (omega arith)
count_fewer f u d (x ∷ xs) zero h lt p q = rw (sum_by-cons (λ y. cond (f y) 1 0) x xs) (rw (sum_by-cons (λ y. cond (u y) 1 0) x xs) (rw p (rw q (omega (arith, count_most f u xs h)))))
count_fewer f u d (x ∷ xs) (suc i) h lt p q = by (count_fewer f u d xs i h (omega arith) p q) (f x) (u x) refl refl
  where
    by : count_by f xs < count_by u xs → (a b : Bool) → f x ≡ a → u x ≡ b → count_by f (x ∷ xs) < count_by u (x ∷ xs)
    by le true true p q = rw (sum_by-cons (λ y. cond (f y) 1 0) x xs) (rw (sum_by-cons (λ y. cond (u y) 1 0) x xs) (rw p (rw q (omega arith))))
    by le true false p q = absurd (grind (arith, h x p))
    by le false true p q = rw (sum_by-cons (λ y. cond (f y) 1 0) x xs) (rw (sum_by-cons (λ y. cond (u y) 1 0) x xs) (rw p (rw q (omega arith))))
    by le false false p q = rw (sum_by-cons (λ y. cond (f y) 1 0) x xs) (rw (sum_by-cons (λ y. cond (u y) 1 0) x xs) (rw p (rw q (omega arith))))

-- a procedure that is reached and doesn't reach back reaches fewer
pub fewer : (g : Graph) (p q : ℕ) → IsGraph g → p < length g.procs → reaches g p q ≡ true → reaches g q p ≡ false → reach_count g q < reach_count g p
unfolding reach_count
fewer g p q is lt h none =
    count_fewer (is_reached g q) (is_reached g p) 0 (range_with_len 0 (length g.procs)) p onto (omega (arith, length-range_with_len 0 (length g.procs)))
    (rw (get_or-range_with_len 0 (length g.procs) p 0 lt) not_back)
    (rw (get_or-range_with_len 0 (length g.procs) p 0 lt) itself)
  where
    onto : (x : ℕ) → is_reached g q x ≡ true → is_reached g p x ≡ true
    onto x e = elim (or_cases _ _ e) [ inl a ↦ or_right _ _ (subst (λ y. reaches g p y ≡ true) (sym ((Decides-eqb x q).0 a)) h) | inr b ↦ or_right _ _ (reaches-joined g p q x is h b) ]

    apart : (b : Bool) → eqb p q ≡ b → eqb p q ≡ false
    apart true e = absurd (false≢true (sym none ∙ subst (λ y. reaches g y p ≡ true) ((Decides-eqb p q).0 e) (subst (λ y. reaches g p y ≡ true) (sym ((Decides-eqb p q).0 e)) h)))
    apart false e = e

    not_back : is_reached g q (0 + p) ≡ false
    not_back = subst (λ n. is_reached g q n ≡ false) (omega arith) (or_from (eqb p q) (reaches g q p) (apart (eqb p q) refl) none)

    itself : is_reached g p (0 + p) ≡ true
    itself = or_left _ _ ((Decides-eqb (0 + p) p).1 (omega arith))
