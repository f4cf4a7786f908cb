-- The order holds each point once, sorted.
use Rattle.std.proofs.Common.{◌≡◌, ℕ, suc, zero, ◌+◌, ◌<◌, ◌≤◌, ◌⊎◌, inl, inr, Bool, true, false, cond, eqb, List, [], ◌∷◌, ◌++◌, length, get_or, refl, sym, ap, ◌∙◌, subst, arith}
use Rattle.std.specs.List.{All, AllPairs, Contains, flat_map, filter, range_with_len}
use Rattle.std.proofs.lemmas.Bool.Decides.{Decides-eqb}
use Rattle.std.proofs.lemmas.List.Elements.{All-filter, All-contains, All-contains_itself, filter_passes, Contains-get_or, Contains-append_left, Contains-append_right, Contains-append_cases}
use Rattle.std.proofs.lemmas.List.Kept.{AllPairs-cons, AllPairs-filter}
use Rattle.std.proofs.lemmas.List.Sums.{count_by-le-length}
use Rattle.std.proofs.lemmas.List.FromFn.{length-range_with_len, get_or-range_with_len}
use Rattle.spl_core.specs.Graph.{Graph, owner_of}
use Rattle.spl_core.specs.GraphFacts.{IsGraph}
use Rattle.call_graph.specs.Reach.{is_reached, reach_count}
use Rattle.call_graph.specs.Order.{Before, points_of, procs_with, points_with, order}
use Rattle.call_graph.specs.Laws.{IsOrder}
use Rattle.call_graph.proofs.Lists.{from_flat_map}

-- ---- lists

pub in_filter : {X : Type 0} → (p : X → Bool) (xs : List X) (x : X) → Contains (filter p xs) x → (p x ≡ true) × Contains xs x
in_filter p xs x h = (All-contains (λ y. p y ≡ true) (filter p xs) x (filter_passes p xs) h, All-contains (Contains xs) (filter p xs) x (All-filter p (Contains xs) xs (All-contains_itself xs)) h)

pub into_filter : {X : Type 0} → (p : X → Bool) (xs : List X) (x : X) → Contains xs x → p x ≡ true → Contains (filter p xs) x
into_filter p [] x h e = h
into_filter p (y ∷ xs) x h e = by h.0 h.1 h.2 (λ u. into_filter p xs x u e)
  where
    later : (b : Bool) → Contains (filter p xs) x → Contains (cond b (y ∷ filter p xs) (filter p xs)) x
    later true u = (suc u.0, omega (arith, u.1), u.2)
    later false u = u

    by : (k : ℕ) → k < length (y ∷ xs) → get_or (y ∷ xs) k x ≡ x → (Contains xs x → Contains (filter p xs) x) → Contains (filter p (y ∷ xs)) x
    by zero lt same rest = subst (λ b. Contains (cond b (y ∷ filter p xs) (filter p xs)) x) (sym (subst (λ z. p z ≡ true) (sym same) e)) (0, omega arith, same)
    by (suc k) lt same rest = later (p y) (rest (k, omega arith, same))

into_flat_map : {X A : Type 0} → (f : X → List A) (xs : List X) (k : X) (y : A) → Contains xs k → Contains (f k) y → Contains (flat_map f xs) y
into_flat_map f [] k y h u = absurd (omega (arith, h.1))
into_flat_map f (x ∷ xs) k y h u = by h.0 h.1 h.2 (λ t. into_flat_map f xs k y t u)
  where
    by : (i : ℕ) → i < length (x ∷ xs) → get_or (x ∷ xs) i k ≡ k → (Contains xs k → Contains (flat_map f xs) y) → Contains (f x ++ flat_map f xs) y
    by zero lt same rest = Contains-append_left (f x) (flat_map f xs) y (subst (λ z. Contains (f z) y) (sym same) u)
    by (suc i) lt same rest = Contains-append_right (f x) (flat_map f xs) y (rest (i, omega arith, same))

pub in_range : (n x : ℕ) → Contains (range_with_len 0 n) x → x < n
in_range n x h = omega (arith, h.1, h.2, length-range_with_len 0 n, get_or-range_with_len 0 n h.0 x)

pub into_range : (n x : ℕ) → x < n → Contains (range_with_len 0 n) x
into_range n x lt = (x, omega (arith, length-range_with_len 0 n), get_or-range_with_len 0 n x x lt ∙ omega arith)

-- ---- pairs

pairs_range : (n : ℕ) → AllPairs (λ x y. x < y) (range_with_len 0 n)
pairs_range n i j d lt h = omega (arith, length-range_with_len 0 n, get_or-range_with_len 0 n i d, get_or-range_with_len 0 n j d)

pairs_with : {X : Type 0} → (R S : X → X → Type 0) (xs : List X) → AllPairs S xs → ((x y : X) → Contains xs x → Contains xs y → S x y → R x y) → AllPairs R xs
pairs_with R S xs h f i j d lt within = f (get_or xs i d) (get_or xs j d) (Contains-get_or xs i d (omega arith)) (Contains-get_or xs j d within) (h i j d lt within)

pairs_tail : {X : Type 0} → (R : X → X → Type 0) (x : X) (xs : List X) → AllPairs R (x ∷ xs) → AllPairs R xs
pairs_tail R x xs h i j d lt within = h (suc i) (suc j) d (omega arith) (omega arith)

pairs_append : {X : Type 0} → (R : X → X → Type 0) (xs ys : List X) → AllPairs R xs → AllPairs R ys → ((x y : X) → Contains xs x → Contains ys y → R x y) → AllPairs R (xs ++ ys)
pairs_append R [] ys h u f = u
pairs_append R (x ∷ xs) ys h u f = AllPairs-cons R x (xs ++ ys) first (pairs_append R xs ys (pairs_tail R x xs h) u (λ y z a b. f y z (suc a.0, omega (arith, a.1), a.2) b))
  where
    first : All (R x) (xs ++ ys)
    first j d lt = by (Contains-append_cases xs ys (get_or (xs ++ ys) j d) (Contains-get_or (xs ++ ys) j d lt))
      where
        by : Contains xs (get_or (xs ++ ys) j d) ⊎ Contains ys (get_or (xs ++ ys) j d) → R x (get_or (xs ++ ys) j d)
        by (inl a) = subst (R x) a.2 (h 0 (suc a.0) (get_or (xs ++ ys) j d) (omega arith) (omega (arith, a.1)))
        by (inr b) = f x (get_or (xs ++ ys) j d) (0, omega arith, refl) b

pairs_flat_map : {X A : Type 0} → (R : A → A → Type 0) (S : X → X → Type 0) (f : X → List A) (ks : List X) → AllPairs S ks → ((k : X) → Contains ks k → AllPairs R (f k)) → ((k l : X) (x y : A) → S k l → Contains (f k) x → Contains (f l) y → R x y) → AllPairs R (flat_map f ks)
pairs_flat_map R S f [] h u t = λ i j d lt within. absurd (omega arith)
pairs_flat_map {A = A} R S f (k ∷ ks) h u t = pairs_append R (f k) (flat_map f ks) (u k (0, omega arith, refl)) (pairs_flat_map R S f ks (pairs_tail S k ks h) (λ l a. u l (suc a.0, omega (arith, a.1), a.2)) t) across
  where
    across : (x y : A) → Contains (f k) x → Contains (flat_map f ks) y → R x y
    across x y a b =
        let r = from_flat_map f ks y b in
        t k r.1 x y (subst (S k) r.3 (h 0 (suc r.0) r.1 (omega arith) (omega (arith, r.2)))) a r.4

-- ---- the order

of_points : (g : Graph) (p x : ℕ) → Contains (points_of g p) x → (owner_of g x ≡ p) × (x < length g.owners)
unfolding points_of
of_points g p x h =
    let r = in_filter (λ y. eqb (owner_of g y) p) (range_with_len 0 (length g.owners)) x h in
    ((Decides-eqb (owner_of g x) p).0 r.0, in_range (length g.owners) x r.1)

of_procs : (g : Graph) (k p : ℕ) → Contains (procs_with g k) p → reach_count g p ≡ k
unfolding procs_with
of_procs g k p h = (Decides-eqb (reach_count g p) k).0 (in_filter (λ q. eqb (reach_count g q) k) (range_with_len 0 (length g.procs)) p h).0

of_group : (g : Graph) (k x : ℕ) → Contains (points_with g k) x → (reach_count g (owner_of g x) ≡ k) × (x < length g.owners)
unfolding points_with
of_group g k x h =
    let r = from_flat_map (points_of g) (procs_with g k) x h in
    let own = of_points g r.1 x r.4 in
    (ap (reach_count g) own.0 ∙ of_procs g k r.1 (r.0, r.2, r.3), own.1)

sorted_points : (g : Graph) (p : ℕ) → AllPairs (Before g) (points_of g p)
unfolding points_of
sorted_points g p = pairs_with (Before g) (λ x y. x < y) (points_of g p)
    (AllPairs-filter (λ x y. x < y) (λ x. eqb (owner_of g x) p) (range_with_len 0 (length g.owners)) (pairs_range (length g.owners)))
    (λ x y a b lt. let own : owner_of g x ≡ owner_of g y = (of_points g p x a).0 ∙ sym (of_points g p y b).0 in inr (ap (reach_count g) own, inr (own, lt)))

increasing : (g : Graph) (k : ℕ) → AllPairs (λ p q. p < q) (procs_with g k)
unfolding procs_with
increasing g k = AllPairs-filter (λ x y. x < y) (λ p. eqb (reach_count g p) k) (range_with_len 0 (length g.procs)) (pairs_range (length g.procs))

sorted_group : (g : Graph) (k : ℕ) → AllPairs (Before g) (points_with g k)
unfolding points_with
sorted_group g k = pairs_flat_map (Before g) (λ p q. (reach_count g p ≡ reach_count g q) × (p < q)) (points_of g) (procs_with g k) procs (λ p h. sorted_points g p) across
  where
    procs : AllPairs (λ p q. (reach_count g p ≡ reach_count g q) × (p < q)) (procs_with g k)
    procs = pairs_with (λ p q. (reach_count g p ≡ reach_count g q) × (p < q)) (λ p q. p < q) (procs_with g k)
        (increasing g k) (λ p q a b lt. (of_procs g k p a ∙ sym (of_procs g k q b), lt))

    across : (p q x y : ℕ) → (reach_count g p ≡ reach_count g q) × (p < q) → Contains (points_of g p) x → Contains (points_of g q) y → Before g x y
    across p q x y s a b =
        let ox = (of_points g p x a).0 in
        let oy = (of_points g q y b).0 in
        inr (ap (reach_count g) ox ∙ s.0 ∙ sym (ap (reach_count g) oy), inl (omega (arith, ox, oy, s.1)))

sorted_order : (g : Graph) → AllPairs (Before g) (order g)
unfolding order
sorted_order g = pairs_flat_map (Before g) (λ j k. j < k) (points_with g) (range_with_len 0 (length g.procs + 1)) (pairs_range (length g.procs + 1)) (λ k h. sorted_group g k)
    (λ j k x y lt a b. inl (omega (arith, (of_group g j x a).0, (of_group g k y b).0)))

count_within : (g : Graph) (p : ℕ) → reach_count g p ≤ length g.procs
unfolding reach_count
count_within g p = omega (arith, count_by-le-length (is_reached g p) (range_with_len 0 (length g.procs)), length-range_with_len 0 (length g.procs))

all_points : (g : Graph) (x : ℕ) → IsGraph g → x < length g.owners → Contains (order g) x
unfolding order points_with procs_with points_of
all_points g x is lt =
    let k = reach_count g (owner_of g x) in
    into_flat_map (points_with g) (range_with_len 0 (length g.procs + 1)) (reach_count g (owner_of g x)) x (into_range (length g.procs + 1) (reach_count g (owner_of g x)) (omega (arith, count_within g (owner_of g x))))
    (into_flat_map (points_of g) (procs_with g (reach_count g (owner_of g x))) (owner_of g x) x
    (into_filter (λ p. eqb (reach_count g p) (reach_count g (owner_of g x))) (range_with_len 0 (length g.procs)) (owner_of g x) (into_range (length g.procs) (owner_of g x) (is.owners x 0 lt)) ((Decides-eqb (reach_count g (owner_of g x)) (reach_count g (owner_of g x))).1 refl))
    (into_filter (λ y. eqb (owner_of g y) (owner_of g x)) (range_with_len 0 (length g.owners)) x (into_range (length g.owners) x lt) ((Decides-eqb (owner_of g x) (owner_of g x)).1 refl)))

only_points : (g : Graph) (x : ℕ) → Contains (order g) x → x < length g.owners
unfolding order
only_points g x h = let r = from_flat_map (points_with g) (range_with_len 0 (length g.procs + 1)) x h in (of_group g r.1 x r.4).1

pub is_order : (g : Graph) → IsGraph g → IsOrder g (order g)
is_order g is = record {
  all = λ x lt. all_points g x is lt;
  only = only_points g;
  sorted = sorted_order g;
}

-- no two points stand before one another
pub before_asym : (g : Graph) (x y : ℕ) → Before g x y → Before g y x → ⊥
before_asym g x y h u = grind arith
