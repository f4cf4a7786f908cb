-- Where the arcs of statements and blocks begin and end, and that calls are alone at their points.
use Rattle.std.proofs.Common.{◌≡◌, ◌≢◌, ℕ, suc, zero, ◌+◌, ◌-◌, ◌<◌, ◌≤◌, List, [], ◌∷◌, ◌++◌, length, get_or, sym, arith, true, false, ◌⊎◌, inl, inr}
use Rattle.std.specs.List.{All}
use Rattle.std.proofs.lemmas.List.Elements.{All-nil, All-cons, All-append, All-tail}
use Rattle.spl_tree.specs.Program.{StmtTree, skip, halt, fail, assume, assign, call, if_then, if_else, while_do, BlockTree, empty, more}
use Rattle.spl_types.specs.Checks.{Met, met_in, met_by}
use Rattle.spl_core.specs.Graph.{Move, skips, tests, calls, Arc, Graph, no_arc}
use Rattle.control_points.specs.CoreOf.{Naming, arc, place_in, dimensions_in, condition_of, assigned_move, stmt_arcs, block_arcs}
use Rattle.spl_core.specs.GraphFacts.{IsCallMove, CallArcsAreAlone}
use Rattle.control_points.proofs.Counting.{rises_in, rises_by}

-- sources and targets from one number on and below another one
pub record Ranges (from to first past : ℕ) (a : Arc) : Type 0 where
  pub source_from : from ≤ a.source
  pub source_to : a.source < to
  pub target_from : first ≤ a.target
  pub target_to : a.target < past

pub widen : (a b c d e f g h : ℕ) (xs : List Arc) → e ≤ a → b ≤ f → g ≤ c → d ≤ h → All (Ranges a b c d) xs → All (Ranges e f g h) xs
widen a b c d e f g h xs p q r s w = λ k x lt.
    let v = w k x lt in
    record { source_from = omega (arith, p, v.source_from); source_to = omega (arith, q, v.source_to); target_from = omega (arith, r, v.target_from); target_to = omega (arith, s, v.target_to) }

one : (P : Arc → Type 0) (x : Arc) → P x → All P (x ∷ [])
one P x p = All-cons P x [] p (All-nil P)

-- an arc by its ends
ends : (from to first past : ℕ) (source target : ℕ) (move : Move) → from ≤ source → source < to → first ≤ target → target < past → Ranges from to first past (arc source target move)
ends from to first past source target move a b c d = record { source_from = a; source_to = b; target_from = c; target_to = d }

-- the arc of a plain statement
plain : (n : ℕ) (move : Move) → 0 < n → All (Ranges (n - 1) n (n - 1) (n + 1)) (arc (n - 1) n move ∷ [])
plain n move lt = one (Ranges (n - 1) n (n - 1) (n + 1)) (arc (n - 1) n move) (ends (n - 1) n (n - 1) (n + 1) (n - 1) n move (omega arith) (omega (arith, lt)) (omega arith) (omega arith))

mutual
  pub stmt_ranges : (c : Naming) (m : Met) (s : StmtTree) → 0 < m.points → All (Ranges (m.points - 1) (met_in m s).points (m.points - 1) ((met_in m s).points + 1)) (stmt_arcs c m s)
  stmt_ranges c m (skip at) lt = plain m.points skips lt
  stmt_ranges c m (halt at) lt = All-nil (Ranges (m.points - 1) m.points (m.points - 1) (m.points + 1))
  stmt_ranges c m (fail at) lt = All-nil (Ranges (m.points - 1) m.points (m.points - 1) (m.points + 1))
  stmt_ranges c m (assume e at) lt = plain m.points (tests (condition_of c.dims e) true) lt
  stmt_ranges c m (assign x e at) lt = plain m.points (assigned_move c.dims x e) lt
  stmt_ranges c m (call targets called args at) lt = plain m.points (calls (place_in c.procs called) (dimensions_in c.dims args) (dimensions_in c.dims targets)) lt
  stmt_ranges c m (if_then e a at) lt =
      let n : ℕ = m.points in
      let k : ℕ = (met_by m a).points in
      let up : n < k = rises_by m a in
      let P : Arc → Type 0 = Ranges (n - 1) k (n - 1) (k + 1) in
      let t : Move = tests (condition_of c.dims e) true in
      let f : Move = tests (condition_of c.dims e) false in
      let xs : List Arc = block_arcs c m a in
      All-cons P (arc (n - 1) n t) (arc (n - 1) k f ∷ arc (k - 1) k skips ∷ xs) (ends (n - 1) k (n - 1) (k + 1) (n - 1) n t (omega arith) (omega (arith, up)) (omega arith) (omega (arith, up)))
      (All-cons P (arc (n - 1) k f) (arc (k - 1) k skips ∷ xs) (ends (n - 1) k (n - 1) (k + 1) (n - 1) k f (omega arith) (omega (arith, up)) (omega (arith, up)) (omega arith))
      (All-cons P (arc (k - 1) k skips) xs (ends (n - 1) k (n - 1) (k + 1) (k - 1) k skips (omega (arith, up)) (omega (arith, up)) (omega (arith, up)) (omega arith))
      (widen n (k - 1) n k (n - 1) k (n - 1) (k + 1) xs (omega arith) (omega arith) (omega arith) (omega arith) (block_ranges c m a))))
  stmt_ranges c m (if_else e a b at) lt =
      let n : ℕ = m.points in
      let k : ℕ = (met_by m a).points in
      let l : ℕ = (met_by (met_by m a) b).points in
      let up : n < k = rises_by m a in
      let on : k < l = rises_by (met_by m a) b in
      let P : Arc → Type 0 = Ranges (n - 1) l (n - 1) (l + 1) in
      let t : Move = tests (condition_of c.dims e) true in
      let f : Move = tests (condition_of c.dims e) false in
      let xs : List Arc = block_arcs c m a in
      let ys : List Arc = block_arcs c (met_by m a) b in
      All-cons P (arc (n - 1) n t) (arc (n - 1) k f ∷ arc (k - 1) l skips ∷ arc (l - 1) l skips ∷ (xs ++ ys)) (ends (n - 1) l (n - 1) (l + 1) (n - 1) n t (omega arith) (omega (arith, up, on)) (omega arith) (omega (arith, up, on)))
      (All-cons P (arc (n - 1) k f) (arc (k - 1) l skips ∷ arc (l - 1) l skips ∷ (xs ++ ys)) (ends (n - 1) l (n - 1) (l + 1) (n - 1) k f (omega arith) (omega (arith, up, on)) (omega (arith, up)) (omega (arith, on)))
      (All-cons P (arc (k - 1) l skips) (arc (l - 1) l skips ∷ (xs ++ ys)) (ends (n - 1) l (n - 1) (l + 1) (k - 1) l skips (omega (arith, up)) (omega (arith, on)) (omega (arith, up, on)) (omega arith))
      (All-cons P (arc (l - 1) l skips) (xs ++ ys) (ends (n - 1) l (n - 1) (l + 1) (l - 1) l skips (omega (arith, up, on)) (omega (arith, on)) (omega (arith, up, on)) (omega arith))
      (All-append P xs ys
      (widen n (k - 1) n k (n - 1) l (n - 1) (l + 1) xs (omega arith) (omega (arith, on)) (omega arith) (omega (arith, on)) (block_ranges c m a))
      (widen k (l - 1) k l (n - 1) l (n - 1) (l + 1) ys (omega (arith, up)) (omega arith) (omega (arith, up)) (omega arith) (block_ranges c (met_by m a) b))))))
  stmt_ranges c m (while_do e a at) lt =
      let n : ℕ = m.points in
      let k : ℕ = (met_by m a).points in
      let up : n < k = rises_by m a in
      let P : Arc → Type 0 = Ranges (n - 1) k (n - 1) (k + 1) in
      let t : Move = tests (condition_of c.dims e) true in
      let f : Move = tests (condition_of c.dims e) false in
      let xs : List Arc = block_arcs c m a in
      All-cons P (arc (n - 1) n t) (arc (n - 1) k f ∷ arc (k - 1) (n - 1) skips ∷ xs) (ends (n - 1) k (n - 1) (k + 1) (n - 1) n t (omega arith) (omega (arith, up)) (omega arith) (omega (arith, up)))
      (All-cons P (arc (n - 1) k f) (arc (k - 1) (n - 1) skips ∷ xs) (ends (n - 1) k (n - 1) (k + 1) (n - 1) k f (omega arith) (omega (arith, up)) (omega (arith, up)) (omega arith))
      (All-cons P (arc (k - 1) (n - 1) skips) xs (ends (n - 1) k (n - 1) (k + 1) (k - 1) (n - 1) skips (omega (arith, up)) (omega (arith, up)) (omega arith) (omega (arith, up)))
      (widen n (k - 1) n k (n - 1) k (n - 1) (k + 1) xs (omega arith) (omega arith) (omega arith) (omega arith) (block_ranges c m a))))

  pub block_ranges : (c : Naming) (m : Met) (b : BlockTree) → All (Ranges m.points ((met_by m b).points - 1) m.points (met_by m b).points) (block_arcs c m b)
  block_ranges c m empty = All-nil (Ranges m.points (m.points + 1 - 1) m.points (m.points + 1))
  block_ranges c m (more b s) =
      let n : ℕ = m.points in
      let k : ℕ = (met_by m b).points in
      let l : ℕ = (met_in (met_by m b) s).points in
      let up : n < k = rises_by m b in
      let on : k ≤ l = rises_in (met_by m b) s in
      let P : Arc → Type 0 = Ranges n (l + 1 - 1) n (l + 1) in
      All-append P (block_arcs c m b) (stmt_arcs c (met_by m b) s)
      (widen n (k - 1) n k n (l + 1 - 1) n (l + 1) (block_arcs c m b) (omega arith) (omega (arith, on)) (omega arith) (omega (arith, on)) (block_ranges c m b))
      (widen (k - 1) l (k - 1) (l + 1) n (l + 1 - 1) n (l + 1) (stmt_arcs c (met_by m b) s) (omega (arith, up)) (omega arith) (omega (arith, up)) (omega arith) (stmt_ranges c (met_by m b) s (omega (arith, up))))

-- ---- calls alone

-- of two arcs from one point none is a call
pub record Apart (x y : Arc) : Type 0 where
  pub first : IsCallMove x.move → x.source ≢ y.source
  pub second : IsCallMove y.move → x.source ≢ y.source

-- each two of a list, one after the other
abbrev pub AllApart : List Arc → Type 0
AllApart [] = Unit {0}
AllApart (x ∷ xs) = All (Apart x) xs × AllApart xs

pub apart_append : (n : ℕ) (xs ys : List Arc) → AllApart xs → AllApart ys → All (λ (x : Arc). x.source < n) xs → All (λ (y : Arc). n ≤ y.source) ys → AllApart (xs ++ ys)
apart_append n [] ys f g h k = g
apart_append n (x ∷ xs) ys f g h k =
    let below : x.source < n = h 0 x (omega arith) in
    let cross : All (Apart x) ys = λ i d lt. let from : n ≤ (get_or ys i d).source = k i d lt in record { first = λ c e. absurd (omega (arith, below, from, e)); second = λ c e. absurd (omega (arith, below, from, e)) } in
    (All-append (Apart x) xs ys f.0 cross, apart_append n xs ys f.1 g (All-tail (λ (z : Arc). z.source < n) x xs h) k)

-- an arc from outside of a range
pub outside : (x : Arc) (a b c d : ℕ) (ys : List Arc) → (x.source < a) ⊎ (b ≤ x.source) → All (Ranges a b c d) ys → All (Apart x) ys
outside x a b c d ys (inl l) h = λ i e lt. let v = h i e lt in record { first = λ q w. absurd (omega (arith, l, w, v.source_from)); second = λ q w. absurd (omega (arith, l, w, v.source_from)) }
outside x a b c d ys (inr l) h = λ i e lt. let v = h i e lt in record { first = λ q w. absurd (omega (arith, l, w, v.source_to)); second = λ q w. absurd (omega (arith, l, w, v.source_to)) }

-- two that aren't calls
pub free : (x y : Arc) → (IsCallMove x.move → ⊥) → (IsCallMove y.move → ⊥) → Apart x y
free x y f g = record { first = λ h. absurd (f h); second = λ h. absurd (g h) }

-- three of which none is a call, before a block
three : (x y z : Arc) → (IsCallMove x.move → ⊥) → (IsCallMove y.move → ⊥) → (IsCallMove z.move → ⊥) → (a b c d : ℕ) (ys : List Arc) → (x.source < a) ⊎ (b ≤ x.source) → (y.source < a) ⊎ (b ≤ y.source) → (z.source < a) ⊎ (b ≤ z.source)
    → All (Ranges a b c d) ys → AllApart ys → AllApart (x ∷ y ∷ z ∷ ys)
three x y z f g h a b c d ys i j k r w = (
  All-cons (Apart x) y (z ∷ ys) (free x y f g) (All-cons (Apart x) z ys (free x z f h) (outside x a b c d ys i r)),
  (All-cons (Apart y) z ys (free y z g h) (outside y a b c d ys j r), (outside z a b c d ys k r, w)),
)

mutual
  pub stmt_apart : (c : Naming) (m : Met) (s : StmtTree) → 0 < m.points → AllApart (stmt_arcs c m s)
  stmt_apart c m (skip at) lt = (All-nil (Apart (arc (m.points - 1) m.points skips)), tt)
  stmt_apart c m (halt at) lt = tt
  stmt_apart c m (fail at) lt = tt
  stmt_apart c m (assume e at) lt = (All-nil (Apart (arc (m.points - 1) m.points (tests (condition_of c.dims e) true))), tt)
  stmt_apart c m (assign x e at) lt = (All-nil (Apart (arc (m.points - 1) m.points (assigned_move c.dims x e))), tt)
  stmt_apart c m (call targets called args at) lt = (All-nil (Apart (arc (m.points - 1) m.points (calls (place_in c.procs called) (dimensions_in c.dims args) (dimensions_in c.dims targets)))), tt)
  stmt_apart c m (if_then e a at) lt =
      let n : ℕ = m.points in
      let k : ℕ = (met_by m a).points in
      let up : n < k = rises_by m a in
      let x : Arc = arc (n - 1) n (tests (condition_of c.dims e) true) in
      let y : Arc = arc (n - 1) k (tests (condition_of c.dims e) false) in
      let z : Arc = arc (k - 1) k skips in
      let r = block_ranges c m a in
      three x y z (λ h. h) (λ h. h) (λ h. h) n (k - 1) n k (block_arcs c m a) (inl (omega (arith, lt))) (inl (omega (arith, lt))) (inr (omega arith)) r (block_apart c m a)
  stmt_apart c m (if_else e a b at) lt =
      let n : ℕ = m.points in
      let k : ℕ = (met_by m a).points in
      let l : ℕ = (met_by (met_by m a) b).points in
      let up : n < k = rises_by m a in
      let on : k < l = rises_by (met_by m a) b in
      let x : Arc = arc (n - 1) n (tests (condition_of c.dims e) true) in
      let y : Arc = arc (n - 1) k (tests (condition_of c.dims e) false) in
      let z : Arc = arc (k - 1) l skips in
      let w : Arc = arc (l - 1) l skips in
      let xs : List Arc = block_arcs c m a in
      let ys : List Arc = block_arcs c (met_by m a) b in
      let r = block_ranges c m a in
      let s = block_ranges c (met_by m a) b in
      let far : (v : Arc) → (v.source < n) ⊎ ((k - 1) ≤ v.source) → (v.source < k) ⊎ ((l - 1) ≤ v.source) → All (Apart v) (xs ++ ys) =
      λ v i j. All-append (Apart v) xs ys (outside v n (k - 1) n k xs i r) (outside v k (l - 1) k l ys j s) in
      let both : AllApart (xs ++ ys) = apart_append k xs ys (block_apart c m a) (block_apart c (met_by m a) b)
      (λ i d t. let v = r i d t in omega (arith, v.source_to)) (λ i d t. let v = s i d t in v.source_from) in (
        All-cons (Apart x) y (z ∷ w ∷ (xs ++ ys)) (free x y (λ h. h) (λ h. h))
            (All-cons (Apart x) z (w ∷ (xs ++ ys)) (free x z (λ h. h) (λ h. h))
            (All-cons (Apart x) w (xs ++ ys) (free x w (λ h. h) (λ h. h)) (far x (inl (omega (arith, lt))) (inl (omega (arith, lt, up)))))),
        (
          All-cons (Apart y) z (w ∷ (xs ++ ys)) (free y z (λ h. h) (λ h. h))
              (All-cons (Apart y) w (xs ++ ys) (free y w (λ h. h) (λ h. h)) (far y (inl (omega (arith, lt))) (inl (omega (arith, lt, up))))),
          (
            All-cons (Apart z) w (xs ++ ys) (free z w (λ h. h) (λ h. h)) (far z (inr (omega arith)) (inl (omega (arith, up)))),
            (far w (inr (omega (arith, on))) (inr (omega arith)), both),
          ),
        ),
      )
  stmt_apart c m (while_do e a at) lt =
      let n : ℕ = m.points in
      let k : ℕ = (met_by m a).points in
      let x : Arc = arc (n - 1) n (tests (condition_of c.dims e) true) in
      let y : Arc = arc (n - 1) k (tests (condition_of c.dims e) false) in
      let z : Arc = arc (k - 1) (n - 1) skips in
      let r = block_ranges c m a in
      three x y z (λ h. h) (λ h. h) (λ h. h) n (k - 1) n k (block_arcs c m a) (inl (omega (arith, lt))) (inl (omega (arith, lt))) (inr (omega arith)) r (block_apart c m a)

  pub block_apart : (c : Naming) (m : Met) (b : BlockTree) → AllApart (block_arcs c m b)
  block_apart c m empty = tt
  block_apart c m (more b s) =
      let k : ℕ = (met_by m b).points in
      let up : m.points < k = rises_by m b in
      let r = block_ranges c m b in
      let t = stmt_ranges c (met_by m b) s (omega (arith, up)) in
      apart_append (k - 1) (block_arcs c m b) (stmt_arcs c (met_by m b) s) (block_apart c m b) (stmt_apart c (met_by m b) s (omega (arith, up)))
      (λ i d l. let v = r i d l in v.source_to) (λ i d l. let v = t i d l in v.source_from)

-- by their numbers
by_numbers : (xs : List Arc) → AllApart xs → (i j : ℕ) (d : Arc) → i < j → j < length xs → Apart (get_or xs i d) (get_or xs j d)
by_numbers [] h i j d l lt = absurd (omega arith)
by_numbers (x ∷ xs) h zero zero d l lt = absurd (omega (arith, l))
by_numbers (x ∷ xs) h zero (suc j) d l lt = h.0 j d (omega (arith, lt))
by_numbers (x ∷ xs) h (suc i) zero d l lt = absurd (omega (arith, l))
by_numbers (x ∷ xs) h (suc i) (suc j) d l lt = by_numbers xs h.1 i j d (omega (arith, l)) (omega (arith, lt))

order : (i j : ℕ) → (i < j) ⊎ ((j < i) ⊎ (i ≡ j))
order i j = grind arith

pub calls_alone : (g : Graph) → AllApart g.arcs → CallArcsAreAlone g
calls_alone g h i j li lj moves same = by (order i j)
  where
    by : (i < j) ⊎ ((j < i) ⊎ (i ≡ j)) → i ≡ j
    by (inl l) = absurd ((by_numbers g.arcs h i j no_arc l lj).first moves same)
    by (inr (inl l)) = absurd ((by_numbers g.arcs h j i no_arc l li).second moves (sym same))
    by (inr (inr e)) = e
