-- Loop heads, and the edges out of a point.
use Rattle.std.proofs.Common.{◌≡◌, ◌≢◌, ℕ, ◌+◌, ◌-◌, ◌<◌, ◌≤◌, Bool, true, false, cond, List, [], ◌∷◌, ◌++◌, map, filter, refl, sym, ap, ◌∙◌, subst, arith, ◌⊎◌, inl, inr}
use Rattle.std.specs.Prelude.{nat_eq, nat_le}
use Rattle.std.specs.List.{All}
use Rattle.std.proofs.lemmas.Bool.{eqb-true}
use Rattle.std.proofs.lemmas.Bool.Decides.{nat_tests}
use Rattle.std.proofs.lemmas.List.Elements.{All-nil, All-cons, All-append, All-head, All-tail}
use Rattle.spl_tree.specs.Program.{StmtTree, skip, halt, fail, assume, assign, call, if_then, if_else, while_do, BlockTree, empty, more}
use Rattle.spl_types.specs.Checks.{Met, met_before, with_point, met_by, Procedure}
use Rattle.spl_types.specs.Dimensions.{procedures}
use Rattle.spl_core.specs.Condition.{Condition}
use Rattle.spl_core.specs.Graph.{Move, skips, tests, starts, Arc}
use Rattle.control_points.specs.CoreOf.{Naming, arc, condition_of, spoken_by, start_copies, stmt_arcs, block_arcs, points_by, procedure_arcs, arcs_after, proc_names, core_of}
use Rattle.control_points.specs.Laws.{stmt_heads, block_heads, heads_after, leads_back, HeadsAreEntered, AtMostTwo, EdgesOutAreFew}
use Rattle.control_points.proofs.Counting.{rises_by}
use Rattle.control_points.proofs.Ranges.{Ranges, stmt_ranges, block_ranges}
use Rattle.control_points.proofs.Graphing.{procedure_ranges, arcs_from}

-- ---- edges to the same or an earlier point

abbrev backs : List Arc → List ℕ
backs arcs = map (λ (a : Arc). a.target) (filter leads_back arcs)

backs_both : (xs ys : List Arc) → backs (xs ++ ys) ≡ backs xs ++ backs ys
backs_both [] ys = refl
backs_both (x ∷ xs) ys = by (leads_back x) (backs_both xs ys)
  where
    by : (b : Bool) → backs (xs ++ ys) ≡ backs xs ++ backs ys → map (λ (a : Arc). a.target) (cond b (x ∷ filter leads_back (xs ++ ys)) (filter leads_back (xs ++ ys))) ≡ map (λ (a : Arc). a.target) (cond b (x ∷ filter leads_back xs) (filter leads_back xs)) ++ backs ys
    by true e = ap (λ l. x.target ∷ l) e
    by false e = e

forward : (a : Arc) (xs : List Arc) → a.source < a.target → backs (a ∷ xs) ≡ backs xs
forward a xs lt = by (nat_le a.target a.source) refl
  where
    by : (b : Bool) → nat_le a.target a.source ≡ b → map (λ (x : Arc). x.target) (cond b (a ∷ filter leads_back xs) (filter leads_back xs)) ≡ backs xs
    by true e = absurd (grind (arith, nat_tests))
    by false e = refl

backward : (a : Arc) (xs : List Arc) → a.target ≤ a.source → backs (a ∷ xs) ≡ a.target ∷ backs xs
backward a xs le = by (nat_le a.target a.source) refl
  where
    by : (b : Bool) → nat_le a.target a.source ≡ b → map (λ (x : Arc). x.target) (cond b (a ∷ filter leads_back xs) (filter leads_back xs)) ≡ a.target ∷ backs xs
    by true e = refl
    by false e = absurd (grind (arith, nat_tests))

plain_backs : (n : ℕ) (move : Move) → 0 < n → backs (arc (n - 1) n move ∷ []) ≡ []
plain_backs n move lt = forward (arc (n - 1) n move) [] (omega (arith, lt))

mutual
  stmt_backs : (c : Naming) (m : Met) (s : StmtTree) → 0 < m.points → backs (stmt_arcs c m s) ≡ stmt_heads m s
  stmt_backs c m (skip at) lt = plain_backs m.points _ lt
  stmt_backs c m (halt at) lt = refl
  stmt_backs c m (fail at) lt = refl
  stmt_backs c m (assume e at) lt = plain_backs m.points _ lt
  stmt_backs c m (assign x e at) lt = plain_backs m.points _ lt
  stmt_backs c m (call targets called args at) lt = plain_backs m.points _ lt
  stmt_backs c m (if_then e a at) lt =
      let n : ℕ = m.points in
      let k : ℕ = (met_by m a).points in
      let up : n < k = rises_by m a in
      let xs : List Arc = block_arcs c m a in
      let t : Arc = arc (n - 1) n (tests (condition_of c.dims e) true) in
      let f : Arc = arc (n - 1) k (tests (condition_of c.dims e) false) in
      let z : Arc = arc (k - 1) k skips in
      forward t (f ∷ z ∷ xs) (omega (arith, lt))
      ∙ (forward f (z ∷ xs) (omega (arith, up))
      ∙ (forward z xs (omega (arith, up))
      ∙ block_backs c m a))
  stmt_backs c m (if_else e a b at) lt =
      let n : ℕ = m.points in
      let k : ℕ = (met_by m a).points in
      let l : ℕ = (met_by (met_by m a) b).points in
      let up : n < k = rises_by m a in
      let on : k < l = rises_by (met_by m a) b in
      let xs : List Arc = block_arcs c m a in
      let ys : List Arc = block_arcs c (met_by m a) b in
      let t : Arc = arc (n - 1) n (tests (condition_of c.dims e) true) in
      let f : Arc = arc (n - 1) k (tests (condition_of c.dims e) false) in
      let z : Arc = arc (k - 1) l skips in
      let w : Arc = arc (l - 1) l skips in
      forward t (f ∷ z ∷ w ∷ (xs ++ ys)) (omega (arith, lt))
      ∙ (forward f (z ∷ w ∷ (xs ++ ys)) (omega (arith, up))
      ∙ (forward z (w ∷ (xs ++ ys)) (omega (arith, on))
      ∙ (forward w (xs ++ ys) (omega (arith, on))
      ∙ (backs_both xs ys
      ∙ (ap (λ l. l ++ backs ys) (block_backs c m a) ∙ ap (λ l. block_heads m a ++ l) (block_backs c (met_by m a) b))))))
  stmt_backs c m (while_do e a at) lt =
      let n : ℕ = m.points in
      let k : ℕ = (met_by m a).points in
      let up : n < k = rises_by m a in
      let xs : List Arc = block_arcs c m a in
      let t : Arc = arc (n - 1) n (tests (condition_of c.dims e) true) in
      let f : Arc = arc (n - 1) k (tests (condition_of c.dims e) false) in
      let z : Arc = arc (k - 1) (n - 1) skips in
      forward t (f ∷ z ∷ xs) (omega (arith, lt))
      ∙ (forward f (z ∷ xs) (omega (arith, up))
      ∙ (backward z xs (omega (arith, up))
      ∙ ap (λ l. (n - 1) ∷ l) (block_backs c m a)))

  block_backs : (c : Naming) (m : Met) (b : BlockTree) → backs (block_arcs c m b) ≡ block_heads m b
  block_backs c m empty = refl
  block_backs c m (more b s) =
      let xs : List Arc = block_arcs c m b in
      let ys : List Arc = stmt_arcs c (met_by m b) s in
      backs_both xs ys
      ∙ (ap (λ l. l ++ backs ys) (block_backs c m b)
      ∙ ap (λ l. block_heads m b ++ l) (stmt_backs c (met_by m b) s (omega (arith, rises_by m b))))

procedures_backs : (names : List (List ℕ)) (points : ℕ) (us : List Procedure) → backs (arcs_after names points us) ≡ heads_after points us
procedures_backs names points [] = refl
procedures_backs names points (u ∷ us) =
    let c : Naming = record { dims = spoken_by u; procs = names } in
    let m : Met = with_point (met_before points) in
    let body : List Arc = block_arcs c m u.body in
    let rest : List Arc = arcs_after names (points_by points u) us in
    backs_both (procedure_arcs names points u) rest
    ∙ (ap (λ l. l ++ backs rest) (forward (arc points (points + 1) (starts (start_copies u))) body (omega arith) ∙ block_backs c m u.body)
    ∙ ap (λ l. block_heads m u.body ++ l) (procedures_backs names (points_by points u) us))

pub heads : HeadsAreEntered
unfolding core_of
heads p = procedures_backs (proc_names p) 0 (procedures p)

-- ---- edges out of a point

abbrev out : ℕ → List Arc → List Arc
out x arcs = filter (λ a. nat_eq a.source x) arcs

abbrev Away : ℕ → List Arc → Type 0
Away x arcs = All (λ (a : Arc). a.source ≢ x) arcs

out_of_none : (x : ℕ) (xs : List Arc) → Away x xs → out x xs ≡ []
out_of_none x [] h = refl
out_of_none x (a ∷ xs) h = by (nat_eq a.source x) refl (out_of_none x xs (All-tail (λ (y : Arc). y.source ≢ x) a xs h))
  where
    by : (b : Bool) → nat_eq a.source x ≡ b → out x xs ≡ [] → cond b (a ∷ out x xs) (out x xs) ≡ []
    by true e r = absurd (All-head (λ (y : Arc). y.source ≢ x) a xs h (eqb-true a.source x e))
    by false e r = r

few_alone : (x : ℕ) (a : Arc) (xs : List Arc) → Away a.source xs → AtMostTwo (out x xs) → AtMostTwo (out x (a ∷ xs))
few_alone x a xs h f = by (nat_eq a.source x) refl
  where
    by : (b : Bool) → nat_eq a.source x ≡ b → AtMostTwo (cond b (a ∷ out x xs) (out x xs))
    by true e =
        let none : out x xs ≡ [] = subst (λ (y : ℕ). out y xs ≡ []) (eqb-true a.source x e) (out_of_none a.source xs h) in
        subst (λ (l : List Arc). AtMostTwo (a ∷ l)) (sym none) tt
    by false e = f

few_pair : (x s t u : ℕ) (c : Condition) (xs : List Arc) → Away s xs → AtMostTwo (out x xs) → AtMostTwo (out x (arc s t (tests c true) ∷ arc s u (tests c false) ∷ xs))
few_pair x s t u c xs h f = by (nat_eq s x) refl
  where
    yes : Arc
    yes = arc s t (tests c true)

    no_arc : Arc
    no_arc = arc s u (tests c false)

    by : (b : Bool) → nat_eq s x ≡ b → AtMostTwo (cond b (arc s t (tests c true) ∷ cond b (arc s u (tests c false) ∷ out x xs) (out x xs)) (cond b (arc s u (tests c false) ∷ out x xs) (out x xs)))
    by true e =
        let none : out x xs ≡ [] = subst (λ (y : ℕ). out y xs ≡ []) (eqb-true s x e) (out_of_none s xs h) in
        subst (λ (l : List Arc). AtMostTwo (arc s t (tests c true) ∷ arc s u (tests c false) ∷ l)) (sym none) (c, refl, refl)
    by false e = f

out_both : (x : ℕ) (xs ys : List Arc) → out x (xs ++ ys) ≡ out x xs ++ out x ys
out_both x [] ys = refl
out_both x (a ∷ xs) ys = by (nat_eq a.source x) (out_both x xs ys)
  where
    by : (b : Bool) → out x (xs ++ ys) ≡ out x xs ++ out x ys → cond b (a ∷ out x (xs ++ ys)) (out x (xs ++ ys)) ≡ cond b (a ∷ out x xs) (out x xs) ++ out x ys
    by true e = ap (λ l. a ∷ l) e
    by false e = e

no_more : (l : List Arc) → l ++ [] ≡ l
no_more [] = refl
no_more (a ∷ l) = ap (λ m. a ∷ m) (no_more l)

side : (x n : ℕ) → (x < n) ⊎ (n ≤ x)
side x n = grind arith

few_both : (x n : ℕ) (xs ys : List Arc) → All (λ (a : Arc). a.source < n) xs → All (λ (a : Arc). n ≤ a.source) ys → AtMostTwo (out x xs) → AtMostTwo (out x ys) → AtMostTwo (out x (xs ++ ys))
few_both x n xs ys h g f w = by (side x n)
  where
    by : (x < n) ⊎ (n ≤ x) → AtMostTwo (out x (xs ++ ys))
    by (inl l) =
        let none : out x ys ≡ [] = out_of_none x ys (λ k d lt e. let from = g k d lt in absurd (omega (arith, l, from, e))) in
        subst AtMostTwo (sym (out_both x xs ys ∙ (ap (λ z. out x xs ++ z) none ∙ no_more (out x xs)))) f
    by (inr l) =
        let none : out x xs ≡ [] = out_of_none x xs (λ k d lt e. let to = h k d lt in absurd (omega (arith, l, to, e))) in
        subst AtMostTwo (sym (out_both x xs ys ∙ ap (λ z. z ++ out x ys) none)) w

away : (s a b c d : ℕ) (xs : List Arc) → (s < a) ⊎ (b ≤ s) → All (Ranges a b c d) xs → Away s xs
away s a b c d xs (inl l) h = λ k x lt e. let r = h k x lt in absurd (omega (arith, l, e, r.source_from))
away s a b c d xs (inr l) h = λ k x lt e. let r = h k x lt in absurd (omega (arith, l, e, r.source_to))

mutual
  stmt_few : (x : ℕ) (c : Naming) (m : Met) (s : StmtTree) → 0 < m.points → AtMostTwo (out x (stmt_arcs c m s))
  stmt_few x c m (skip at) lt = few_alone x (arc (m.points - 1) m.points _) [] (All-nil (λ (a : Arc). a.source ≢ m.points - 1)) tt
  stmt_few x c m (halt at) lt = tt
  stmt_few x c m (fail at) lt = tt
  stmt_few x c m (assume e at) lt = few_alone x (arc (m.points - 1) m.points _) [] (All-nil (λ (a : Arc). a.source ≢ m.points - 1)) tt
  stmt_few x c m (assign y e at) lt = few_alone x (arc (m.points - 1) m.points _) [] (All-nil (λ (a : Arc). a.source ≢ m.points - 1)) tt
  stmt_few x c m (call targets called args at) lt = few_alone x (arc (m.points - 1) m.points _) [] (All-nil (λ (a : Arc). a.source ≢ m.points - 1)) tt
  stmt_few x c m (if_then e a at) lt =
      let n : ℕ = m.points in
      let k : ℕ = (met_by m a).points in
      let up : n < k = rises_by m a in
      let xs : List Arc = block_arcs c m a in
      let r = block_ranges c m a in
      let z : Arc = arc (k - 1) k skips in
      few_pair x (n - 1) n k (condition_of c.dims e) (z ∷ xs)
      (All-cons (λ (y : Arc). y.source ≢ n - 1) z xs (λ w. absurd (omega (arith, lt, up, w))) (away (n - 1) n (k - 1) n k xs (inl (omega (arith, lt))) r))
      (few_alone x z xs (away (k - 1) n (k - 1) n k xs (inr (omega arith)) r) (block_few x c m a))
  stmt_few x c m (if_else e a b at) lt =
      let n : ℕ = m.points in
      let k : ℕ = (met_by m a).points in
      let l : ℕ = (met_by (met_by m a) b).points in
      let up : n < k = rises_by m a in
      let on : k < l = rises_by (met_by m a) b in
      let xs : List Arc = block_arcs c m a in
      let ys : List Arc = block_arcs c (met_by m a) b in
      let r = block_ranges c m a in
      let q = block_ranges c (met_by m a) b in
      let z : Arc = arc (k - 1) l skips in
      let w : Arc = arc (l - 1) l skips in
      let far : (s : ℕ) → (s < n) ⊎ (k - 1 ≤ s) → (s < k) ⊎ (l - 1 ≤ s) → Away s (xs ++ ys) =
      λ s i j. All-append (λ (y : Arc). y.source ≢ s) xs ys (away s n (k - 1) n k xs i r) (away s k (l - 1) k l ys j q) in
      few_pair x (n - 1) n k (condition_of c.dims e) (z ∷ w ∷ (xs ++ ys))
      (All-cons (λ (y : Arc). y.source ≢ n - 1) z (w ∷ (xs ++ ys)) (λ v. absurd (omega (arith, lt, up, v)))
      (All-cons (λ (y : Arc). y.source ≢ n - 1) w (xs ++ ys) (λ v. absurd (omega (arith, lt, up, on, v)))
      (far (n - 1) (inl (omega (arith, lt))) (inl (omega (arith, lt, up))))))
      (few_alone x z (w ∷ (xs ++ ys))
      (All-cons (λ (y : Arc). y.source ≢ k - 1) w (xs ++ ys) (λ v. absurd (omega (arith, up, on, v))) (far (k - 1) (inr (omega arith)) (inl (omega (arith, up)))))
      (few_alone x w (xs ++ ys) (far (l - 1) (inr (omega (arith, on))) (inr (omega arith)))
      (few_both x k xs ys (λ i d h. let v = r i d h in omega (arith, v.source_to)) (λ i d h. let v = q i d h in v.source_from) (block_few x c m a) (block_few x c (met_by m a) b))))
  stmt_few x c m (while_do e a at) lt =
      let n : ℕ = m.points in
      let k : ℕ = (met_by m a).points in
      let up : n < k = rises_by m a in
      let xs : List Arc = block_arcs c m a in
      let r = block_ranges c m a in
      let z : Arc = arc (k - 1) (n - 1) skips in
      few_pair x (n - 1) n k (condition_of c.dims e) (z ∷ xs)
      (All-cons (λ (y : Arc). y.source ≢ n - 1) z xs (λ w. absurd (omega (arith, lt, up, w))) (away (n - 1) n (k - 1) n k xs (inl (omega (arith, lt))) r))
      (few_alone x z xs (away (k - 1) n (k - 1) n k xs (inr (omega arith)) r) (block_few x c m a))

  block_few : (x : ℕ) (c : Naming) (m : Met) (b : BlockTree) → AtMostTwo (out x (block_arcs c m b))
  block_few x c m empty = tt
  block_few x c m (more b s) =
      let k : ℕ = (met_by m b).points in
      let up : m.points < k = rises_by m b in
      let pos : 0 < k = omega (arith, up) in
      let r = block_ranges c m b in
      let q = stmt_ranges c (met_by m b) s pos in
      few_both x (k - 1) (block_arcs c m b) (stmt_arcs c (met_by m b) s) (λ i d h. let v = r i d h in v.source_to) (λ i d h. let v = q i d h in v.source_from)
      (block_few x c m b) (stmt_few x c (met_by m b) s pos)

procedures_few : (x : ℕ) (names : List (List ℕ)) (points : ℕ) (us : List Procedure) → AtMostTwo (out x (arcs_after names points us))
procedures_few x names points [] = tt
procedures_few x names points (u ∷ us) =
    let n : ℕ = points_by points u in
    let c : Naming = record { dims = spoken_by u; procs = names } in
    let m : Met = with_point (met_before points) in
    let a : Arc = arc points (points + 1) (starts (start_copies u)) in
    let body : List Arc = block_arcs c m u.body in
    let r = procedure_ranges names points u in
    few_both x n (a ∷ body) (arcs_after names n us) (λ i d h. let v = r i d h in omega (arith, v.source_to)) (arcs_from names n us)
    (few_alone x a body (away points (points + 1) (n - 1) (points + 1) n body (inl (omega arith)) (block_ranges c m u.body)) (block_few x c m u.body))
    (procedures_few x names n us)

pub few : EdgesOutAreFew
unfolding core_of
few p x = procedures_few x (proc_names p) 0 (procedures p)
