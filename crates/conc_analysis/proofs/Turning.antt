-- The steps of the rounds in code.
use Rattle.std.proofs.Common.{◌≡◌, ◌≢◌, ◌⊎◌, inl, inr, ℕ, zero, suc, ◌+◌, ◌-◌, ◌*◌, ◌<◌, ◌≤◌, Bool, true, false, not, ◌||◌, cond, nat_eq, eqb-true, List, [], ◌∷◌, ◌++◌, is_some, length, map, get_or, set, take, replicate, Option, Some, None, refl, sym, ap, subst, arith, ◌∙◌, length-set}
use Rattle.std.specs.List.{All, AllPairs, filter, sum_by, range_with_len}
use Rattle.std.proofs.lemmas.Bool.{ne_eqb, false≢true}
use Rattle.std.proofs.lemmas.Bool.Decides.{Decides-eqb}
use Rattle.std.proofs.lemmas.List.{take_more, take_all, get_or_default, get_or_read}
use Rattle.std.proofs.lemmas.List.Elements.{filter-append}
use Rattle.std.proofs.lemmas.List.FromFn.{fill_by_all, length-range_with_len, length-map-range_with_len, get_or-map-range_with_len}
use Rattle.std.proofs.lemmas.List.Sums.{sum_by-le}
use Rattle.std.proofs.lemmas.Map.Steps.{length-le_from_distinct_below}
use Rattle.std.proofs.lemmas.Map.Made.{IsDistinct-from_AllPairs}
use Rattle.std.proofs.lemmas.Map.Views.{Contains-from_any}
use Rattle.spl_core.specs.Parts.{Parts, owner_of as owner_at, no_proc}
use Rattle.spl_core.specs.Facts.{IsCore}
use Rattle.spl_core.specs.Graph.{Graph, graph_of, proc_of, main_of, owner_of, dims_at}
use Rattle.spl_core.specs.GraphFacts.{IsGraph}
use Rattle.spl_core.proofs.Graphs.{cores_are_graphs}
use Rattle.call_graph.specs.Order.{Before, order, is_cut}
use Rattle.call_graph.proofs.Sorting.{is_order, before_asym}
use Rattle.interval_form.specs.declared.interval.Interval.{Interval}
use Rattle.conc_front.specs.Sharing.{Sharing, IsThreaded}
use Rattle.conc_analysis.specs.Environment.{Environment}
use Rattle.conc_analysis.specs.Interference.{Interference}
use Rattle.conc_analysis.specs.Equations.{Stage, point_at, read_in, equation}
use Rattle.conc_analysis.specs.Rounds.{same_environment, same_writes, ascended, descended, visited, visit, visits, changing, writes_at, writes_row, writes_table, with_new_writes, round, is_changed, Ascended, ascended_in, ascent, lowered}
use Rattle.conc_analysis.specs.Solved.{is_main_point, is_thread_point, main_points, thread_points, is_of_kind, points_of, share, share_of_writes, share_of_thread, capacity, most_rounds, no_environment, no_writes, start, ascent_over, main_solved, threads_ascent, solved, read_of, rounds_of}
use Rattle.conc_analysis.specs.Interleaving.{dimension_of}
use Rattle.conc_analysis.specs.Plan.{ConcReads, IsConcSolution}
use Rattle.conc_analysis.proofs.Facts.{Known, known}
use Rattle.conc_analysis.proofs.Quiet.{EndsIn}
use Rattle.conc_analysis.proofs.Solving.{main_inside, threads_inside}
use Rattle.conc_analysis.proofs.Whole.{main_ends, threads_end}

-- ---- visits

or_assoc : (a b c : Bool) → (a || (b || c)) ≡ ((a || b) || c)
or_assoc true b c = refl
or_assoc false b c = refl

or_none : (a : Bool) → (a || false) ≡ a
or_none true = refl
or_none false = refl

visits-more : (step : Bool → Environment → Environment → Environment) (g : Graph) (sharing : Sharing) (order : List ℕ) (p : ℕ) (x : Stage) → visits step g sharing (order ++ p ∷ []) x ≡ visit step g sharing p (visits step g sharing order x)
visits-more step g sharing [] p x = refl
visits-more step g sharing (q ∷ order) p x = visits-more step g sharing order p (visit step g sharing q x)

changing-more : (g : Graph) (sharing : Sharing) (order : List ℕ) (p : ℕ) (x : Stage)
    → changing g sharing (order ++ p ∷ []) x ≡ (changing g sharing order x || not (same_environment (visited ascended g sharing p (visits ascended g sharing order x)) (point_at (visits ascended g sharing order x).points p)))
changing-more g sharing [] p x = or_none (not (same_environment (visited ascended g sharing p x) (point_at x.points p)))
changing-more g sharing (q ∷ order) p x =
    ap (λ (b : Bool). not (same_environment (visited ascended g sharing q x) (point_at x.points q)) || b) (changing-more g sharing order p (visit ascended g sharing q x))
    ∙ or_assoc (not (same_environment (visited ascended g sharing q x) (point_at x.points q))) (changing g sharing order (visit ascended g sharing q x))
    (not (same_environment (visited ascended g sharing p (visits ascended g sharing order (visit ascended g sharing q x))) (point_at (visits ascended g sharing order (visit ascended g sharing q x)).points p)))

-- the points so far were visited
pub record RisenTo (g : Graph) (sharing : Sharing) (n : ℕ) (order : List ℕ) (start now : Stage) (changed : Bool) : Type 0 where
  pub long : length now.points ≡ n
  pub stage : now ≡ visits ascended g sharing order start
  pub changing_is : changed ≡ changing g sharing order start

pub record FallenTo (g : Graph) (sharing : Sharing) (n : ℕ) (order : List ℕ) (start now : Stage) : Type 0 where
  pub long : length now.points ≡ n
  pub stage : now ≡ visits descended g sharing order start

abbrev pub stage_with : List Environment → Interference → Stage
stage_with points writes = record { points = points; writes = writes }

pub rise_more : (g : Graph) (sharing : Sharing) (n : ℕ) (order : List ℕ) (k p : ℕ) (start now : Stage) (points : List Environment) (changed here : Bool) → k < length order → p ≡ get_or order k 0 → RisenTo g sharing n (take k order) start now changed
    → points ≡ set now.points p (visited ascended g sharing p now) → here ≡ not (same_environment (visited ascended g sharing p now) (point_at now.points p))
    → RisenTo g sharing n (take (k + 1) order) start (record { points = points; writes = now.writes }) (changed || here)
rise_more g sharing n order k p start now points changed here l at so e h =
    let more : take (k + 1) order ≡ take k order ++ p ∷ [] = take_more order k 0 l ∙ ap (λ (z : ℕ). take k order ++ z ∷ []) (sym at) in
    record {
      long = ap length e ∙ (length-set now.points p (visited ascended g sharing p now) ∙ so.long);
      stage = ap (λ (z : List Environment). stage_with z now.writes) e
          ∙ (ap (visit ascended g sharing p) so.stage ∙ (sym (visits-more ascended g sharing (take k order) p start) ∙ sym (ap (λ (z : List ℕ). visits ascended g sharing z start) more)));
      changing_is = ap (λ (b : Bool). b || here) so.changing_is ∙ (ap (λ (b : Bool). changing g sharing (take k order) start || b) (h ∙ ap (λ (z : Stage). not (same_environment (visited ascended g sharing p z) (point_at z.points p))) so.stage)
          ∙ (sym (changing-more g sharing (take k order) p start) ∙ sym (ap (λ (z : List ℕ). changing g sharing z start) more)));
    }

pub fall_more : (g : Graph) (sharing : Sharing) (n : ℕ) (order : List ℕ) (k p : ℕ) (start now : Stage) (points : List Environment) → k < length order → p ≡ get_or order k 0 → FallenTo g sharing n (take k order) start now
    → points ≡ set now.points p (visited descended g sharing p now) → FallenTo g sharing n (take (k + 1) order) start (record { points = points; writes = now.writes })
fall_more g sharing n order k p start now points l at so e =
    let more : take (k + 1) order ≡ take k order ++ p ∷ [] = take_more order k 0 l ∙ ap (λ (z : ℕ). take k order ++ z ∷ []) (sym at) in
    record {
      long = ap length e ∙ (length-set now.points p (visited descended g sharing p now) ∙ so.long);
      stage = ap (λ (z : List Environment). stage_with z now.writes) e
          ∙ (ap (visit descended g sharing p) so.stage ∙ (sym (visits-more descended g sharing (take k order) p start) ∙ sym (ap (λ (z : List ℕ). visits descended g sharing z start) more)));
    }

pub rise_done : (g : Graph) (sharing : Sharing) (n : ℕ) (order : List ℕ) (k : ℕ) (start now : Stage) (changed : Bool) → length order ≤ k → RisenTo g sharing n (take k order) start now changed → RisenTo g sharing n order start now changed
rise_done g sharing n order k start now changed l so = subst (λ (z : List ℕ). RisenTo g sharing n z start now changed) (take_all k order l) so

pub fall_done : (g : Graph) (sharing : Sharing) (n : ℕ) (order : List ℕ) (k : ℕ) (start now : Stage) → length order ≤ k → FallenTo g sharing n (take k order) start now → FallenTo g sharing n order start now
fall_done g sharing n order k start now l so = subst (λ (z : List ℕ). FallenTo g sharing n z start now) (take_all k order l) so

pub risen_value : (g : Graph) (sharing : Sharing) (p : ℕ) (x : Stage) (cut : Bool) (old source v : Environment) → cut ≡ is_cut g p → old ≡ point_at x.points p → source ≡ equation g sharing x p → v ≡ ascended cut old source → v ≡ visited ascended g sharing p x
risen_value g sharing p x cut old source v c o s e =
    e ∙ (ap (λ (b : Bool). ascended b old source) c ∙ (ap (λ (z : Environment). ascended (is_cut g p) z source) o ∙ ap (ascended (is_cut g p) (point_at x.points p)) s))

pub fallen_value : (g : Graph) (sharing : Sharing) (p : ℕ) (x : Stage) (cut : Bool) (old source v : Environment) → cut ≡ is_cut g p → old ≡ point_at x.points p → source ≡ equation g sharing x p → v ≡ descended cut old source → v ≡ visited descended g sharing p x
fallen_value g sharing p x cut old source v c o s e =
    e ∙ (ap (λ (b : Bool). descended b old source) c ∙ (ap (λ (z : Environment). descended (is_cut g p) z source) o ∙ ap (descended (is_cut g p) (point_at x.points p)) s))

-- ---- rounds

pub round_is : (g : Graph) (sharing : Sharing) (order : List ℕ) (x after : Stage) (writes : Interference) → after ≡ visits ascended g sharing order x → writes ≡ writes_table g (writes_at g sharing after) → stage_with after.points writes ≡ round g sharing order x
round_is g sharing order x after writes e h = ap (stage_with after.points) h ∙ ap (with_new_writes g sharing) e

pub changed_is : (g : Graph) (sharing : Sharing) (order : List ℕ) (x after : Stage) (writes : Interference) (changed same : Bool) → after ≡ visits ascended g sharing order x → writes ≡ writes_table g (writes_at g sharing after)
    → changed ≡ changing g sharing order x → same ≡ same_writes writes x.writes → (changed || not same) ≡ is_changed g sharing order x
changed_is g sharing order x after writes changed same e h c s =
    let round_writes : writes ≡ (round g sharing order x).writes = ap (λ (z : Stage). z.writes) (round_is g sharing order x after writes e h) in
    ap (λ (b : Bool). b || not same) c ∙ ap (λ (b : Bool). changing g sharing order x || not b) (s ∙ ap (λ (w : Interference). same_writes w x.writes) round_writes)

-- ---- the ascent

pub record AscendedTo (g : Graph) (sharing : Sharing) (n : ℕ) (order : List ℕ) (most done : ℕ) (start now : Stage) : Type 0 where
  pub long : length now.points ≡ n
  pub rest : ascent g sharing order (most - done) done now ≡ ascent g sharing order most 0 start

pub ascent_begins : (g : Graph) (sharing : Sharing) (n : ℕ) (order : List ℕ) (most : ℕ) (start : Stage) → length start.points ≡ n → AscendedTo g sharing n order most 0 start start
ascent_begins g sharing n order most start l = record { long = l; rest = ap (λ (k : ℕ). ascent g sharing order k 0 start) (omega arith) }

step_back : (most done : ℕ) → done < most → most - done ≡ suc (most - (done + 1))
step_back most done l = omega arith

pub ascent_goes : (g : Graph) (sharing : Sharing) (n : ℕ) (order : List ℕ) (most done : ℕ) (start now next : Stage) → done < most → AscendedTo g sharing n order most done start now → length next.points ≡ n → next ≡ round g sharing order now → is_changed g sharing order now ≡ true
    → AscendedTo g sharing n order most (done + 1) start next
unfolding ascent
ascent_goes g sharing n order most done start now next l so long e c =
    record {
      long = long;
      rest = ap (ascent g sharing order (most - (done + 1)) (done + 1)) e
          ∙ (sym (ap (λ (b : Bool). cond b (ascent g sharing order (most - (done + 1)) (done + 1) (round g sharing order now)) (ascended_in (round g sharing order now) (done + 1))) c)
          ∙ (sym (ap (λ (k : ℕ). ascent g sharing order k done now) (step_back most done l)) ∙ so.rest));
    }

pub ascent_stops : (g : Graph) (sharing : Sharing) (n : ℕ) (order : List ℕ) (most done : ℕ) (start now next : Stage) → done < most → AscendedTo g sharing n order most done start now → next ≡ round g sharing order now → is_changed g sharing order now ≡ false
    → ascended_in next (done + 1) ≡ ascent g sharing order most 0 start
unfolding ascent
ascent_stops g sharing n order most done start now next l so e c =
    ap (λ (x : Stage). ascended_in x (done + 1)) e
    ∙ (sym (ap (λ (b : Bool). cond b (ascent g sharing order (most - (done + 1)) (done + 1) (round g sharing order now)) (ascended_in (round g sharing order now) (done + 1))) c)
    ∙ (sym (ap (λ (k : ℕ). ascent g sharing order k done now) (step_back most done l)) ∙ so.rest))

pub ascent_runs_out : (g : Graph) (sharing : Sharing) (n : ℕ) (order : List ℕ) (most done : ℕ) (start now : Stage) → most ≡ done → AscendedTo g sharing n order most done start now → ascended_in now most ≡ ascent g sharing order most 0 start
unfolding ascent
ascent_runs_out g sharing n order most done start now e so =
    let none : most - done ≡ 0 = omega (arith, e) in
    ap (ascended_in now) e ∙ (sym (ap (λ (k : ℕ). ascent g sharing order k done now) none) ∙ so.rest)

pub lowered_is : (g : Graph) (sharing : Sharing) (order : List ℕ) (x y z : Stage) → y ≡ visits descended g sharing order x → z ≡ visits descended g sharing order y → z ≡ lowered g sharing order x
unfolding lowered
lowered_is g sharing order x y z e h = h ∙ ap (visits descended g sharing order) e

-- ---- the bound on the rounds fits a word

-- the order has no more points than the graph
order_few : (g : Graph) → IsGraph g → length (order g) ≤ 4096
order_few g is =
    let o = is_order g is in
    let apart : AllPairs (λ x y. x ≢ y) (order g) = λ i j d lt h e.
    let r : Before g (get_or (order g) i d) (get_or (order g) j d) = o.sorted i j d lt h in
    let s : Before g (get_or (order g) j d) (get_or (order g) j d) = subst (λ z. Before g z (get_or (order g) j d)) e r in
    before_asym g (get_or (order g) j d) (get_or (order g) j d) s s in
    let few = length-le_from_distinct_below (order g) (length g.owners) (IsDistinct-from_AllPairs Decides-eqb (order g) apart)
    (λ q h. o.only q (Contains-from_any eqb-true q (order g) h)) in
    omega (arith, few, is.few_points)

filter_short : (p : ℕ → Bool) (xs : List ℕ) → length (filter p xs) ≤ length xs
filter_short p [] = omega arith
filter_short p (x ∷ xs) = by (p x) (filter_short p xs)
  where
    by : (b : Bool) → length (filter p xs) ≤ length xs → length (cond b (x ∷ filter p xs) (filter p xs)) ≤ length (x ∷ xs)
    by true l = omega (arith, l)
    by false l = omega (arith, l)

share_within : (g : Graph) (p : ℕ) → IsGraph g → p < length g.owners → share g p ≤ 259
share_within g p is l =
    let few : dims_at g p ≤ 128 = (is.procs (owner_of g p) no_proc (is.owners p 0 l)).few in
    by (is_cut g p) few
  where
    by : (b : Bool) → dims_at g p ≤ 128 → cond b (2 * dims_at g p + 3) 0 ≤ 259
    by true few = omega (arith, few)
    by false few = omega arith

writes_within : (g : Graph) (sharing : Sharing) (t v : ℕ) → share_of_writes g sharing t v ≤ 5
writes_within g sharing t v = by (is_some (dimension_of sharing t v (proc_of g t).dims))
  where
    by : (b : Bool) → cond b 5 0 ≤ 5
    by true = omega arith
    by false = omega arith

thread_within : (g : Graph) (sharing : Sharing) (t : ℕ) → IsGraph g → share_of_thread g sharing t ≤ 640
thread_within g sharing t is =
    let few : (proc_of g (main_of g)).dims ≤ 128 = (is.procs (main_of g) no_proc (main_below (length g.procs) is.main)).few in
    let sum = sum_by-le (share_of_writes g sharing t) 5 (range_with_len 0 (proc_of g (main_of g)).dims) (λ k d lt. writes_within g sharing t (get_or (range_with_len 0 (proc_of g (main_of g)).dims) k d)) in
    omega (arith, sum, few, length-range_with_len 0 (proc_of g (main_of g)).dims)
  where
    main_below : (n : ℕ) → 0 < n → n - 1 < n
    main_below n l = omega arith

pub most_within : (g : Graph) (sharing : Sharing) (points : List ℕ) → IsGraph g → length points ≤ 4096 → All (λ p. p < length g.owners) points → most_rounds g sharing points ≤ 2450690
unfolding capacity
most_within g sharing points is short inside =
    let sum = sum_by-le (share g) 259 points (λ k d lt. share_within g (get_or points k d) is (inside k d lt)) in
    let rows = sum_by-le (share_of_thread g sharing) 640 (range_with_len 0 (main_of g)) (λ k d lt. thread_within g sharing (get_or (range_with_len 0 (main_of g)) k d) is) in
    omega (arith, sum, rows, short, is.few_procs, length-range_with_len 0 (main_of g))

ascent_more : (g : Graph) (sharing : Sharing) (order : List ℕ) (fuel more done : ℕ) (x : Stage) → EndsIn g sharing order fuel x → ascent g sharing order (fuel + more) done x ≡ ascent g sharing order fuel done x
unfolding ascent
ascent_more g sharing order zero more done x ends = absurd ends
ascent_more g sharing order (suc fuel) more done x ends =
    ap (λ (n : ℕ). ascent g sharing order n done x) (shift fuel more)
    ∙ by (is_changed g sharing order x) refl ends (λ e. ascent_more g sharing order fuel more (done + 1) (round g sharing order x) e)
  where
    shift : (a b : ℕ) → suc a + b ≡ suc (a + b)
    shift a b = omega arith

    by : (t : Bool) → is_changed g sharing order x ≡ t → (is_changed g sharing order x ≡ false) ⊎ EndsIn g sharing order fuel (round g sharing order x)
        → (EndsIn g sharing order fuel (round g sharing order x) → ascent g sharing order (fuel + more) (done + 1) (round g sharing order x) ≡ ascent g sharing order fuel (done + 1) (round g sharing order x))
        → cond t (ascent g sharing order (fuel + more) (done + 1) (round g sharing order x)) (ascended_in (round g sharing order x) (done + 1)) ≡ cond t (ascent g sharing order fuel (done + 1) (round g sharing order x)) (ascended_in (round g sharing order x) (done + 1))
    by true t (inl e) rest = absurd (false≢true (sym e ∙ t))
    by true t (inr e) rest = rest e
    by false t end rest = refl

sum_back : (a b : ℕ) → a ≤ b → b ≡ a + (b - a)
sum_back a b l = omega arith

enough : (g : Graph) (sharing : Sharing) (points : List ℕ) (x : Stage) → most_rounds g sharing points ≤ 2450690 → EndsIn g sharing points (most_rounds g sharing points) x → ascent g sharing points 2450690 0 x ≡ ascent_over g sharing points x
enough g sharing points x l ends =
    ap (λ (n : ℕ). ascent g sharing points n 0 x) (sum_back (most_rounds g sharing points) 2450690 l)
    ∙ ascent_more g sharing points (most_rounds g sharing points) (2450690 - most_rounds g sharing points) 0 x ends

-- ---- the points

abbrev pub none_at : ℕ → Environment
none_at p = None

pub bottoms_are : (owners : List ℕ) (items : List Environment) (p : ℕ) → p ≡ length owners → items ≡ map none_at (range_with_len 0 p) → items ≡ map no_environment owners
bottoms_are owners items p e h =
    h ∙ (ap (λ (n : ℕ). map none_at (range_with_len 0 n)) e ∙ nones 0 owners)
  where
    nones : (a : ℕ) (owners : List ℕ) → map none_at (range_with_len a (length owners)) ≡ map no_environment owners
    nones a [] = refl
    nones a (x ∷ xs) = ap (λ (z : List Environment). None ∷ z) (nones (a + 1) xs)

pub points_more : (g : Graph) (main wanted : Bool) (order old new : List ℕ) (k p : ℕ) → k < length order → p ≡ get_or order k 0 → wanted ≡ is_of_kind g main p → old ≡ filter (is_of_kind g main) (take k order) → new ≡ old ++ cond wanted (p ∷ []) []
    → new ≡ filter (is_of_kind g main) (take (k + 1) order)
points_more g main wanted order old new k p l at w e h =
    let more : take (k + 1) order ≡ take k order ++ p ∷ [] = take_more order k 0 l ∙ ap (λ (z : ℕ). take k order ++ z ∷ []) (sym at) in
    h ∙ (ap (λ (z : List ℕ). z ++ cond wanted (p ∷ []) []) e
    ∙ (ap (λ (b : Bool). filter (is_of_kind g main) (take k order) ++ cond b (p ∷ []) []) w
    ∙ (sym (filter-append (is_of_kind g main) (take k order) (p ∷ [])) ∙ sym (ap (filter (is_of_kind g main)) more))))

pub points_are : (g : Graph) (main : Bool) (items : List ℕ) (k : ℕ) → length (order g) ≤ k → items ≡ filter (is_of_kind g main) (take k (order g)) → items ≡ points_of g main
unfolding main_points thread_points
points_are g true items k l e = e ∙ ap (filter (is_main_point g)) (take_all k (order g) l)
points_are g false items k l e = e ∙ ap (filter (is_thread_point g)) (take_all k (order g) l)

pub points_inside : (c : Parts) (main : Bool) (items : List ℕ) → IsCore c → items ≡ points_of (graph_of c) main → All (λ p. p < length c.owners) items
unfolding graph_of
points_inside c true items core e = subst (All (λ p. p < length c.owners)) (sym e) (main_inside (graph_of c) (length c.owners) (is_order (graph_of c) (cores_are_graphs c core).1) refl)
points_inside c false items core e = subst (All (λ p. p < length c.owners)) (sym e) (threads_inside (graph_of c) (length c.owners) (is_order (graph_of c) (cores_are_graphs c core).1) refl)

-- ---- the solution

pub blank_row : (n t : ℕ) (row : List (Option Interval)) → row ≡ replicate n None → row ≡ writes_row no_writes n t
unfolding writes_row
blank_row n t row e = e ∙ blanks 0 n
  where
    blanks : (a n : ℕ) → replicate n None ≡ map (no_writes t) (range_with_len a n)
    blanks a zero = refl
    blanks a (suc n) = ap (λ (z : List (Option Interval)). None ∷ z) (blanks (a + 1) n)

pub started_is : (c : Parts) (points : List Environment) (writes : Interference) → points ≡ map no_environment c.owners → writes ≡ writes_table (graph_of c) no_writes → stage_with points writes ≡ start (graph_of c)
unfolding start graph_of
started_is c points writes p w = ap (λ (z : List Environment). stage_with z writes) p ∙ ap (stage_with (map no_environment c.owners)) w

short_main : (g : Graph) → IsGraph g → length (main_points g) ≤ 4096
unfolding main_points
short_main g graph = omega (arith, filter_short (is_main_point g) (order g), order_few g graph)

short_threads : (g : Graph) → IsGraph g → length (thread_points g) ≤ 4096
unfolding thread_points
short_threads g graph = omega (arith, filter_short (is_thread_point g) (order g), order_few g graph)

solved_by : (g : Graph) (sharing : Sharing) (order points : List ℕ) (x from y : Stage) (rounds : ℕ) → most_rounds g sharing points ≤ 2450690 → EndsIn g sharing points (most_rounds g sharing points) from → x ≡ from → order ≡ points
    → y ≡ lowered g sharing order (ascent g sharing order 2450690 0 x).stage → rounds ≡ (ascent g sharing order 2450690 0 x).rounds
    → (y ≡ lowered g sharing points (ascent_over g sharing points from).stage) × (rounds ≡ (ascent_over g sharing points from).rounds)
solved_by g sharing order points x from y rounds l ends s o e r =
    let fuel : ascent g sharing order 2450690 0 x ≡ ascent_over g sharing points from =
    ap (λ (z : List ℕ). ascent g sharing z 2450690 0 x) o ∙ (ap (ascent g sharing points 2450690 0) s ∙ enough g sharing points from l ends) in
    (e ∙ (ap (λ (z : List ℕ). lowered g sharing z (ascent g sharing order 2450690 0 x).stage) o ∙ ap (λ (z : Ascended). lowered g sharing points z.stage) fuel), r ∙ ap (λ (z : Ascended). z.rounds) fuel)

pub main_is_solved : (c : Parts) (sharing : Sharing) (order : List ℕ) (x y : Stage) (rounds : ℕ) → IsCore c → IsThreaded (graph_of c) sharing → x ≡ start (graph_of c) → order ≡ main_points (graph_of c)
    → y ≡ lowered (graph_of c) sharing order (ascent (graph_of c) sharing order 2450690 0 x).stage → rounds ≡ (ascent (graph_of c) sharing order 2450690 0 x).rounds → y ≡ main_solved (graph_of c) sharing
unfolding main_solved
main_is_solved c sharing order x y rounds core threaded s o e r =
    let g = graph_of c in
    let graph = (cores_are_graphs c core).1 in
    let is : Known g sharing = known g sharing graph threaded in
    let sorted = is_order g graph in
    (solved_by g sharing order (main_points g) x (start g) y rounds (most_within g sharing (main_points g) graph (short_main g graph) (main_inside g (length g.owners) sorted refl)) (main_ends g sharing is sorted) s o e r).0

pub threads_are_solved : (c : Parts) (sharing : Sharing) (order : List ℕ) (x y : Stage) (rounds : ℕ) → IsCore c → IsThreaded (graph_of c) sharing → x ≡ main_solved (graph_of c) sharing → order ≡ thread_points (graph_of c)
    → y ≡ lowered (graph_of c) sharing order (ascent (graph_of c) sharing order 2450690 0 x).stage → rounds ≡ (ascent (graph_of c) sharing order 2450690 0 x).rounds → (y ≡ solved (graph_of c) sharing) × (rounds ≡ rounds_of (graph_of c) sharing)
unfolding solved threads_ascent
threads_are_solved c sharing order x y rounds core threaded s o e r =
    let g = graph_of c in
    let graph = (cores_are_graphs c core).1 in
    let is : Known g sharing = known g sharing graph threaded in
    let sorted = is_order g graph in
    solved_by g sharing order (thread_points g) x (main_solved g sharing) y rounds (most_within g sharing (thread_points g) graph (short_threads g graph) (threads_inside g (length g.owners) sorted refl)) (threads_end g sharing is sorted) s o e r

owners_are : (c : Parts) → (graph_of c).owners ≡ c.owners
unfolding graph_of
owners_are c = refl

pub reads_are : (c : Parts) (sharing : Sharing) (x : Stage) (reads : List Environment) (rounds : ℕ) → x ≡ solved (graph_of c) sharing → rounds ≡ rounds_of (graph_of c) sharing → reads ≡ map (read_in (graph_of c) sharing x) (range_with_len 0 (length c.owners))
    → IsConcSolution (graph_of c) sharing (record { reads = reads; rounds = rounds })
reads_are c sharing x reads rounds s r e =
    let g = graph_of c in
    let n : length g.owners ≡ length c.owners = ap length (owners_are c) in
    record {
      points = ap length e ∙ (length-map-range_with_len (read_in g sharing x) 0 (length c.owners) ∙ sym n);
      reads = λ p l. ap (λ (z : List Environment). point_at z p) e ∙ (get_or-map-range_with_len (read_in g sharing x) 0 (length c.owners) p p None (omega (arith, l, n)) (omega arith) ∙ ap (λ (z : Stage). read_in g sharing z p) s);
      rounds = r;
    }

-- ---- the order

owners_long : (c : Parts) → length (graph_of c).owners ≡ length c.owners
owners_long c = ap length (owners_are c)

pub in_order : (c : Parts) (items : List ℕ) (i d : ℕ) → IsCore c → items ≡ order (graph_of c) → i < length items → get_or items i d < length c.owners
in_order c items i d core e l =
    let o = is_order (graph_of c) (cores_are_graphs c core).1 in
    let within : i < length (order (graph_of c)) = subst (λ (xs : List ℕ). i < length xs) e l in
    let lt : get_or (order (graph_of c)) i d < length (graph_of c).owners = o.only (get_or (order (graph_of c)) i d) (i, within, get_or_default (order (graph_of c)) i (get_or (order (graph_of c)) i d) d within) in
    let back : get_or (order (graph_of c)) i d ≡ get_or items i d = ap (λ (xs : List ℕ). get_or xs i d) (sym e) in
    subst (λ (p : ℕ). p < length c.owners) back (subst (λ (n : ℕ). get_or (order (graph_of c)) i d < n) (owners_long c) lt)

pub main_test : (c k : Parts) (p owner n : ℕ) → k ≡ c → owner ≡ owner_at k p → n ≡ length k.procs → nat_eq owner (n - 1) ≡ is_main_point (graph_of c) p
unfolding graph_of
main_test c k p owner n e o h =
    ap (λ (z : ℕ). nat_eq z (n - 1)) (o ∙ ap (λ (z : Parts). owner_at z p) e) ∙ ap (λ (z : ℕ). nat_eq (owner_at c p) (z - 1)) (h ∙ ap (λ (z : Parts). length z.procs) e)

pub all_solved : (c k : Parts) (sharing : Sharing) (points first second reads : List Environment) (writes writes_first writes_second : Interference) (main threads : List ℕ) (alone rounds : ℕ) → IsCore c → IsThreaded (graph_of c) sharing → k ≡ c
    → points ≡ map no_environment k.owners → writes ≡ writes_table (graph_of c) no_writes → main ≡ main_points (graph_of c) → threads ≡ thread_points (graph_of c)
    → stage_with first writes_first ≡ lowered (graph_of c) sharing main (ascent (graph_of c) sharing main 2450690 0 (stage_with points writes)).stage → alone ≡ (ascent (graph_of c) sharing main 2450690 0 (stage_with points writes)).rounds
    → stage_with second writes_second ≡ lowered (graph_of c) sharing threads (ascent (graph_of c) sharing threads 2450690 0 (stage_with first writes_first)).stage → rounds ≡ (ascent (graph_of c) sharing threads 2450690 0 (stage_with first writes_first)).rounds
    → reads ≡ map (read_in (graph_of c) sharing (stage_with second writes_second)) (range_with_len 0 (length c.owners)) → IsConcSolution (graph_of c) sharing (record { reads = reads; rounds = rounds })
all_solved c k sharing points first second reads writes writes_first writes_second main threads alone rounds core threaded e p w m t sm rm st rt r =
    let begun = started_is c points writes (p ∙ ap (λ (z : Parts). map no_environment z.owners) e) w in
    let solved_main = main_is_solved c sharing main (stage_with points writes) (stage_with first writes_first) alone core threaded begun m sm rm in
    let both = threads_are_solved c sharing threads (stage_with first writes_first) (stage_with second writes_second) rounds core threaded solved_main t st rt in
    reads_are c sharing (stage_with second writes_second) reads rounds both.0 both.1 r
