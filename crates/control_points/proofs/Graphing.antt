-- The graph of an accepted program.
use Rattle.std.proofs.Common.{◌≡◌, ℕ, suc, zero, ◌+◌, ◌-◌, ◌<◌, ◌≤◌, Bool, true, false, not, nat_lt, List, [], ◌∷◌, ◌++◌, length, map, get_or, replicate, filter, refl, sym, ap, ◌∙◌, subst, arith, append_assoc, length-append, if◌then◌else◌, ◌||◌, ◌⊎◌, inl, inr}
use Rattle.std.specs.List.{All}
use Rattle.std.proofs.lemmas.List.{length-map, length-replicate, get_or-replicate, get_or-append-add}
use Rattle.std.proofs.lemmas.List.Elements.{All-nil, All-cons, All-append, All-replicate, All-from_get_or}
use Rattle.std.proofs.Math.ListN.{get_or-append}
use Rattle.std.proofs.Math.Seq.{get_or-append_seam}
use Rattle.spl_tree.specs.Program.{Declared, ProcMeaning, Program}
use Rattle.spl_types.specs.declared.fault.CheckRule.TheVariants.{DuplicateName, TooManyProcedures}
use Rattle.spl_types.specs.Checks.{Check, check, checks, is_among, most_procedures, Met, with_point, met_before, met_by_end, decl_checks, point_check, block_checks, scope_of, declared_names, Procedure, procedure_of, main_procedure, all_decls, procedure_checks, proc_checks, points_after}
use Rattle.spl_types.specs.Dimensions.{targets_in, copied, dimensions_of, procedures, dimensions}
use Rattle.spl_types.specs.Accepted.{KeepsRules}
use Rattle.spl_types.specs.Faults.{Kept}
use Rattle.spl_types.specs.Tables.{proc_names}
use Rattle.std.specs.Str.{bytes_eq}
use Rattle.spl_types.proofs.Accepting.{dims_count, targets_same}
use Rattle.spl_types.proofs.Copying.{eq_refl}
use Rattle.spl_types.proofs.Firsts.{kept_first, kept_last}
use Rattle.spl_core.specs.declared.parts.Proc.{Proc}
use Rattle.spl_core.specs.Parts.{no_proc}
use Rattle.spl_core.specs.Graph.{starts, Arc, Graph, proc_in, owner_of}
use Rattle.control_points.specs.CoreOf.{copy_of, spoken_by, Naming, arc, block_arcs, points_by, proc_of, start_copies, procedure_arcs, procs_after, owners_after, arcs_after, core_of}
use Rattle.spl_core.specs.GraphFacts.{CopyFits, MoveFits, ArcFits, ProcFitsIn}
use Rattle.control_points.specs.Laws.{ProgramsMakeGraphs}
use Rattle.control_points.proofs.Counting.{rises_by}
use Rattle.control_points.proofs.Fitting.{ArcActs, Within, block_fits, among_first, or_last}
use Rattle.control_points.proofs.Framing.{AreProcs, framed, placed, dim_below, dim_written, either, declared_split}
use Rattle.control_points.proofs.Ranges.{Ranges, widen, block_ranges, AllApart, apart_append, outside, block_apart}
use Rattle.control_points.proofs.Ranges.{calls_alone as apart_alone}

-- ---- the checks of each procedure

abbrev pub AllKept : List ProcMeaning → ℕ → List Procedure → Type 0
AllKept procs points [] = Unit {0}
AllKept procs points (u ∷ us) = Kept (procedure_checks procs points u) × AllKept procs (points_by points u) us

procs_kept : (procs : List ProcMeaning) (olds : List (List ℕ)) (points : ℕ) (ps : List ProcMeaning) (main : Procedure) → Kept (proc_checks procs olds points ps) → Kept (procedure_checks procs (points_after points ps) main) → AllKept procs points (map procedure_of ps ++ main ∷ [])
procs_kept procs olds points [] main h g = (g, tt)
procs_kept procs olds points (p ∷ ps) main h g =
    let a : Check = check TooManyProcedures p.name.at (nat_lt (length olds) most_procedures) in
    let b : Check = check DuplicateName p.name.at (not (is_among p.name.name olds)) in
    let own : List Check = procedure_checks procs points (procedure_of p) in
    let rest : List Check = proc_checks procs (olds ++ p.name.name ∷ []) (met_by_end points (procedure_of p)).points ps in
    let k : Kept (own ++ rest) = kept_last (a ∷ b ∷ []) (own ++ rest) h in
    (kept_first own rest k, procs_kept procs (olds ++ p.name.name ∷ []) (met_by_end points (procedure_of p)).points ps main (kept_last own rest k) g)

pub program_kept : (p : Program) → KeepsRules p → AllKept p.procs 0 (procedures p)
unfolding checks
program_kept p h =
    let xs : List Check = proc_checks p.procs [] 0 p.procs in
    let ys : List Check = procedure_checks p.procs (points_after 0 p.procs) (main_procedure p) in
    procs_kept p.procs [] 0 p.procs (main_procedure p) (kept_first xs ys h.unbroken) (kept_last xs ys h.unbroken)

-- ---- the copies of a start

-- those of a list that pass
pub record Passes (p : List ℕ → Bool) (xs : List (List ℕ)) (x : List ℕ) : Type 0 where
  pub passes : p x ≡ true
  pub among : is_among x xs ≡ true

pub filtered : (p : List ℕ → Bool) (xs : List (List ℕ)) → All (Passes p xs) (filter p xs)
filtered p [] = All-nil (Passes p [])
filtered p (x ∷ xs) = by (either (p x)) (filtered p xs)
  where
    later : (y : List ℕ) → Passes p xs y → Passes p (x ∷ xs) y
    later y h = record { passes = h.passes; among = or_last (bytes_eq y x) (is_among y xs) h.among }

    by : (p x ≡ true) ⊎ (p x ≡ false) → All (Passes p xs) (filter p xs) → All (Passes p (x ∷ xs)) (if p x then x ∷ filter p xs else filter p xs)
    by (inl e) r =
        let rest : All (Passes p (x ∷ xs)) (filter p xs) = λ k d lt. later (get_or (filter p xs) k d) (r k d lt) in
        let Q : Bool → Type 0 = λ b. All (Passes p (x ∷ xs)) (if b then x ∷ filter p xs else filter p xs) in
        subst Q (sym e) (All-cons (Passes p (x ∷ xs)) x (filter p xs) (record { passes = e; among = ap (λ b. b || is_among x xs) (eq_refl x) }) rest)
    by (inr e) r =
        let rest : All (Passes p (x ∷ xs)) (filter p xs) = λ k d lt. later (get_or (filter p xs) k d) (r k d lt) in
        let Q : Bool → Type 0 = λ b. All (Passes p (x ∷ xs)) (if b then x ∷ filter p xs else filter p xs) in
        subst Q (sym e) rest

input_declared : (u : Procedure) (x : List ℕ) → is_among x (declared_names u.inputs) ≡ true → is_among x (declared_names (all_decls u)) ≡ true
input_declared u x h = ap (is_among x) (declared_split u) ∙ among_first x (declared_names u.inputs) (declared_names (u.outputs ++ u.locals)) h

mapped_all : {X Y : Type 0} (P : Y → Type 0) (f : X → Y) (xs : List X) → ((k : ℕ) (d : X) → k < length xs → P (f (get_or xs k d))) → All P (map f xs)
mapped_all P f [] h = All-nil P
mapped_all P f (x ∷ xs) h = All-cons P (f x) (map f xs) (h 0 x (omega arith)) (mapped_all P f xs (λ k d lt. h (suc k) d (omega (arith, lt))))

pub start_fits : (points : ℕ) (u : Procedure) → All (CopyFits (proc_of points u)) (start_copies u)
start_fits points u = mapped_all (CopyFits (proc_of points u)) (copy_of u) (copied u) (λ k d lt. one (get_or (copied u) k d) (own k d lt))
  where
    own : All (Passes (λ x. is_among x (targets_in u)) (declared_names u.inputs)) (copied u)
    own = filtered (λ x. is_among x (targets_in u)) (declared_names u.inputs)

    one : (x : List ℕ) → Passes (λ y. is_among y (targets_in u)) (declared_names u.inputs) x → CopyFits (proc_of points u) (copy_of u x)
    one x w = record {
      target = (dim_written u x (input_declared u x w.among) w.passes, omega (arith, dims_count u, dim_below (spoken_by u) x (input_declared u x w.among)));
      origin = omega (arith, dims_count u, (placed (declared_names u.inputs) x w.among).within, length-map u.inputs (λ (d : Declared). d.name.name), length-map (all_decls u) (λ (d : Declared). d.name.name), length-append u.inputs (u.outputs ++ u.locals));
    }

-- ---- the points of a procedure

abbrev pub end_after : ℕ → List Procedure → ℕ
end_after points [] = points
end_after points (u ∷ us) = end_after (points_by points u) us

pub two_points : (points : ℕ) (u : Procedure) → points + 1 < points_by points u
two_points points u = rises_by (with_point (met_before points)) u.body

pub length-owners : (p points : ℕ) (us : List Procedure) → points + length (owners_after p points us) ≡ end_after points us
length-owners p points [] = omega arith
length-owners p points (u ∷ us) =
    let n : ℕ = points_by points u in
    omega (arith, two_points points u, length-owners (p + 1) n us, length-append (replicate (n - points) p) (owners_after (p + 1) n us), length-replicate (n - points) p)

pub length-procs : (points : ℕ) (us : List Procedure) → length (procs_after points us) ≡ length us
length-procs points [] = refl
length-procs points (u ∷ us) = omega (arith, length-procs (points_by points u) us)

-- what comes before and after a procedure in a graph
pub record Around (g : Graph) (p points : ℕ) (us : List Procedure) (pre : List ℕ) (qs : List Proc) : Type 0 where
  pub owners : g.owners ≡ pre ++ owners_after p points us
  pub procs : g.procs ≡ qs ++ procs_after points us
  pub before : length pre ≡ points
  pub number : length qs ≡ p

around_next : (g : Graph) (p points : ℕ) (u : Procedure) (us : List Procedure) (pre : List ℕ) (qs : List Proc) → Around g p points (u ∷ us) pre qs → Around g (p + 1) (points_by points u) us (pre ++ replicate (points_by points u - points) p) (qs ++ proc_of points u ∷ [])
around_next g p points u us pre qs h =
    let n : ℕ = points_by points u in
    record {
      owners = h.owners ∙ sym (append_assoc pre (replicate (n - points) p) (owners_after (p + 1) n us));
      procs = h.procs ∙ sym (append_assoc qs (proc_of points u ∷ []) (procs_after n us));
      before = omega (arith, two_points points u, h.before, length-append pre (replicate (n - points) p), length-replicate (n - points) p);
      number = omega (arith, h.number, length-append qs (proc_of points u ∷ []));
    }

-- the points of the first of these procedures are its own
pub record Owns (g : Graph) (p from to : ℕ) (q : Proc) : Type 0 where
  pub owner : (x : ℕ) → from ≤ x → x < to → owner_of g x ≡ p
  pub within : (x : ℕ) → from ≤ x → x < to → x < length g.owners
  pub proc : proc_in g.procs p ≡ q

owns : (g : Graph) (p points : ℕ) (u : Procedure) (us : List Procedure) (pre : List ℕ) (qs : List Proc) → Around g p points (u ∷ us) pre qs → Owns g p points (points_by points u) (proc_of points u)
owns g p points u us pre qs h =
    let n : ℕ = points_by points u in
    let own : List ℕ = replicate (n - points) p in
    let rest : List ℕ = owners_after (p + 1) n us in
    record {
      owner = λ x a b.
          let i : ℕ = x - points in
          let e : x ≡ length pre + i = omega (arith, a, h.before) in
          let l : i < length own = omega (arith, a, b, length-replicate (n - points) p) in
          ap (λ l. get_or l x 0) h.owners
          ∙ (ap (λ k. get_or (pre ++ (own ++ rest)) k 0) e
          ∙ (get_or-append-add pre (own ++ rest) i 0
          ∙ (get_or-append own rest 0 i l
          ∙ get_or-replicate (n - points) i p 0 (omega (arith, a, b)))));
      within = λ x a b. omega (arith, a, b, h.before, ap length h.owners, length-append pre (own ++ rest), length-append own rest, length-replicate (n - points) p);
      proc = ap (λ l. get_or l p no_proc) h.procs ∙ (ap (λ k. get_or (qs ++ proc_of points u ∷ procs_after n us) k no_proc) (sym h.number) ∙ get_or-append_seam qs (proc_of points u) (procs_after n us) no_proc);
    }

-- ---- arcs

arc_fits : (g : Graph) (p points to : ℕ) (q : Proc) (a : Arc) → Owns g p points to q → q.entry ≡ points → q.exit ≡ to - 1 → Ranges points (to - 1) (points + 1) to a → MoveFits g.procs q a.move → ArcFits g a
arc_fits g p points to q a o e x r m =
    let s : owner_of g a.source ≡ p = o.owner a.source r.source_from (omega (arith, r.source_to)) in
    let t : owner_of g a.target ≡ p = o.owner a.target (omega (arith, r.target_from)) r.target_to in
    let sq : proc_in g.procs (owner_of g a.source) ≡ q = ap (λ n. proc_in g.procs n) s ∙ o.proc in
    let tq : proc_in g.procs (owner_of g a.target) ≡ q = ap (λ n. proc_in g.procs n) t ∙ o.proc in
    let M : Proc → Type 0 = λ z. MoveFits g.procs z a.move in
    record {
      source = o.within a.source r.source_from (omega (arith, r.source_to));
      target = o.within a.target (omega (arith, r.target_from)) r.target_to;
      one_owner = s ∙ sym t;
      acts = subst M (sym sq) m;
      no_entry = λ w. let z = w ∙ (ap (λ (y : Proc). y.entry) tq ∙ e) in absurd (omega (arith, z, r.target_from));
      no_exit = λ w. let z = w ∙ (ap (λ (y : Proc). y.exit) sq ∙ x) in absurd (omega (arith, z, r.source_to));
    }

-- the arcs of a procedure
pub procedure_ranges : (names : List (List ℕ)) (points : ℕ) (u : Procedure) → All (Ranges points (points_by points u - 1) (points + 1) (points_by points u)) (procedure_arcs names points u)
procedure_ranges names points u =
    let n : ℕ = points_by points u in
    let two = two_points points u in
    let c : Naming = record { dims = spoken_by u; procs = names } in
    let xs : List Arc = block_arcs c (with_point (met_before points)) u.body in
    All-cons (Ranges points (n - 1) (points + 1) n) (arc points (points + 1) (starts (start_copies u))) xs
    (record { source_from = omega arith; source_to = omega (arith, two); target_from = omega arith; target_to = omega (arith, two) })
    (widen (points + 1) (n - 1) (points + 1) n points (n - 1) (points + 1) n xs (omega arith) (omega arith) (omega arith) (omega arith) (block_ranges c (with_point (met_before points)) u.body))

procedure_acts : (procs : List ProcMeaning) (points : ℕ) (u : Procedure) (cs : List Proc) → AreProcs procs cs → Kept (procedure_checks procs points u) → All (ArcActs cs (proc_of points u)) (procedure_arcs (proc_names procs) points u)
procedure_acts procs points u cs w h =
    let names : List (List ℕ) = proc_names procs in
    let c : Naming = record { dims = spoken_by u; procs = names } in
    let m : Met = with_point (met_before points) in
    let q : Proc = proc_of points u in
    let xs : List Check = decl_checks [] (all_decls u) in
    let ys : List Check = block_checks (scope_of procs u) m (u.begin + 5) u.body in
    let k : Kept ys = kept_last (point_check (met_before points) u.begin ∷ []) ys (kept_last xs (point_check (met_before points) u.begin ∷ ys) h) in
    let inside : Within (targets_in u) (met_by_end points u) = λ x e. ap (is_among x) (sym (targets_same points u)) ∙ e in
    All-cons (ArcActs cs q) (arc points (points + 1) (starts (start_copies u))) (block_arcs c m u.body) (start_fits points u)
    (block_fits (spoken_by u) (scope_of procs u) (targets_in u) names cs q (framed procs u cs q w refl refl) m (u.begin + 5) u.body k inside)

arcs_fit : (g : Graph) (procs : List ProcMeaning) (p points : ℕ) (us : List Procedure) (pre : List ℕ) (qs : List Proc) → AreProcs procs g.procs → Around g p points us pre qs → AllKept procs points us → All (ArcFits g) (arcs_after (proc_names procs) points us)
arcs_fit g procs p points [] pre qs w h k = All-nil (ArcFits g)
arcs_fit g procs p points (u ∷ us) pre qs w h k =
    let names : List (List ℕ) = proc_names procs in
    let n : ℕ = points_by points u in
    let o = owns g p points u us pre qs h in
    let r = procedure_ranges names points u in
    let a = procedure_acts procs points u g.procs w k.0 in
    All-append (ArcFits g) (procedure_arcs names points u) (arcs_after names n us)
    (λ i d lt. arc_fits g p points n (proc_of points u) (get_or (procedure_arcs names points u) i d) o refl refl (r i d lt) (a i d lt))
    (arcs_fit g procs (p + 1) n us (pre ++ replicate (n - points) p) (qs ++ proc_of points u ∷ []) w (around_next g p points u us pre qs h) k.1)

-- ---- calls alone

pub arcs_from : (names : List (List ℕ)) (points : ℕ) (us : List Procedure) → All (λ (a : Arc). points ≤ a.source) (arcs_after names points us)
arcs_from names points [] = All-nil (λ (a : Arc). points ≤ a.source)
arcs_from names points (u ∷ us) =
    let n : ℕ = points_by points u in
    let r = procedure_ranges names points u in
    let s = arcs_from names n us in
    All-append (λ (a : Arc). points ≤ a.source) (procedure_arcs names points u) (arcs_after names n us)
    (λ i d lt. let v = r i d lt in v.source_from)
    (λ i d lt. let v = s i d lt in omega (arith, v, two_points points u))

arcs_apart : (names : List (List ℕ)) (points : ℕ) (us : List Procedure) → AllApart (arcs_after names points us)
arcs_apart names points [] = tt
arcs_apart names points (u ∷ us) =
    let n : ℕ = points_by points u in
    let c : Naming = record { dims = spoken_by u; procs = names } in
    let m : Met = with_point (met_before points) in
    let x : Arc = arc points (points + 1) (starts (start_copies u)) in
    let body : List Arc = block_arcs c m u.body in
    let r = procedure_ranges names points u in
    let own : AllApart (x ∷ body) = (outside x (points + 1) (n - 1) (points + 1) n body (inl (omega arith)) (block_ranges c m u.body), block_apart c m u.body) in
    apart_append n (x ∷ body) (arcs_after names n us) own (arcs_apart names n us)
    (λ i d lt. let v = r i d lt in omega (arith, v.source_to))
    (arcs_from names n us)

-- ---- procedures and owners

abbrev EachFrom : {X : Type 0} → (ℕ → X → Type 0) → ℕ → List X → Type 0
EachFrom P k [] = Unit {0}
EachFrom P k (x ∷ xs) = P k x × EachFrom P (k + 1) xs

each_from : {X : Type 0} (P : ℕ → X → Type 0) (k : ℕ) (xs : List X) → EachFrom P k xs → (i j : ℕ) (d : X) → j ≡ k + i → i < length xs → P j (get_or xs i d)
each_from P k [] h i j d e lt = absurd (omega (arith, lt))
each_from {X} P k (x ∷ xs) h zero j d e lt = let Q : ℕ → Type 0 = λ n. P n x in let f : k ≡ j = omega (arith, e) in subst Q f h.0
each_from P k (x ∷ xs) h (suc i) j d e lt = each_from P (k + 1) xs h.1 i j d (omega (arith, e)) (omega (arith, lt))

procs_fit : (g : Graph) (p points : ℕ) (us : List Procedure) (pre : List ℕ) (qs : List Proc) → Around g p points us pre qs → All (λ u. length (dimensions_of u) ≤ 128) us → EachFrom (ProcFitsIn g) p (procs_after points us)
procs_fit g p points [] pre qs h k = tt
procs_fit g p points (u ∷ us) pre qs h k =
    let n : ℕ = points_by points u in
    let o = owns g p points u us pre qs h in
    let two = two_points points u in
    let few : length (dimensions_of u) ≤ 128 = k 0 u (omega arith) in (
      record {
        within = omega (arith, dims_count u, length-map (all_decls u) (λ (d : Declared). d.name.name), length-append u.inputs (u.outputs ++ u.locals), length-append u.outputs u.locals);
        few = few;
        entry = o.within points (omega arith) (omega (arith, two));
        exit = o.within (n - 1) (omega (arith, two)) (omega (arith, two));
        owns_entry = o.owner points (omega arith) (omega (arith, two));
        owns_exit = o.owner (n - 1) (omega (arith, two)) (omega (arith, two));
      },
      procs_fit g (p + 1) n us (pre ++ replicate (n - points) p) (qs ++ proc_of points u ∷ []) (around_next g p points u us pre qs h) (λ i d lt. k (suc i) d (omega (arith, lt))),
    )

owners_fit : (p points n : ℕ) (us : List Procedure) → p + length us ≤ n → All (λ x. x < n) (owners_after p points us)
owners_fit p points n [] le = All-nil (λ x. x < n)
owners_fit p points n (u ∷ us) le =
    let k : ℕ = points_by points u in
    All-append (λ x. x < n) (replicate (k - points) p) (owners_after (p + 1) k us) (All-replicate (λ x. x < n) (k - points) p (omega (arith, le))) (owners_fit (p + 1) k n us (omega (arith, le)))

-- ---- the whole

pub end_is : (points : ℕ) (ps : List ProcMeaning) (main : Procedure) → end_after points (map procedure_of ps ++ main ∷ []) ≡ (met_by_end (points_after points ps) main).points
end_is points [] main = refl
end_is points (p ∷ ps) main = end_is (points_by points (procedure_of p)) ps main

inputs_are : (points : ℕ) (ps : List ProcMeaning) (us : List Procedure) (k : ℕ) (d : ProcMeaning) → k < length ps → (proc_in (procs_after points (map procedure_of ps ++ us)) k).inputs ≡ length (get_or ps k d).inputs
inputs_are points [] us k d lt = absurd (omega (arith, lt))
inputs_are points (p ∷ ps) us zero d lt = refl
inputs_are points (p ∷ ps) us (suc k) d lt = inputs_are (points_by points (procedure_of p)) ps us k d (omega (arith, lt))

outputs_are : (points : ℕ) (ps : List ProcMeaning) (us : List Procedure) (k : ℕ) (d : ProcMeaning) → k < length ps → (proc_in (procs_after points (map procedure_of ps ++ us)) k).outputs ≡ length (get_or ps k d).outputs
outputs_are points [] us k d lt = absurd (omega (arith, lt))
outputs_are points (p ∷ ps) us zero d lt = refl
outputs_are points (p ∷ ps) us (suc k) d lt = outputs_are (points_by points (procedure_of p)) ps us k d (omega (arith, lt))

last_inputs : (points : ℕ) (ps : List ProcMeaning) (main : Procedure) (k : ℕ) → k ≡ length ps → (proc_in (procs_after points (map procedure_of ps ++ main ∷ [])) k).inputs ≡ length main.inputs
last_inputs points [] main zero e = refl
last_inputs points [] main (suc k) e = absurd (omega (arith, e))
last_inputs points (p ∷ ps) main zero e = absurd (omega (arith, e))
last_inputs points (p ∷ ps) main (suc k) e = last_inputs (points_by points (procedure_of p)) ps main k (omega (arith, e))

pub procedures_count : (p : Program) → length (procedures p) ≡ length p.procs + 1
procedures_count p = omega (arith, length-append (map procedure_of p.procs) (main_procedure p ∷ []), length-map p.procs procedure_of)

few_dims : (p : Program) → KeepsRules p → All (λ u. length (dimensions_of u) ≤ 128) (procedures p)
unfolding dimensions
few_dims p h = All-from_get_or (λ u. length (dimensions_of u) ≤ 128) (procedures p) (main_procedure p) (λ k lt. h.dims k (omega (arith, lt, procedures_count p)))

pub graphs : ProgramsMakeGraphs
unfolding core_of
graphs p h =
    let us : List Procedure = procedures p in
    let g : Graph = record { procs = procs_after 0 us; owners = owners_after 0 0 us; arcs = arcs_after (proc_names p.procs) 0 us } in
    let count = procedures_count p in
    let len = length-procs 0 us in
    let w : AreProcs p.procs (procs_after 0 us) = record { count = omega (arith, count, len); inputs = λ k d lt. inputs_are 0 p.procs (main_procedure p ∷ []) k d lt; outputs = λ k d lt. outputs_are 0 p.procs (main_procedure p ∷ []) k d lt } in
    let a : Around g 0 0 us [] [] = record { owners = refl; procs = refl; before = refl; number = refl } in
    record {
      few_procs = omega (arith, count, len, h.procs);
      few_points = omega (arith, length-owners 0 0 us, end_is 0 p.procs (main_procedure p), h.points);
      main = omega (arith, count, len);
      no_inputs = last_inputs 0 p.procs (main_procedure p) (length (procs_after 0 us) - 1) (omega (arith, count, len));
      procs = λ k d lt. each_from (ProcFitsIn g) 0 (procs_after 0 us) (procs_fit g 0 0 us [] [] a (few_dims p h)) k k d (omega arith) lt;
      owners = owners_fit 0 0 (length (procs_after 0 us)) us (omega (arith, len));
      arcs = arcs_fit g p.procs 0 0 us [] [] w a (program_kept p h);
      calls_alone = apart_alone g (arcs_apart (proc_names p.procs) 0 us);
    }
