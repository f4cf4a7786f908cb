-- Tables of the names of an accepted program.
use Rattle.std.proofs.Common.{◌≡◌, ℕ, suc, zero, ◌+◌, ◌<◌, ◌≤◌, Bool, true, false, not, if◌then◌else◌, List, [], ◌∷◌, ◌++◌, length, take, drop, map, get_or, filter, sym, ap, ◌∙◌, subst, arith, append_assoc, length-append, ◌⊎◌, inl, inr}
use Rattle.std.specs.List.{All}
use Rattle.std.specs.Str.{bytes_eq}
use Rattle.std.proofs.Math.ListN.{get_or-append}
use Rattle.std.proofs.Math.Seq.{drop-append_seam}
use Rattle.std.proofs.lemmas.List.{length-map, map-append, take_more, get_or_default}
use Rattle.std.proofs.lemmas.List.Elements.{All-cons}
use Rattle.spl_tree.specs.Program.{Declared, Program, ProcMeaning}
use Rattle.spl_tree.specs.Lists.{Lists}
use Rattle.spl_tree.specs.Facts.{IsTree}
use Rattle.spl_tree.specs.Laws.{NumbersStandForNodes, procs_in}
use Rattle.spl_tree.specs.Meaning.{program_of, decls_in, decls_over}
use Rattle.spl_types.specs.declared.routines.Routine.{Routine}
use Rattle.spl_types.specs.Routines.{routine_in}
use Rattle.spl_types.specs.Checks.{Check, checks, is_among, declared_names, Procedure, main_procedure, all_decls, decl_checks, scope_of, with_point, met_before, point_check, block_checks, procedure_checks, proc_checks, points_after}
use Rattle.spl_types.specs.Dimensions.{targets_in, input_name, copied, dimensions_of, procedures, dimensions}
use Rattle.spl_types.specs.Accepted.{KeepsRules}
use Rattle.spl_types.specs.Faults.{Kept}
use Rattle.spl_types.specs.Tables.{Distinct, proc_names}
use Rattle.spl_types.proofs.Accepting.{dims_count}
use Rattle.spl_types.proofs.Firsts.{kept_first}
use Rattle.control_points.specs.CoreOf.{Spoken, spoken_by, points_by}
use Rattle.control_points.specs.Routines.{procedure_at}
use Rattle.control_points.proofs.Adding.{is_new}
use Rattle.control_points.proofs.Fresh.{decls_fresh, procs_fresh, fresh_distinct}
use Rattle.control_points.proofs.Framing.{either, declared_split}
use Rattle.control_points.proofs.Graphing.{AllKept, program_kept, procedures_count}

-- ---- names that differ

pub distinct_first : (xs ys : List (List ℕ)) → Distinct (xs ++ ys) → Distinct xs
distinct_first xs ys h i j l lt =
    let a : get_or (xs ++ ys) i [] ≡ get_or xs i [] = get_or-append xs ys [] i (omega (arith, l, lt)) in
    let b : get_or (xs ++ ys) j [] ≡ get_or xs j [] = get_or-append xs ys [] j lt in
    ap (λ z. bytes_eq z (get_or xs j [])) (sym a) ∙ (ap (bytes_eq (get_or (xs ++ ys) i [])) (sym b) ∙ h i j l (omega (arith, lt, length-append xs ys)))

-- the same by recursion
abbrev Differ : List (List ℕ) → Type 0
Differ [] = Unit {0}
Differ (x ∷ xs) = All (λ y. bytes_eq x y ≡ false) xs × Differ xs

differ_of : (xs : List (List ℕ)) → Distinct xs → Differ xs
differ_of [] h = tt
differ_of (x ∷ xs) h = (λ k d lt. all k d lt, differ_of xs (λ i j l lt. h (suc i) (suc j) (omega (arith, l)) (omega (arith, lt))))
  where
    all : (k : ℕ) (d : List ℕ) → k < length xs → bytes_eq x (get_or xs k d) ≡ false
    all k d lt = ap (bytes_eq x) (get_or_default xs k d [] lt) ∙ h 0 (suc k) (omega arith) (omega (arith, lt))

distinct_of : (xs : List (List ℕ)) → Differ xs → Distinct xs
distinct_of [] h i j l lt = absurd (omega (arith, lt))
distinct_of (x ∷ xs) h zero zero l lt = absurd (omega (arith, l))
distinct_of (x ∷ xs) h zero (suc j) l lt = h.0 j [] (omega (arith, lt))
distinct_of (x ∷ xs) h (suc i) zero l lt = absurd (omega (arith, l))
distinct_of (x ∷ xs) h (suc i) (suc j) l lt = distinct_of xs h.1 i j (omega (arith, l)) (omega (arith, lt))

filter_all : (P : List ℕ → Type 0) (p : List ℕ → Bool) (xs : List (List ℕ)) → All P xs → All P (filter p xs)
filter_all P p [] h = h
filter_all P p (x ∷ xs) h = by (either (p x)) (filter_all P p xs (λ k d lt. h (suc k) d (omega (arith, lt))))
  where
    by : (p x ≡ true) ⊎ (p x ≡ false) → All P (filter p xs) → All P (if p x then x ∷ filter p xs else filter p xs)
    by (inl e) r = let Q : Bool → Type 0 = λ b. All P (if b then x ∷ filter p xs else filter p xs) in subst Q (sym e) (All-cons P x (filter p xs) (h 0 x (omega arith)) r)
    by (inr e) r = let Q : Bool → Type 0 = λ b. All P (if b then x ∷ filter p xs else filter p xs) in subst Q (sym e) r

differ_filter : (p : List ℕ → Bool) (xs : List (List ℕ)) → Differ xs → Differ (filter p xs)
differ_filter p [] h = tt
differ_filter p (x ∷ xs) h = by (either (p x)) (differ_filter p xs h.1)
  where
    by : (p x ≡ true) ⊎ (p x ≡ false) → Differ (filter p xs) → Differ (if p x then x ∷ filter p xs else filter p xs)
    by (inl e) r = let Q : Bool → Type 0 = λ b. Differ (if b then x ∷ filter p xs else filter p xs) in subst Q (sym e) (filter_all (λ y. bytes_eq x y ≡ false) p xs h.0, r)
    by (inr e) r = let Q : Bool → Type 0 = λ b. Differ (if b then x ∷ filter p xs else filter p xs) in subst Q (sym e) r

pub distinct_filter : (p : List ℕ → Bool) (xs : List (List ℕ)) → Distinct xs → Distinct (filter p xs)
distinct_filter p xs h = distinct_of (filter p xs) (differ_filter p xs (differ_of xs h))

-- ---- of an accepted program

kept_at : (procs : List ProcMeaning) (points : ℕ) (us : List Procedure) (k : ℕ) (d : Procedure) → k < length us → AllKept procs points us → Kept (decl_checks [] (all_decls (get_or us k d)))
kept_at procs points [] k d lt h = absurd (omega (arith, lt))
kept_at procs points (u ∷ us) zero d lt h =
    kept_first (decl_checks [] (all_decls u)) (point_check (met_before points) u.begin ∷ block_checks (scope_of procs u) (with_point (met_before points)) (u.begin + 5) u.body) h.0
kept_at procs points (u ∷ us) (suc k) d lt h = kept_at procs (points_by points u) us k d (omega (arith, lt)) h.1

pub decls_differ : (p : Program) (k : ℕ) → KeepsRules p → k ≤ length p.procs → Distinct (declared_names (all_decls (procedure_at p k)))
decls_differ p k h le =
    let u : Procedure = procedure_at p k in
    fresh_distinct [] (declared_names (all_decls u)) (decls_fresh [] (all_decls u) (kept_at p.procs 0 (procedures p) k (main_procedure p) (omega (arith, le, procedures_count p)) (program_kept p h)))

pub copies_differ : (p : Program) (k : ℕ) → KeepsRules p → k ≤ length p.procs → Distinct (copied (procedure_at p k))
copies_differ p k h le =
    let u : Procedure = procedure_at p k in
    let P : List (List ℕ) → Type 0 = λ l. Distinct l in
    distinct_filter (λ x. is_among x (targets_in u)) (declared_names u.inputs) (distinct_first (declared_names u.inputs) (declared_names (u.outputs ++ u.locals)) (subst P (declared_split u) (decls_differ p k h le)))

pub procs_differ : (p : Program) → KeepsRules p → Distinct (proc_names p.procs)
unfolding checks
procs_differ p h =
    let xs : List Check = proc_checks p.procs [] 0 p.procs in
    fresh_distinct [] (proc_names p.procs) (procs_fresh p.procs [] 0 p.procs (kept_first xs (procedure_checks p.procs (points_after 0 p.procs) (main_procedure p)) h.unbroken))

-- ---- tables

-- the declarations of a procedure, one list after the other
pub declared_so : (u : Procedure) (t a b c : List (List ℕ)) → t ≡ [] → (Distinct (t ++ declared_names u.inputs) → a ≡ t ++ declared_names u.inputs) → (Distinct (a ++ declared_names u.outputs) → b ≡ a ++ declared_names u.outputs) → (Distinct (b ++ declared_names u.locals) → c ≡ b ++ declared_names u.locals)
    → Distinct (declared_names (all_decls u)) → c ≡ declared_names (all_decls u)
declared_so u t a b c e f g h d =
    let ins : List (List ℕ) = declared_names u.inputs in
    let outs : List (List ℕ) = declared_names u.outputs in
    let locs : List (List ℕ) = declared_names u.locals in
    let P : List (List ℕ) → Type 0 = λ l. Distinct l in
    let s : declared_names (all_decls u) ≡ (ins ++ outs) ++ locs =
    declared_split u ∙ (ap (λ l. ins ++ l) (map-append (λ (x : Declared). x.name.name) u.outputs u.locals) ∙ sym (append_assoc ins outs locs)) in
    let all : Distinct ((ins ++ outs) ++ locs) = subst P s d in
    let two : Distinct (ins ++ outs) = distinct_first (ins ++ outs) locs all in
    let one : Distinct ins = distinct_first ins outs two in
    let x : a ≡ ins = f (subst P (sym (ap (λ l. l ++ ins) e)) one) ∙ ap (λ l. l ++ ins) e in
    let y : b ≡ ins ++ outs = g (subst P (sym (ap (λ l. l ++ outs) x)) two) ∙ ap (λ l. l ++ outs) x in
    let z : c ≡ (ins ++ outs) ++ locs = h (subst P (sym (ap (λ l. l ++ locs) y)) all) ∙ ap (λ l. l ++ locs) y in
    z ∙ sym s

-- the copies come after the declarations
pub copies_last : (u : Procedure) (n : ℕ) → n ≡ length (declared_names (all_decls u)) → drop n (dimensions_of u) ≡ copied u
unfolding dimensions_of
copies_last u n e =
    let named : List (List ℕ) = map (input_name (targets_in u)) (declared_names u.inputs) in
    let outs : List (List ℕ) = declared_names u.outputs in
    let locs : List (List ℕ) = declared_names u.locals in
    let front : List (List ℕ) = named ++ (outs ++ locs) in
    let all : named ++ (outs ++ (locs ++ copied u)) ≡ front ++ copied u = ap (λ l. named ++ l) (sym (append_assoc outs locs (copied u))) ∙ sym (append_assoc named (outs ++ locs) (copied u)) in
    let a = length-map (declared_names u.inputs) (input_name (targets_in u)) in
    let b = length-append named (outs ++ locs) in
    let d = length-append outs locs in
    let g = length-map (all_decls u) (λ (x : Declared). x.name.name) in
    let h = length-append u.inputs (u.outputs ++ u.locals) in
    let i = length-append u.outputs u.locals in
    let j = length-map u.inputs (λ (x : Declared). x.name.name) in
    let k = length-map u.outputs (λ (x : Declared). x.name.name) in
    let l = length-map u.locals (λ (x : Declared). x.name.name) in
    let m : n ≡ length front = omega (arith, e) in
    ap (λ l. drop n l) all ∙ (ap (λ v. drop v (front ++ copied u)) m ∙ drop-append_seam front (copied u))

pub spoken_is : (u : Procedure) (ds cs : List (List ℕ)) → ds ≡ declared_names (all_decls u) → cs ≡ copied u → record { declared = ds; copies = cs } ≡ spoken_by u
spoken_is u ds cs e f =
    let P : List (List ℕ) → List (List ℕ) → Spoken = λ x y. record { declared = x; copies = y } in
    ap (λ x. P x cs) e ∙ ap (λ y. P (declared_names (all_decls u)) y) f

-- one name more of a list
pub one_added : (ns olds t t' : List (List ℕ)) (i : ℕ) (x : List ℕ) (b : Bool) → i < length ns → get_or ns i [] ≡ x
    → b ≡ not (is_among x t) → (b ≡ true → t' ≡ t ++ x ∷ []) → (Distinct (olds ++ ns) → t ≡ olds ++ take i ns) → Distinct (olds ++ ns) → t' ≡ olds ++ take (i + 1) ns
one_added ns olds t t' i x b lt at f g h q =
    let new : is_among x t ≡ false = ap (is_among x) (h q) ∙ (ap (λ z. is_among z (olds ++ take i ns)) (sym at) ∙ is_new olds ns i lt q) in
    g (f ∙ ap not new) ∙ (ap (λ l. l ++ x ∷ []) (h q) ∙ (append_assoc olds (take i ns) (x ∷ []) ∙ sym (ap (λ l. olds ++ l) (take_more ns i [] lt ∙ ap (λ z. take i ns ++ z ∷ []) at))))

-- the tables of a procedure
pub record Tabled (p : Program) (k : ℕ) (names ds : List (List ℕ)) : Type 0 where
  pub declared : ds ≡ declared_names (all_decls (procedure_at p k))
  pub few : length ds ≤ 128
  pub within : length ds ≤ length names
  pub copies : drop (length ds) names ≡ copied (procedure_at p k)
  pub few_copies : length (copied (procedure_at p k)) ≤ 128
  pub differ : Distinct (copied (procedure_at p k))

pub tabled : (t : Lists) (p : Program) (k : ℕ) (names : List (List ℕ)) (r : Routine) (a b c d : List (List ℕ)) → KeepsRules p → k ≤ length p.procs → names ≡ dimensions p k → routine_in t r ≡ procedure_at p k → a ≡ []
    → (let xs = declared_names (decls_over (decls_in t) r.inputs) in Distinct (a ++ xs) → b ≡ a ++ xs)
    → (let xs = declared_names (decls_over (decls_in t) r.outputs) in Distinct (b ++ xs) → c ≡ b ++ xs)
    → (let xs = declared_names (decls_over (decls_in t) r.locals) in Distinct (c ++ xs) → d ≡ c ++ xs)
    → Tabled p k names d
unfolding dimensions
tabled t p k names r a b c d h le e w none f g v =
    let u : Procedure = procedure_at p k in
    let A : List Declared → Type 0 = λ l. Distinct (a ++ declared_names l) → b ≡ a ++ declared_names l in
    let B : List Declared → Type 0 = λ l. Distinct (b ++ declared_names l) → c ≡ b ++ declared_names l in
    let C : List Declared → Type 0 = λ l. Distinct (c ++ declared_names l) → d ≡ c ++ declared_names l in
    let is : d ≡ declared_names (all_decls u) = declared_so u a b c d none (subst A (ap (λ (x : Procedure). x.inputs) w) f) (subst B (ap (λ (x : Procedure). x.outputs) w) g) (subst C (ap (λ (x : Procedure). x.locals) w) v) (decls_differ p k h le) in
    let n : length names ≡ length (dimensions_of u) = ap length e in
    let few = h.dims k le in
    let count = dims_count u in
    let same = ap length is in
    record {
      declared = is;
      few = omega (arith, few, count, same);
      within = omega (arith, n, count, same);
      copies = ap (λ l. drop (length d) l) e ∙ copies_last u (length d) same;
      few_copies = omega (arith, few, count);
      differ = copies_differ p k h le;
    }

-- a table of copies, after none
pub copies_so : (xs ys t c : List (List ℕ)) → t ≡ [] → xs ≡ ys → Distinct ys → (Distinct (t ++ xs) → c ≡ t ++ xs) → c ≡ ys
copies_so xs ys t c e f d h =
    let P : List (List ℕ) → Type 0 = λ l. Distinct l in
    let s : t ++ xs ≡ ys = ap (λ l. l ++ xs) e ∙ f in
    h (subst P (sym s) d) ∙ s

-- those of the procedure with a number of a tree
pub tabled_of : (t l : Lists) (k : ℕ) (names : List (List ℕ)) (r : Routine) (a b c d : List (List ℕ)) → NumbersStandForNodes → IsTree l → t ≡ l → KeepsRules (program_of l) → k ≤ length l.procs → names ≡ dimensions (program_of l) k → routine_in t r ≡ procedure_at (program_of t) k → a ≡ []
    → (let xs = declared_names (decls_over (decls_in t) r.inputs) in Distinct (a ++ xs) → b ≡ a ++ xs)
    → (let xs = declared_names (decls_over (decls_in t) r.outputs) in Distinct (b ++ xs) → c ≡ b ++ xs)
    → (let xs = declared_names (decls_over (decls_in t) r.locals) in Distinct (c ++ xs) → d ≡ c ++ xs)
    → Tabled (program_of l) k names d
unfolding program_of
tabled_of t l k names r a b c d law i e h le n w none f g v =
    let count : length (procs_in l) ≡ length l.procs = (law l i).0.procs in
    let P : Lists → Type 0 = λ x. routine_in t r ≡ procedure_at (program_of x) k in
    tabled t (program_of l) k names r a b c d h (omega (arith, le, count)) n (subst P e w) none f g v
