-- A whole program, procedure by procedure.
use Rattle.std.proofs.Common.{◌≡◌, ℕ, suc, zero, ◌+◌, ◌<◌, ◌≤◌, Bool, List, [], ◌∷◌, ◌++◌, length, take, drop, map, get_or, Result, Ok, Err, None, IsErrAnd, IfErr, refl, sym, ap, ◌∙◌, subst, arith, append_assoc, length-append}
use Rattle.std.proofs.lemmas.List.{take_more, length-map, map-append, append-nil, get_or-map}
use Rattle.std.proofs.lemmas.List.Sums.{length-filter}
use Rattle.spl_tree.specs.Program.{Declared, StmtTree, skip, halt, fail, assume, assign, call, if_then, if_else, while_do, BlockTree, empty, more, ProcMeaning, Program}
use Rattle.spl_types.specs.declared.fault.CheckFault.{CheckFault}
use Rattle.spl_types.specs.declared.fault.CheckFault.TheVariants.{Broken, NoMemory}
use Rattle.spl_types.specs.declared.scope.Copies.{Copies}
use Rattle.spl_types.specs.declared.scope.Walk.{Walk}
use Rattle.spl_types.specs.Checks.{Check, first_broken, broken_rule, checks, is_among, declared_names, plain_names, Met, with_point, met_in, met_by, met_before, met_by_end, dimension_count, Procedure, procedure_of, main_procedure, procedure_checks, proc_checks, points_after, all_decls, scope_of}
use Rattle.spl_types.specs.Dimensions.{targets_in, input_name, copied, dimensions_of, procedures, dimensions}
use Rattle.spl_types.specs.Faults.{Kept, Faulted, AnswersWith}
use Rattle.spl_types.specs.Tables.{proc_names}
use Rattle.spl_types.specs.Walking.{HasMet}
use Rattle.spl_types.specs.Routines.{named_checks}
use Rattle.spl_types.specs.Accepted.{IsCheckFaultOf, KeepsRules, copies_of, copies_in}
use Rattle.spl_types.proofs.Firsts.{kept_append, faulted_then, faulted_first, kept_of, fault_of}
use Rattle.spl_types.proofs.Calling.{split_at}
use Rattle.spl_types.proofs.Numbering.{no_proc}

-- the targets that were met don't depend on the points
mutual
  same_in : (m n : Met) (s : StmtTree) → m.targets ≡ n.targets → (met_in m s).targets ≡ (met_in n s).targets
  same_in m n (skip at) h = h
  same_in m n (halt at) h = h
  same_in m n (fail at) h = h
  same_in m n (assume e at) h = h
  same_in m n (assign x e at) h = ap (λ ts. ts ++ x ∷ []) h
  same_in m n (call targets called args at) h = ap (λ ts. ts ++ plain_names targets) h
  same_in m n (if_then e a at) h = same_by m n a h
  same_in m n (if_else e a b at) h = same_by (met_by m a) (met_by n a) b (same_by m n a h)
  same_in m n (while_do e a at) h = same_by m n a h

  same_by : (m n : Met) (b : BlockTree) → m.targets ≡ n.targets → (met_by m b).targets ≡ (met_by n b).targets
  same_by m n empty h = h
  same_by m n (more b s) h = same_in (met_by m b) (met_by n b) s (same_by m n b h)

pub targets_same : (points : ℕ) (u : Procedure) → (met_by_end points u).targets ≡ targets_in u
targets_same points u = same_by (with_point (met_before points)) (with_point (met_before 0)) u.body refl

-- how many dimensions
pub dims_count : (u : Procedure) → length (dimensions_of u) ≡ length (declared_names (all_decls u)) + length (copied u)
unfolding dimensions_of
dims_count u =
    let ins : List (List ℕ) = declared_names u.inputs in
    let named : List (List ℕ) = map (input_name (targets_in u)) ins in
    let a = length-map ins (input_name (targets_in u)) in
    let b = length-append named (declared_names u.outputs ++ (declared_names u.locals ++ copied u)) in
    let d = length-append (declared_names u.outputs) (declared_names u.locals ++ copied u) in
    let e = length-append (declared_names u.locals) (copied u) in
    let g = length-map (all_decls u) (λ (x : Declared). x.name.name) in
    let h = length-append u.inputs (u.outputs ++ u.locals) in
    let i = length-append u.outputs u.locals in
    let j = length-map u.inputs (λ (x : Declared). x.name.name) in
    let k = length-map u.outputs (λ (x : Declared). x.name.name) in
    let l = length-map u.locals (λ (x : Declared). x.name.name) in
    omega arith

length-dimensions : (procs : List ProcMeaning) (u : Procedure) → length (dimensions_of u) ≡ dimension_count (scope_of procs u) (targets_in u)
length-dimensions procs u =
    let c = dims_count u in
    let f = length-filter (λ x. is_among x (targets_in u)) (declared_names u.inputs) in
    let g = length-map (all_decls u) (λ (x : Declared). x.name.name) in
    omega arith

-- what is stored of a procedure that was walked
pub stored_so : (procs : List ProcMeaning) (u : Procedure) (points : ℕ) (w : Walk) → HasMet (scope_of procs u) (met_by_end points u) w → (w.copies.assigned.items, w.copies.dims) ≡ copies_of u
stored_so procs u points w h =
    let e = targets_same points u in
    let a : w.copies.assigned.items ≡ map (λ x. is_among x (targets_in u)) (declared_names u.inputs) = h.assigned ∙ ap (λ ts. map (λ x. is_among x ts) (declared_names u.inputs)) e in
    let d : w.copies.dims ≡ length (dimensions_of u) = h.dims ∙ (ap (λ ts. dimension_count (scope_of procs u) ts) e ∙ sym (length-dimensions procs u)) in
    ap (λ l. (l, w.copies.dims)) a ∙ ap (λ n. (map (λ x. is_among x (targets_in u)) (declared_names u.inputs), n)) d

-- procedures one after the other
points_append : (n : ℕ) (xs ys : List ProcMeaning) → points_after n (xs ++ ys) ≡ points_after (points_after n xs) ys
points_append n [] ys = refl
points_append n (x ∷ xs) ys = points_append (met_by_end n (procedure_of x)).points xs ys

procs_append : (procs : List ProcMeaning) (e : List (List ℕ)) (n : ℕ) (xs ys : List ProcMeaning) → proc_checks procs e n (xs ++ ys) ≡ proc_checks procs e n xs ++ proc_checks procs (e ++ proc_names xs) (points_after n xs) ys
procs_append procs e n [] ys = ap (λ l. proc_checks procs l n ys) (sym (append-nil e))
procs_append procs e n (x ∷ xs) ys =
    let m : ℕ = (met_by_end n (procedure_of x)).points in
    ap (λ l. named_checks procs e n x ++ l) (procs_append procs (e ++ x.name.name ∷ []) m xs ys ∙ ap (λ l. proc_checks procs (e ++ x.name.name ∷ []) m xs ++ proc_checks procs l (points_after m xs) ys) (append_assoc e (x.name.name ∷ []) (proc_names xs)))
    ∙ sym (append_assoc (named_checks procs e n x) (proc_checks procs (e ++ x.name.name ∷ []) m xs) (proc_checks procs (e ++ proc_names (x ∷ xs)) (points_after n (x ∷ xs)) ys))

-- the procedures so far
pub record ProcsSoFar (procs : List ProcMeaning) (p points : ℕ) (cs : List Copies) : Type 0 where
  pub kept : Kept (proc_checks procs [] 0 (take p procs))
  pub met : points ≡ points_after 0 (take p procs)
  pub few : points ≤ 4096
  pub some : p ≤ 256
  pub stored : copies_in cs ≡ map copies_of (map procedure_of (take p procs))

abbrev pub NextProc : List ProcMeaning → ℕ → ℕ → Result Walk CheckFault → Type 0
NextProc procs p points r = (d : ProcMeaning) → AnswersWith r (named_checks procs (proc_names (take p procs)) points (get_or procs p d)) (λ w. (p < 256) × HasMet (scope_of procs (procedure_of (get_or procs p d))) (met_by_end points (procedure_of (get_or procs p d))) w)

-- the checks of one more, and of all after the first
one_more_checks : (procs : List ProcMeaning) (p points : ℕ) → p < length procs → points ≡ points_after 0 (take p procs) → proc_checks procs [] 0 (take (p + 1) procs) ≡ proc_checks procs [] 0 (take p procs) ++ named_checks procs (proc_names (take p procs)) points (get_or procs p no_proc)
one_more_checks procs p points lt e =
    let x : ProcMeaning = get_or procs p no_proc in
    ap (λ l. proc_checks procs [] 0 l) (take_more procs p no_proc lt)
    ∙ (procs_append procs [] 0 (take p procs) (x ∷ [])
    ∙ (ap (λ n. proc_checks procs [] 0 (take p procs) ++ proc_checks procs (proc_names (take p procs)) n (x ∷ [])) (sym e)
    ∙ ap (λ l. proc_checks procs [] 0 (take p procs) ++ l) (append-nil (named_checks procs (proc_names (take p procs)) points x))))

pub one_proc_more : (procs : List ProcMeaning) (p points points' : ℕ) (cs cs' : List Copies) (r : Result Walk CheckFault) (w : Walk) → p < length procs → r ≡ Ok w → NextProc procs p points r → points' ≡ w.points → points' ≤ 4096 → copies_in cs' ≡ copies_in cs ++ (w.copies.assigned.items, w.copies.dims) ∷ [] → ProcsSoFar procs p points cs → ProcsSoFar procs (p + 1) points' cs'
one_proc_more procs p points points' cs cs' r w lt o g e few s h =
    let x : ProcMeaning = get_or procs p no_proc in
    let u : Procedure = procedure_of x in
    let q : Kept (named_checks procs (proc_names (take p procs)) points x) × ((p < 256) × HasMet (scope_of procs u) (met_by_end points u) w) =
    kept_of r (named_checks procs (proc_names (take p procs)) points x) (λ v. (p < 256) × HasMet (scope_of procs u) (met_by_end points u) v) w o (g no_proc) in
    let after : points_after 0 (take (p + 1) procs) ≡ (met_by_end points u).points =
    ap (λ l. points_after 0 l) (take_more procs p no_proc lt) ∙ (points_append 0 (take p procs) (x ∷ []) ∙ ap (λ n. (met_by_end n u).points) (sym h.met)) in
    let stored : copies_in cs' ≡ map copies_of (map procedure_of (take (p + 1) procs)) =
    s ∙ (ap (λ l. l ++ (w.copies.assigned.items, w.copies.dims) ∷ []) h.stored
    ∙ (ap (λ c. map copies_of (map procedure_of (take p procs)) ++ c ∷ []) (stored_so procs u points w q.1.1)
    ∙ (sym (map-append copies_of (map procedure_of (take p procs)) (u ∷ []))
    ∙ (ap (λ l. map copies_of l) (sym (map-append procedure_of (take p procs) (x ∷ [])))
    ∙ ap (λ l. map copies_of (map procedure_of l)) (sym (take_more procs p no_proc lt)))))) in
    let lower : p < 256 = q.1.0 in
    record {
      kept = ap first_broken (one_more_checks procs p points lt h.met) ∙ kept_append (proc_checks procs [] 0 (take p procs)) (named_checks procs (proc_names (take p procs)) points x) h.kept q.0;
      met = e ∙ (q.1.1.points ∙ sym after);
      few = few;
      some = omega (arith, lower);
      stored = stored;
    }

pub next_proc_fault : (procs : List ProcMeaning) (p points : ℕ) (cs : List Copies) (r : Result Walk CheckFault) (y : CheckFault) → p < length procs → r ≡ Err y → NextProc procs p points r → ProcsSoFar procs p points cs → Faulted (proc_checks procs [] 0 procs) y
next_proc_fault procs p points cs r y lt o g h =
    let x : ProcMeaning = get_or procs p no_proc in
    let u : Procedure = procedure_of x in
    let so : List (List ℕ) = proc_names (take p procs) in
    let f : Faulted (named_checks procs so points x) y = fault_of r (named_checks procs so points x) (λ v. (p < 256) × HasMet (scope_of procs u) (met_by_end points u) v) y o (g no_proc) in
    let rest : List Check = proc_checks procs (so ++ x.name.name ∷ []) (met_by_end points u).points (drop (suc p) procs) in
    let q : proc_checks procs [] 0 procs ≡ proc_checks procs [] 0 (take p procs) ++ (named_checks procs so points x ++ rest) =
    ap (λ l. proc_checks procs [] 0 l) (split_at procs p no_proc lt)
    ∙ (procs_append procs [] 0 (take p procs) (x ∷ drop (suc p) procs)
    ∙ ap (λ n. proc_checks procs [] 0 (take p procs) ++ proc_checks procs so n (x ∷ drop (suc p) procs)) (sym h.met)) in
    let P : List Check → Type 0 = λ l. Faulted l y in
    subst P (sym q) (faulted_then (proc_checks procs [] 0 (take p procs)) (named_checks procs so points x ++ rest) y h.kept (faulted_first (named_checks procs so points x) rest y f))

-- copies by their numbers
small_at : (cs : List Copies) (k : ℕ) (d : List Bool × ℕ) → k < length cs → (get_or (copies_in cs) k d).1 ≤ 128
small_at [] k d lt = absurd (omega arith)
small_at (c ∷ cs) zero d lt = c.small
small_at (c ∷ cs) (suc k) d lt = small_at cs k d (omega arith)

pub at_copies : (p : Program) (cs : List Copies) (k : ℕ) (d : List Bool × ℕ) → copies_in cs ≡ map copies_of (procedures p) → k ≤ length p.procs → (k < length cs) × (get_or (copies_in cs) k d ≡ copies_of (get_or (procedures p) k (main_procedure p)))
at_copies p cs k d e le =
    let a = ap length e in
    let b = length-map (procedures p) copies_of in
    let f = length-append (map procedure_of p.procs) (main_procedure p ∷ []) in
    let g = length-map p.procs procedure_of in
    let h : length (copies_in cs) ≡ length cs = length-map cs (λ (c : Copies). (c.assigned.items, c.dims)) in
    let l : k < length (procedures p) = omega (arith, le) in
    (omega (arith, le), ap (λ l. get_or l k d) e ∙ get_or-map copies_of (procedures p) k (main_procedure p) d l)

pub few_dims : (p : Program) (cs : List Copies) (k : ℕ) → copies_in cs ≡ map copies_of (procedures p) → k ≤ length p.procs → length (dimensions p k) ≤ 128
unfolding dimensions
few_dims p cs k e le =
    let q = at_copies p cs k ([], 0) e le in
    let s = small_at cs k ([], 0) q.0 in
    omega (arith, s, ap (λ (c : List Bool × ℕ). c.1) q.1)

-- a fault of the procedures, and one of main
pub fault_of_procs : (p : Program) (y : CheckFault) → Faulted (proc_checks p.procs [] 0 p.procs) y → IsCheckFaultOf p y
unfolding checks
fault_of_procs p (Broken rule at) h = faulted_first (proc_checks p.procs [] 0 p.procs) (procedure_checks p.procs (points_after 0 p.procs) (main_procedure p)) (Broken rule at) h
fault_of_procs p NoMemory h = h

pub fault_of_main : (p : Program) (points : ℕ) (u : Procedure) (y : CheckFault) → points ≡ points_after 0 p.procs → u ≡ main_procedure p → Kept (proc_checks p.procs [] 0 p.procs) → Faulted (procedure_checks p.procs points u) y → IsCheckFaultOf p y
unfolding checks
fault_of_main p points u (Broken rule at) e f k h =
    let P : ℕ → Type 0 = λ n. Faulted (procedure_checks p.procs n (main_procedure p)) (Broken rule at) in
    let Q : Procedure → Type 0 = λ v. Faulted (procedure_checks p.procs points v) (Broken rule at) in
    faulted_then (proc_checks p.procs [] 0 p.procs) (procedure_checks p.procs (points_after 0 p.procs) (main_procedure p)) (Broken rule at) k (subst P e (subst Q f h))
fault_of_main p points u NoMemory e f k h = tt

pub exit_fault : {X : Type 0} (p : Program) (r : Result X CheckFault) (y : CheckFault) → IsErrAnd r (λ z. z ≡ y) → IsCheckFaultOf p y → IfErr r (IsCheckFaultOf p)
exit_fault p (Ok v) y e h = absurd e
exit_fault p (Err z) y e h = let F : CheckFault → Type 0 = λ x. IsCheckFaultOf p x in subst F (sym e) h

-- all is kept
pub record AllKept (p : Program) (cs : List Copies) (w : Walk) : Type 0 where
  pub unbroken : broken_rule p ≡ None
  pub met : HasMet (scope_of p.procs (main_procedure p)) (met_by_end (points_after 0 p.procs) (main_procedure p)) w

pub all_kept : (p : Program) (points : ℕ) (u : Procedure) (cs : List Copies) (w : Walk) → points ≡ points_after 0 p.procs → u ≡ main_procedure p → Kept (proc_checks p.procs [] 0 p.procs) → Kept (procedure_checks p.procs points u) × HasMet (scope_of p.procs u) (met_by_end points u) w → AllKept p cs w
unfolding checks
all_kept p points u cs w e f k h =
    let P : ℕ → Type 0 = λ n. Kept (procedure_checks p.procs n (main_procedure p)) × HasMet (scope_of p.procs (main_procedure p)) (met_by_end n (main_procedure p)) w in
    let Q : Procedure → Type 0 = λ v. Kept (procedure_checks p.procs points v) × HasMet (scope_of p.procs v) (met_by_end points v) w in
    let q = subst P e (subst Q f h) in
    record {
      unbroken = kept_append (proc_checks p.procs [] 0 p.procs) (procedure_checks p.procs (points_after 0 p.procs) (main_procedure p)) k q.0;
      met = q.1;
    }

pub all_stored : (p : Program) (cs cs' : List Copies) (w : Walk) → AllKept p cs w → copies_in cs ≡ map copies_of (map procedure_of p.procs) → copies_in cs' ≡ copies_in cs ++ (w.copies.assigned.items, w.copies.dims) ∷ [] → copies_in cs' ≡ map copies_of (procedures p)
all_stored p cs cs' w k s e =
    e ∙ (ap (λ l. l ++ (w.copies.assigned.items, w.copies.dims) ∷ []) s
    ∙ (ap (λ c. map copies_of (map procedure_of p.procs) ++ c ∷ []) (stored_so p.procs (main_procedure p) (points_after 0 p.procs) w k.met)
    ∙ sym (map-append copies_of (map procedure_of p.procs) (main_procedure p ∷ []))))

pub accepted : (p : Program) (cs cs' : List Copies) (w : Walk) → AllKept p cs w → length p.procs ≤ 256 → copies_in cs' ≡ map copies_of (procedures p) → KeepsRules p
accepted p cs cs' w k n e = record {
  unbroken = k.unbroken;
  procs = n;
  points = omega (arith, w.few, k.met.points);
  dims = λ j le. few_dims p cs' j e le;
}
