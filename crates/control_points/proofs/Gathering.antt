-- The procedures of a program, one after the other.
use Rattle.std.proofs.Common.{◌≡◌, ℕ, ◌+◌, ◌-◌, ◌<◌, ◌≤◌, List, [], ◌∷◌, ◌++◌, length, take, drop, replicate, refl, sym, ap, ◌∙◌, subst, arith, append_assoc}
use Rattle.std.proofs.lemmas.List.{take_more, take_all, append-nil, take-append-drop, length-take, length-map}
use Rattle.spl_tree.specs.Lists.{Lists}
use Rattle.spl_tree.specs.Facts.{IsTree}
use Rattle.spl_tree.specs.Laws.{NumbersStandForNodes, procs_in}
use Rattle.spl_tree.specs.Meaning.{program_of}
use Rattle.spl_types.specs.Tables.{Distinct, proc_names as table_names}
use Rattle.control_points.proofs.Tabling.{procs_differ}
use Rattle.spl_tree.specs.Program.{Program, ProcMeaning}
use Rattle.spl_types.specs.Checks.{with_point, met_before, Procedure, main_procedure}
use Rattle.spl_types.specs.Dimensions.{procedures}
use Rattle.spl_types.specs.Accepted.{KeepsRules}
use Rattle.spl_core.specs.declared.parts.Proc.{Proc}
use Rattle.spl_core.specs.Graph.{Arc, Graph}
use Rattle.control_points.specs.declared.built.Fail.{Fail}
use Rattle.control_points.specs.CoreOf.{block_fails, points_by, proc_of, procedure_arcs, procs_after, owners_after, arcs_after, fails_after, proc_names, core_of, fails_of}
use Rattle.control_points.specs.Routines.{procedure_at}
use Rattle.control_points.specs.Building.{arcs_in, Building}
use Rattle.control_points.specs.Emitting.{AddsProcedure}
use Rattle.spl_core.specs.GraphFacts.{IsGraph}
use Rattle.control_points.proofs.Graphing.{end_after, two_points, end_is, procedures_count, graphs}

-- one procedure more at the end
procs_more : (n : ℕ) (us : List Procedure) (u : Procedure) → procs_after n (us ++ u ∷ []) ≡ procs_after n us ++ proc_of (end_after n us) u ∷ []
procs_more n [] u = refl
procs_more n (v ∷ us) u = ap (λ l. proc_of n v ∷ l) (procs_more (points_by n v) us u)

end_more : (n : ℕ) (us : List Procedure) (u : Procedure) → end_after n (us ++ u ∷ []) ≡ points_by (end_after n us) u
end_more n [] u = refl
end_more n (v ∷ us) u = end_more (points_by n v) us u

owners_more : (p q n : ℕ) (us : List Procedure) (u : Procedure) → q ≡ p + length us → owners_after p n (us ++ u ∷ []) ≡ owners_after p n us ++ replicate (points_by (end_after n us) u - end_after n us) q
owners_more p q n [] u e =
    let f : p ≡ q = omega (arith, e) in
    append-nil (replicate (points_by n u - n) p) ∙ ap (λ k. replicate (points_by n u - n) k) f
owners_more p q n (v ∷ us) u e =
    let m : ℕ = points_by n v in
    ap (λ l. replicate (m - n) p ++ l) (owners_more (p + 1) q m us u (omega (arith, e)))
    ∙ sym (append_assoc (replicate (m - n) p) (owners_after (p + 1) m us) (replicate (points_by (end_after m us) u - end_after m us) q))

arcs_more : (names : List (List ℕ)) (n : ℕ) (us : List Procedure) (u : Procedure) → arcs_after names n (us ++ u ∷ []) ≡ arcs_after names n us ++ procedure_arcs names (end_after n us) u
arcs_more names n [] u = append-nil (procedure_arcs names n u)
arcs_more names n (v ∷ us) u =
    let m : ℕ = points_by n v in
    ap (λ l. procedure_arcs names n v ++ l) (arcs_more names m us u) ∙ sym (append_assoc (procedure_arcs names n v) (arcs_after names m us) (procedure_arcs names (end_after m us) u))

fails_more : (n : ℕ) (us : List Procedure) (u : Procedure) → fails_after n (us ++ u ∷ []) ≡ fails_after n us ++ block_fails (with_point (met_before (end_after n us))) u.body
fails_more n [] u = append-nil (block_fails (with_point (met_before n)) u.body)
fails_more n (v ∷ us) u =
    let m : ℕ = points_by n v in
    let own : List Fail = block_fails (with_point (met_before n)) v.body in
    ap (λ l. own ++ l) (fails_more m us u) ∙ sym (append_assoc own (fails_after m us) (block_fails (with_point (met_before (end_after m us))) u.body))

-- points rise
end_rises : (n : ℕ) (us : List Procedure) → n ≤ end_after n us
end_rises n [] = omega arith
end_rises n (u ∷ us) = omega (arith, two_points n u, end_rises (points_by n u) us)

end_append : (n : ℕ) (us vs : List Procedure) → end_after n (us ++ vs) ≡ end_after (end_after n us) vs
end_append n [] vs = refl
end_append n (u ∷ us) vs = end_append (points_by n u) us vs

-- the first procedures of a program
pub record SoFar (p : Program) (k : ℕ) (b : Building) (qs : List Proc) (os : List ℕ) : Type 0 where
  pub arcs : arcs_in b.parts ≡ arcs_after (proc_names p) 0 (take k (procedures p))
  pub fails : b.fails ≡ fails_after 0 (take k (procedures p))
  pub points : b.points ≡ end_after 0 (take k (procedures p))
  pub procs : qs ≡ procs_after 0 (take k (procedures p))
  pub owners : os ≡ owners_after 0 0 (take k (procedures p))

one_more : (p : Program) (k : ℕ) → k < length (procedures p) → take (k + 1) (procedures p) ≡ take k (procedures p) ++ procedure_at p k ∷ []
one_more p k lt = take_more (procedures p) k (main_procedure p) lt

pub next_so_far : (p : Program) (k : ℕ) (names : List (List ℕ)) (b c : Building) (procs procs' : List Proc) (owners owners' : List ℕ) (q : Proc) → k < length (procedures p) → names ≡ proc_names p → q ≡ proc_of b.points (procedure_at p k) → AddsProcedure names (procedure_at p k) b c
    → procs' ≡ procs ++ q ∷ [] → owners' ≡ owners ++ replicate (c.points - b.points) k → SoFar p k b procs owners → SoFar p (k + 1) c procs' owners'
next_so_far p k names b c procs procs' owners owners' q lt e f g i j h =
    let u : Procedure = procedure_at p k in
    let us : List Procedure = take k (procedures p) in
    let n : ℕ = end_after 0 us in
    let more = one_more p k lt in
    let count : k ≡ 0 + length us = omega (arith, lt, length-take k (procedures p)) in
    record {
      arcs = g.arcs ∙ (ap (λ l. l ++ procedure_arcs names b.points u) h.arcs
          ∙ (ap (λ l. arcs_after (proc_names p) 0 us ++ procedure_arcs l b.points u) e
          ∙ (ap (λ m. arcs_after (proc_names p) 0 us ++ procedure_arcs (proc_names p) m u) h.points
          ∙ (sym (arcs_more (proc_names p) 0 us u) ∙ ap (λ l. arcs_after (proc_names p) 0 l) (sym more)))));
      fails = g.fails ∙ (ap (λ l. l ++ block_fails (with_point (met_before b.points)) u.body) h.fails
          ∙ (ap (λ m. fails_after 0 us ++ block_fails (with_point (met_before m)) u.body) h.points
          ∙ (sym (fails_more 0 us u) ∙ ap (λ l. fails_after 0 l) (sym more))));
      points = g.points ∙ (ap (λ m. points_by m u) h.points ∙ (sym (end_more 0 us u) ∙ ap (λ l. end_after 0 l) (sym more)));
      procs = i ∙ (ap (λ l. l ++ q ∷ []) h.procs
          ∙ (ap (λ x. procs_after 0 us ++ x ∷ []) (f ∙ ap (λ m. proc_of m u) h.points)
          ∙ (sym (procs_more 0 us u) ∙ ap (λ l. procs_after 0 l) (sym more))));
      owners = j ∙ (ap (λ l. l ++ replicate (c.points - b.points) k) h.owners
          ∙ (ap (λ m. owners_after 0 0 us ++ replicate (m - b.points) k) (g.points ∙ ap (λ m. points_by m u) h.points)
          ∙ (ap (λ m. owners_after 0 0 us ++ replicate (points_by n u - m) k) h.points
          ∙ (sym (owners_more 0 k 0 us u count) ∙ ap (λ l. owners_after 0 0 l) (sym more)))));
    }

-- the limits at the next one
pub next_few : (p : Program) (k : ℕ) (b : Building) (procs : List Proc) (owners : List ℕ) → KeepsRules p → k < length (procedures p) → SoFar p k b procs owners → points_by b.points (procedure_at p k) ≤ 4096
next_few p k b procs owners a lt h =
    let u : Procedure = procedure_at p k in
    let us : List Procedure = procedures p in
    let rest : List Procedure = drop (k + 1) us in
    let whole : end_after 0 us ≡ end_after (end_after 0 (take (k + 1) us)) rest = ap (λ l. end_after 0 l) (sym (take-append-drop (k + 1) us)) ∙ end_append 0 (take (k + 1) us) rest in
    let here : end_after 0 (take (k + 1) us) ≡ points_by b.points u = ap (λ l. end_after 0 l) (one_more p k lt) ∙ (end_more 0 (take k us) u ∙ ap (λ m. points_by m u) (sym h.points)) in
    omega (arith, whole, here, end_rises (end_after 0 (take (k + 1) us)) rest, end_is 0 p.procs (main_procedure p), a.points)

-- all of them
pub all_so_far : (p : Program) (k : ℕ) (b : Building) (procs : List Proc) (owners : List ℕ) → length (procedures p) ≤ k → SoFar p k b procs owners → (record { procs = procs; owners = owners; arcs = arcs_in b.parts } ≡ core_of p) × (b.fails ≡ fails_of p)
unfolding core_of fails_of
all_so_far p k b procs owners le h =
    let us : List Procedure = procedures p in
    let t : take k us ≡ us = take_all k us le in
    let G : List Proc → List ℕ → List Arc → Graph = λ x y z. record { procs = x; owners = y; arcs = z } in (
      ap (λ x. G x owners (arcs_in b.parts)) (h.procs ∙ ap (λ l. procs_after 0 l) t)
          ∙ (ap (λ y. G (procs_after 0 us) y (arcs_in b.parts)) (h.owners ∙ ap (λ l. owners_after 0 0 l) t)
          ∙ ap (λ z. G (procs_after 0 us) (owners_after 0 0 us) z) (h.arcs ∙ ap (λ l. arcs_after (proc_names p) 0 l) t)),
      h.fails ∙ ap (λ l. fails_after 0 l) t,
    )

pub graph_kept : (p : Program) (g : Graph) → KeepsRules p → g ≡ core_of p → IsGraph g
graph_kept p g a e = let P : Graph → Type 0 = λ x. IsGraph x in subst P (sym e) (graphs p a)

-- of a tree
pub tree_procedures : (l : Lists) → IsTree l → NumbersStandForNodes → length (procedures (program_of l)) ≡ length l.procs + 1
unfolding program_of
tree_procedures l i law = omega (arith, procedures_count (program_of l), (law l i).0.procs)

pub table_is : (t l : Lists) (names : List (List ℕ)) → t ≡ l → KeepsRules (program_of l) → (Distinct (table_names (procs_in t)) → names ≡ table_names (procs_in t)) → (names ≡ proc_names (program_of l)) × (length names ≤ 256)
unfolding program_of
table_is t l names e a h =
    let P : Lists → Type 0 = λ x. Distinct (table_names (procs_in x)) → names ≡ table_names (procs_in x) in
    let is : names ≡ proc_names (program_of l) = subst P e h (procs_differ (program_of l) a) in
    (is, omega (arith, ap length is, length-map (procs_in l) (λ (q : ProcMeaning). q.name.name), a.procs))

pub points_rise : (names : List (List ℕ)) (u : Procedure) (b c : Building) → AddsProcedure names u b c → b.points ≤ c.points
points_rise names u b c h = omega (arith, h.points, two_points b.points u)
