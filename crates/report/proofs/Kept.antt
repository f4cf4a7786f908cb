-- What the checks keep of the names that a procedure declares.
use Rattle.std.proofs.Common.{◌≡◌, ℕ, Bool, true, false, not, if◌then◌else◌, List, [], ◌∷◌, ◌++◌, Some, None, refl, sym, subst, append_assoc, nat_lt, length, map}
use Rattle.std.specs.List.{All, IsDistinct}
use Rattle.std.specs.Str.{bytes_eq}
use Rattle.std.proofs.lemmas.Bool.{not-true}
use Rattle.std.proofs.lemmas.Cmp.{nat_list_eq_equiv}
use Rattle.std.proofs.lemmas.List.{append-nil}
use Rattle.std.proofs.lemmas.List.Elements.{All-nil, All-cons, All-push}
use Rattle.std.proofs.lemmas.Map.Keys.{IsDistinct-push}
use Rattle.spl_tree.specs.Program.{Declared, ProcMeaning, Program}
use Rattle.spl_types.specs.declared.fault.CheckRule.TheVariants.{TooManyVariables, DuplicateName, UnsupportedType, TooManyProcedures}
use Rattle.spl_types.specs.Checks.{Check, check, is_among, is_int, first_broken, most_dimensions, most_procedures, declared_names, decl_checks, Procedure, procedure_of, main_procedure, all_decls, met_by_end, procedure_checks, proc_checks, points_after, checks, broken_rule}
use Rattle.spl_types.specs.Dimensions.{procedures}

-- of checks that are all kept, each is
kept_head : (c : Check) (cs : List Check) → first_broken (c ∷ cs) ≡ None → (c.kept ≡ true) × (first_broken cs ≡ None)
kept_head c cs h = by c.kept refl h
  where
    by : (b : Bool) → c.kept ≡ b → (if b then first_broken cs else Some (c.rule, c.at)) ≡ None → (c.kept ≡ true) × (first_broken cs ≡ None)
    by true e h = (e, h)
    by false e h = absurd cc

kept_parts : (xs ys : List Check) → first_broken (xs ++ ys) ≡ None → (first_broken xs ≡ None) × (first_broken ys ≡ None)
kept_parts [] ys h = (refl, h)
kept_parts (x ∷ xs) ys h =
    let a = kept_head x (xs ++ ys) h in
    let b = kept_parts xs ys a.1 in
    (rw a.0 b.0, b.1)

-- a declaration that is kept has a new name, and those after it are kept
decl_kept : (earlier : List (List ℕ)) (d : Declared) (ds : List Declared) → first_broken (decl_checks earlier (d ∷ ds)) ≡ None
    → (is_among d.name.name earlier ≡ false) × (first_broken (decl_checks (earlier ++ d.name.name ∷ []) ds) ≡ None)
decl_kept earlier d ds h =
    let rest : List Check = decl_checks (earlier ++ d.name.name ∷ []) ds in
    let kind : Check = check UnsupportedType d.kind_at (is_int d.kind) in
    let twice : Check = check DuplicateName d.name.at (not (is_among d.name.name earlier)) in
    let many : Check = check TooManyVariables d.name.at (nat_lt (length earlier) most_dimensions) in
    let a = kept_head many (twice ∷ kind ∷ rest) h in
    let b = kept_head twice (kind ∷ rest) a.1 in
    let c = kept_head kind rest b.1 in
    (not-true (is_among d.name.name earlier) b.0, c.1)

-- declarations that are kept have names that differ, from earlier ones too
distinct_decls : (earlier : List (List ℕ)) (ds : List Declared) → IsDistinct bytes_eq earlier → first_broken (decl_checks earlier ds) ≡ None → IsDistinct bytes_eq (earlier ++ declared_names ds)
distinct_decls earlier [] h e = subst (IsDistinct bytes_eq) (sym (append-nil earlier)) h
distinct_decls earlier (d ∷ ds) h e =
    let kept = decl_kept earlier d ds e in
    let more : IsDistinct bytes_eq (earlier ++ d.name.name ∷ []) = IsDistinct-push nat_list_eq_equiv earlier d.name.name h kept.0 in
    subst (IsDistinct bytes_eq) (append_assoc earlier (d.name.name ∷ []) (declared_names ds)) (distinct_decls (earlier ++ d.name.name ∷ []) ds more kept.1)

nothing_distinct : IsDistinct bytes_eq []
unfolding IsDistinct
nothing_distinct = tt

abbrev pub DeclaresDistinct : Procedure → Type 0
DeclaresDistinct u = IsDistinct bytes_eq (declared_names (all_decls u))

procedure_distinct : (procs : List ProcMeaning) (points : ℕ) (u : Procedure) → first_broken (procedure_checks procs points u) ≡ None → DeclaresDistinct u
procedure_distinct procs points u h = distinct_decls [] (all_decls u) nothing_distinct (kept_parts (decl_checks [] (all_decls u)) _ h).0

procs_distinct : (procs : List ProcMeaning) (earlier : List (List ℕ)) (points : ℕ) (ps : List ProcMeaning) → first_broken (proc_checks procs earlier points ps) ≡ None
    → All DeclaresDistinct (map procedure_of ps)
procs_distinct procs earlier points [] h = All-nil DeclaresDistinct
procs_distinct procs earlier points (q ∷ qs) h =
    let later = proc_checks procs (earlier ++ q.name.name ∷ []) (met_by_end points (procedure_of q)).points qs in
    let many : Check = check TooManyProcedures q.name.at (nat_lt (length earlier) most_procedures) in
    let twice : Check = check DuplicateName q.name.at (not (is_among q.name.name earlier)) in
    let a = kept_head many (twice ∷ (procedure_checks procs points (procedure_of q) ++ later)) h in
    let b = kept_head twice (procedure_checks procs points (procedure_of q) ++ later) a.1 in
    let c = kept_parts (procedure_checks procs points (procedure_of q)) later b.1 in
    All-cons DeclaresDistinct (procedure_of q) (map procedure_of qs) (procedure_distinct procs points (procedure_of q) c.0)
    (procs_distinct procs (earlier ++ q.name.name ∷ []) (met_by_end points (procedure_of q)).points qs c.1)

-- in a program that keeps all checks, each procedure declares names that differ
pub all_distinct : (p : Program) → broken_rule p ≡ None → All DeclaresDistinct (procedures p)
unfolding checks
all_distinct p h =
    let k = kept_parts (proc_checks p.procs [] 0 p.procs) (procedure_checks p.procs (points_after 0 p.procs) (main_procedure p)) h in
    All-push DeclaresDistinct (map procedure_of p.procs) (main_procedure p) (procs_distinct p.procs [] 0 p.procs k.0)
    (procedure_distinct p.procs (points_after 0 p.procs) (main_procedure p) k.1)
