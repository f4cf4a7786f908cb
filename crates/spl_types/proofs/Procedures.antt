-- Procedures by their parts.
use Rattle.std.proofs.Common.{◌≡◌, ℕ, suc, zero, ◌+◌, ◌<◌, ◌≤◌, Bool, true, false, not, ◌||◌, eqb, nat_lt, List, [], ◌∷◌, ◌++◌, length, take, map, get_or, Some, None, Result, Ok, Err, refl, sym, ap, ◌∙◌, subst, arith, append_assoc, length-append, eq-eqb, ne_eqb, ◌⊎◌, inl, inr}
use Rattle.std.specs.List.{list_any}
use Rattle.std.specs.Str.{bytes_eq}
use Rattle.std.proofs.Math.ListN.{get_or-append}
use Rattle.std.proofs.lemmas.Bool.{ltb-true}
use Rattle.std.proofs.lemmas.List.{length-map, map-append, get_or_push, get_or-map, get_or-take, length-take, take-append-le, take_all}
use Rattle.spl_tree.specs.Program.{Declared, ProcMeaning}
use Rattle.spl_types.specs.declared.fault.CheckFault.{CheckFault}
use Rattle.spl_types.specs.declared.fault.CheckRule.TheVariants.{TooManyVariables, TooManyProcedures, DuplicateName, UnsupportedType}
use Rattle.spl_types.specs.Checks.{Check, check, first_broken, Scope, is_among, is_int, most_dimensions, most_procedures, declared_names, decl_checks, Procedure, procedure_of, procedure_checks, all_decls, scope_of}
use Rattle.spl_types.specs.declared.scope.Walk.{Walk}
use Rattle.spl_types.specs.Routines.{named_checks}
use Rattle.spl_types.specs.Faults.{Kept, Faulted, AnswersWith}
use Rattle.spl_types.specs.Tables.{number_in, Numbers, proc_names}
use Rattle.spl_types.proofs.Firsts.{kept_append, kept_first, kept_last, faulted_then, faulted_first}
use Rattle.spl_types.proofs.Places.{FirstAt, any_along, place_along, place_found, place_none}
use Rattle.spl_types.proofs.Copying.{eq_refl}
use Rattle.spl_types.proofs.Calling.{kept_one}
use Rattle.spl_types.proofs.Numbering.{no_proc}
use Rattle.spl_types.proofs.Declaring.{decls_append}

-- a procedure by its number, main last
pub at_proc : (procs : List ProcMeaning) (m : Procedure) (p : ℕ) → p < length procs → get_or (map procedure_of procs ++ m ∷ []) p m ≡ procedure_of (get_or procs p no_proc)
at_proc procs m p lt = get_or-append (map procedure_of procs) (m ∷ []) m p (omega (arith, length-map procs procedure_of)) ∙ get_or-map procedure_of procs p no_proc m lt

pub at_main : (procs : List ProcMeaning) (m : Procedure) (p : ℕ) → p ≡ length procs → get_or (map procedure_of procs ++ m ∷ []) p m ≡ m
at_main procs m p e = get_or_push (map procedure_of procs) m m p (omega (arith, length-map procs procedure_of))

-- whether a procedure is the first with its name
any_at : {X : Type 0} (p : X → Bool) (xs : List X) (k : ℕ) (d : X) → k < length xs → p (get_or xs k d) ≡ true → list_any p xs ≡ true
any_at p [] k d lt h = absurd (omega arith)
any_at p (x ∷ xs) zero d lt h = ap (λ b. b || list_any p xs) h
any_at p (x ∷ xs) (suc k) d lt h = ap (λ b. p x || b) (any_at p xs k d (omega arith) h) ∙ by (p x)
  where
    by : (b : Bool) → (b || true) ≡ true
    by true = refl
    by false = refl

no_true : true ≡ false → ⊥
no_true q = cc

own_passes : (procs : List ProcMeaning) (x : List ℕ) (p : ℕ) → x ≡ (get_or procs p no_proc).name.name → bytes_eq x (get_or procs p no_proc).name.name ≡ true
own_passes procs x p e = ap (λ y. bytes_eq x y) (sym e) ∙ eq_refl x

among_names : (procs : List ProcMeaning) (x : List ℕ) → is_among x (proc_names procs) ≡ list_any (λ (q : ProcMeaning). bytes_eq x q.name.name) procs
among_names procs x = sym (any_along (λ (q : ProcMeaning). bytes_eq x q.name.name) (bytes_eq x) (λ (q : ProcMeaning). q.name.name) procs (λ q. refl))

order : (p k : ℕ) → (k ≡ p) ⊎ ((k < p) ⊎ (p < k))
order p k = grind arith

-- the number that a table gives to a name is that of the first procedure with it
pub first_found : (procs : List ProcMeaning) (table : List (List ℕ × ℕ)) (x : List ℕ) (p k : ℕ) → p < length procs → x ≡ (get_or procs p no_proc).name.name → Numbers table (proc_names procs) → number_in x table ≡ Some k → eqb k p ≡ not (is_among x (proc_names (take p procs)))
first_found procs table x p k lt e h n = by (order p k)
    (place_found (λ (q : ProcMeaning). bytes_eq x q.name.name) procs k no_proc (place_along (λ (q : ProcMeaning). bytes_eq x q.name.name) (bytes_eq x) (λ (q : ProcMeaning). q.name.name) procs (λ q. refl) ∙ (sym (h x) ∙ n)))
  where
    by : (k ≡ p) ⊎ ((k < p) ⊎ (p < k)) → FirstAt (λ (q : ProcMeaning). bytes_eq x q.name.name) procs no_proc k → eqb k p ≡ not (is_among x (proc_names (take p procs)))
    by (inl s) f = eq-eqb k p s ∙ sym (ap not (among_names (take p procs) x ∙ f.before p (omega (arith, s))))
    by (inr (inl l)) f = ne_eqb k p (λ s. absurd (omega (arith, s, l))) ∙ sym (ap not (among_names (take p procs) x ∙ f.among p l))
    by (inr (inr l)) f =
        let count : length (take (p + 1) procs) ≡ p + 1 = omega (arith, length-take (p + 1) procs) in
        let there : get_or (take (p + 1) procs) p no_proc ≡ get_or procs p no_proc = get_or-take (p + 1) procs p no_proc (omega arith) in
        let passes = ap (λ (q : ProcMeaning). bytes_eq x q.name.name) there ∙ own_passes procs x p e in
        absurd (no_true (sym (any_at (λ (q : ProcMeaning). bytes_eq x q.name.name) (take (p + 1) procs) p no_proc (omega (arith, count)) passes) ∙ f.before (p + 1) (omega (arith, l))))

pub first_missing : (procs : List ProcMeaning) (table : List (List ℕ × ℕ)) (x : List ℕ) (p : ℕ) → p < length procs → x ≡ (get_or procs p no_proc).name.name → Numbers table (proc_names procs) → number_in x table ≡ None → ⊥
first_missing procs table x p lt e h n =
    let test : ProcMeaning → Bool = λ q. bytes_eq x q.name.name in
    let none = place_none test procs (place_along test (bytes_eq x) (λ (q : ProcMeaning). q.name.name) procs (λ q. refl) ∙ (sym (h x) ∙ n)) in
    no_true (sym (any_at test procs p no_proc lt (own_passes procs x p e)) ∙ none)

-- declarations that are kept are few
pub few_decls : (e : List (List ℕ)) (ds : List Declared) → length e ≤ 128 → Kept (decl_checks e ds) → length e + length ds ≤ 128
few_decls e [] le h = omega arith
few_decls e (d ∷ ds) le h =
    let room : check TooManyVariables d.name.at (nat_lt (length e) most_dimensions) ∷ (check DuplicateName d.name.at (not (is_among d.name.name e)) ∷ check UnsupportedType d.kind_at (is_int d.kind) ∷ decl_checks (e ++ d.name.name ∷ []) ds) ≡ decl_checks e (d ∷ ds) = refl in
    let first = kept_one TooManyVariables d.name.at (nat_lt (length e) most_dimensions) (kept_first (check TooManyVariables d.name.at (nat_lt (length e) most_dimensions) ∷ []) (check DuplicateName d.name.at (not (is_among d.name.name e)) ∷ check UnsupportedType d.kind_at (is_int d.kind) ∷ decl_checks (e ++ d.name.name ∷ []) ds) h) in
    let lt : length e < 128 = ltb-true (length e) 128 first in
    let rest = few_decls (e ++ d.name.name ∷ []) ds (omega (arith, length-append e (d.name.name ∷ []))) (kept_last (check TooManyVariables d.name.at (nat_lt (length e) most_dimensions) ∷ check DuplicateName d.name.at (not (is_among d.name.name e)) ∷ check UnsupportedType d.kind_at (is_int d.kind) ∷ []) (decl_checks (e ++ d.name.name ∷ []) ds) h) in
    omega (arith, rest, length-append e (d.name.name ∷ []))

-- three lists of declarations
pub three_checks : (ins outs locs : List Declared) → decl_checks [] (ins ++ (outs ++ locs)) ≡ decl_checks [] ins ++ (decl_checks (declared_names ins) outs ++ decl_checks (declared_names ins ++ declared_names outs) locs)
three_checks ins outs locs = decls_append [] ins (outs ++ locs) ∙ ap (λ l. decl_checks [] ins ++ l) (decls_append (declared_names ins) outs locs)

pub three_names : (ins outs locs : List Declared) → declared_names (ins ++ (outs ++ locs)) ≡ (declared_names ins ++ declared_names outs) ++ declared_names locs
three_names ins outs locs =
    map-append (λ (d : Declared). d.name.name) ins (outs ++ locs)
    ∙ (ap (λ l. declared_names ins ++ l) (map-append (λ (d : Declared). d.name.name) outs locs)
    ∙ sym (append_assoc (declared_names ins) (declared_names outs) (declared_names locs)))

-- a scope by the names of its declarations
pub scope_same : (procs : List ProcMeaning) (u : Procedure) (names : List (List ℕ)) (n : ℕ) → names ≡ declared_names (all_decls u) → n ≡ length u.inputs → record { procs = procs; inputs = take n names; declared = names } ≡ scope_of procs u
scope_same procs u names n e h =
    let q : take n (declared_names (all_decls u)) ≡ declared_names u.inputs =
    ap (λ l. take n l) (map-append (λ (d : Declared). d.name.name) u.inputs (u.outputs ++ u.locals))
    ∙ (take-append-le n (declared_names u.inputs) (declared_names (u.outputs ++ u.locals)) (omega (arith, h, length-map u.inputs (λ (d : Declared). d.name.name)))
    ∙ take_all n (declared_names u.inputs) (omega (arith, h, length-map u.inputs (λ (d : Declared). d.name.name)))) in
    let S : List (List ℕ) → Scope = λ l. record { procs = procs; inputs = take n l; declared = l } in
    ap S e ∙ ap (λ l. record { procs = procs; inputs = l; declared = declared_names (all_decls u) }) q

-- the names after declarations are those before and theirs
abbrev pub Declares : List (List ℕ) → List Declared → List (List ℕ) → Type 0
Declares n ds n' = Kept (decl_checks n ds) × (n' ≡ n ++ declared_names ds)

after_inputs : (ins : List Declared) (n0 n1 : List (List ℕ)) → n0 ≡ [] → Declares n0 ins n1 → Declares [] ins n1
after_inputs ins n0 n1 e h = let P : List (List ℕ) → Type 0 = λ n. Declares n ins n1 in subst P e h

pub inputs_fault : (ins outs locs : List Declared) (n0 : List (List ℕ)) (y : CheckFault) → n0 ≡ [] → Faulted (decl_checks n0 ins) y → Faulted (decl_checks [] (ins ++ (outs ++ locs))) y
inputs_fault ins outs locs n0 y e h =
    let P : List (List ℕ) → Type 0 = λ n. Faulted (decl_checks n ins) y in
    let Q : List Check → Type 0 = λ cs. Faulted cs y in
    subst Q (sym (three_checks ins outs locs)) (faulted_first (decl_checks [] ins) (decl_checks (declared_names ins) outs ++ decl_checks (declared_names ins ++ declared_names outs) locs) y (subst P e h))

pub outputs_fault : (ins outs locs : List Declared) (n0 n1 : List (List ℕ)) (y : CheckFault) → n0 ≡ [] → Declares n0 ins n1 → Faulted (decl_checks n1 outs) y → Faulted (decl_checks [] (ins ++ (outs ++ locs))) y
outputs_fault ins outs locs n0 n1 y e a h =
    let f = after_inputs ins n0 n1 e a in
    let P : List (List ℕ) → Type 0 = λ n. Faulted (decl_checks n outs) y in
    let Q : List Check → Type 0 = λ cs. Faulted cs y in
    subst Q (sym (three_checks ins outs locs)) (faulted_then (decl_checks [] ins) (decl_checks (declared_names ins) outs ++ decl_checks (declared_names ins ++ declared_names outs) locs) y f.0
    (faulted_first (decl_checks (declared_names ins) outs) (decl_checks (declared_names ins ++ declared_names outs) locs) y (subst P f.1 h)))

after_outputs : (ins outs : List Declared) (n0 n1 n2 : List (List ℕ)) → n0 ≡ [] → Declares n0 ins n1 → Declares n1 outs n2 → Declares (declared_names ins) outs n2
after_outputs ins outs n0 n1 n2 e a b =
    let f = after_inputs ins n0 n1 e a in
    let P : List (List ℕ) → Type 0 = λ n. Declares n outs n2 in
    subst P f.1 b

pub locals_fault : (ins outs locs : List Declared) (n0 n1 n2 : List (List ℕ)) (y : CheckFault) → n0 ≡ [] → Declares n0 ins n1 → Declares n1 outs n2 → Faulted (decl_checks n2 locs) y → Faulted (decl_checks [] (ins ++ (outs ++ locs))) y
locals_fault ins outs locs n0 n1 n2 y e a b h =
    let f = after_inputs ins n0 n1 e a in
    let g = after_outputs ins outs n0 n1 n2 e a b in
    let P : List (List ℕ) → Type 0 = λ n. Faulted (decl_checks n locs) y in
    let Q : List Check → Type 0 = λ cs. Faulted cs y in
    subst Q (sym (three_checks ins outs locs)) (faulted_then (decl_checks [] ins) (decl_checks (declared_names ins) outs ++ decl_checks (declared_names ins ++ declared_names outs) locs) y f.0
    (faulted_then (decl_checks (declared_names ins) outs) (decl_checks (declared_names ins ++ declared_names outs) locs) y g.0 (subst P g.1 h)))

pub all_kept : (ins outs locs : List Declared) (n0 n1 n2 n3 : List (List ℕ)) → n0 ≡ [] → Declares n0 ins n1 → Declares n1 outs n2 → Declares n2 locs n3 → Kept (decl_checks [] (ins ++ (outs ++ locs))) × (n3 ≡ declared_names (ins ++ (outs ++ locs)))
all_kept ins outs locs n0 n1 n2 n3 e a b d =
    let f = after_inputs ins n0 n1 e a in
    let g = after_outputs ins outs n0 n1 n2 e a b in
    let P : List (List ℕ) → Type 0 = λ n. Declares n locs n3 in
    let h : Declares (declared_names ins ++ declared_names outs) locs n3 = subst P g.1 d in (
      ap first_broken (three_checks ins outs locs) ∙ kept_append (decl_checks [] ins) (decl_checks (declared_names ins) outs ++ decl_checks (declared_names ins ++ declared_names outs) locs) f.0
          (kept_append (decl_checks (declared_names ins) outs) (decl_checks (declared_names ins ++ declared_names outs) locs) g.0 h.0),
      h.1 ∙ sym (three_names ins outs locs),
    )

-- the checks of a procedure's name
pub length-names : (procs : List ProcMeaning) (p : ℕ) → p ≤ length procs → length (proc_names (take p procs)) ≡ p
length-names procs p le = omega (arith, length-map (take p procs) (λ (q : ProcMeaning). q.name.name), length-take p procs)

room_same : (at p : ℕ) (earlier : List (List ℕ)) → length earlier ≡ p → check TooManyProcedures at (nat_lt p 256) ≡ check TooManyProcedures at (nat_lt (length earlier) most_procedures)
room_same at p earlier e = ap (λ n. check TooManyProcedures at (nat_lt n 256)) (sym e)

pub too_many : (procs : List ProcMeaning) (earlier : List (List ℕ)) (points p : ℕ) (x : ProcMeaning) (y : CheckFault) → length earlier ≡ p → Faulted (check TooManyProcedures x.name.at (nat_lt p 256) ∷ []) y → Faulted (named_checks procs earlier points x) y
too_many procs earlier points p x y e h =
    let P : Check → Type 0 = λ c. Faulted (c ∷ []) y in
    faulted_first (check TooManyProcedures x.name.at (nat_lt (length earlier) most_procedures) ∷ []) (check DuplicateName x.name.at (not (is_among x.name.name earlier)) ∷ procedure_checks procs points (procedure_of x)) y (subst P (room_same x.name.at p earlier e) h)

pub duplicate : (procs : List ProcMeaning) (earlier : List (List ℕ)) (points p : ℕ) (x : ProcMeaning) (fresh : Bool) (y : CheckFault) → length earlier ≡ p → fresh ≡ not (is_among x.name.name earlier) → Kept (check TooManyProcedures x.name.at (nat_lt p 256) ∷ []) → Faulted (check DuplicateName x.name.at fresh ∷ []) y → Faulted (named_checks procs earlier points x) y
duplicate procs earlier points p x fresh y e f k h =
    let P : Check → Type 0 = λ c. Kept (c ∷ []) in
    let Q : Bool → Type 0 = λ b. Faulted (check DuplicateName x.name.at b ∷ []) y in
    faulted_then (check TooManyProcedures x.name.at (nat_lt (length earlier) most_procedures) ∷ []) (check DuplicateName x.name.at (not (is_among x.name.name earlier)) ∷ procedure_checks procs points (procedure_of x)) y (subst P (room_same x.name.at p earlier e) k)
    (faulted_first (check DuplicateName x.name.at (not (is_among x.name.name earlier)) ∷ []) (procedure_checks procs points (procedure_of x)) y (subst Q f h))

pub named_rest : (procs : List ProcMeaning) (earlier : List (List ℕ)) (points p : ℕ) (x : ProcMeaning) (fresh : Bool) (P : Walk → Type 0) (r : Result Walk CheckFault) → length earlier ≡ p → fresh ≡ not (is_among x.name.name earlier) → Kept (check TooManyProcedures x.name.at (nat_lt p 256) ∷ []) → Kept (check DuplicateName x.name.at fresh ∷ [])
    → AnswersWith r (procedure_checks procs points (procedure_of x)) P → AnswersWith r (named_checks procs earlier points x) (λ w. (p < 256) × P w)
named_rest procs earlier points p x fresh P r e f k j h = by r h
  where
    room : Kept (check TooManyProcedures x.name.at (nat_lt (length earlier) most_procedures) ∷ [])
    room = let R : Check → Type 0 = λ c. Kept (c ∷ []) in subst R (room_same x.name.at p earlier e) k

    new : Kept (check DuplicateName x.name.at (not (is_among x.name.name earlier)) ∷ [])
    new = let Q : Bool → Type 0 = λ b. Kept (check DuplicateName x.name.at b ∷ []) in subst Q f j

    few : p < 256
    few = ltb-true p 256 (kept_one TooManyProcedures x.name.at (nat_lt p 256) k)

    by : (q : Result Walk CheckFault) → AnswersWith q (procedure_checks procs points (procedure_of x)) P → AnswersWith q (named_checks procs earlier points x) (λ w. (p < 256) × P w)
    by (Ok w) g = (kept_append (check TooManyProcedures x.name.at (nat_lt (length earlier) most_procedures) ∷ check DuplicateName x.name.at (not (is_among x.name.name earlier)) ∷ []) (procedure_checks procs points (procedure_of x)) (kept_append (check TooManyProcedures x.name.at (nat_lt (length earlier) most_procedures) ∷ []) (check DuplicateName x.name.at (not (is_among x.name.name earlier)) ∷ []) room new) g.0, (few, g.1))
    by (Err y) g = faulted_then (check TooManyProcedures x.name.at (nat_lt (length earlier) most_procedures) ∷ check DuplicateName x.name.at (not (is_among x.name.name earlier)) ∷ []) (procedure_checks procs points (procedure_of x)) y (kept_append (check TooManyProcedures x.name.at (nat_lt (length earlier) most_procedures) ∷ []) (check DuplicateName x.name.at (not (is_among x.name.name earlier)) ∷ []) room new) g
