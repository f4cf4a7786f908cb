-- Declarations, one by one.
use Rattle.std.proofs.Common.{◌≡◌, ℕ, suc, ◌+◌, ◌<◌, ◌≤◌, not, nat_lt, List, [], ◌∷◌, ◌++◌, length, take, drop, get_or, Result, Ok, Err, refl, sym, ap, ◌∙◌, subst, append_assoc}
use Rattle.std.proofs.lemmas.List.{take_more, take_all, map-append, append-nil}
use Rattle.spl_tree.specs.Program.{Declared, int_kind}
use Rattle.spl_types.specs.declared.fault.CheckFault.{CheckFault}
use Rattle.spl_types.specs.declared.fault.CheckRule.TheVariants.{UnsupportedType, DuplicateName, TooManyVariables}
use Rattle.spl_types.specs.Checks.{Check, check, first_broken, is_among, is_int, most_dimensions, declared_names, decl_checks}
use Rattle.spl_types.specs.Faults.{Kept, Faulted, AnswersWith}
use Rattle.spl_types.specs.Tables.{NextDecl}
use Rattle.spl_types.proofs.Firsts.{kept_append, faulted_then, faulted_first, kept_of, fault_of}
use Rattle.spl_types.proofs.Calling.{split_at}

abbrev pub no_decl : Declared
no_decl = record { name = record { name = []; at = 0 }; kind = int_kind; kind_at = 0 }

abbrev three : List (List ℕ) → Declared → List Check
three e d =
    check TooManyVariables d.name.at (nat_lt (length e) most_dimensions)
    ∷ check DuplicateName d.name.at (not (is_among d.name.name e))
    ∷ check UnsupportedType d.kind_at (is_int d.kind) ∷ []

pub decls_append : (e : List (List ℕ)) (xs ys : List Declared) → decl_checks e (xs ++ ys) ≡ decl_checks e xs ++ decl_checks (e ++ declared_names xs) ys
decls_append e [] ys = ap (λ l. decl_checks l ys) (sym (append-nil e))
decls_append e (x ∷ xs) ys =
    ap (λ l. three e x ++ l) (decls_append (e ++ x.name.name ∷ []) xs ys ∙ ap (λ l. decl_checks (e ++ x.name.name ∷ []) xs ++ decl_checks l ys) (append_assoc e (x.name.name ∷ []) (declared_names xs)))

-- the declarations so far
pub record DeclsSoFar (old : List (List ℕ)) (ds : List Declared) (i : ℕ) (names : List (List ℕ)) : Type 0 where
  pub same : names ≡ old ++ declared_names (take i ds)
  pub kept : Kept (decl_checks old (take i ds))

pub no_decls : (old : List (List ℕ)) (ds : List Declared) → DeclsSoFar old ds 0 old
no_decls old ds = record { same = sym (append-nil old); kept = refl }

-- what the next one answers, after those so far
next_answer : (old : List (List ℕ)) (ds : List Declared) (i : ℕ) (names names' : List (List ℕ)) (r : Result (Unit {0}) CheckFault) → DeclsSoFar old ds i names → NextDecl names names' ds i r
    → AnswersWith r (decl_checks (old ++ declared_names (take i ds)) (get_or ds i no_decl ∷ [])) (λ _. names' ≡ (old ++ declared_names (take i ds)) ++ (get_or ds i no_decl).name.name ∷ [])
next_answer old ds i names names' r h g =
    let P : List (List ℕ) → Type 0 = λ n. AnswersWith r (decl_checks n (get_or ds i no_decl ∷ [])) (λ _. names' ≡ n ++ (get_or ds i no_decl).name.name ∷ []) in
    subst P h.same (g no_decl)

pub one_decl_more : (old : List (List ℕ)) (ds : List Declared) (i : ℕ) (names names' : List (List ℕ)) (r : Result (Unit {0}) CheckFault) (v : Unit {0}) → i < length ds → r ≡ Ok v → NextDecl names names' ds i r → DeclsSoFar old ds i names → DeclsSoFar old ds (i + 1) names'
one_decl_more old ds i names names' r v lt e g h =
    let d : Declared = get_or ds i no_decl in
    let so : List (List ℕ) = old ++ declared_names (take i ds) in
    let q : Kept (decl_checks so (d ∷ [])) × (names' ≡ so ++ d.name.name ∷ []) = kept_of r (decl_checks so (d ∷ [])) (λ _. names' ≡ so ++ d.name.name ∷ []) v e (next_answer old ds i names names' r h g) in
    let names_of : declared_names (take (i + 1) ds) ≡ declared_names (take i ds) ++ d.name.name ∷ [] = ap declared_names (take_more ds i no_decl lt) ∙ map-append (λ (x : Declared). x.name.name) (take i ds) (d ∷ []) in
    let checks_are : decl_checks old (take (i + 1) ds) ≡ decl_checks old (take i ds) ++ decl_checks so (d ∷ []) = ap (λ l. decl_checks old l) (take_more ds i no_decl lt) ∙ decls_append old (take i ds) (d ∷ []) in
    record {
      same = q.1 ∙ (append_assoc old (declared_names (take i ds)) (d.name.name ∷ []) ∙ ap (λ l. old ++ l) (sym names_of));
      kept = ap first_broken checks_are ∙ kept_append (decl_checks old (take i ds)) (decl_checks so (d ∷ [])) h.kept q.0;
    }

pub next_decl_fault : (old : List (List ℕ)) (ds : List Declared) (i : ℕ) (names names' : List (List ℕ)) (r : Result (Unit {0}) CheckFault) (y : CheckFault) → i < length ds → r ≡ Err y → NextDecl names names' ds i r → DeclsSoFar old ds i names → Faulted (decl_checks old ds) y
next_decl_fault old ds i names names' r y lt e g h =
    let d : Declared = get_or ds i no_decl in
    let so : List (List ℕ) = old ++ declared_names (take i ds) in
    let f : Faulted (decl_checks so (d ∷ [])) y = fault_of r (decl_checks so (d ∷ [])) (λ _. names' ≡ so ++ d.name.name ∷ []) y e (next_answer old ds i names names' r h g) in
    let rest : List Check = decl_checks (so ++ d.name.name ∷ []) (drop (suc i) ds) in
    let q : decl_checks old ds ≡ decl_checks old (take i ds) ++ (decl_checks so (d ∷ []) ++ rest) =
    ap (λ l. decl_checks old l) (split_at ds i no_decl lt) ∙ decls_append old (take i ds) (d ∷ drop (suc i) ds) in
    let P : List Check → Type 0 = λ cs. Faulted cs y in
    subst P (sym q) (faulted_then (decl_checks old (take i ds)) (decl_checks so (d ∷ []) ++ rest) y h.kept (faulted_first (decl_checks so (d ∷ [])) rest y f))

pub all_decls_met : (old : List (List ℕ)) (ds : List Declared) (i : ℕ) (names : List (List ℕ)) → length ds ≤ i → DeclsSoFar old ds i names → Kept (decl_checks old ds) × (names ≡ old ++ declared_names ds)
all_decls_met old ds i names le h =
    let P : List Declared → Type 0 = λ l. Kept (decl_checks old l) × (names ≡ old ++ declared_names l) in
    subst P (take_all i ds le) (h.kept, h.same)
