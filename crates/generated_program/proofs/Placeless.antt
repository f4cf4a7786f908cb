-- Whether main's checks are kept doesn't depend on places.
use Rattle.std.proofs.Common.{◌≡◌, refl, ℕ, Bool, true, false, ◌&&◌, not, List, [], ◌∷◌, ◌++◌, length, map, ap, ap₂, sym, ◌∙◌, nat_lt, ◌+◌, None, is_some}
use Rattle.std.specs.List.{list_all}
use Rattle.std.proofs.lemmas.List.{length-map, map-append}
use Rattle.std.proofs.lemmas.Bool.{and_parts}
use Rattle.spl_tree.specs.Program.{Named, Declared, ExprTree, number, variable, true_value, false_value, random_value, negative, opposite, binary, StmtTree, skip, halt, fail, assume, assign, call, if_then, if_else, while_do, BlockTree, empty, more, placeless_name, placeless_decl, placeless_expr, placeless_stmt, placeless_block, placeless_proc, places_of, ProcMeaning, Program, SamePlacesAside}
use Rattle.spl_types.specs.Checks.{Check, Met, Scope, Procedure, Sort, a_number, a_condition, is_sort, result_sort, operand_sort, is_int, is_among, declared_names, plain_names, decl_checks, expr_checks, assigned_checks, with_point, with_targets, met_in, met_by, met_before, most_points, most_dimensions, point_check, target_checks, targets_checks, argument_checks, call_checks, stmt_checks, block_checks, procedure_checks, proc_named, has_counts, broken_rule, checks}
use Rattle.spl_types.specs.Accepted.{point_count}
use Rattle.spl_types.specs.Faults.{Kept}
use Rattle.spl_types.proofs.Firsts.{broken_here, broken_later}

abbrev pub kepts : List Check → List Bool
kepts cs = map (λ (c : Check). c.kept) cs

abbrev all_true : List Bool → Bool
all_true bs = list_all (λ b. b) bs

kept_from : (cs : List Check) → all_true (kepts cs) ≡ true → Kept cs
kept_from [] e = refl
kept_from (c ∷ cs) e = let p = and_parts c.kept (all_true (kepts cs)) e in broken_later c cs p.0 ∙ kept_from cs p.1

to_kept : (cs : List Check) → Kept cs → all_true (kepts cs) ≡ true
to_kept [] h = refl
to_kept (c ∷ cs) h = by c.kept refl (to_kept cs)
  where
    by : (b : Bool) → c.kept ≡ b → (Kept cs → all_true (kepts cs) ≡ true) → (b && all_true (kepts cs)) ≡ true
    by true e rest = rest (sym (broken_later c cs e) ∙ h)
    by false e rest = let f = sym (broken_here c cs e) ∙ h in absurd cc

pub kept_same : (xs ys : List Check) → kepts xs ≡ kepts ys → Kept ys → Kept xs
kept_same xs ys e h = kept_from xs (ap all_true e ∙ to_kept ys h)

both : (xs ys xs' ys' : List Check) → kepts xs ≡ kepts xs' → kepts ys ≡ kepts ys' → kepts (xs ++ ys) ≡ kepts (xs' ++ ys')
both xs ys xs' ys' e f = map-append (λ (c : Check). c.kept) xs ys ∙ ap₂ (λ a b. a ++ b) e f ∙ sym (map-append (λ (c : Check). c.kept) xs' ys')

-- ---- expressions

expr_same : (names : List (List ℕ)) (w : Sort) (e : ExprTree) → kepts (expr_checks names w e) ≡ kepts (expr_checks names w (placeless_expr e))
expr_same names w (number n at) = refl
expr_same names w (variable x at) = refl
expr_same names w (true_value at) = refl
expr_same names w (false_value at) = refl
expr_same names w (random_value at) = refl
expr_same names w (negative a at) = ap (λ t. is_sort w a_number ∷ t) (expr_same names a_number a)
expr_same names w (opposite a at) = ap (λ t. is_sort w a_condition ∷ t) (expr_same names a_condition a)
expr_same names w (binary op a b at) =
    let s = operand_sort op in
    ap (λ t. is_sort w (result_sort op) ∷ t)
    (both (expr_checks names s a) (expr_checks names s b) (expr_checks names s (placeless_expr a)) (expr_checks names s (placeless_expr b)) (expr_same names s a) (expr_same names s b))

assigned_same : (names : List (List ℕ)) (e : ExprTree) → kepts (assigned_checks names e) ≡ kepts (assigned_checks names (placeless_expr e))
assigned_same names (random_value at) = refl
assigned_same names (number n at) = expr_same names a_number (number n at)
assigned_same names (variable x at) = expr_same names a_number (variable x at)
assigned_same names (true_value at) = expr_same names a_number (true_value at)
assigned_same names (false_value at) = expr_same names a_number (false_value at)
assigned_same names (negative a at) = expr_same names a_number (negative a at)
assigned_same names (opposite a at) = expr_same names a_number (opposite a at)
assigned_same names (binary op a b at) = expr_same names a_number (binary op a b at)

-- ---- names

names_same : (ns : List Named) → plain_names ns ≡ plain_names (map placeless_name ns)
names_same [] = refl
names_same (n ∷ ns) = ap (λ t. n.name ∷ t) (names_same ns)

length_same : (ns : List Named) → length ns ≡ length (map placeless_name ns)
length_same ns = sym (length-map ns placeless_name)

arguments_same : (names : List (List ℕ)) (ns : List Named) → kepts (argument_checks names ns) ≡ kepts (argument_checks names (map placeless_name ns))
arguments_same names [] = refl
arguments_same names (n ∷ ns) = ap (λ t. is_among n.name names ∷ t) (arguments_same names ns)

targets_same : (c : Scope) (met listed : List (List ℕ)) (ns : List Named) → kepts (targets_checks c met listed ns) ≡ kepts (targets_checks c met listed (map placeless_name ns))
targets_same c met listed [] = refl
targets_same c met listed (n ∷ ns) =
    both (target_checks c met listed n) (targets_checks c met (listed ++ n.name ∷ []) ns) (target_checks c met listed (placeless_name n)) (targets_checks c met (listed ++ n.name ∷ []) (map placeless_name ns))
    refl (targets_same c met (listed ++ n.name ∷ []) ns)

decls_same : (earlier : List (List ℕ)) (ds : List Declared) → kepts (decl_checks earlier ds) ≡ kepts (decl_checks earlier (map placeless_decl ds))
decls_same earlier [] = refl
decls_same earlier (d ∷ ds) = ap (λ t. nat_lt (length earlier) most_dimensions ∷ not (is_among d.name.name earlier) ∷ is_int d.kind ∷ t) (decls_same (earlier ++ d.name.name ∷ []) ds)

declared_same : (ds : List Declared) → declared_names ds ≡ declared_names (map placeless_decl ds)
declared_same [] = refl
declared_same (d ∷ ds) = ap (λ t. d.name.name ∷ t) (declared_same ds)

-- ---- what is met

mutual
  met_in_same : (m : Met) (s : StmtTree) → met_in m s ≡ met_in m (placeless_stmt s)
  met_in_same m (skip at) = refl
  met_in_same m (halt at) = refl
  met_in_same m (fail at) = refl
  met_in_same m (assume e at) = refl
  met_in_same m (assign x e at) = refl
  met_in_same m (call targets called args at) = ap (with_targets m) (names_same targets)
  met_in_same m (if_then e a at) = met_by_same m a
  met_in_same m (if_else e a b at) = met_by_same (met_by m a) b ∙ ap (λ n. met_by n (placeless_block b)) (met_by_same m a)
  met_in_same m (while_do e a at) = met_by_same m a

  met_by_same : (m : Met) (b : BlockTree) → met_by m b ≡ met_by m (placeless_block b)
  met_by_same m empty = refl
  met_by_same m (more b s) = ap with_point (met_in_same (met_by m b) s ∙ ap (λ n. met_in n (placeless_stmt s)) (met_by_same m b))

-- ---- statements

mutual
  stmt_same : (c : Scope) (m : Met) (s : StmtTree) → kepts (stmt_checks c m s) ≡ kepts (stmt_checks c m (placeless_stmt s))
  stmt_same c m (skip at) = refl
  stmt_same c m (halt at) = refl
  stmt_same c m (fail at) = refl
  stmt_same c m (assume e at) = expr_same c.declared a_condition e
  stmt_same c m (assign x e at) =
      both (target_checks c m.targets [] (record { name = x; at = at.start })) (assigned_checks c.declared e) (target_checks c m.targets [] (record { name = x; at = 0 })) (assigned_checks c.declared (placeless_expr e))
      refl (assigned_same c.declared e)
  stmt_same c m (call targets called args at) =
      both (targets_checks c m.targets [] targets) (call_checks c targets called args at.called) (targets_checks c m.targets [] (map placeless_name targets)) (call_checks c (map placeless_name targets) called (map placeless_name args) 0)
      (targets_same c m.targets [] targets)
      (λ i. is_some (proc_named c.procs called) ∷ has_counts (proc_named c.procs called) (length_same targets i) (length_same args i) ∷ arguments_same c.declared args i)
  stmt_same c m (if_then e a at) =
      both (expr_checks c.declared a_condition e) (block_checks c m at.first_block a) (expr_checks c.declared a_condition (placeless_expr e)) (block_checks c m 0 (placeless_block a))
      (expr_same c.declared a_condition e) (block_same c m at.first_block 0 a)
  stmt_same c m (if_else e a b at) =
      both (expr_checks c.declared a_condition e) (block_checks c m at.first_block a ++ block_checks c (met_by m a) at.second_block b)
      (expr_checks c.declared a_condition (placeless_expr e)) (block_checks c m 0 (placeless_block a) ++ block_checks c (met_by m (placeless_block a)) 0 (placeless_block b))
      (expr_same c.declared a_condition e)
      (both (block_checks c m at.first_block a) (block_checks c (met_by m a) at.second_block b) (block_checks c m 0 (placeless_block a)) (block_checks c (met_by m (placeless_block a)) 0 (placeless_block b))
      (block_same c m at.first_block 0 a)
      (block_same c (met_by m a) at.second_block 0 b ∙ ap (λ n. kepts (block_checks c n 0 (placeless_block b))) (met_by_same m a)))
  stmt_same c m (while_do e a at) =
      both (expr_checks c.declared a_condition e) (block_checks c m at.first_block a) (expr_checks c.declared a_condition (placeless_expr e)) (block_checks c m 0 (placeless_block a))
      (expr_same c.declared a_condition e) (block_same c m at.first_block 0 a)

  block_same : (c : Scope) (m : Met) (start start' : ℕ) (b : BlockTree) → kepts (block_checks c m start b) ≡ kepts (block_checks c m start' (placeless_block b))
  block_same c m start start' empty = refl
  block_same c m start start' (more b s) =
      let pb = placeless_block b in
      let ps = placeless_stmt s in
      let met = met_by_same m b in
      both (block_checks c m start b) (stmt_checks c (met_by m b) s ++ point_check (met_in (met_by m b) s) (places_of s).end ∷ [])
      (block_checks c m start' pb) (stmt_checks c (met_by m pb) ps ++ point_check (met_in (met_by m pb) ps) (places_of ps).end ∷ [])
      (block_same c m start start' b)
      (both (stmt_checks c (met_by m b) s) (point_check (met_in (met_by m b) s) (places_of s).end ∷ []) (stmt_checks c (met_by m pb) ps) (point_check (met_in (met_by m pb) ps) (places_of ps).end ∷ [])
      (stmt_same c (met_by m b) s ∙ ap (λ n. kepts (stmt_checks c n ps)) met)
      (ap (λ (n : Met). nat_lt n.points most_points ∷ []) (met_in_same (met_by m b) s ∙ ap (λ n. met_in n ps) met)))

-- ---- main alone

abbrev pub main_of : List Declared → ℕ → BlockTree → Procedure
main_of locals begin body = record { inputs = []; outputs = []; locals = locals; begin = begin; body = body }

abbrev pub scope : List (List ℕ) → Scope
scope names = record { procs = []; inputs = []; declared = names }

main_same : (locals : List Declared) (begin : ℕ) (body : BlockTree)
    → kepts (procedure_checks [] 0 (main_of locals begin body)) ≡ kepts (procedure_checks [] 0 (main_of (map placeless_decl locals) 0 (placeless_block body)))
main_same locals begin body =
    let m = with_point (met_before 0) in
    let decls = map placeless_decl locals in
    let pb = placeless_block body in
    both (decl_checks [] locals) (point_check (met_before 0) begin ∷ block_checks (scope (declared_names locals)) m (begin + 5) body)
    (decl_checks [] decls) (point_check (met_before 0) 0 ∷ block_checks (scope (declared_names decls)) m (0 + 5) pb)
    (decls_same [] locals)
    (ap (λ t. nat_lt 0 most_points ∷ t) (block_same (scope (declared_names locals)) m (begin + 5) (0 + 5) body ∙ ap (λ names. kepts (block_checks (scope names) m (0 + 5) pb)) (declared_same locals)))

no_procs : (ps : List ProcMeaning) → map placeless_proc ps ≡ [] → ps ≡ []
no_procs [] e = refl
no_procs (p ∷ ps) e = absurd cc

-- a program without procedures keeps the rules wherever it stands
pub kept_aside : (p q : Program) → SamePlacesAside p q → q.procs ≡ [] → broken_rule q ≡ None → broken_rule p ≡ None
unfolding checks
kept_aside p q same none h =
    let alone : p.procs ≡ [] = no_procs p.procs (ap (λ (x : Program). x.procs) same ∙ ap (map placeless_proc) none) in
    let own : Kept (procedure_checks [] 0 (main_of q.locals q.begin q.body)) = rw none at h in
    let aside : kepts (procedure_checks [] 0 (main_of p.locals p.begin p.body)) ≡ kepts (procedure_checks [] 0 (main_of q.locals q.begin q.body)) =
    main_same p.locals p.begin p.body ∙ ap (λ (x : Program). kepts (procedure_checks [] 0 (main_of x.locals 0 x.body))) same ∙ sym (main_same q.locals q.begin q.body) in
    rw alone (kept_same (procedure_checks [] 0 (main_of p.locals p.begin p.body)) (procedure_checks [] 0 (main_of q.locals q.begin q.body)) aside own)

-- nor do its points
pub points_aside : (p q : Program) → SamePlacesAside p q → q.procs ≡ [] → point_count p ≡ point_count q
points_aside p q same none =
    let alone : p.procs ≡ [] = no_procs p.procs (ap (λ (x : Program). x.procs) same ∙ ap (map placeless_proc) none) in
    let m = with_point (met_before 0) in
    let bodies = met_by_same m p.body ∙ ap (λ (x : Program). met_by m x.body) same ∙ sym (met_by_same m q.body) in
    rw (alone, none) (ap (λ (x : Met). x.points) bodies)
