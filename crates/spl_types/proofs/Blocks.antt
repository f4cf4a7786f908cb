-- Blocks, statement by statement, and how deep they nest.
use Rattle.std.proofs.Common.{◌≡◌, ℕ, suc, zero, ◌+◌, ◌<◌, ◌≤◌, max, List, [], ◌∷◌, ◌++◌, length, take, drop, get_or, Option, Some, None, Result, Ok, Err, refl, sym, ap, ◌∙◌, subst, arith}
use Rattle.std.proofs.lemmas.List.{take_more}
use Rattle.spl_tree.specs.declared.parts.StmtId.{StmtId}
use Rattle.spl_tree.specs.declared.parts.Block.{Block}
use Rattle.spl_tree.specs.declared.parts.Stmt.{Stmt}
use Rattle.spl_tree.specs.declared.parts.Stmt.TheVariants.{Skip, Halt, Fail, Assume, Assign, Call, If, While}
use Rattle.spl_tree.specs.declared.parts.StmtAt.{StmtAt}
use Rattle.spl_tree.specs.Lists.{Lists}
use Rattle.spl_tree.specs.Facts.{Each, HasBlock, HasSecond, StmtFits}
use Rattle.spl_tree.specs.Program.{StmtTree, BlockTree, empty, more, places_of}
use Rattle.spl_tree.specs.Meaning.{span_of, Ground, stmt_at, block_after, stmt_over}
use Rattle.spl_tree.proofs.Nodes.{each_head, each_tail, ids_below}
use Rattle.spl_types.specs.declared.fault.CheckFault.{CheckFault}
use Rattle.spl_types.specs.declared.scope.Walk.{Walk}
use Rattle.spl_types.specs.Checks.{Scope, Met, with_point, point_check, met_in, met_by, stmt_checks, block_checks}
use Rattle.spl_types.specs.Faults.{Kept, Faulted}
use Rattle.spl_types.specs.Walking.{HasMet, StepsToStmt}
use Rattle.spl_types.proofs.Firsts.{kept_append, faulted_first, faulted_then, kept_of, fault_of}
use Rattle.spl_types.proofs.Calling.{split_at}

-- above the numbers of statements
abbrev pub above : List StmtId → ℕ
above [] = 0
above (s ∷ ss) = max (s.0 + 1) (above ss)

abbrev pub block_bound : Lists → Block → ℕ
block_bound t b = above (span_of t.stmt_items b.first b.count)

abbrev pub second_bound : Lists → Option Block → ℕ
second_bound t None = 0
second_bound t (Some b) = block_bound t b

abbrev pub stmt_bound : Lists → Stmt → ℕ
stmt_bound t (If e first second) = max (block_bound t first) (second_bound t second)
stmt_bound t (While e body) = block_bound t body
stmt_bound t _ = 0

pub item_below : (ids : List StmtId) (i : ℕ) (d : StmtId) → i < length ids → (get_or ids i d).0 < above ids
item_below [] i d lt = absurd (omega arith)
item_below (s ∷ ss) zero d lt = omega arith
item_below (s ∷ ss) (suc i) d lt = omega (arith, item_below ss i d (omega arith))

above_le : (ids : List StmtId) (k : ℕ) → Each (λ j (s : StmtId). s.0 < k) ids → above ids ≤ k
above_le [] k h = omega arith
above_le (s ∷ ss) k h = omega (arith, each_head (λ j (x : StmtId). x.0 < k) s ss h, above_le ss k (each_tail (λ j (x : StmtId). x.0 < k) s ss h))

pub block_bound_le : (t : Lists) (k : ℕ) (b : Block) → HasBlock t k b → block_bound t b ≤ k
block_bound_le t k b h = above_le (span_of t.stmt_items b.first b.count) k (ids_below t k b h)

second_bound_le : (t : Lists) (k : ℕ) (b : Option Block) → HasSecond t k b → second_bound t b ≤ k
second_bound_le t k None h = omega arith
second_bound_le t k (Some b) h = block_bound_le t k b h

pub stmt_bound_le : (t : Lists) (k : ℕ) (s : Stmt) → StmtFits t k s → stmt_bound t s ≤ k
stmt_bound_le t k Skip h = omega arith
stmt_bound_le t k Halt h = omega arith
stmt_bound_le t k Fail h = omega arith
stmt_bound_le t k (Assume e) h = omega arith
stmt_bound_le t k (Assign x e) h = omega arith
stmt_bound_le t k (Call targets called args) h = omega arith
stmt_bound_le t k (If e first second) h = omega (arith, block_bound_le t k first h.1, second_bound_le t k second h.2)
stmt_bound_le t k (While e body) h = block_bound_le t k body h.1

-- a higher bound
block_higher : (t : Lists) (k k' : ℕ) (b : Block) → k ≤ k' → HasBlock t k b → HasBlock t k' b
block_higher t k k' b le h = record { span = h.span; before = λ i d lo hi. omega (arith, h.before i d lo hi) }

second_higher : (t : Lists) (k k' : ℕ) (b : Option Block) → k ≤ k' → HasSecond t k b → HasSecond t k' b
second_higher t k k' None le h = h
second_higher t k k' (Some b) le h = block_higher t k k' b le h

pub stmt_higher : (t : Lists) (k k' : ℕ) (s : Stmt) → k ≤ k' → StmtFits t k s → StmtFits t k' s
stmt_higher t k k' Skip le h = h
stmt_higher t k k' Halt le h = h
stmt_higher t k k' Fail le h = h
stmt_higher t k k' (Assume e) le h = h
stmt_higher t k k' (Assign x e) le h = h
stmt_higher t k k' (Call targets called args) le h = h
stmt_higher t k k' (If e first second) le h = (h.0, block_higher t k k' first le h.1, second_higher t k k' second le h.2)
stmt_higher t k k' (While e body) le h = (h.0, block_higher t k k' body le h.1)

-- a statement's places are those of its node
pub places_over : (g : Ground) (trees : List StmtTree) (s : Stmt) (at : StmtAt) → places_of (stmt_over g trees s at) ≡ at
places_over g trees Skip at = refl
places_over g trees Halt at = refl
places_over g trees Fail at = refl
places_over g trees (Assume e) at = refl
places_over g trees (Assign x e) at = refl
places_over g trees (Call targets called args) at = refl
places_over g trees (If e first None) at = refl
places_over g trees (If e first (Some second)) at = refl
places_over g trees (While e body) at = refl

-- the first statements of a block
abbrev pub first_stmts : List StmtTree → List StmtId → ℕ → BlockTree
first_stmts trees ids i = block_after trees empty (take i ids)

after_append : (trees : List StmtTree) (b : BlockTree) (xs ys : List StmtId) → block_after trees b (xs ++ ys) ≡ block_after trees (block_after trees b xs) ys
after_append trees b [] ys = refl
after_append trees b (x ∷ xs) ys = after_append trees (more b (stmt_at trees x)) xs ys

abbrev pub no_id : StmtId
no_id = record { 0 = 0 }

one_stmt_more : (trees : List StmtTree) (ids : List StmtId) (i : ℕ) (s : StmtId) → i < length ids → get_or ids i no_id ≡ s → first_stmts trees ids (i + 1) ≡ more (first_stmts trees ids i) (stmt_at trees s)
one_stmt_more trees ids i s lt e =
    ap (λ l. block_after trees empty l) (take_more ids i no_id lt)
    ∙ (after_append trees empty (take i ids) (get_or ids i no_id ∷ [])
    ∙ ap (λ x. more (first_stmts trees ids i) (stmt_at trees x)) e)

-- the statements so far were met
pub record StmtsSoFar (c : Scope) (m : Met) (start : ℕ) (b : BlockTree) (w : Walk) : Type 0 where
  pub kept : Kept (block_checks c m start b)
  pub met : HasMet c (met_by m b) w

pub stmt_met : (c : Scope) (m : Met) (start : ℕ) (trees : List StmtTree) (ids : List StmtId) (i : ℕ) (s : StmtId) (w w' : Walk) (r : Result (Unit {0}) CheckFault) (v : Unit {0}) → i < length ids → get_or ids i no_id ≡ s → r ≡ Ok v → StepsToStmt c (stmt_at trees s) w w' r
    → StmtsSoFar c m start (first_stmts trees ids i) w → StmtsSoFar c m start (first_stmts trees ids (i + 1)) w'
stmt_met c m start trees ids i s w w' r v lt e o g h =
    let b : BlockTree = first_stmts trees ids i in
    let x : StmtTree = stmt_at trees s in
    let q : Kept (stmt_checks c (met_by m b) x ++ point_check (met_in (met_by m b) x) (places_of x).end ∷ []) × HasMet c (with_point (met_in (met_by m b) x)) w' =
    kept_of r (stmt_checks c (met_by m b) x ++ point_check (met_in (met_by m b) x) (places_of x).end ∷ []) (λ _. HasMet c (with_point (met_in (met_by m b) x)) w') v o (g (met_by m b) h.met) in
    let P : BlockTree → Type 0 = λ y. StmtsSoFar c m start y w' in
    subst P (sym (one_stmt_more trees ids i s lt e)) (record { kept = kept_append (block_checks c m start b) (stmt_checks c (met_by m b) x ++ point_check (met_in (met_by m b) x) (places_of x).end ∷ []) h.kept q.0; met = q.1 })

-- a fault stays when statements follow
fault_stays : (c : Scope) (m : Met) (start : ℕ) (trees : List StmtTree) (b : BlockTree) (ids : List StmtId) (e : CheckFault) → Faulted (block_checks c m start b) e → Faulted (block_checks c m start (block_after trees b ids)) e
fault_stays c m start trees b [] e h = h
fault_stays c m start trees b (s ∷ ids) e h =
    let x : StmtTree = stmt_at trees s in
    fault_stays c m start trees (more b x) ids e (faulted_first (block_checks c m start b) (stmt_checks c (met_by m b) x ++ point_check (met_in (met_by m b) x) (places_of x).end ∷ []) e h)

pub start_fault : (c : Scope) (m : Met) (start : ℕ) (trees : List StmtTree) (ids : List StmtId) (e : CheckFault) → Faulted (point_check m start ∷ []) e → Faulted (block_checks c m start (block_after trees empty ids)) e
start_fault c m start trees ids e h = fault_stays c m start trees empty ids e h

pub stmt_fault : (c : Scope) (m : Met) (start : ℕ) (trees : List StmtTree) (ids : List StmtId) (i : ℕ) (s : StmtId) (w w' : Walk) (r : Result (Unit {0}) CheckFault) (y : CheckFault) → i < length ids → get_or ids i no_id ≡ s → r ≡ Err y → StepsToStmt c (stmt_at trees s) w w' r
    → StmtsSoFar c m start (first_stmts trees ids i) w → Faulted (block_checks c m start (block_after trees empty ids)) y
stmt_fault c m start trees ids i s w w' r y lt e o g h =
    let b : BlockTree = first_stmts trees ids i in
    let x : StmtTree = stmt_at trees s in
    let q : Faulted (stmt_checks c (met_by m b) x ++ point_check (met_in (met_by m b) x) (places_of x).end ∷ []) y =
    fault_of r (stmt_checks c (met_by m b) x ++ point_check (met_in (met_by m b) x) (places_of x).end ∷ []) (λ _. HasMet c (with_point (met_in (met_by m b) x)) w') y o (g (met_by m b) h.met) in
    let here : Faulted (block_checks c m start (more b x)) y = faulted_then (block_checks c m start b) (stmt_checks c (met_by m b) x ++ point_check (met_in (met_by m b) x) (places_of x).end ∷ []) y h.kept q in
    let whole : block_after trees empty ids ≡ block_after trees (more b x) (drop (suc i) ids) =
    ap (λ l. block_after trees empty l) (split_at ids i no_id lt)
    ∙ (after_append trees empty (take i ids) (get_or ids i no_id ∷ drop (suc i) ids)
    ∙ ap (λ z. block_after trees (more b (stmt_at trees z)) (drop (suc i) ids)) e) in
    let P : BlockTree → Type 0 = λ z. Faulted (block_checks c m start z) y in
    subst P (sym whole) (fault_stays c m start trees (more b x) (drop (suc i) ids) y here)
