-- The calls of an accepted program name few dimensions.
use Rattle.std.proofs.Common.{◌≡◌, ℕ, suc, zero, ◌+◌, ◌<◌, ◌≤◌, List, [], ◌∷◌, ◌++◌, length, drop, get_or, subst, arith, length-append}
use Rattle.std.specs.List.{All}
use Rattle.std.proofs.Math.ListN.{get_or-append}
use Rattle.std.proofs.Math.Seq.{drop-append_seam}
use Rattle.std.proofs.lemmas.List.{length-map}
use Rattle.std.proofs.lemmas.List.Elements.{All-tail, All-drop}
use Rattle.spl_tree.specs.declared.parts.StmtId.{StmtId}
use Rattle.spl_tree.specs.Program.{Named, StmtTree, skip, halt, fail, assume, assign, call, if_then, if_else, while_do, BlockTree, empty, more, Program}
use Rattle.spl_tree.specs.Meaning.{stmt_at, block_after}
use Rattle.spl_types.specs.Checks.{Met, met_by, met_before, with_point, Procedure, main_procedure}
use Rattle.spl_types.specs.Dimensions.{procedures}
use Rattle.spl_types.specs.Accepted.{KeepsRules}
use Rattle.spl_types.proofs.Blocks.{no_id, first_stmts}
use Rattle.spl_core.specs.declared.parts.Proc.{Proc}
use Rattle.spl_core.specs.Facts.{Each}
use Rattle.spl_core.specs.Parts.{no_proc}
use Rattle.spl_core.specs.Graph.{Move, skips, assigns, havocs, tests, calls, starts, Arc, Graph, no_arc}
use Rattle.spl_core.specs.GraphFacts.{MoveFits, ProcFitsIn, IsGraph}
use Rattle.control_points.specs.CoreOf.{Naming, arc, dimension_in, stmt_arcs, block_arcs, procedure_arcs, arcs_after, points_by, start_copies, spoken_by, proc_names, core_of}
use Rattle.control_points.specs.Routines.{procedure_at}
use Rattle.control_points.specs.Emitting.{CallIsSmall, CallsAreSmall}
use Rattle.control_points.proofs.Counting.{block_from}
use Rattle.control_points.proofs.Graphing.{graphs}

before : (trees : List StmtTree) (b : BlockTree) (ids : List StmtId) → CallsAreSmall (block_after trees b ids) → CallsAreSmall b
before trees b [] h = h
before trees b (s ∷ ids) h = (before trees (more b (stmt_at trees s)) ids h).0

-- a statement of a block
pub call_of_block : (trees : List StmtTree) (ids : List StmtId) (i : ℕ) (s : StmtId) → i < length ids → get_or ids i no_id ≡ s → CallsAreSmall (block_after trees empty ids) → CallIsSmall (stmt_at trees s)
call_of_block trees ids i s lt e h = (before trees (more (first_stmts trees ids i) (stmt_at trees s)) (drop (i + 1) ids) (subst CallsAreSmall (block_from trees ids i s lt e) h)).1

-- what a move names
abbrev IsSmallMove : Move → Type 0
IsSmallMove skips = Unit {0}
IsSmallMove (assigns target e) = Unit {0}
IsSmallMove (havocs target) = Unit {0}
IsSmallMove (tests c wanted) = Unit {0}
IsSmallMove (calls callee args targets) = length args + length targets ≤ 128
IsSmallMove (starts copies) = Unit {0}

abbrev AreSmall : List Arc → Type 0
AreSmall xs = All (λ (a : Arc). IsSmallMove a.move) xs

move_small : (g : Graph) (q : Proc) (m : Move) → Each (ProcFitsIn g) g.procs → MoveFits g.procs q m → IsSmallMove m
move_small g q skips p h = tt
move_small g q (assigns target e) p h = tt
move_small g q (havocs target) p h = tt
move_small g q (tests c wanted) p h = tt
move_small g q (calls callee args targets) p h =
    let f = p callee no_proc (omega (arith, h.callee_in_range)) in
    omega (arith, h.arguments, h.results, f.within, f.few)
move_small g q (starts copies) p h = tt

first : (xs ys : List Arc) → AreSmall (xs ++ ys) → AreSmall xs
first xs ys h = λ k d lt. let P : Arc → Type 0 = λ a. IsSmallMove a.move in subst P (get_or-append xs ys d k lt) (h k d (omega (arith, length-append xs ys)))

last : (xs ys : List Arc) → AreSmall (xs ++ ys) → AreSmall ys
last xs ys h = subst AreSmall (drop-append_seam xs ys) (All-drop (λ (a : Arc). IsSmallMove a.move) (length xs) (xs ++ ys) h)

tail : (x : Arc) (xs : List Arc) → AreSmall (x ∷ xs) → AreSmall xs
tail x xs h = All-tail (λ (a : Arc). IsSmallMove a.move) x xs h

mutual
  call_small : (c : Naming) (m : Met) (s : StmtTree) → AreSmall (stmt_arcs c m s) → CallIsSmall s
  call_small c m (skip at) h = tt
  call_small c m (halt at) h = tt
  call_small c m (fail at) h = tt
  call_small c m (assume e at) h = tt
  call_small c m (assign x e at) h = tt
  call_small c m (call targets called args at) h =
      let one : Named → ℕ = λ x. dimension_in c.dims x.name in
      omega (arith, h 0 no_arc (omega arith), length-map args one, length-map targets one)
  call_small c m (if_then e a at) h = calls_small c m a (last (_ ∷ _ ∷ _ ∷ []) (block_arcs c m a) h)
  call_small c m (if_else e a b at) h =
      let rest : AreSmall (block_arcs c m a ++ block_arcs c (met_by m a) b) = last (_ ∷ _ ∷ _ ∷ _ ∷ []) (block_arcs c m a ++ block_arcs c (met_by m a) b) h in
      (calls_small c m a (first (block_arcs c m a) (block_arcs c (met_by m a) b) rest), calls_small c (met_by m a) b (last (block_arcs c m a) (block_arcs c (met_by m a) b) rest))
  call_small c m (while_do e a at) h = calls_small c m a (last (_ ∷ _ ∷ _ ∷ []) (block_arcs c m a) h)

  calls_small : (c : Naming) (m : Met) (b : BlockTree) → AreSmall (block_arcs c m b) → CallsAreSmall b
  calls_small c m empty h = tt
  calls_small c m (more b s) h = (calls_small c m b (first (block_arcs c m b) (stmt_arcs c (met_by m b) s) h), call_small c (met_by m b) s (last (block_arcs c m b) (stmt_arcs c (met_by m b) s) h))

-- those of a procedure among others
of_procedure : (names : List (List ℕ)) (n : ℕ) (us : List Procedure) (k : ℕ) (d : Procedure) → AreSmall (arcs_after names n us) → k < length us → CallsAreSmall (get_or us k d).body
of_procedure names n [] k d h lt = absurd (omega (arith, lt))
of_procedure names n (u ∷ us) zero d h lt =
    let c : Naming = record { dims = spoken_by u; procs = names } in
    let body : List Arc = block_arcs c (with_point (met_before n)) u.body in
    let start : Arc = arc n (n + 1) (starts (start_copies u)) in
    calls_small c (with_point (met_before n)) u.body (tail start body (first (start ∷ body) (arcs_after names (points_by n u) us) h))
of_procedure names n (u ∷ us) (suc k) d h lt = of_procedure names (points_by n u) us k d (last (procedure_arcs names n u) (arcs_after names (points_by n u) us) h) (omega (arith, lt))

pub body_small : (p : Program) (k : ℕ) → KeepsRules p → k < length (procedures p) → CallsAreSmall (procedure_at p k).body
unfolding core_of
body_small p k h lt =
    let g : Graph = core_of p in
    let is : IsGraph g = graphs p h in
    of_procedure (proc_names p) 0 (procedures p) k (main_procedure p) (λ j d l. move_small g _ (get_or g.arcs j d).move is.procs (is.arcs j d l).acts) lt
