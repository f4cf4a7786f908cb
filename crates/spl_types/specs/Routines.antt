-- Procedures by their numbers, main last.
use Rattle.std.specs.Prelude.{ℕ, ◌+◌, ◌<◌, List, ◌∷◌, length, slice_index_or, take, not, nat_lt, Result}
use Rattle.spl_tree.specs.Lists.{Lists}
use Rattle.spl_tree.specs.Facts.{HasDecls, HasBlock, IsPlace}
use Rattle.spl_tree.specs.Program.{BlockTree, ProcMeaning}
use Rattle.spl_tree.specs.Meaning.{decls_in, decls_over, stmts_in, block_over}
use Rattle.spl_types.specs.declared.fault.CheckRule.TheVariants.{TooManyProcedures, DuplicateName}
use Rattle.spl_types.specs.declared.routines.Routine.{Routine}
use Rattle.spl_types.specs.declared.fault.CheckFault.{CheckFault}
use Rattle.spl_types.specs.declared.scope.Walk.{Walk}
use Rattle.spl_types.specs.Checks.{Check, check, Scope, Procedure, procedure_of, scope_of, with_point, met_before, met_by, met_by_end, point_check, block_checks, procedure_checks, is_among, most_procedures}
use Rattle.spl_types.specs.Faults.{AnswersWith}
use Rattle.spl_types.specs.Tables.{proc_names}
use Rattle.spl_types.specs.Walking.{HasMet}

-- what the parts of a procedure stand for
abbrev pub routine_in : Lists → Routine → Procedure
routine_in t r = record {
  inputs = decls_over (decls_in t) r.inputs;
  outputs = decls_over (decls_in t) r.outputs;
  locals = decls_over (decls_in t) r.locals;
  begin = r.begin;
  body = block_over t.stmt_items (stmts_in t) r.body;
}

-- its numbers are in range
pub record RoutineFits (t : Lists) (r : Routine) : Type 0 where
  pub inputs : HasDecls t r.inputs
  pub outputs : HasDecls t r.outputs
  pub locals : HasDecls t r.locals
  pub body : HasBlock t (length t.stmts) r.body
  pub placed : IsPlace r.begin

-- the checks from `begin` on
abbrev pub body_checks : Scope → ℕ → ℕ → BlockTree → List Check
body_checks c points begin b = point_check (met_before points) begin ∷ block_checks c (with_point (met_before points)) (begin + 5) b

-- the checks of a procedure with its name, after those with these names
abbrev pub named_checks : List ProcMeaning → List (List ℕ) → ℕ → ProcMeaning → List Check
named_checks procs earlier points p =
    check TooManyProcedures p.name.at (nat_lt (length earlier) most_procedures)
    ∷ check DuplicateName p.name.at (not (is_among p.name.name earlier))
    ∷ procedure_checks procs points (procedure_of p)

-- the walk passes a body: its checks are kept, and its points and targets are met
abbrev pub PassesBody : Scope → ℕ → ℕ → BlockTree → Result Walk CheckFault → Type 0
PassesBody c points begin b result = AnswersWith result (body_checks c points begin b) (λ w. HasMet c (met_by (with_point (met_before points)) b) w)

-- the walk passes a procedure after its name
abbrev pub PassesProcedure : List ProcMeaning → ℕ → Procedure → Result Walk CheckFault → Type 0
PassesProcedure procs points u result = AnswersWith result (procedure_checks procs points u) (λ w. HasMet (scope_of procs u) (met_by_end points u) w)

-- the walk passes the procedure with this number, with its name: it is one of the first that there may be
abbrev pub PassesNumbered : List ProcMeaning → ℕ → ℕ → Result Walk CheckFault → Type 0
PassesNumbered procs p points result = (d : ProcMeaning) → AnswersWith result (named_checks procs (proc_names (take p procs)) points (slice_index_or procs p d))
    (λ w. (p < most_procedures) × HasMet (scope_of procs (procedure_of (slice_index_or procs p d))) (met_by_end points (procedure_of (slice_index_or procs p d))) w)
