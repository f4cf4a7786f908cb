-- A core as contracts see it: the parts with their lists.
use Rattle.std.specs.Prelude.{ℕ, List, take, drop, slice_index_or}
use Rattle.spl_core.specs.declared.parts.Span.{Span}
use Rattle.spl_core.specs.declared.parts.Edge.{Edge}
use Rattle.spl_core.specs.declared.parts.Action.TheVariants as action
use Rattle.spl_core.specs.declared.parts.Proc.{Proc}
use Rattle.spl_core.specs.declared.parts.CoreExpr.{CoreExpr}
use Rattle.spl_core.specs.declared.parts.CoreCond.{CoreCond}
use Rattle.spl_core.specs.declared.parts.CoreParts.{CoreParts}

pub record Parts : Type 0 where
  pub procs : List Proc
  pub owners : List ℕ
  pub edges : List Edge
  pub dims : List ℕ
  pub exprs : List CoreExpr
  pub conds : List CoreCond

abbrev pub parts_of : CoreParts → Parts
parts_of p = record {
  procs = p.procs.items;
  owners = p.owners.items;
  edges = p.edges.items;
  dims = p.dims.items;
  exprs = p.exprs.items;
  conds = p.conds.items;
}

-- a procedure and an edge by their numbers; past the end an empty one, of which nothing is said
abbrev pub no_proc : Proc
no_proc = record { inputs = 0; outputs = 0; dims = 0; entry = 0; exit = 0 }

abbrev pub proc_at : Parts → ℕ → Proc
proc_at c p = slice_index_or c.procs p no_proc

abbrev pub no_edge : Edge
no_edge = record { source = 0; target = 0; action = action.Skip }

abbrev pub edge_at : Parts → ℕ → Edge
edge_at c e = slice_index_or c.edges e no_edge

-- the procedure that owns a point, the one that is owner of an edge's points, and the dimensions of a span
abbrev pub owner_of : Parts → ℕ → ℕ
owner_of c point = slice_index_or c.owners point 0

abbrev pub span_dims : Parts → Span → List ℕ
span_dims c s = take s.count (drop s.first c.dims)
