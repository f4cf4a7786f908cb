-- What a core and its tables tell the rounds.
use Rattle.std.proofs.Common.{◌≡◌, ℕ, ◌-◌, ◌<◌, Bool, false, cond, eqb, List, length, get_or, map, refl, sym, ap, ◌∙◌, subst, arith}
use Rattle.std.specs.List.{All, Contains}
use Rattle.std.proofs.lemmas.List.{length-map}
use Rattle.oct_def.specs.Octagon.{Octagon, tight_value}
use Rattle.spl_core.specs.declared.parts.Proc.{Proc}
use Rattle.spl_core.specs.Parts.{Parts, proc_at, owner_of}
use Rattle.spl_core.specs.Facts.{IsCore}
use Rattle.spl_core.specs.Graph.{dims_at, graph_of}
use Rattle.spl_core.proofs.Graphs.{cores_are_graphs}
use Rattle.call_graph.specs.Tables.{Tables, tables_of}
use Rattle.equations.specs.Sources.{readers}
use Rattle.equations.specs.Table.{Table}
use Rattle.equations.proofs.Facts.{known}
use Rattle.equations.proofs.Readers.{reader_told, readers_within}
use Rattle.equations.proofs.Sourced.{equation-bottom}
use Rattle.rounds.specs.System.{IsSystem, AreReaders, StaysBottom}
use Rattle.rounds.specs.Outcome.{IsOutcome}
use Rattle.iteration.specs.Plan.{IsPlan}
use Rattle.iteration.specs.Solved.{system_of, stored_of}
use Rattle.iteration.specs.Solution.{IsSolution}
use Rattle.iteration.proofs.Forward.{is_system, cuts_long, cut_read}

pub plan_of : (c d : Parts) (tables : Tables) (table : Table) → c ≡ d → IsPlan c tables table → IsPlan d tables table
plan_of c d tables table e h = subst (λ (p : Parts). IsPlan p tables table) e h

pub points : (c : Parts) → length (graph_of c).owners ≡ length c.owners
unfolding graph_of
points c = refl

pub dims_told : (c : Parts) (p : ℕ) → dims_at (graph_of c) p ≡ (proc_at c (owner_of c p)).dims
unfolding graph_of
dims_told c p = refl

pub core_system : (c : Parts) → IsCore c → IsSystem (system_of (graph_of c))
core_system c core = is_system (graph_of c) (known (graph_of c) (cores_are_graphs c core).1)

pub are_readers : (c : Parts) (p : ℕ) (found : List ℕ) → found ≡ readers (graph_of c) p → AreReaders (system_of (graph_of c)) p found
are_readers c p found e = record {
  only = subst (λ (ps : List ℕ). All (λ q. q < length (graph_of c).owners) ps) (sym e) (readers_within (graph_of c) p);
  all = λ q lt reads. subst (λ (ps : List ℕ). Contains ps q) (sym e) (reader_told (graph_of c) p q lt reads);
}

-- every point but main's entry stays Bottom
pub core_stays : (c : Parts) (p : ℕ) (entry : Proc) → IsCore c → entry ≡ proc_at c (length c.procs - 1) → eqb p entry.entry ≡ false → StaysBottom (system_of (graph_of c)) p
unfolding graph_of
core_stays c p entry core e none r bottom =
    equation-bottom (graph_of c) r p (known (graph_of c) (cores_are_graphs c core).1) bottom (sym (ap (λ (q : Proc). eqb p q.entry) e) ∙ none)

-- ---- the solution

pub is_solution : (c : Parts) (delay descend : ℕ) (tables : Tables) (stored seens : List Octagon) (rounds : ℕ) → tables ≡ tables_of (graph_of c) → IsOutcome (system_of (graph_of c)) delay descend stored seens rounds
    → IsSolution (graph_of c) delay descend (record { values = stored; cuts = tables.cuts; rounds = rounds })
is_solution c delay descend tables stored seens rounds e is = record {
  points = is.points;
  stored = is.stored;
  read = λ p l.
      ap (λ (o : Octagon). cond (get_or tables.cuts p false) (tight_value o) o) (is.stored p l)
      ∙ ap (λ (b : Bool). cond b (tight_value (stored_of (graph_of c) delay descend p)) (stored_of (graph_of c) delay descend p)) (cut_read c tables p e (omega (arith, l, points c)));
  rounds = is.rounds;
}

-- a cut mark for each value
pub as_many : {V : Type 0} → (m : V → Octagon) (c : Parts) (delay descend : ℕ) (tables : Tables) (stored : List V) (seens : List Octagon) (rounds : ℕ) → tables ≡ tables_of (graph_of c)
    → IsOutcome (system_of (graph_of c)) delay descend (map m stored) seens rounds → length tables.cuts ≡ length stored
as_many m c delay descend tables stored seens rounds e is = cuts_long c tables e ∙ sym (points c) ∙ sym is.points ∙ length-map stored m
