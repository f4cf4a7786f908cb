-- What the laws use of a graph, by the numbers of procedures and edges.
use Rattle.std.proofs.Common.{◌≡◌, ◌≢◌, ℕ, ◌+◌, ◌-◌, ◌<◌, ◌≤◌, length, arith}
use Rattle.spl_core.specs.Parts.{no_proc}
use Rattle.spl_core.specs.Graph.{Graph, proc_of, arc_at, no_arc, main_of, owner_of, proc_owning}
use Rattle.spl_core.specs.GraphFacts.{IsGraph, MoveFits}

pub record Known (g : Graph) : Type 0 where
  pub graph : IsGraph g
  pub main : main_of g < length g.procs
  pub within : (p : ℕ) → p < length g.procs → (proc_of g p).inputs + (proc_of g p).outputs ≤ (proc_of g p).dims
  pub entry_in_range : (p : ℕ) → p < length g.procs → (proc_of g p).entry < length g.owners
  pub exit_in_range : (p : ℕ) → p < length g.procs → (proc_of g p).exit < length g.owners
  pub owns_entry : (p : ℕ) → p < length g.procs → owner_of g (proc_of g p).entry ≡ p
  pub owns_exit : (p : ℕ) → p < length g.procs → owner_of g (proc_of g p).exit ≡ p
  pub source : (e : ℕ) → e < length g.arcs → (arc_at g e).source < length g.owners
  pub target : (e : ℕ) → e < length g.arcs → (arc_at g e).target < length g.owners
  pub one_owner : (e : ℕ) → e < length g.arcs → owner_of g (arc_at g e).source ≡ owner_of g (arc_at g e).target
  pub no_entry : (e : ℕ) → e < length g.arcs → (arc_at g e).target ≢ (proc_owning g (arc_at g e).target).entry
  pub fits : (e : ℕ) → e < length g.arcs → MoveFits g.procs (proc_owning g (arc_at g e).source) (arc_at g e).move

main_below : (n : ℕ) → 0 < n → n - 1 < n
main_below n l = omega arith

pub known : (g : Graph) → IsGraph g → Known g
known g is = record {
  graph = is;
  main = main_below (length g.procs) is.main;
  within = λ p l. (is.procs p no_proc l).within;
  entry_in_range = λ p l. (is.procs p no_proc l).entry;
  exit_in_range = λ p l. (is.procs p no_proc l).exit;
  owns_entry = λ p l. (is.procs p no_proc l).owns_entry;
  owns_exit = λ p l. (is.procs p no_proc l).owns_exit;
  source = λ e l. (is.arcs e no_arc l).source;
  target = λ e l. (is.arcs e no_arc l).target;
  one_owner = λ e l. (is.arcs e no_arc l).one_owner;
  no_entry = λ e l. (is.arcs e no_arc l).no_entry;
  fits = λ e l. (is.arcs e no_arc l).acts;
}
