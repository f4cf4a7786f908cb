-- The equations of a graph are a system for the rounds, and the tables of a core hold what the system says.
use Rattle.std.proofs.Common.{◌≡◌, ℕ, ◌*◌, ◌<◌, ◌≤◌, false, [], length, get_or, ap, ◌∙◌, arith, mul-le-mul}
use Rattle.std.specs.List.{range_with_len}
use Rattle.std.proofs.lemmas.List.{length-map}
use Rattle.std.proofs.lemmas.List.FromFn.{length-range_with_len, get_or-map-range_with_len}
use Rattle.spl_core.specs.Parts.{Parts, no_proc}
use Rattle.spl_core.specs.Graph.{Graph, owner_of, dims_at, graph_of}
use Rattle.call_graph.specs.Order.{order, is_cut}
use Rattle.call_graph.specs.Tables.{Tables, tables_of}
use Rattle.equations.specs.Sources.{readers}
use Rattle.equations.specs.Table.{Table, table_of}
use Rattle.equations.proofs.Facts.{Known}
use Rattle.equations.proofs.Cover.{dims-equation}
use Rattle.equations.proofs.Sourced.{equation-alike, equation-octagon}
use Rattle.rounds.specs.System.{KeepsSizes, IsEquation, IsSystem}
use Rattle.rounds.specs.Ends.{AreSolved}
use Rattle.rounds.proofs.Counted.{counts_fit}
use Rattle.rounds.proofs.Sized.{are_solved}
use Rattle.rounds.proofs.Widened.{is_widening, rank-bottom}
use Rattle.iteration.specs.Solved.{height_over, system_of}
use Rattle.iteration.proofs.Ordered.{is_ordered}

-- ---- the system

keeps_sizes : (g : Graph) → KeepsSizes (system_of g)
keeps_sizes g = record { dims = λ r p lt sized. dims-equation g r p; widened = is_widening.dims }

pub graph_sized : (g : Graph) (delay descend : ℕ) → AreSolved (system_of g) delay descend
graph_sized g delay descend = are_solved (system_of g) delay descend (keeps_sizes g)

is_equation : (g : Graph) → Known g → IsEquation (system_of g)
is_equation g is = record {
  sizes = keeps_sizes g;
  octagons = λ r p lt sized all. equation-octagon g r p is (λ q l. record { octagon = all q l; dims = sized q l });
  alike = λ r t p lt same. equation-alike g r t p same;
}

few : (g : Graph) (p : ℕ) → Known g → p < length g.owners → dims_at g p ≤ 128
few g p is l = (is.graph.procs (owner_of g p) no_proc (is.graph.owners p 0 l)).few

low : (n : ℕ) → n ≤ 128 → height_over n ≤ 65538
low n h =
    let k : 2 * n ≤ 256 = omega arith in
    let s : (2 * n) * (2 * n) ≤ 65536 = mul-le-mul k k in
    omega (arith, s)

pub is_system : (g : Graph) → Known g → IsSystem (system_of g)
is_system g is = record {
  small = λ p lt. omega (arith, few g p is lt);
  equation = is_equation g is;
  ordered = is_ordered g is;
  widening = is_widening;
  heights = λ p lt cut. rank-bottom (dims_at g p);
  counted = λ delay small. counts_fit (system_of g) delay (is_ordered g is) is.graph.few_points (λ p lt. omega (arith, low (dims_at g p) (few g p is lt))) small;
}

-- ---- the tables

pub cuts_long : (c : Parts) (tables : Tables) → tables ≡ tables_of (graph_of c) → length tables.cuts ≡ length c.owners
unfolding tables_of graph_of
cuts_long c tables e =
    ap (λ (t : Tables). length t.cuts) e ∙ length-map (range_with_len 0 (length c.owners)) (is_cut (graph_of c)) ∙ length-range_with_len 0 (length c.owners)

pub cut_read : (c : Parts) (tables : Tables) (p : ℕ) → tables ≡ tables_of (graph_of c) → p < length c.owners → get_or tables.cuts p false ≡ is_cut (graph_of c) p
unfolding tables_of graph_of
cut_read c tables p e l = ap (λ (t : Tables). get_or t.cuts p false) e ∙ get_or-map-range_with_len (is_cut (graph_of c)) 0 (length c.owners) p p false l (omega arith)

pub order_read : (c : Parts) (tables : Tables) → tables ≡ tables_of (graph_of c) → tables.order ≡ order (graph_of c)
unfolding tables_of
order_read c tables e = ap (λ (t : Tables). t.order) e

pub readers_long : (c : Parts) (table : Table) → table ≡ table_of (graph_of c) → length table.readers ≡ length c.owners
unfolding table_of graph_of
readers_long c table e =
    ap (λ (t : Table). length t.readers) e ∙ length-map (range_with_len 0 (length c.owners)) (readers (graph_of c)) ∙ length-range_with_len 0 (length c.owners)

pub readers_read : (c : Parts) (table : Table) (p : ℕ) → table ≡ table_of (graph_of c) → p < length c.owners → get_or table.readers p [] ≡ readers (graph_of c) p
unfolding table_of graph_of
readers_read c table p e l =
    ap (λ (t : Table). get_or t.readers p []) e ∙ get_or-map-range_with_len (readers (graph_of c)) 0 (length c.owners) p p [] l (omega arith)
