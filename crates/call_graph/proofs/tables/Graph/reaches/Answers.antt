use Rattle.std.proofs.Common.{◌≡◌, ◌<◌, length, map, Bool, Vec, Global, refl, ap, sym, ◌∙◌, arith}
use Rattle.std.proofs.lemmas.List.{length-map}
use Rattle.call_graph.specs.Tables.{Tables}
use Rattle.call_graph.proofs.Closing.{row-length}
use Rattle.call_graph.proofs.tables.Graph.reaches.Goals as goal

pub index-requires-2 : goal.index-requires-2
index-requires-2 c =
    let rows = c.self.inside.reached.items in
    let table : map (λ (r : Vec Bool Global). r.items) c.self.inside.reached.items ≡ c.args.self.now.reached = ap (λ (t : Tables). t.reached) c.self.view_is in
    let count : length c.self.inside.reached.items ≡ length c.args.self.now.reached = sym (length-map rows (λ (r : Vec Bool Global). r.items)) ∙ ap length table in
    let lt : c.args.p < length c.self.inside.reached.items = omega (arith, count, c.requires.from) in
    omega (arith, c.requires.to, count, row-length rows c.args.p c.index.result.now c.index.result.now.items c.self.invariant lt c.index.ensures refl)
