use Rattle.std.proofs.Common.{pos, ◌≤ℤ◌, length, sym, arith}
use Rattle.std.specs.Prelude.{nat_eq}
use Rattle.std.proofs.lemmas.Int.{ints}
use Rattle.spl_runs.proofs.Edges.{numbered_past}
use Rattle.spl_runs.proofs.leaving.EdgesOut.numbered.Goals as goal

pub returns-then-from-number-clause-found : goal.returns-then-from-number-clause-found
returns-then-from-number-clause-found c =
    let l : pos (length c.args.core.now.edges) ≤ℤ c.args.number = omega (arith, ints, c.edge_count.ensures.count, c.from.ensures) in
    sym (numbered_past (λ e. nat_eq e.source c.args.point) c.args.core.now.edges c.args.number l)
