use Rattle.std.proofs.Common.{length, ap, arith}
use Rattle.spl_tree.specs.Meaning.{program_of}
use Rattle.spl_core.specs.Graph.{Graph, graph_of}
use Rattle.text_tests.proofs.cores.places.Goals as goal

pub offset_of-offset-requires : goal.offset_of-offset-requires
unfolding graph_of
offset_of-offset-requires c =
    omega (arith, ap (λ (g : Graph). length g.owners) c.requires, c.law_places.ensures.count (program_of c.args.checked.now), c.loop-point-test.true, c.points-point-end.ensures.count)
