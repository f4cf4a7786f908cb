use Rattle.std.proofs.Common.{arith, length}
use Rattle.block_laws.specs.Assembly.{assembly}
use Rattle.dec_oct.proofs.Cuts.{cut-components, cut-is}
use Rattle.dec_oct.proofs.cut.cut_components.Goals as goal

pub parts_over-requires-clause-others : goal.parts_over-requires-clause-others
parts_over-requires-clause-others c =
    (cut-components c.args.dims (length c.args.partition.now) c.args.partition.now c.args.matrices.now _ c.requires.few c.requires.parts c.known.ensures.partition (omega arith) c.in_ok-cut.ensures).partition

pub returns : goal.returns
returns c =
    cut-is c.args.dims (assembly c.args.dims c.args.partition.now c.args.matrices.now) _ _ c.requires.value
    (cut-components c.args.dims (length c.args.partition.now) c.args.partition.now c.args.matrices.now _ c.requires.few c.requires.parts c.known.ensures.partition (omega arith) c.in_ok-cut.ensures)
    c.known.ensures.ordered c.in_ok-matrices.ensures.count c.in_ok-matrices.ensures.each
