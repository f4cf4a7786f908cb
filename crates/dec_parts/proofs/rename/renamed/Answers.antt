use Rattle.std.proofs.Common.{rules}
use Rattle.dec_parts.proofs.Numbers.{renamed-partition}
use Rattle.dec_parts.proofs.Sharing.{given-made, value-made, value-bottom, marks-made}
use Rattle.dec_parts.proofs.rename.renamed.Goals as goal

pub renamed_parts-requires-clause-partition : goal.renamed_parts-requires-clause-partition
renamed_parts-requires-clause-partition c = renamed-partition _ c.args.origins.now _ c.in_ok-made-in-Some.ensures c.known-in-Some.ensures.partition

pub from_parts-requires-clause-given : goal.from_parts-requires-clause-given
from_parts-requires-clause-given c =
    let v = c.args.v.now in
    let p = c.in_ok-parts-in-Some.parts in
    given-made v.dims c.args.origins.now v.blocks c.in-Some.p.now c.in_ok-made-in-Some.made p.dims p.partition p.matrices.items p.settled.items (search rules)

pub returns-in-None-clause-value : goal.returns-in-None-clause-value
returns-in-None-clause-value c =
    let v = c.args.v.now in
    value-bottom v.dims c.args.origins.now v.blocks c.bottom.result c.in-None.ensures.blocks c.bottom.ensures.value

pub returns-in_ok-r-in-Some-clause-value : goal.returns-in_ok-r-in-Some-clause-value
returns-in_ok-r-in-Some-clause-value c =
    let v = c.args.v.now in
    let p = c.in_ok-parts-in-Some.parts in
    value-made v.dims c.args.origins.now v.blocks c.in-Some.p.now c.in_ok-made-in-Some.made p.dims p.partition p.matrices.items p.settled.items c.in_ok-r-in-Some.r (search rules) c.in_ok-r-in-Some.ensures.value

pub returns-in_ok-r-in-Some-clause-marks : goal.returns-in_ok-r-in-Some-clause-marks
returns-in_ok-r-in-Some-clause-marks c =
    let v = c.args.v.now in
    let p = c.in_ok-parts-in-Some.parts in
    marks-made v.dims c.args.origins.now v.blocks c.in-Some.p.now c.in_ok-made-in-Some.made p.dims p.partition p.matrices.items p.settled.items c.in_ok-r-in-Some.r (search rules) c.in_ok-r-in-Some.ensures.value c.known-in-Some-2.ensures c.in_ok-r-in-Some.ensures.marks
