use Rattle.std.proofs.Common.{◌≡◌, sym, subst, Some}
use Rattle.block_laws.specs.Assembly.{assembly}
use Rattle.dec_oct.specs.Value.{octagon, octagon_of, blocks_of}
use Rattle.dec_oct.specs.Given.{IsEvenGiven}
use Rattle.dec_lattice.specs.Over.{held}
use Rattle.dec_lattice.proofs.Marked.{given-over}
use Rattle.dec_lattice.proofs.Values.{parts-of, value-over, marks-over}
use Rattle.dec_lattice.proofs.over.combined_over.Goals as goal

pub from_parts-requires-clause-given : goal.from_parts-requires-clause-given
from_parts-requires-clause-given c =
    let a = c.args.a.now in
    let b = c.args.b.now in
    let ms = c.in_ok-matrices.matrices.items in
    let marks = c.in_ok-settled.settled.items in
    let parts = parts-of c.args.op a b c.args.others ms _ marks c.requires.sides c.known.ensures c.known-2.ensures c.requires.others c.in_ok-matrices.ensures.count c.in_ok-matrices.ensures.each c.deref.ensures.value c.in_ok-settled.ensures in
    subst (λ n. IsEvenGiven n (blocks_of c.args.others ms marks)) (sym c.dims.ensures) (given-over c.args.op a.dims (held a) (held b) c.args.others ms marks parts)

pub returns-clause-value : goal.returns-clause-value
returns-clause-value c =
    let a = c.args.a.now in
    let b = c.args.b.now in
    let ms = c.in_ok-matrices.matrices.items in
    let marks = c.in_ok-settled.settled.items in
    let parts = parts-of c.args.op a b c.args.others ms _ marks c.requires.sides c.known.ensures c.known-2.ensures c.requires.others c.in_ok-matrices.ensures.count c.in_ok-matrices.ensures.each c.deref.ensures.value c.in_ok-settled.ensures in
    value-over c.args.op a.dims (held a) (held b) c.args.others ms marks c.in_ok-v.v parts (subst (λ n. octagon c.in_ok-v.v ≡ octagon_of n (Some (assembly n c.args.others ms))) c.dims.ensures c.in_ok-v.ensures.value)

pub returns-clause-marks : goal.returns-clause-marks
returns-clause-marks c =
    let a = c.args.a.now in
    let b = c.args.b.now in
    let ms = c.in_ok-matrices.matrices.items in
    let marks = c.in_ok-settled.settled.items in
    let parts = parts-of c.args.op a b c.args.others ms _ marks c.requires.sides c.known.ensures c.known-2.ensures c.requires.others c.in_ok-matrices.ensures.count c.in_ok-matrices.ensures.each c.deref.ensures.value c.in_ok-settled.ensures in
    marks-over c.args.op a.dims (held a) (held b) c.args.others ms marks c.in_ok-v.v parts (subst (λ n. octagon c.in_ok-v.v ≡ octagon_of n (Some (assembly n c.args.others ms))) c.dims.ensures c.in_ok-v.ensures.value) c.known-3.ensures c.in_ok-v.ensures.marks
