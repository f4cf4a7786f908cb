use Rattle.std.proofs.Common.{◌≡◌, sym, ◌∙◌, arith, length, rules}
use Rattle.std.proofs.lemmas.Int.{to_z-of_z}
use Rattle.oct_def.specs.Bound.{bound_of}
use Rattle.block_laws.specs.Assembly.{outer, assembly, assembly_entry}
use Rattle.block_laws.proofs.Assembly.{length-assembly, at-assembly}
use Rattle.block_laws.proofs.Places.{outer_below}
use Rattle.dec_oct.proofs.Entries.{read-at}
use Rattle.dec_oct.proofs.Stored.{part-is}
use Rattle.dec_oct.proofs.Words.{shared-part, stored-below}
use Rattle.dec_oct.proofs.parts.part.Goals as goal

pub returns-in_ok-m-in-Some : goal.returns-in_ok-m-in-Some
returns-in_ok-m-in-Some c =
    let ms = c.args.matrices.now in
    let e = c.requires.parts.count in
    let p = c.in-Some.ensures.0 in
    shared-part c.args.dims c.args.partition.now ms c.args.members.now _ _ c.in-Some.b c.requires.parts c.in-Some.ensures (read-at ms c.in-Some.b _ c.index-matrices-b.is (omega arith)) c.in_ok-m-in-Some.ensures

pub returns-in_ok-m-in-None : goal.returns-in_ok-m-in-None
returns-in_ok-m-in-None c =
    let n = c.args.dims in
    let bs = c.args.partition.now in
    let ms = c.args.matrices.now in
    let vs = c.args.members.now in
    part-is n vs (assembly n bs ms) c.in_ok-m-in-None.m c.requires.members (length-assembly n bs ms) c.requires.coherent c.in_ok-m-in-None.ensures.rows c.in_ok-m-in-None.ensures.square c.in_ok-m-in-None.ensures.coherent (λ i j p q.
    let entry = c.in_ok-m-in-None.ensures.entries i j p q in
    let word : bound_of entry.0 ≡ assembly_entry bs ms (outer vs i) (outer vs j) = search (rules, to_z-of_z, entry.1) in
    sym entry.2 ∙ word ∙ sym (at-assembly n bs ms (outer vs i) (outer vs j) (outer_below n vs i c.requires.members p) (outer_below n vs j c.requires.members (stored-below (length vs) i j p q))))
