use Rattle.std.proofs.Common.{◌≡◌, sym, ◌∙◌, arith, length, rules}
use Rattle.std.proofs.lemmas.Int.{to_z-of_z}
use Rattle.oct_def.specs.Bound.{bound_of}
use Rattle.oct_def.specs.Tight.{strengthening}
use Rattle.oct_def.proofs.Coherent.{coherent-strengthening}
use Rattle.block_laws.specs.Assembly.{outer, assembly}
use Rattle.block_laws.proofs.Assembly.{length-assembly}
use Rattle.block_laws.proofs.Places.{outer_below}
use Rattle.block_laws.proofs.Closing.{length-strengthening}
use Rattle.dec_oct.specs.Cut.{strong_assembly_entry}
use Rattle.dec_oct.proofs.Entries.{read-at}
use Rattle.dec_oct.proofs.Stored.{part-is}
use Rattle.dec_oct.proofs.Words.{shared-strong, strong-is, stored-below}
use Rattle.dec_oct.proofs.parts.strong_part.Goals as goal

pub returns-in_ok-m-in-Some : goal.returns-in_ok-m-in-Some
returns-in_ok-m-in-Some c =
    let ms = c.args.matrices.now in
    let e = c.requires.parts.count in
    let p = c.in-Some.ensures.0 in
    shared-strong c.args.dims c.args.partition.now ms c.args.members.now _ _ c.in-Some.b c.requires.parts c.requires.members c.requires.strong c.in-Some.ensures (read-at ms c.in-Some.b _ c.index-matrices-b.is (omega arith)) c.in_ok-m-in-Some.ensures

pub returns-in_ok-m-in-None : goal.returns-in_ok-m-in-None
returns-in_ok-m-in-None c =
    let n = c.args.dims in
    let bs = c.args.partition.now in
    let ms = c.args.matrices.now in
    let vs = c.args.members.now in
    part-is n vs (strengthening (assembly n bs ms)) c.in_ok-m-in-None.m c.requires.members (length-strengthening (assembly n bs ms) ∙ length-assembly n bs ms) (coherent-strengthening n (assembly n bs ms) (length-assembly n bs ms) c.requires.coherent)
    c.in_ok-m-in-None.ensures.rows c.in_ok-m-in-None.ensures.square c.in_ok-m-in-None.ensures.coherent (λ i j p q.
    let entry = c.in_ok-m-in-None.ensures.entries i j p q in
    let word : bound_of entry.0 ≡ strong_assembly_entry bs ms (outer vs i) (outer vs j) = search (rules, to_z-of_z, entry.1) in
    sym entry.2 ∙ word ∙ strong-is n bs ms (outer vs i) (outer vs j) (outer_below n vs i c.requires.members p) (outer_below n vs j c.requires.members (stored-below (length vs) i j p q)))
