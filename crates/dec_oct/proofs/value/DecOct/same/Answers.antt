use Rattle.std.proofs.Common.{◌≡◌, Some, rules}
use Rattle.dec_oct.specs.Value.{decomposed, blocks_of}
use Rattle.dec_oct.proofs.Sames.{same-no}
use Rattle.dec_oct.proofs.value.DecOct.same.Goals as goal

pub returns-in-Some-held-clause-no : goal.returns-in-Some-held-clause-no
returns-in-Some-held-clause-no c =
    let e : decomposed c.self.inside.dims (Some (blocks_of c.deref.result.now.partition c.deref-in-Some-held-2.result.now c.in-Some.h.value.settled.items)) ≡ c.args.self.now = search rules in
    let f : decomposed c.other.inside.dims (Some (blocks_of c.deref-in-Some-held-3.result.now.partition c.deref-in-Some-held-5.result.now c.in-Some-held.k.value.settled.items)) ≡ c.args.other.now = search rules in
    λ r o. let s = same-no c.args.self.now c.args.other.now _ _ _ _ e f c.known.ensures c.known-2.ensures c.requires o in c.same_blocks.ensures.no r s.0 s.1
