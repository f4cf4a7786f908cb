use Rattle.std.proofs.Common.{◌≡◌, ◌∙◌, Some, None, rules}
use Rattle.dec_oct.specs.Value.{decomposed, blocks_of, IsDecomposition}
use Rattle.dec_oct.proofs.Results.{loose-kept, tight-none, tight-some}
use Rattle.dec_oct.proofs.value.DecOct.close.Goals as goal

pub closed_parts-requires-clause-given : goal.closed_parts-requires-clause-given
closed_parts-requires-clause-given c =
    let d : IsDecomposition c.self.inside.dims (blocks_of c.deref.result.now.partition c.deref.result.now.matrices.items c.deref.result.now.settled.items) = search rules in
    loose-kept _ _ d

pub returns-in-None-clause-value : goal.returns-in-None-clause-value
returns-in-None-clause-value c =
    let e : decomposed c.self.inside.dims None ≡ c.args.self.now = search rules in
    c.bottom.ensures.value ∙ tight-none c.args.self.now c.self.inside.dims e

pub returns-in_ok-v-in-Some-clause-value : goal.returns-in_ok-v-in-Some-clause-value
returns-in_ok-v-in-Some-clause-value c =
    let e : decomposed c.self.inside.dims (Some (blocks_of c.deref.result.now.partition c.deref.result.now.matrices.items c.deref.result.now.settled.items)) ≡ c.args.self.now = search rules in
    c.in_ok-v-in-Some.ensures.value ∙ tight-some c.args.self.now c.self.inside.dims _ e
