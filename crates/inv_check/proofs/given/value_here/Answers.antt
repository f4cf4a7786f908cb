use Rattle.std.proofs.Common.{◌∙◌}
use Rattle.inv_text.specs.Invariants.{matrix_in}
use Rattle.inv_check.proofs.Giving.{listed_of, bottom_of}
use Rattle.inv_check.proofs.given.value_here.Goals as goal

pub from_bounds-requires-clause-placed : goal.from_bounds-requires-clause-placed
from_bounds-requires-clause-placed c =
    (listed_of c.args.dims (matrix_in c.args.x.now c.args.p) c.in-Some.bounds.now c.deref.result.now c.requires.over c.in-Some.ensures (c.deref.ensures.value ∙ c.in_ok-octs-in-Some.ensures)).0

pub returns-in-None : goal.returns-in-None
returns-in-None c = c.bottom.ensures.value ∙ bottom_of c.args.dims (matrix_in c.args.x.now c.args.p) c.in-None.ensures

pub returns-in_ok-v-in-Some : goal.returns-in_ok-v-in-Some
returns-in_ok-v-in-Some c =
    c.in_ok-v-in-Some.ensures.value
    ∙ (listed_of c.args.dims (matrix_in c.args.x.now c.args.p) c.in-Some.bounds.now c.deref.result.now c.requires.over c.in-Some.ensures (c.deref.ensures.value ∙ c.in_ok-octs-in-Some.ensures)).1
