use Rattle.std.proofs.Common.{rules, ◌+◌, ◌≤◌}
use Rattle.dec_oct.proofs.Extended.{kept-wider}
use Rattle.dec_oct.proofs.value.DecOct.extended.Goals as goal

pub invariant_of-result : goal.invariant_of-result
invariant_of-result c =
    let few : c.self.inside.dims + c.args.added ≤ 512 = search rules in
    kept-wider c.self.inside.dims c.args.added _ few (search rules)
