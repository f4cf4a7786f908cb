use Rattle.std.proofs.Common.{◌≡◌, FitsSigned, int_rem, to_z, of_z, ap, ◌∙◌}
use Rattle.std.specs.Int.{w128}
use Rattle.std.proofs.lemmas.Int.{to_z-of_z}
use Rattle.spl_runs.proofs.Parted.{remainder_is}
use Rattle.spl_runs.proofs.value.left_over.Goals as goal

pub returns-else-y-eq0 : goal.returns-else-y-eq0
returns-else-y-eq0 c =
    let f : FitsSigned w128 c.wrapping_rem.result = record { sfits = c.wrapping_rem.type_inv } in
    let e : c.wrapping_rem.result ≡ int_rem c.args.x c.args.y =
    c.wrapping_rem.ensures ∙ (ap (λ z. int_rem z (to_z w128 (of_z w128 c.args.y))) (to_z-of_z w128 c.args.x c.ranges.x) ∙ ap (int_rem c.args.x) (to_z-of_z w128 c.args.y c.ranges.y)) in
    remainder_is c.args.x c.args.y c.wrapping_rem.result f e (λ d. c.if-y-eq0.false (ap (of_z w128) d))
