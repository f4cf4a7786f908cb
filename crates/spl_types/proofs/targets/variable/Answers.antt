use Rattle.std.proofs.Common.{if◌then◌else◌, Some, None, position, is_some, sym, ap, ◌∙◌}
use Rattle.std.specs.Str.{bytes_eq}
use Rattle.spl_types.specs.declared.fault.CheckRule.TheVariants.{UnknownVariable}
use Rattle.spl_types.proofs.Places.{place_any}
use Rattle.spl_types.proofs.targets.variable.Goals as goal

pub returns-in-Some : goal.returns-in-Some
returns-in-Some c =
    let d = c.args.scope.now.declared in
    let at = ap (λ x. position (bytes_eq x) d) (sym c.name.ensures) ∙ sym c.in-Some.ensures.place in
    (ap (λ b. if b then None else Some (UnknownVariable, c.args.at)) (sym (place_any (bytes_eq _) d) ∙ ap is_some at), (at, c.number.ensures.distinct))

pub returns-in-None : goal.returns-in-None
returns-in-None c =
    let d = c.args.scope.now.declared in
    let at = ap (λ x. position (bytes_eq x) d) (sym c.name.ensures) ∙ sym c.in-None.ensures.place in
    ap (λ b. if b then None else Some (UnknownVariable, c.args.at)) (sym (place_any (bytes_eq _) d) ∙ ap is_some at)
