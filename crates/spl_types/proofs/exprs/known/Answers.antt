use Rattle.std.proofs.Common.{ap, ◌∙◌, subst, ◌∷◌, [], Bool, is_some}
use Rattle.std.specs.Str.{bytes_eq}
use Rattle.spl_tree.specs.Meaning.{name_of, names_in}
use Rattle.spl_types.specs.declared.fault.CheckRule.TheVariants.{UnknownVariable}
use Rattle.spl_types.specs.Checks.{check, is_among}
use Rattle.spl_types.specs.Faults.{Answers}
use Rattle.spl_types.proofs.Places.{place_any}
use Rattle.spl_types.proofs.exprs.known.Goals as goal

pub returns : goal.returns
returns c =
    let x = name_of (names_in c.args.tree.now) c.args.n in
    let e = c.is_some.ensures ∙ (ap is_some c.number-found.ensures.place ∙ (place_any (bytes_eq c.name.result.now) c.args.names.now ∙ ap (λ y. is_among y c.args.names.now) c.name.ensures)) in
    let P : Bool → Type 0 = λ b. Answers c.demand.result (check UnknownVariable c.args.at b ∷ []) in
    subst P e c.demand.ensures
