use Rattle.std.proofs.Common.{◌≡◌, [], ◌∷◌, ◌++◌, not, Bool, sym, ap, ◌∙◌, subst}
use Rattle.spl_tree.specs.Program.{Named}
use Rattle.spl_tree.specs.Meaning.{name_of, names_in}
use Rattle.spl_types.specs.declared.fault.CheckRule.TheVariants.{RepeatedTarget}
use Rattle.spl_types.specs.Checks.{check, is_among, target_checks, with_targets}
use Rattle.spl_types.specs.Faults.{Kept, AnswersWith}
use Rattle.spl_types.specs.Walking.{scope_in, HasMet}
use Rattle.spl_types.proofs.Calling.{kept_one, next_step}
use Rattle.spl_types.proofs.targets.next_target.Goals as goal

pub returns : goal.returns
returns c = λ m targets d e g.
    let s = c.args.scope.now in
    let old = c.args.listed.now in
    let at = c.name_node-at.result.1 in
    let x : Named = record { name = name_of (names_in s.tree.now) c.name_node-at.result.0; at = at } in
    let P : Named → Type 0 = λ y. AnswersWith c.meet_target.result (target_checks (scope_in s) targets old y) (λ _. HasMet (scope_in s) (with_targets m (y.name ∷ [])) c.meet_target.new.walk × (c.add.new.self ≡ old ++ y.name ∷ [])) in
    let K : Bool → Type 0 = λ b. Kept (check RepeatedTarget at b ∷ []) in
    let fresh = c.in-Ok.ensures.fresh ∙ ap (λ y. not (is_among y old)) c.name.ensures in
    let added = c.in-Ok.ensures.added (kept_one RepeatedTarget at c.in-Ok.fresh c.in_ok-demand.ensures) ∙ ap (λ y. old ++ y ∷ []) c.name.ensures in
    subst P (sym (c.name_node-at.ensures.stands d)) (next_step (scope_in s) m targets old c.add.new.self x c.meet_target.new.walk c.meet_target.result e c.in_ok-number.ensures.0 (subst K fresh c.in_ok-demand.ensures) added (c.meet_target.ensures x.name c.in_ok-number.ensures.1.0 m g))
