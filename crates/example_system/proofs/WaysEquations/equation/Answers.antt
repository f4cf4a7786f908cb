use Rattle.std.proofs.Common.{◌-◌, map, ap, sym, ◌∙◌, arith}
use Rattle.oct_def.specs.Octagon.{Octagon, join_value}
use Rattle.rounds.specs.System.{value_at}
use Rattle.example_system.specs.Ways.{reached}
use Rattle.example_system.proofs.Known.{told, told_dims, on_cycle}
use Rattle.example_system.proofs.WaysEquations.equation.Goals.{in-0+in_ok-v-in-0, in-1+in_ok-v-in-1, in_default+in_ok-v-in_default}
use Rattle.example_system.proofs.WaysEquations.equation.Goals as goal

pub join-requires : goal.join-requires
join-requires g c =
    let at = told_dims g.D.Domain.meaning c.args.values.now in
    let read = c.requires.read in
    record { dims = at 0 c.index-values-0.result read (omega arith) c.index-values-0.is ∙ sym (at (c.args.p - 1) c.index-values-p.result read (omega arith) c.index-values-p.is) }

pub returns-clause-value : goal.returns-clause-value
unfolding reached
returns-clause-value g c =
    let m = g.D.Domain.meaning in
    let values = c.args.values.now in
    let r = value_at (map m values) in
    let read = c.requires.read in
    elim c.match-p.branch [
      | in-0+in_ok-v-in-0 w ↦ ap m w.v-is ∙ w.in_ok-v-in-0.ensures.value ∙ sym (ap (reached r) w.in-0.is)
      | in-1+in_ok-v-in-1 w ↦ ap m w.v-is ∙ w.in_ok-v-in-1.ensures.value ∙ told m values 4 w.index-values-4.result read (omega arith) w.index-values-4.is ∙ sym (ap (reached r) w.in-1.is)
      | in_default+in_ok-v-in_default w ↦
          ap m w.v-is ∙ w.in_ok-v-in_default.ensures.value
          ∙ ap (λ (v : Octagon). join_value v (m w.index-values-p.result)) (told m values 0 w.index-values-0.result read (omega arith) w.index-values-0.is)
          ∙ ap (join_value (r 0)) (told m values (c.args.p - 1) w.index-values-p.result read (omega arith) w.index-values-p.is)
          ∙ on_cycle r c.args.p (omega arith)
    ]
