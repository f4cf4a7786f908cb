use Rattle.std.proofs.Common.{[], ap, ◌∙◌, arith}
use Rattle.std.specs.Option.{is_none}
use Rattle.std.proofs.lemmas.Bool.{false≢true}
use Rattle.report.specs.Listed.{listed_variable, matrix_at}
use Rattle.report.proofs.Steps.{one_more}
use Rattle.report.proofs.Notes.{note_of-some}
use Rattle.report.proofs.listing.note_of.Goals as goal

pub loop-v-preserved : goal.loop-v-preserved
loop-v-preserved g c =
    one_more (listed_variable c.args.full (matrix_at (g.D.Domain.meaning c.args.value.now))) c.loop-v.v [] c.loop-v.constraints.items c.list_variable.new.out.items
    c.loop-v.invariant c.in_ok-list_variable.ensures

pub returns : goal.returns
returns g c =
    note_of-some c.args.full (g.D.Domain.meaning c.args.value.now) c.loop-v.v c.loop-v.constraints.items (λ none. false≢true ((c.if-is_bottom.ensures {u = tt}).bottom ∙ ap is_none none)) (omega arith) c.loop-v.invariant
