use Rattle.std.proofs.Common.{◌≡◌, ◌==◌, ℕ, ◌+◌, List, take, not, reverse, arith, ap, ◌∙◌}
use Rattle.std.specs.List.{prefix_len, count_by}
use Rattle.std.proofs.lemmas.List.{length-map, take_min}
use Rattle.spl_tree.specs.Program.{Program}
use Rattle.spl_runs.specs.Choices.{choice_of, given_of}
use Rattle.interproc_top.proofs.Few.{few_steps}
use Rattle.interproc_top.proofs.replay.choices_of.Goals as goal

pub returns-in-Ok-clause-few : goal.returns-in-Ok-clause-few
returns-in-Ok-clause-few c =
    let few = few_steps c.args.text.now (given_of c.in-Ok.choices) c.in-Ok.ensures in
    let same = length-map c.in-Ok.choices.steps.items choice_of in
    omega (arith, few, same, c.requires.short)

pub returns-in-Err-BadChoices-clause-stopped : goal.returns-in-Err-BadChoices-clause-stopped
returns-in-Err-BadChoices-clause-stopped c =
    let text : List ℕ = c.args.text.now in
    let cut : take c.min.result text ≡ take c.in-Err-BadChoices.offset text = ap (λ (k : ℕ). take k text) c.min.ensures ∙ take_min c.in-Err-BadChoices.offset text in
    λ (p : Program). record {
      offset = c.in-Err-BadChoices.offset;
      fault = rw c.in-Err-BadChoices.field-0-is at c.in-Err-BadChoices.ensures;
      line = c.place_of.ensures.line ∙ ap (λ (t : List ℕ). count_by (λ b. b == 10) t + 1) cut;
      column = c.place_of.ensures.column ∙ ap (λ (t : List ℕ). prefix_len (λ b. not (b == 10)) (reverse t) + 1) cut;
    }
