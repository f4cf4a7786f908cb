use Rattle.std.proofs.Common.{◌≡◌, ℕ, None, get_or, true, sym, arith, ◌∙◌}
use borrow.Author.Count.{below_more}
use Rattle.conc_analysis.specs.Rounds.{same_option, same_range}
use Rattle.conc_analysis.proofs.Interfering.{list_differs, list_same, list_lengths, exact_one, one_itself}
use Rattle.conc_analysis.proofs.writing.same_row.Goals as goal

pub returns-then-a-b : goal.returns-then-a-b
returns-then-a-b c = list_lengths (same_option same_range) exact_one c.args.a.now c.args.b.now c.if-a-b.true

pub returns-then-not-same : goal.returns-then-not-same
returns-then-not-same c = list_differs (same_option same_range) exact_one one_itself c.args.a.now c.args.b.now c.loop-v.v None (sym c.same_write-same.ensures ∙ c.if-not-same.true)

pub loop-v-preserved : goal.loop-v-preserved
loop-v-preserved c = below_more (λ (k : ℕ). same_option same_range (get_or c.args.a.now k None) (get_or c.args.b.now k None) ≡ true) c.loop-v.v c.loop-v.invariant (sym c.same_write-same.ensures ∙ c.if-not-same.false)

pub returns : goal.returns
returns c = list_same (same_option same_range) exact_one one_itself c.args.a.now c.args.b.now c.loop-v.v None c.if-a-b.false (omega (arith, c.loop-v-test.false, c.loop-v.auto.v-end)) c.loop-v.invariant
