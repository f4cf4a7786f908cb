use Rattle.std.proofs.Common.{◌≡◌, ℕ, [], get_or, List, Option, true, sym, ap, arith, length, ◌∙◌}
use borrow.Author.Count.{below_more}
use Rattle.interval_form.specs.declared.interval.Interval.{Interval}
use Rattle.conc_analysis.specs.Rounds.{same_option, same_range, same_list}
use Rattle.conc_analysis.specs.Tables.{rows_in}
use Rattle.conc_analysis.proofs.Interfering.{list_differs, list_same, list_lengths, exact_row, row_itself, row_at, rows_long, rows_agree}
use Rattle.conc_analysis.proofs.writing.same_writes.Goals as goal

pub returns-then-a-b : goal.returns-then-a-b
returns-then-a-b c =
    list_lengths (same_list (same_option same_range)) exact_row (rows_in c.args.a.now) (rows_in c.args.b.now)
    (λ e. c.if-a-b.true (omega (arith, e, rows_long c.args.a.now, rows_long c.args.b.now)))

pub returns-then-not-same : goal.returns-then-not-same
returns-then-not-same c =
    list_differs (same_list (same_option same_range)) exact_row row_itself (rows_in c.args.a.now) (rows_in c.args.b.now) c.loop-t.t []
    (rows_agree (get_or (rows_in c.args.a.now) c.loop-t.t []) (get_or (rows_in c.args.b.now) c.loop-t.t []) c.deref.result.now c.deref-in-loop-t.result.now c.same_row-same.result _
    (row_at c.args.a.now c.loop-t.t c.index-a-t.result c.deref.result.now (omega (arith, c.loop-t-test.true)) c.index-a-t.is c.deref.ensures.value)
    (row_at c.args.b.now c.loop-t.t c.index-b-t.result c.deref-in-loop-t.result.now (omega (arith, c.loop-t-test.true, c.if-a-b.false)) c.index-b-t.is c.deref-in-loop-t.ensures.value)
    c.same_row-same.ensures c.if-not-same.true)

pub loop-t-preserved : goal.loop-t-preserved
loop-t-preserved c =
    below_more (λ (k : ℕ). same_list (same_option same_range) (get_or (rows_in c.args.a.now) k []) (get_or (rows_in c.args.b.now) k []) ≡ true) c.loop-t.t c.loop-t.invariant
    (rows_agree (get_or (rows_in c.args.a.now) c.loop-t.t []) (get_or (rows_in c.args.b.now) c.loop-t.t []) c.deref.result.now c.deref-in-loop-t.result.now c.same_row-same.result _
    (row_at c.args.a.now c.loop-t.t c.index-a-t.result c.deref.result.now (omega (arith, c.loop-t-test.true)) c.index-a-t.is c.deref.ensures.value)
    (row_at c.args.b.now c.loop-t.t c.index-b-t.result c.deref-in-loop-t.result.now (omega (arith, c.loop-t-test.true, c.if-a-b.false)) c.index-b-t.is c.deref-in-loop-t.ensures.value)
    c.same_row-same.ensures c.if-not-same.false)

pub returns : goal.returns
returns c =
    list_same (same_list (same_option same_range)) exact_row row_itself (rows_in c.args.a.now) (rows_in c.args.b.now) c.loop-t.t []
    (rows_long c.args.a.now ∙ (c.if-a-b.false ∙ sym (rows_long c.args.b.now))) (omega (arith, rows_long c.args.a.now, c.loop-t-test.false, c.loop-t.auto.t-end)) c.loop-t.invariant
