use Rattle.std.proofs.Common.{◌++◌, sym, ap, ◌∙◌, arith}
use Rattle.spl_tree.specs.Meaning.{exprs_in, expr_at}
use Rattle.spl_types.specs.Checks.{first_broken, expr_checks}
use Rattle.spl_types.specs.Sorts.{sort_of, waiting_checks}
use Rattle.spl_types.proofs.Firsts.{faulted_same, faulted_exit}
use Rattle.spl_types.proofs.Waiting.{checks_of, popped, one_waits, none_waits}
use Rattle.spl_types.proofs.exprs.expression.Goals as goal

pub loop-next-init : goal.loop-next-init
loop-next-init c =
    let r = one_waits c.args.names.now (exprs_in c.args.tree.now) c.args.tree.now.exprs c.new-waiting.result.items c.push.new.waiting.items (record { expr = c.args.root; sort = c.args.sort }) c.new-waiting.ensures.items c.in_ok-push.ensures c.requires in
    record { there = r.0; same = r.1 }

pub loop-next-preserved : goal.loop-next-preserved
loop-next-preserved c =
    let top = popped c.args.names.now (exprs_in c.args.tree.now) c.loop-next.waiting.items c.pop.new.self.items c.in-Some.next c.in-Some.ensures.items in
    record { there = c.in_ok-node.ensures.1; same = c.in_ok-node.ensures.0 ∙ (ap first_broken (sym top) ∙ c.loop-next.invariant.same) }

pub returns-in_err-node : goal.returns-in_err-node
returns-in_err-node c =
    let names = c.args.names.now in
    let trees = exprs_in c.args.tree.now in
    let whole = expr_checks names (sort_of c.args.sort) (expr_at trees c.args.root) in
    let top = popped names trees c.loop-next.waiting.items c.pop.new.self.items c.in-Some.next c.in-Some.ensures.items in
    faulted_exit _ _ _ whole c.from_residual-in_err-node.ensures.1 (faulted_same (checks_of names trees c.in-Some.next ++ waiting_checks names trees c.pop.new.self.items) whole _ (ap first_broken (sym top) ∙ c.loop-next.invariant.same) c.in_err-node.ensures)

pub returns : goal.returns
returns c = sym c.loop-next.invariant.same ∙ none_waits c.args.names.now (exprs_in c.args.tree.now) c.loop-next.waiting.items (omega (arith, c.in_default.ensures.cases.0, c.loop-next.waiting.ok.0))
