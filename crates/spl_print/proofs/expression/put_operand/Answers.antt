use Rattle.std.proofs.Common.{nat_lt, get_or, sym, ap}
use Rattle.spl_tree.specs.Meaning.{names_in, exprs_in}
use Rattle.spl_print.proofs.Waiting.{operand_written}
use Rattle.spl_print.proofs.expression.put_operand.Goals as goal

pub returns : goal.returns
returns c =
    operand_written c.args.tree.now c.law_tree.ensures.numbers c.law_tree.ensures.known c.args.expr c.expr-node.result c.args.wanted _ c.args.out.now.items _ c.put_node.new.out.items c.args.waiting.now.items _ c.put_node.new.waiting.items
    c.requires c.expr-node.ensures.found
    (ap (λ l. nat_lt l c.args.wanted) (sym (c.level.ensures (names_in c.args.tree.now) (exprs_in c.args.tree.now) (get_or c.args.tree.now.expr_places c.args.expr.0 0))))
    c.in_ok-put_opening.ensures.text c.in_ok-put_opening.ensures.waiting c.in_ok-put_node.ensures.text c.in_ok-put_node.ensures.waiting
