use Rattle.std.proofs.Common.{length, sym, subst}
use Rattle.spl_tree.specs.declared.parts.Expr.{Expr}
use Rattle.spl_tree.specs.Facts.{ExprFits}
use Rattle.spl_tree.specs.Meaning.{names_in, exprs_in, expr_over}
use Rattle.spl_types.specs.declared.exprs.Sort.TheVariants.{Number as NumberSort, Condition as ConditionSort}
use Rattle.spl_types.specs.Sorts.{inner_checks, node_count, LeavesChildren}
use Rattle.spl_types.proofs.Waiting.{leaves_one, leaves_two}
use Rattle.spl_types.proofs.exprs.inside.Goals as goal

pub returns-in-Neg : goal.returns-in-Neg
returns-in-Neg c =
    let t = c.args.tree.now in
    let F : Expr → Type 0 = λ e. ExprFits t (length t.exprs) e in
    let P : Expr → Type 0 = λ e. LeavesChildren c.args.names.now (exprs_in t) t.exprs (inner_checks c.args.names.now (expr_over (names_in t) (exprs_in t) e c.args.at)) (node_count (expr_over (names_in t) (exprs_in t) e c.args.at)) c.args.waiting.now.items c.push.new.waiting.items c.push.result in
    subst P (sym c.in-Neg.is) (leaves_one c.args.names.now (exprs_in t) t.exprs c.args.waiting.now.items c.push.new.waiting.items (record { expr = c.in-Neg.a; sort = NumberSort }) c.push.result c.requires.others (subst F c.in-Neg.is c.requires.fits) c.push.ensures)

pub returns-in-Not : goal.returns-in-Not
returns-in-Not c =
    let t = c.args.tree.now in
    let F : Expr → Type 0 = λ e. ExprFits t (length t.exprs) e in
    let P : Expr → Type 0 = λ e. LeavesChildren c.args.names.now (exprs_in t) t.exprs (inner_checks c.args.names.now (expr_over (names_in t) (exprs_in t) e c.args.at)) (node_count (expr_over (names_in t) (exprs_in t) e c.args.at)) c.args.waiting.now.items c.push-in-Not.new.waiting.items c.push-in-Not.result in
    subst P (sym c.in-Not.is) (leaves_one c.args.names.now (exprs_in t) t.exprs c.args.waiting.now.items c.push-in-Not.new.waiting.items (record { expr = c.in-Not.a; sort = ConditionSort }) c.push-in-Not.result c.requires.others (subst F c.in-Not.is c.requires.fits) c.push-in-Not.ensures)

pub returns-in_ok-push-in-Binary : goal.returns-in_ok-push-in-Binary
returns-in_ok-push-in-Binary c =
    let t = c.args.tree.now in
    let F : Expr → Type 0 = λ e. ExprFits t (length t.exprs) e in
    let fits = subst F c.in-Binary.is c.requires.fits in
    let P : Expr → Type 0 = λ e. LeavesChildren c.args.names.now (exprs_in t) t.exprs (inner_checks c.args.names.now (expr_over (names_in t) (exprs_in t) e c.args.at)) (node_count (expr_over (names_in t) (exprs_in t) e c.args.at)) c.args.waiting.now.items c.push-in-Binary-2.new.waiting.items c.push-in-Binary-2.result in
    subst P (sym c.in-Binary.is) (leaves_two c.args.names.now (exprs_in t) t.exprs c.in-Binary.op c.args.at c.operand_sort-sort.result c.in-Binary.a c.in-Binary.b c.args.waiting.now.items c.push-in-Binary.new.waiting.items c.push-in-Binary-2.new.waiting.items c.push-in-Binary-2.result c.requires.others fits.0 fits.1 c.operand_sort-sort.ensures c.in_ok-push-in-Binary.ensures c.push-in-Binary-2.ensures)
