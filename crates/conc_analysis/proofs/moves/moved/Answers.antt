use Rattle.std.proofs.Common.{refl, sym}
use Rattle.spl_core.specs.Graph.{expr_at, exprs_in}
use Rattle.conc_analysis.proofs.Testing.{assigned-is, havocked-is}
use Rattle.conc_analysis.proofs.moves.moved.Goals as goal

pub returns-in_ok-after-in-Assign-Some : goal.returns-in_ok-after-in-Assign-Some
returns-in_ok-after-in-Assign-Some c =
    assigned-is c.in-Assign-Some.target c.in-Assign-Some.expr (expr_at (exprs_in c.args.core.now) c.in-Assign-Some.expr) c.args.action c.args.core.now c.args.v.now c.in-Assign-Some.ranges c.in_ok-after-in-Assign-Some.after c.in_ok-value-in-Assign-Some.value
    (sym c.in-Assign-Some.is-0) refl c.in-Assign-Some.is-1 c.in_ok-value-in-Assign-Some.ensures c.in_ok-after-in-Assign-Some.ensures

pub returns-in_ok-after-in-Havoc-Some : goal.returns-in_ok-after-in-Havoc-Some
returns-in_ok-after-in-Havoc-Some c =
    havocked-is c.in-Havoc-Some.target c.args.action c.args.core.now c.args.v.now c.in-Havoc-Some.ranges c.in_ok-after-in-Havoc-Some.after
    (sym c.in-Havoc-Some.is-0) c.in-Havoc-Some.is-1 c.in_ok-after-in-Havoc-Some.ensures
