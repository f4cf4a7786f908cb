use Rattle.std.proofs.Common.{◌+◌, ap, ◌∙◌}
use Rattle.spl_tree.specs.Meaning.{stmts_in, block_over}
use Rattle.spl_types.specs.Checks.{Procedure}
use Rattle.control_points.specs.CoreOf.{block_points, procedure_points}
use Rattle.control_points.specs.declared.offsets.Search.{Search}
use Rattle.control_points.specs.Search.{passed_all}
use Rattle.control_points.proofs.offsets.pass_procedure.Goals as goal

pub returns : goal.returns
returns c =
    let t = c.args.tree.now in
    let r = c.routine_at-routine.result in
    c.pass_block.ensures
    ∙ (ap (λ (s : Search). passed_all s (block_points (r.begin + 5) (block_over t.stmt_items (stmts_in t) r.body))) c.pass.ensures
    ∙ ap (λ (u : Procedure). passed_all c.args.search.now (procedure_points u)) c.routine_at-routine.ensures.stands)
