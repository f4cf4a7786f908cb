use Rattle.domain_tests.proofs.Solved.{points-in, stored-dims, read-dims}
use Rattle.domain_tests.proofs.analyses.point_views.Goals as goal

pub value-requires : goal.value-requires
value-requires g c = points-in c.args.core.now c.args.delay 2 c.args.point c.args.solution.now c.requires.solved c.requires.point

pub view-requires : goal.view-requires
view-requires g c = record {
  dims = stored-dims c.law_sizes.ensures c.args.core.now c.args.delay 2 c.args.point c.args.solution.now _ _ _ c.requires.solved c.requires.point
      c.value.ensures c.owner.ensures.found c.proc_at-dims.ensures.found;
}

pub read-requires : goal.read-requires
read-requires g c = points-in c.args.core.now c.args.delay 2 c.args.point c.args.solution.now c.requires.solved c.requires.point

pub view-requires-2 : goal.view-requires-2
view-requires-2 g c = record {
  dims = read-dims c.law_sizes.ensures c.args.core.now c.args.delay 2 c.args.point c.args.solution.now _ _ _ c.requires.solved c.requires.point
      c.in_ok-value.ensures.value c.owner.ensures.found c.proc_at-dims.ensures.found;
}
