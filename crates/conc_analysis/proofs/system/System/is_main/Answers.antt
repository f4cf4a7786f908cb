use Rattle.std.proofs.Common.{ap}
use Rattle.conc_analysis.specs.Plan.{Plan}
use Rattle.conc_analysis.proofs.Turning.{main_test}
use Rattle.conc_analysis.proofs.system.System.is_main.Goals as goal

pub returns : goal.returns
returns c =
    main_test c.args.self.now.core c.self.inside.core.now c.args.p c.owner.result c.procs.result (ap (λ (z : Plan). z.core) c.self.view_is) c.owner.ensures.found c.procs.ensures.count
