use Rattle.std.proofs.Common.{sym, subst}
use Rattle.spl_core.specs.Facts.{EdgeFits}
use Rattle.spl_core.specs.Parts.{no_edge}
use Rattle.domain_tests.proofs.cores.edge_of.Goals as goal

pub returns : goal.returns
returns c = subst (EdgeFits c.args.core.now) (sym c.edge_at.ensures.found) (c.edge_at.ensures.known.edges c.args.k no_edge c.requires)
