-- Inductive values cover what comes to points.
use Rattle.std.proofs.Common.{ℕ}
use Rattle.oct_def.specs.Octagon.{Octagon}
use Rattle.oct_def.proofs.Below.{meets-below}
use Rattle.spl_core.specs.Graph.{Graph}
use Rattle.call_graph.specs.Order.{is_cut}
use Rattle.equations.specs.Equations.{equation, read, AreSized, Covers}
use Rattle.equations.specs.Inductive.{Inductive}
use Rattle.equations.proofs.Facts.{Known}
use Rattle.equations.proofs.Cover.{solutions_cover}

pub inductive_covers : (g : Graph) (x : ℕ → Octagon) → Known g → AreSized g x → Inductive g x → Covers g x
inductive_covers g x is sized h =
    solutions_cover g (is_cut g) x is sized (λ p s l m. meets-below s (equation g (read (is_cut g) x) p) (x p) (h.below p l) m)
