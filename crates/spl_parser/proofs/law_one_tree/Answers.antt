use Rattle.std.proofs.Common.{sym, ap, ◌∙◌}
use Rattle.spl_parser.specs.TreeOf.{tree_of}
use Rattle.spl_parser.proofs.Laws.{one_derivation}
use Rattle.spl_parser.proofs.law_one_tree.Goals as goal

pub returns : goal.returns
returns c source tokens one other a b = sym a.2 ∙ (ap (λ d. tree_of source d) (one_derivation a.0 b.0 (a.1 ∙ sym b.1)) ∙ b.2)
