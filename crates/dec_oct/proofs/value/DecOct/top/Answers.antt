use Rattle.std.proofs.Common.{ap, ◌∙◌}
use Rattle.dec_oct.specs.Value.{octagon}
use Rattle.dec_oct.proofs.Tops.{top-decomposition, top-view}
use Rattle.dec_oct.proofs.value.DecOct.top.Goals as goal

pub of_blocks-requires-clause-blocks : goal.of_blocks-requires-clause-blocks
of_blocks-requires-clause-blocks c = top-decomposition c.args.dims _ _ _ c.new.ensures c.new-2.ensures.items c.new-3.ensures.items

pub returns-clause-value : goal.returns-clause-value
returns-clause-value c = ap octagon c.in_ok-v.ensures ∙ top-view c.args.dims _ _ c.new-3.result.items c.new.ensures c.new-2.ensures.items
