use Rattle.dec_oct.proofs.Results.{merged-over, merged-blocks}
use Rattle.dec_oct.proofs.merge.merged_parts.Goals as goal

pub strong_parts_over-requires-clause-others : goal.strong_parts_over-requires-clause-others
strong_parts_over-requires-clause-others c =
    merged-over c.args.dims c.args.partition.now _ _ _ c.in_ok-vars.vars.items _ c.requires.few c.requires.parts.partition c.known.ensures.partition c.in_ok-vars.ensures c.in_ok-merged.ensures c.deref.ensures.value c.in_ok-merge.ensures.merged

pub returns-clause-parts : goal.returns-clause-parts
returns-clause-parts c =
    (merged-blocks c.args.dims c.args.partition.now _ _ c.args.matrices.now _ c.in_ok-vars.vars.items _ c.requires.few c.requires.parts c.known.ensures.partition c.in_ok-vars.ensures c.in_ok-merged.ensures c.deref.ensures.value c.in_ok-merge.ensures.merged c.in_ok-matrices.ensures.count c.in_ok-matrices.ensures.each).0

pub returns-clause-same : goal.returns-clause-same
returns-clause-same c =
    (merged-blocks c.args.dims c.args.partition.now _ _ c.args.matrices.now _ c.in_ok-vars.vars.items _ c.requires.few c.requires.parts c.known.ensures.partition c.in_ok-vars.ensures c.in_ok-merged.ensures c.deref.ensures.value c.in_ok-merge.ensures.merged c.in_ok-matrices.ensures.count c.in_ok-matrices.ensures.each).1
