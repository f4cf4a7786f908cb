use Rattle.std.proofs.Common.{sym, ◌∙◌}
use Rattle.dec_oct.proofs.Flags.{marked-same, marked-words}
use Rattle.dec_oct.proofs.marks.is_marked_block.Goals as goal

pub returns-then-settled-at-clause-no : goal.returns-then-settled-at-clause-no
returns-then-settled-at-clause-no c = λ e r. c.same_matrix.ensures.no e
    (c.buf.ensures ∙ marked-words c.args.partition.now c.args.matrices.now c.args.settled.now c.args.members.now c.args.m.now _ c.in-Some.b c.known.ensures.partition c.requires.filled c.requires.count c.in-Some.ensures c.index-matrices-at.is r ∙ sym c.buf-then-settled-at.ensures)

pub returns-else-settled-at-clause-no : goal.returns-else-settled-at-clause-no
returns-else-settled-at-clause-no c = λ e r.
    marked-same c.args.partition.now c.args.matrices.now c.args.settled.now c.args.members.now c.args.m.now c.in-Some.b c.known.ensures.partition c.requires.filled c.in-Some.ensures r c.if-settled-at.false
