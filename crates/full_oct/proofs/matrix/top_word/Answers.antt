use Rattle.std.proofs.Common.{sym}
use Rattle.full_oct.proofs.Adding.{top-same, top-other}
use Rattle.full_oct.proofs.matrix.top_word.Goals as goal

pub returns-then-i-j : goal.returns-then-i-j
returns-then-i-j c = sym (top-same c.args.i c.args.j c.if-i-j.true)

pub returns-else-i-j : goal.returns-else-i-j
returns-else-i-j c = sym (top-other c.args.i c.args.j c.if-i-j.false)
