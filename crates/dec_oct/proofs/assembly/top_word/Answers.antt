use Rattle.std.proofs.Common.{sym, ap, ◌∙◌}
use Rattle.oct_def.specs.Octagon.{top_entry}
use Rattle.block_laws.proofs.Assembly.{top_entry-off, top_entry-on}
use Rattle.dec_oct.proofs.assembly.top_word.Goals as goal

pub returns-then-i-j : goal.returns-then-i-j
returns-then-i-j c = sym (top_entry-on c.args.i) ∙ ap (top_entry c.args.i) c.if-i-j.true

pub returns-else-i-j : goal.returns-else-i-j
returns-else-i-j c = sym (top_entry-off c.args.i c.args.j c.if-i-j.false)
