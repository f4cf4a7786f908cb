use Rattle.std.proofs.Common.{sym, ap, ◌∙◌}
use Rattle.spl_tree.specs.Program.{ProcMeaning}
use Rattle.spl_types.proofs.nodes.proc_name.Goals as goal

pub returns : goal.returns
returns c = λ d. c.name.ensures ∙ sym (ap (λ (p : ProcMeaning). p.name.name) (c.proc_node.ensures.stands d))
