use Rattle.std.proofs.Common.{length, sym, ap, ◌∙◌, eqb, get_or}
use Rattle.spl_tree.specs.Program.{ProcMeaning}
use Rattle.spl_tree.specs.Laws.{procs_in}
use Rattle.spl_types.proofs.Lookups.{counts_same, counts_differ}
use Rattle.spl_types.proofs.calls.has_counts.Goals as goal

pub returns-then-outputs-name_count : goal.returns-then-outputs-name_count
returns-then-outputs-name_count c = λ d.
    let p = sym (c.proc_node.ensures.stands d) in
    let o = c.decl_count-outputs.ensures.count ∙ ap (λ (x : ProcMeaning). length x.outputs) p in
    let i = c.decl_count-inputs.ensures.count ∙ ap (λ (x : ProcMeaning). length x.inputs) p in
    ap (λ n. eqb c.decl_count-inputs.result n) c.name_count-then-outputs-name_count.ensures ∙ counts_same (get_or (procs_in c.args.tree.now) c.args.p d) c.decl_count-outputs.result c.decl_count-inputs.result _ _ o i (c.if-outputs-name_count.true ∙ c.name_count.ensures)

pub returns-else-outputs-name_count : goal.returns-else-outputs-name_count
returns-else-outputs-name_count c = λ d.
    let p = sym (c.proc_node.ensures.stands d) in
    let o = c.decl_count-outputs.ensures.count ∙ ap (λ (x : ProcMeaning). length x.outputs) p in
    ap (λ n. eqb c.decl_count-outputs.result n) c.name_count.ensures ∙ counts_differ (get_or (procs_in c.args.tree.now) c.args.p d) c.decl_count-outputs.result _ _ o (λ e. c.if-outputs-name_count.false (e ∙ sym c.name_count.ensures))
