use Rattle.std.proofs.Common.{◌<◌, ◌≤◌, List, length, subst, arith}
use Rattle.std.proofs.lemmas.List.{take_all}
use Rattle.spl_tree.specs.Laws.{procs_in}
use Rattle.spl_tree.specs.Program.{ProcMeaning}
use Rattle.spl_types.specs.Tables.{Numbers, proc_names}
use Rattle.spl_types.proofs.Numbering.{no_proc, names_more}
use Rattle.spl_types.proofs.tables.ProcTable.of.Goals as goal

pub loop-p-preserved : goal.loop-p-preserved
loop-p-preserved c =
    let w = c.law_tree.ensures.known in
    let count = (c.law_tree.ensures.numbers c.args.tree.now w).0.procs in
    let lt : c.loop-p.p < length (procs_in c.args.tree.now) = omega (arith, count, c.proc_count-p-end.ensures.count) in
    names_more c.loop-p.table c.add.new.self (procs_in c.args.tree.now) c.loop-p.p c.proc_name.result.now lt (c.proc_name.ensures no_proc) c.loop-p.invariant c.in_ok-add.ensures

pub returns : goal.returns
returns c =
    let w = c.law_tree.ensures.known in
    let count = (c.law_tree.ensures.numbers c.args.tree.now w).0.procs in
    let le : length (procs_in c.args.tree.now) ≤ c.loop-p.p = omega (arith, count, c.proc_count-p-end.ensures.count) in
    let P : List ProcMeaning → Type 0 = λ ps. Numbers c.loop-p.table (proc_names ps) in
    subst P (take_all c.loop-p.p (procs_in c.args.tree.now) le) c.loop-p.invariant
