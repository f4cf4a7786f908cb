use Rattle.std.proofs.Common.{◌-◌, ap₂}
use Rattle.spl_tree.specs.Meaning.{program_of}
use Rattle.interproc_top.proofs.Benched.{exit-in, exit-dims, figures-are}
use Rattle.interproc_top.proofs.bench.figures_of.Goals as goal

pub read-requires : goal.read-requires
read-requires c =
    let o = c.usual-options.result in
    exit-in c.in_ok-built.built.core c.in_ok-solution.solution o.delay o.descend c.procs.result c.proc_at-main.result
    c.procs.ensures.known c.in_ok-solution.ensures.solution c.procs.ensures.count c.proc_at-main.ensures.found

pub components-requires : goal.components-requires
components-requires c =
    let o = c.usual-options.result in
    record {
      dims =
          exit-dims c.law_sizes.ensures c.in_ok-built.built.core c.in_ok-solution.solution o.delay o.descend c.procs.result c.proc_at-main.result _
          c.procs.ensures.known c.in_ok-solution.ensures.solution c.procs.ensures.count c.proc_at-main.ensures.found c.in_ok-last.ensures.value;
    }

pub returns-clause-figures : goal.returns-clause-figures
returns-clause-figures c =
    figures-are c.args.number (c.read.new.dom - c.args.dom.now) (c.rows.result - c.rows-before.result) (program_of c.args.checked.now) c.in_ok-built.built.core c.in_ok-solution.solution c.usual-options.result c.procs.result c.proc_at-main.result _
    _ c.points.result c.rounds.result c.len.result c.greatest_size.result
    c.procs.ensures.known c.in_ok-built.ensures.graph c.usual-options.ensures c.in_ok-solution.ensures.solution c.procs.ensures.count c.proc_at-main.ensures.found
    c.in_ok-last.ensures.value c.in_ok-blocks.ensures c.requires.points c.points.ensures.count c.rounds.ensures c.len.ensures.count c.greatest_size.ensures
    (ap₂ (λ now before. now - before) c.rows.ensures c.rows-before.ensures)
