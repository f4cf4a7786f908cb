use Rattle.std.proofs.Common.{◌<◌, length, sym, arith}
use Rattle.spl_tree.specs.Laws.{procs_in}
use Rattle.spl_types.proofs.Numbering.{no_proc}
use Rattle.spl_types.proofs.Procedures.{first_found, first_missing}
use Rattle.spl_types.proofs.routines.is_first.Goals as goal

pub returns-in-Some : goal.returns-in-Some
returns-in-Some c =
    let t = c.args.tree.now in
    let lt : c.args.p < length (procs_in t) = omega (arith, c.requires.there, (c.law_tree.ensures.numbers t c.law_tree.ensures.known).0.procs) in
    first_found (procs_in t) c.args.procs.now c.args.name.now c.args.p c.in-Some.first lt (c.requires.own no_proc) c.requires.numbers (sym c.in-Some.ensures)

pub returns-in-None : goal.returns-in-None
returns-in-None c =
    let t = c.args.tree.now in
    let lt : c.args.p < length (procs_in t) = omega (arith, c.requires.there, (c.law_tree.ensures.numbers t c.law_tree.ensures.known).0.procs) in
    absurd (first_missing (procs_in t) c.args.procs.now c.args.name.now c.args.p lt (c.requires.own no_proc) c.requires.numbers (sym c.in-None.ensures))
