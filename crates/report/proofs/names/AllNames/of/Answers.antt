use Rattle.std.proofs.Common.{◌≡◌, length, map, ap, ◌∙◌, arith}
use Rattle.std.specs.List.{range_with_len}
use Rattle.spl_tree.specs.Lists.{Lists}
use Rattle.spl_tree.specs.Meaning.{program_of}
use Rattle.spl_types.specs.Dimensions.{dimensions}
use Rattle.report.proofs.Noting.{one_more_names}
use Rattle.report.proofs.names.AllNames.of.Goals as goal

pub loop-p-preserved : goal.loop-p-preserved
loop-p-preserved c =
    one_more_names (program_of c.args.checked.now) c.loop-p.p c.loop-p.procs.items c.push.new.self.items c.in_ok-names.names c.loop-p.invariant c.in_ok-push.ensures.items c.in_ok-names.ensures

pub returns : goal.returns
unfolding program_of
returns c =
    let many : length (program_of c.args.checked.now).procs ≡ length c.args.checked.now.procs = (c.law_numbers.ensures c.args.checked.now c.tree.ensures.known).0.procs in
    let same : length c.tree.result.now.procs ≡ length c.args.checked.now.procs = ap (λ (t : Lists). length t.procs) c.tree.ensures.value in
    c.loop-p.invariant ∙ ap (λ n. map (dimensions (program_of c.args.checked.now)) (range_with_len 0 n)) (omega arith)
