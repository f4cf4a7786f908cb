use Rattle.std.proofs.Common.{arith, sym, ap, ◌∙◌}
use Rattle.spl_runs.specs.Replay.{Top}
use Rattle.spl_runs.specs.Seen.{top_seen}
use Rattle.interproc_top.proofs.Last.{last-is}
use Rattle.interproc_top.proofs.replay.last_point.Goals as goal

pub returns : goal.returns
returns c =
    ap (λ (t : Top). t.point) c.at.ensures ∙ sym (last-is c.args.run.now _ (top_seen c.at.result.now) (omega (arith, c.len.ensures, c.requires)))
