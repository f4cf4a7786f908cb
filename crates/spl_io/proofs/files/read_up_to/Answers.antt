use Rattle.spl_io.proofs.Pieces.{ends-read}
use Rattle.spl_io.proofs.files.read_up_to.Goals as goal

pub returns-then-is_err-2-clause-no_memory_left : goal.returns-then-is_err-2-clause-no_memory_left
returns-then-is_err-2-clause-no_memory_left g c =
    λ _. ends-read _ _ _ c.loop-buf.all.items _ _ _ c.loop-buf.invariant.same_files c.loop-buf.invariant.has c.in-Ok.ensures.taken
