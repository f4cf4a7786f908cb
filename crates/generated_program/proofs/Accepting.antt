-- The laws: a generated text is accepted as the program of its number, which has its points.
use Rattle.std.proofs.Common.{refl, ℕ, zero, suc, ◌<◌, ◌∙◌, arith, subst}
use Rattle.read_back.specs.ReadsBack.{ReadsAs}
use Rattle.read_back.proofs.Fit.{AreFit}
use Rattle.read_back.proofs.Limits.{Keeps}
use Rattle.read_back.proofs.ReadingBack.{reads_from}
use Rattle.spl_gen.specs.Generated.{generated}
use Rattle.generated_program.specs.ProgramOf.{program}
use Rattle.generated_program.specs.Accepted.{GeneratedProgramHasPoints, GeneratedTextIsAccepted}
use Rattle.generated_program.proofs.Whole.{generated_reads, program_said}
use Rattle.generated_program.proofs.Kept.{generated_fit, generated_kept}
use Rattle.generated_program.proofs.Placeless.{kept_aside, points_aside}
use Rattle.generated_program.proofs.Rules.{program_kept, program_points}
use Rattle.generated_program.proofs.Short.{generated_short}

is_read : (m : ℕ) → m < 42 → ReadsAs (generated (suc m)) (program (suc m))
is_read m small =
    reads_from (generated (suc m)) (program (suc m)) (generated_reads m small) (subst AreFit (program_said m) (generated_fit m small)) (subst (Keeps 0 0) (program_said m) (generated_kept m small))

pub is_accepted : GeneratedTextIsAccepted
is_accepted zero some small = absurd (omega arith)
is_accepted (suc m) some small =
    let reads = is_read m (omega arith) in
    record { short = generated_short (suc m) small; reads = reads; kept = kept_aside reads.program (program (suc m)) reads.same refl (program_kept (suc m) small) }

pub has_points : GeneratedProgramHasPoints
has_points n p same = points_aside p (program n) same refl ∙ program_points n
