-- Generated texts are accepted.
use Rattle.std.specs.Prelude.{◌≡◌, ℕ, ◌+◌, ◌*◌, ◌^◌, ◌≤◌, None, List, length}
use Rattle.spl_tree.specs.Program.{Program, SamePlacesAside}
use Rattle.spl_types.specs.Checks.{broken_rule}
use Rattle.spl_types.specs.Accepted.{point_count}
use Rattle.read_back.specs.ReadsBack.{ReadsAs}
use Rattle.spl_gen.specs.Generated.{generated}
use Rattle.generated_program.specs.ProgramOf.{program}

-- a text is short enough for a program, reads as this one, places aside, and breaks no rule
pub record IsAcceptedAs (text : List ℕ) (p : Program) : Type 0 where
  pub short : length text ≤ 2 ^ 20
  pub reads : ReadsAs text p
  pub kept : broken_rule reads.program ≡ None

abbrev pub GeneratedTextIsAccepted : Type 0
GeneratedTextIsAccepted = (n : ℕ) → 1 ≤ n → n ≤ 42 → IsAcceptedAs (generated n) (program n)

-- wherever its parts stand, the program of a number has so many points
abbrev pub GeneratedProgramHasPoints : Type 0
GeneratedProgramHasPoints = (n : ℕ) (p : Program) → SamePlacesAside p (program n) → point_count p ≡ 5 * n + 4
