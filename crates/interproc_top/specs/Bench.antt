-- The analysis of a generated program, and its figures.
use Rattle.std.specs.Prelude.{◌≡◌, ◌+◌, ◌*◌, ℕ, List, length, ◌++◌, codes, decimal}
use Rattle.oct_def.specs.Octagon.{Octagon}
use Rattle.spl_core.specs.Graph.{proc_of, main_of}
use Rattle.spl_tree.specs.Program.{Program}
use Rattle.control_points.specs.CoreOf.{core_of}
use Rattle.iteration.specs.Solved.{rounds_of}
use Rattle.components.specs.Value.{AreComponentsOf, IsGreatestSize}
use Rattle.spl_gen.specs.Generated.{generated}
use Rattle.interproc_top.specs.Accepted.{IsAccepted}
use Rattle.interproc_top.specs.Analysis.{found, usual}
use Rattle.interproc_top.specs.declared.bench.Figures.{Figures}

-- the value that is read at main's exit
abbrev pub found_last : Program → Octagon
found_last p = found usual p (proc_of (core_of p) (main_of (core_of p))).exit

-- the figures of the program with this number: the blocks are the components of the value at main's exit, and so many rows
-- were relaxed
pub record AreFiguresOf (n relaxed : ℕ) (p : Program) (f : Figures) : Type 0 where
  pub variables : f.variables ≡ 3 * n
  pub points : f.points ≡ 5 * n + 4
  pub rounds : f.rounds ≡ rounds_of (core_of p) usual.delay
  pub components : List (List ℕ)
  pub exact : AreComponentsOf (found_last p) components
  pub blocks : f.blocks ≡ length components
  pub largest : IsGreatestSize components f.largest
  pub rows : f.rows ≡ relaxed

abbrev pub figure_line : List ℕ → ℕ → List ℕ
figure_line name figure = name ++ (codes " " ++ (decimal figure ++ codes "\n"))

unfoldable pub figures_text : Figures → List ℕ
figures_text f =
    figure_line (codes "variables") f.variables
    ++ (figure_line (codes "points") f.points
    ++ (figure_line (codes "rounds") f.rounds
    ++ (figure_line (codes "blocks") f.blocks ++ (figure_line (codes "largest") f.largest ++ figure_line (codes "rows") f.rows))))

-- the text has the figures of the program with this number and so many rows
pub record IsBenchWith (n relaxed : ℕ) (text : List ℕ) : Type 0 where
  pub program : Program
  pub accepted : IsAccepted (generated n) program
  pub figures : Figures
  pub measured : AreFiguresOf n relaxed program figures
  pub written : text ≡ figures_text figures

-- the text has the figures of the program with this number
abbrev pub IsBenchOf : ℕ → List ℕ → Type 0
IsBenchOf n text = (relaxed : ℕ) × IsBenchWith n relaxed text
