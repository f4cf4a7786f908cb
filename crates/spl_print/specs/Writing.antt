-- Lines that were written, and how many notes they took.
use Rattle.std.specs.Prelude.{◌≡◌, ℕ, List, ◌++◌, drop, Option}
use Rattle.spl_tree.specs.declared.parts.Block.{Block}
use Rattle.spl_tree.specs.Lists.{Lists}
use Rattle.spl_tree.specs.Program.{BlockTree}
use Rattle.spl_tree.specs.Meaning.{block_over, second_over, stmts_in}
use Rattle.spl_print.specs.declared.writer.Source.{Source}
use Rattle.spl_print.specs.declared.writer.Writer.{Writer}
use Rattle.spl_print.specs.Canonical.{Line, written, point_lines}

-- from a text and a number of points that have their lines to another: these lines were appended, with the next notes
pub record Wrote (bytes : List ℕ) (points : List (List ℕ)) (lines : List Line) (out : List ℕ) (noted : ℕ) (out' : List ℕ) (noted' : ℕ) : Type 0 where
  pub text : out' ≡ out ++ written bytes (drop noted points) lines
  pub left : drop noted' points ≡ drop (point_lines lines) (drop noted points)

-- a writer appended these lines of a report on this source
abbrev pub Appends : Source → List Line → Writer → Writer → Type 0
Appends s lines old new = Wrote s.bytes.now s.notes.now.points lines old.out.items old.noted new.out.items new.noted

-- the statements of a tree's block, and of a second block, where there is one
abbrev pub block_in : Lists → Block → BlockTree
block_in t b = block_over t.stmt_items (stmts_in t) b

abbrev pub second_in : Lists → Option Block → Option BlockTree
second_in t b = second_over t.stmt_items (stmts_in t) b
