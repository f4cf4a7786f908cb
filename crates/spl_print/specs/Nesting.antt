-- Blocks in blocks: how deep the statements of a tree can nest, and the lines of `else` and of a loop.
use Rattle.std.specs.Prelude.{ℕ, suc, ◌+◌, ◌*◌, ◌^◌, ◌<◌, ◌≤◌, max, List, [], ◌∷◌, ◌++◌, length, codes, Option, Some, None}
use Rattle.spl_tree.specs.declared.parts.StmtId.{StmtId}
use Rattle.spl_tree.specs.declared.parts.Block.{Block}
use Rattle.spl_tree.specs.Lists.{Lists}
use Rattle.spl_tree.specs.Meaning.{span_of}
use Rattle.spl_tree.specs.Program.{ExprTree, BlockTree}
use Rattle.spl_print.specs.Canonical.{expr_text, Line, words, block_lines}

-- one more than the highest number among statements, which bounds how deep they nest
abbrev pub above : List StmtId → ℕ
above [] = 0
above (s ∷ ids) = max (suc s.0) (above ids)

abbrev pub above_block : Lists → Block → ℕ
above_block t b = above (span_of t.stmt_items b.first b.count)

abbrev pub above_second : Lists → Option Block → ℕ
above_second t None = 0
above_second t (Some b) = above_block t b

-- a block in range at an indent that leaves room for all blocks in it; a second block, where there is one; a statement
pub record Nests (t : Lists) (indent : ℕ) (b : Block) : Type 0 where
  pub span : b.first + b.count ≤ length t.stmt_items
  pub room : indent + 2 * above_block t b ≤ 2 ^ 22

abbrev pub SecondNests : Lists → ℕ → Option Block → Type 0
SecondNests t indent None = Unit {0}
SecondNests t indent (Some b) = Nests t indent b

pub record StmtNests (t : Lists) (indent : ℕ) (s : StmtId) : Type 0 where
  pub there : s.0 < length t.stmts
  pub room : indent + 2 * suc s.0 ≤ 2 ^ 22

-- `else` and its block, where there is one
abbrev pub else_lines : ℕ → ℕ → Option BlockTree → List Line
else_lines n start None = []
else_lines n start (Some b) = words n (codes "else") ∷ block_lines (n + 2) start b

-- a loop
abbrev pub while_lines : ℕ → ℕ → ExprTree → BlockTree → List Line
while_lines n start e body = words n (codes "while " ++ (expr_text e ++ codes " do")) ∷ (block_lines (n + 2) start body ++ words n (codes "done;") ∷ [])
