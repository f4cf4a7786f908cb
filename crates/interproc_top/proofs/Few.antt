-- A text of choices has fewer steps than bytes.
use Rattle.std.proofs.Common.{ℕ, ◌+◌, ◌≤◌, List, [], ◌∷◌, length, ℤ, ap, ◌∙◌, arith, length-append}
use Rattle.spl_runs.specs.Choices.{Given}
use Rattle.spl_runs.specs.ChoicesText.{Lines, nothing, only, more, IsChoices, line_bytes, line_numbers, lines_bytes, lines_given, last_bytes, with_step}

step_more : (g : Given) (numbers : List ℤ) → length (with_step g numbers).steps ≤ length g.steps + 1
step_more g [] = omega arith
step_more g (edge ∷ values) = let e = length-append g.steps (record { edge = edge; values = values } ∷ []) in omega (arith, e)

few_lines : (lines : Lines) → length (lines_given lines).steps ≤ length (lines_bytes lines)
few_lines nothing = omega arith
few_lines (only line) = omega arith
few_lines (more front line) =
    let a = few_lines front in
    let b = step_more (lines_given front) (line_numbers line) in
    let c = length-append (lines_bytes front) (10 ∷ line_bytes line) in
    omega (arith, a, b, c)

pub few_steps : (bytes : List ℕ) (g : Given) → IsChoices bytes g → length g.steps ≤ length bytes
few_steps bytes g is =
    let a = few_lines is.spells.lines in
    let e = ap (λ (h : Given). length h.steps) is.spells.means in
    let t = ap length is.spells.text ∙ length-append (lines_bytes is.spells.lines) (last_bytes is.spells.last) in
    omega (arith, a, e, t)
