use Rattle.std.proofs.Common.{rules, ◌≡◌, ℕ, ◌/◌, Bool, true, false, cond, leb, sym, ap, ◌∙◌, arith, to_z, of_z, FitsSigned}
use Rattle.std.specs.Prelude.{ℤ}
use Rattle.std.specs.Int.{w64}
use Rattle.std.proofs.lemmas.Int.{to_z-of_z}
use Rattle.std.proofs.lemmas.Bool.Decides.{nat_tests}
use Rattle.oct_def.specs.Matrix.{opposite}
use Rattle.inv_text.specs.declared.bound.InvBound.{InvBound}
use Rattle.inv_text.specs.Places.{stored_bound}
use Rattle.inv_text.proofs.half_bounds.stored.Goals as goal

pub returns-then-bound : goal.returns-then-bound
unfolding stored_bound
returns-then-bound c =
    let b : InvBound = c.args.bound in
    let h = c.if-bound.true in
    let e : leb (b.column / 2) (b.row / 2) ≡ true = grind (arith, nat_tests) in
    sym (ap (λ (t : Bool). cond t b (record { row = opposite b.column; column = opposite b.row; word = b.word })) e)

pub returns : goal.returns
unfolding stored_bound
returns c =
    let b : InvBound = c.args.bound in
    let h = c.if-bound.false in
    let e : leb (b.column / 2) (b.row / 2) ≡ false = grind (arith, nat_tests) in
    let f : FitsSigned w64 c.args.bound.word = search rules in
    ap (λ (r : ℕ). record { row = r; column = c.opposite-2.result; word = to_z w64 (of_z w64 b.word) }) c.opposite.ensures
    ∙ ap (λ (k : ℕ). record { row = opposite b.column; column = k; word = to_z w64 (of_z w64 b.word) }) c.opposite-2.ensures
    ∙ ap (λ (w : ℤ). record { row = opposite b.column; column = opposite b.row; word = w }) (to_z-of_z w64 b.word f)
    ∙ sym (ap (λ (t : Bool). cond t b (record { row = opposite b.column; column = opposite b.row; word = b.word })) e)
