use Rattle.std.proofs.Common.{ℕ, arith, rules, ◌∙◌, ap, to_z, of_z}
use Rattle.std.specs.Prelude.{ℤ, FitsSigned}
use Rattle.std.specs.Int.{w64}
use Rattle.std.proofs.lemmas.Int.{to_z-of_z}
use Rattle.oct_def.specs.Bound.{bound_of}
use Rattle.full_oct.specs.Words.{replaced}
use Rattle.full_oct.proofs.Places.{rows_of, square_of}
use Rattle.full_oct.proofs.Rows.{rewritten-none, rewritten-more}
use Rattle.full_oct.proofs.matrix.FullMatrix.rewrite_row.Goals as goal

pub word-word-requires-clause-column : goal.word-word-requires-clause-column
word-word-requires-clause-column g c =
    let e = rows_of c.self.inside.size c.self.inside.words.items c.args.self.now c.self.view_is in
    omega (arith, e, c.loop-j.invariant.rows, c.loop-j-test.true)

pub entry-requires : goal.entry-requires
entry-requires g c =
    let e = rows_of c.self.inside.size c.self.inside.words.items c.args.self.now c.self.view_is in
    c.requires.callable c.loop-j.j (to_z w64 (of_z w64 c.word-word.result)) (omega (arith, e))

pub set-requires-clause-column : goal.set-requires-clause-column
set-requires-clause-column g c =
    let e = rows_of c.self.inside.size c.self.inside.words.items c.args.self.now c.self.view_is in
    omega (arith, e, c.loop-j.invariant.rows, c.loop-j-test.true)

pub loop-j-init : goal.loop-j-init
loop-j-init g c =
    let asked : ℕ → ℤ → ℤ → Type 0 = λ j v w. g.F.Fn.post c.args.entry (j, (v, tt)) w in
    rewritten-none asked c.args.self.now c.args.i (square_of c.self.inside.size c.self.inside.words.items c.args.self.now c.self.view_is)

pub loop-j-preserved : goal.loop-j-preserved
loop-j-preserved g c =
    let e = rows_of c.self.inside.size c.self.inside.words.items c.args.self.now c.self.view_is in
    let asked : ℕ → ℤ → ℤ → Type 0 = λ j v w. g.F.Fn.post c.args.entry (j, (v, tt)) w in
    let old_fits : FitsSigned w64 c.word-word.result = search rules in
    let new_fits : FitsSigned w64 c.entry.result = search rules in
    rewritten-more asked c.args.self.now c.loop-j.self c.set.new.self c.args.i c.loop-j.j (to_z w64 (of_z w64 c.word-word.result)) c.entry.result c.loop-j.invariant c.requires.row (omega (arith, e))
    (ap bound_of (to_z-of_z w64 c.word-word.result old_fits) ∙ c.word-word.ensures.bound) c.entry.ensures
    (c.set.ensures ∙ ap (λ w. replaced c.loop-j.self c.args.i c.loop-j.j (bound_of w)) (to_z-of_z w64 c.entry.result new_fits))

pub returns-clause-entries : goal.returns-clause-entries
returns-clause-entries g c = λ j h.
    let e = rows_of c.self.inside.size c.self.inside.words.items c.args.self.now c.self.view_is in
    c.loop-j.invariant.done j (omega (arith, e))
