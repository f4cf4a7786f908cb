use Rattle.std.proofs.Common.{◌+◌, ◌*◌, ap, ◌∙◌, arith}
use Rattle.std.specs.Prelude.{ℤ}
use Rattle.std.specs.Int.{w64}
use Rattle.std.proofs.Math.ListN.{set}
use Rattle.std.proofs.lemmas.Int.{to_z-of_z}
use Rattle.full_oct.specs.Words.{matrix_of}
use Rattle.full_oct.proofs.Places.{rows_of, place_small, place_within}
use Rattle.full_oct.proofs.Rows.{word-written}
use Rattle.full_oct.proofs.matrix.FullMatrix.set.Goals as goal

pub overflow_mul-place : goal.overflow_mul-place
overflow_mul-place c =
    let s = c.self.inside.size in
    let e = rows_of s c.self.inside.words.items c.args.self.now c.self.view_is in
    omega (arith, place_small s c.args.i c.args.j c.self.invariant.small (omega (arith, e)) (omega (arith, e)))

pub overflow_add-place : goal.overflow_add-place
overflow_add-place c =
    let s = c.self.inside.size in
    let e = rows_of s c.self.inside.words.items c.args.self.now c.self.view_is in
    omega (arith, place_small s c.args.i c.args.j c.self.invariant.small (omega (arith, e)) (omega (arith, e)))

pub index_mut-requires : goal.index_mut-requires
index_mut-requires c =
    let s = c.self.inside.size in
    let e = rows_of s c.self.inside.words.items c.args.self.now c.self.view_is in
    omega (arith, c.self.inside.words.ok.0, place_within s c.self.inside.words.items c.args.i c.args.j c.self.invariant (omega (arith, e)) (omega (arith, e)))

pub returns : goal.returns
returns c =
    let s = c.self.inside.size in
    let xs = c.self.inside.words.items in
    let e = rows_of s xs c.args.self.now c.self.view_is in
    ap (λ (w : ℤ). matrix_of s (set xs (c.args.i * s + c.args.j) w)) (to_z-of_z w64 c.args.word (record { sfits = c.ranges.word.sfits }))
    ∙ word-written s xs c.args.self.now c.args.i c.args.j c.args.word c.self.view_is c.self.invariant (omega (arith, e)) (omega (arith, e))
