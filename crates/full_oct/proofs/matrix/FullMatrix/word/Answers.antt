use Rattle.std.proofs.Common.{ap, ◌∙◌, arith, rules}
use Rattle.std.specs.Prelude.{FitsSigned}
use Rattle.std.specs.Int.{w64}
use Rattle.std.proofs.lemmas.Int.{to_z-of_z}
use Rattle.oct_def.specs.Bound.{bound_of}
use Rattle.full_oct.proofs.Places.{rows_of, place_small, place_within, bound_at}
use Rattle.full_oct.proofs.matrix.FullMatrix.word.Goals as goal

pub overflow_mul-i : goal.overflow_mul-i
overflow_mul-i c =
    let s = c.self.inside.size in
    let e = rows_of s c.self.inside.words.items c.args.self.now c.self.view_is in
    omega (arith, place_small s c.args.i c.args.j c.self.invariant.small (omega (arith, e)) (omega (arith, e)))

pub overflow_add-i : goal.overflow_add-i
overflow_add-i c =
    let s = c.self.inside.size in
    let e = rows_of s c.self.inside.words.items c.args.self.now c.self.view_is in
    omega (arith, place_small s c.args.i c.args.j c.self.invariant.small (omega (arith, e)) (omega (arith, e)))

pub index-requires : goal.index-requires
index-requires c =
    let s = c.self.inside.size in
    let e = rows_of s c.self.inside.words.items c.args.self.now c.self.view_is in
    omega (arith, c.self.inside.words.ok.0, place_within s c.self.inside.words.items c.args.i c.args.j c.self.invariant (omega (arith, e)) (omega (arith, e)))

pub returns : goal.returns
returns c =
    let s = c.self.inside.size in
    let xs = c.self.inside.words.items in
    let e = rows_of s xs c.args.self.now c.self.view_is in
    let fits : FitsSigned w64 c.index.result.now = search rules in
    record {
      bound = ap bound_of (to_z-of_z w64 c.index.result.now fits)
          ∙ bound_at s xs c.args.self.now c.args.i c.args.j c.index.result.now c.self.view_is c.self.invariant (omega (arith, e)) (omega (arith, e)) c.index.ensures;
    }
