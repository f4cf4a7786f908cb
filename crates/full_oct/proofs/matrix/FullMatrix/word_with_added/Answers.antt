use Rattle.std.proofs.Common.{◌&&◌, true, false, ap, ◌∙◌, arith, rules}
use Rattle.std.specs.Prelude.{FitsSigned, nat_lt}
use Rattle.std.specs.Int.{w64}
use Rattle.std.proofs.lemmas.Int.{to_z-of_z}
use Rattle.oct_def.specs.Bound.{bound_of}
use Rattle.full_oct.proofs.Adding.{extended_of, both_below}
use Rattle.full_oct.proofs.matrix.FullMatrix.word_with_added.Goals as goal

pub word-requires : goal.word-requires
word-requires c =
    let both = both_below c.args.i c.args.j c.size-size.result c.if-are_below.ensures in
    record { row = omega (arith, both.0, c.size-size.ensures.rows); column = omega (arith, both.1, c.size-size.ensures.rows) }

pub returns-then-are_below : goal.returns-then-are_below
returns-then-are_below c =
    let s = c.args.self.now in
    let fits : FitsSigned w64 c.word.result = search rules in
    let size = c.size-size.ensures.rows ∙ c.requires.rows in
    ap bound_of (to_z-of_z w64 c.word.result fits) ∙ c.word.ensures.bound
    ∙ extended_of c.args.dims s c.args.i c.args.j true (c.if-are_below.ensures ∙ ap (λ n. nat_lt c.args.i n && nat_lt c.args.j n) size)

pub returns-else-are_below : goal.returns-else-are_below
returns-else-are_below c =
    let s = c.args.self.now in
    let fits : FitsSigned w64 c.top_word.result = search rules in
    let size = c.size-size.ensures.rows ∙ c.requires.rows in
    ap bound_of (to_z-of_z w64 c.top_word.result fits) ∙ c.top_word.ensures
    ∙ extended_of c.args.dims s c.args.i c.args.j false (c.if-are_below.ensures ∙ ap (λ n. nat_lt c.args.i n && nat_lt c.args.j n) size)
