use Rattle.std.proofs.Common.{sym, ap, ◌∙◌, rules}
use Rattle.std.specs.Prelude.{FitsSigned}
use Rattle.std.specs.Int.{w64}
use Rattle.std.proofs.lemmas.Int.{to_z-of_z}
use Rattle.std.proofs.lemmas.Option.{IfSome_then}
use Rattle.oct_def.specs.Bound.{bound_of}
use Rattle.dec_oct.specs.Value.{whole}
use Rattle.dec_calls.proofs.Listings.{diagonal-none, diagonal-other}
use Rattle.dec_calls.proofs.returning.apart_word.Goals as goal

pub returns-then-i-j-clause-entry : goal.returns-then-i-j-clause-entry
returns-then-i-j-clause-entry c = diagonal-none c.args.exit.now.dims c.args.i c.args.j c.args.exit.now.blocks c.if-i-j.true

pub returns-clause-entry : goal.returns-clause-entry
returns-clause-entry c =
    let x = c.entry.result in
    let f : FitsSigned w64 x = search rules in
    IfSome_then c.args.exit.now.blocks c.entry.ensures (λ b e. ap bound_of (to_z-of_z w64 x f) ∙ e ∙ sym (diagonal-other (whole c.args.exit.now.dims b) c.args.i c.args.j c.if-i-j.false))
