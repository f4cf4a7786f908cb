use Rattle.std.proofs.Common.{ap, ◌∙◌, sym, rules}
use Rattle.std.specs.Prelude.{FitsSigned}
use Rattle.std.specs.Int.{w64}
use Rattle.std.proofs.lemmas.Int.{to_z-of_z}
use Rattle.oct_def.specs.Bound.{bound_of}
use Rattle.dec_oct.proofs.Bounded.{bound-first, bound-second, bound-none}
use Rattle.dec_oct.proofs.merge.has_bound.Goals as goal

pub returns-then-is_finite-clause-yes : goal.returns-then-is_finite-clause-yes
returns-then-is_finite-clause-yes c =
    let x = c.entry_of-above.result in
    let f : FitsSigned w64 x = search rules in
    λ _. bound-first c.args.dims c.args.partition.now c.args.matrices.now c.args.v x c.requires.variable c.entry_of-above.ensures (λ t. c.is_finite.ensures.yes c.if-is_finite.true (ap bound_of (to_z-of_z w64 x f) ∙ t))

pub returns-clause-yes : goal.returns-clause-yes
returns-clause-yes c =
    let y = c.entry_of-below.result in
    let f : FitsSigned w64 y = search rules in
    λ e. bound-second c.args.dims c.args.partition.now c.args.matrices.now c.args.v y c.requires.variable c.entry_of-below.ensures (λ t. c.is_finite-2.ensures.yes e (ap bound_of (to_z-of_z w64 y f) ∙ t))

pub returns-clause-no : goal.returns-clause-no
returns-clause-no c =
    let x = c.entry_of-above.result in
    let y = c.entry_of-below.result in
    let f : FitsSigned w64 x = search rules in
    let g : FitsSigned w64 y = search rules in
    λ e. bound-none c.args.dims c.args.partition.now c.args.matrices.now c.args.v x y c.requires.variable c.entry_of-above.ensures c.entry_of-below.ensures
    (sym (ap bound_of (to_z-of_z w64 x f)) ∙ c.is_finite.ensures.no c.if-is_finite.false) (sym (ap bound_of (to_z-of_z w64 y g)) ∙ c.is_finite-2.ensures.no e)
