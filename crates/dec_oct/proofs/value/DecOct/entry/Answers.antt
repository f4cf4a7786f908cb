use Rattle.std.proofs.Common.{◌≡◌, ◌*◌, ◌<◌, ap, ◌∙◌, sym, subst, rules, Some, to_z, of_z}
use Rattle.std.specs.Prelude.{FitsSigned, IfSome}
use Rattle.std.specs.Int.{w64}
use Rattle.std.proofs.lemmas.Int.{to_z-of_z}
use Rattle.oct_def.specs.Bound.{bound_of}
use Rattle.oct_def.specs.Table.{at}
use Rattle.dec_oct.specs.Value.{decomposed, blocks_of, whole}
use Rattle.dec_oct.proofs.Entries.{link-entry}
use Rattle.dec_oct.proofs.value.DecOct.entry.Goals as goal

pub returns : goal.returns
returns c =
    let x = c.entry_of.result in
    let f : FitsSigned w64 x = search rules in
    let e : decomposed c.self.inside.dims (Some (blocks_of c.deref.result.now.partition c.deref-in-Some-2.result.now c.in-Some.h.value.settled.items)) ≡ c.args.self.now = search rules in
    let i : c.args.i < 2 * c.self.inside.dims = subst (λ d. c.args.i < 2 * d.dims) (sym e) c.requires.row in
    let j : c.args.j < 2 * c.self.inside.dims = subst (λ d. c.args.j < 2 * d.dims) (sym e) c.requires.column in
    subst (λ d. IfSome d.blocks (λ b. bound_of (to_z w64 (of_z w64 c.entry_of.result)) ≡ at (whole d.dims b) c.args.i c.args.j)) e
    (ap bound_of (to_z-of_z w64 x f) ∙ link-entry c.self.inside.dims c.deref.result.now.partition c.deref-in-Some-2.result.now c.args.i c.args.j _ i j c.entry_of.ensures)
