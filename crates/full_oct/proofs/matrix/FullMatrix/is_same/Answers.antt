use Rattle.std.proofs.Common.{sym, ◌∙◌}
use Rattle.std.specs.Cmp.Rules.{signed_items}
use Rattle.full_oct.proofs.Places.{same_words, words_same}
use Rattle.full_oct.proofs.matrix.FullMatrix.is_same.Goals as goal

pub returns : goal.returns
returns c =
    let s = c.self.inside.size in
    let t = c.other.inside.size in
    let xs = c.self.inside.words.items in
    let ys = c.other.inside.words.items in
    record {
      same = (
        λ h. same_words s t xs ys c.args.self.now c.args.other.now c.self.view_is c.other.view_is c.requires.rows ((signed_items xs ys).0 (sym c.eq.ensures ∙ h)),
        λ h. c.eq.ensures ∙ (signed_items xs ys).1 (words_same s t xs ys c.args.self.now c.args.other.now c.self.view_is c.other.view_is c.self.invariant c.other.invariant h),
      );
    }
