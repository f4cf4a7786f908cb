use Rattle.std.proofs.Common.{◌≡◌, sym, ◌∙◌, arith, length, rules}
use Rattle.std.proofs.lemmas.Int.{to_z-of_z}
use Rattle.oct_def.specs.Bound.{bound_of}
use Rattle.oct_def.specs.Octagon.{narrow_entry, narrow_matrix}
use Rattle.oct_def.proofs.Tables.{is-table}
use Rattle.full_oct.proofs.matrix.FullMatrix.narrowed.Goals as goal

pub returns : goal.returns
unfolding narrow_matrix
returns c =
    let s = c.args.self.now in
    let t = c.args.other.now in
    record {
      narrowed = is-table c.in_ok-m.m (length s) (narrow_entry s t) c.in_ok-m.ensures.square (c.in_ok-m.ensures.rows ∙ c.size-size.ensures.rows) (λ i j p q.
          let entry = c.in_ok-m.ensures.entries i j (omega (arith, c.size-size.ensures.rows)) (omega (arith, c.size-size.ensures.rows)) in
          let word : bound_of entry.0 ≡ narrow_entry s t i j = search (rules, to_z-of_z, entry.1) in
          sym entry.2 ∙ word);
    }
