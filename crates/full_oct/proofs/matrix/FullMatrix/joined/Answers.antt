use Rattle.std.proofs.Common.{◌≡◌, sym, ◌∙◌, arith, length, rules}
use Rattle.std.proofs.lemmas.Int.{to_z-of_z}
use Rattle.oct_def.specs.Bound.{bound_of}
use Rattle.oct_def.specs.Octagon.{join_entry, join_matrix}
use Rattle.oct_def.proofs.Tables.{is-table}
use Rattle.full_oct.proofs.matrix.FullMatrix.joined.Goals as goal

pub returns : goal.returns
unfolding join_matrix
returns c =
    let s = c.args.self.now in
    let t = c.args.other.now in
    record {
      joined = is-table c.in_ok-m.m (length s) (join_entry s t) c.in_ok-m.ensures.square (c.in_ok-m.ensures.rows ∙ c.size-size.ensures.rows) (λ i j p q.
          let entry = c.in_ok-m.ensures.entries i j (omega (arith, c.size-size.ensures.rows)) (omega (arith, c.size-size.ensures.rows)) in
          let word : bound_of entry.0 ≡ join_entry s t i j = search (rules, to_z-of_z, entry.1) in
          sym entry.2 ∙ word);
    }
