use Rattle.std.proofs.Common.{◌≡◌, ◌*◌, sym, ◌∙◌, rules}
use Rattle.std.proofs.lemmas.Int.{to_z-of_z}
use Rattle.oct_def.specs.Bound.{bound_of}
use Rattle.oct_def.specs.Octagon.{top_entry, top_matrix}
use Rattle.oct_def.proofs.Tables.{is-table}
use Rattle.full_oct.proofs.matrix.FullMatrix.top.Goals as goal

pub returns : goal.returns
unfolding top_matrix
returns c = record {
  top = is-table c.in_ok-m.m (2 * c.args.dims) top_entry c.in_ok-m.ensures.square c.in_ok-m.ensures.rows (λ i j p q.
      let entry = c.in_ok-m.ensures.entries i j p q in
      let word : bound_of entry.0 ≡ top_entry i j = search (rules, to_z-of_z, entry.1) in
      sym entry.2 ∙ word);
}
