use Rattle.std.proofs.Common.{◌≡◌, ◌+◌, ◌*◌, sym, ◌∙◌, rules}
use Rattle.std.proofs.lemmas.Int.{to_z-of_z}
use Rattle.oct_def.specs.Bound.{bound_of}
use Rattle.oct_def.proofs.Tables.{is-table}
use Rattle.transfer_def.specs.Dimensions.{extended_entry, extended}
use Rattle.full_oct.proofs.matrix.FullMatrix.extended.Goals as goal

pub returns : goal.returns
unfolding extended
returns c =
    let s = c.args.self.now in
    let n = c.args.dims in
    record {
      extended = is-table c.in_ok-m.m (2 * (n + c.args.added)) (extended_entry n s) c.in_ok-m.ensures.square c.in_ok-m.ensures.rows (λ i j p q.
          let entry = c.in_ok-m.ensures.entries i j p q in
          let word : bound_of entry.0 ≡ extended_entry n s i j = search (rules, to_z-of_z, entry.1) in
          sym entry.2 ∙ word);
    }
