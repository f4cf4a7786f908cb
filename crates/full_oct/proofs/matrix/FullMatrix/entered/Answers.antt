use Rattle.std.proofs.Common.{◌≡◌, ◌*◌, sym, ◌∙◌, rules}
use Rattle.std.proofs.lemmas.Int.{to_z-of_z}
use Rattle.oct_def.specs.Bound.{bound_of}
use Rattle.oct_def.proofs.Tables.{is-table}
use Rattle.transfer_def.specs.Enter.{enter_entry, enter_matrix}
use Rattle.full_oct.proofs.matrix.FullMatrix.entered.Goals as goal

pub returns : goal.returns
unfolding enter_matrix
returns c =
    let s = c.args.self.now in
    let args = c.args.args.now in
    record {
      entered = is-table c.in_ok-m.m (2 * c.args.inner) (enter_entry args s) c.in_ok-m.ensures.square c.in_ok-m.ensures.rows (λ i j p q.
          let entry = c.in_ok-m.ensures.entries i j p q in
          let word : bound_of entry.0 ≡ enter_entry args s i j = search (rules, to_z-of_z, entry.1) in
          sym entry.2 ∙ word);
    }
