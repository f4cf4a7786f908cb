use Rattle.std.proofs.Common.{◌≡◌, ◌*◌, sym, ◌∙◌, arith, rules}
use Rattle.std.proofs.lemmas.Int.{to_z-of_z}
use Rattle.oct_def.specs.Bound.{bound_of}
use Rattle.oct_def.proofs.Tables.{is-table}
use Rattle.transfer_def.specs.Forget.{forgotten_entry, forgotten}
use Rattle.full_oct.proofs.matrix.FullMatrix.forgotten.Goals as goal

pub returns : goal.returns
unfolding forgotten
returns c =
    let s = c.args.self.now in
    let x = c.args.target in
    let rows = c.in_ok-m.ensures.rows ∙ (c.size-size.ensures.rows ∙ c.requires.rows) in
    is-table c.in_ok-m.m (2 * c.args.dims) (forgotten_entry x s) c.in_ok-m.ensures.square rows (λ i j p q.
    let entry = c.in_ok-m.ensures.entries i j (omega (arith, c.size-size.ensures.rows, c.requires.rows)) (omega (arith, c.size-size.ensures.rows, c.requires.rows)) in
    let word : bound_of entry.0 ≡ forgotten_entry x s i j = search (rules, to_z-of_z, entry.1) in
    sym entry.2 ∙ word)
