use Rattle.std.proofs.Common.{◌≡◌, sym, ◌∙◌, arith, rules}
use Rattle.std.proofs.lemmas.Int.{to_z-of_z}
use Rattle.oct_def.specs.Bound.{bound_of}
use Rattle.oct_def.specs.Table.{at}
use Rattle.oct_def.proofs.Tables.{same-matrices}
use Rattle.full_oct.proofs.matrix.FullMatrix.copied.Goals as goal

pub returns : goal.returns
returns c =
    let s = c.args.self.now in
    let rows = c.in_ok-m.ensures.rows in
    record {
      same = same-matrices c.in_ok-m.m s c.in_ok-m.ensures.square c.size-size.ensures.square (rows ∙ c.size-size.ensures.rows) (λ i j p q.
          let entry = c.in_ok-m.ensures.entries i j (omega (arith, rows)) (omega (arith, rows)) in
          let word : bound_of entry.0 ≡ at s i j = search (rules, to_z-of_z, entry.1) in
          sym entry.2 ∙ word);
    }
