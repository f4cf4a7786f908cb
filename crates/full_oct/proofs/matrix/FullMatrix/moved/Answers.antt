use Rattle.std.proofs.Common.{◌≡◌, ℕ, ◌*◌, ◌<◌, length, get_or, ap, sym, subst, ◌∙◌, arith, rules}
use Rattle.std.specs.List.{All}
use Rattle.std.proofs.lemmas.Int.{to_z-of_z}
use Rattle.oct_def.specs.Bound.{bound_of}
use Rattle.oct_def.specs.Table.{at}
use Rattle.oct_def.proofs.Tables.{is-table}
use Rattle.transfer_def.specs.Dimensions.{moved_dimension, moved_entry, moved}
use Rattle.full_oct.proofs.Targets.{moved-inside}
use Rattle.full_oct.proofs.matrix.FullMatrix.moved.Goals as goal

pub tabulated-requires-clause-callable : goal.tabulated-requires-clause-callable
tabulated-requires-clause-callable c =
    let s = c.args.self.now in
    let places = c.as_slice-places.result.now in
    let each = c.in_ok-places.ensures.each in
    let inside : All (λ p. p < length s) places = subst (All (λ p. p < length s)) (sym c.as_slice-places.ensures.value) (moved-inside c.args.dims (length s) c.args.targets.now c.in_ok-places.places.items each c.requires.rows) in
    let row : (i : ℕ) → i < 2 * c.args.dims → i < length places = λ i p. omega (arith, ap length c.as_slice-places.ensures.value, each.size) in
    search (rules, inside, row)

pub returns : goal.returns
unfolding moved moved_entry
returns c =
    let s = c.args.self.now in
    let n = c.args.dims in
    let ts = c.args.targets.now in
    let places = c.in_ok-places.places.items in
    let each = c.in_ok-places.ensures.each in
    record {
      moved = is-table c.in_ok-m.m (2 * n) (moved_entry n ts s) c.in_ok-m.ensures.square c.in_ok-m.ensures.rows (λ i j p q.
          let entry = c.in_ok-m.ensures.entries i j p q in
          let word : bound_of entry.0 ≡ at s (get_or places i 0) (get_or places j 0) = search (rules, to_z-of_z, entry.1) in
          sym entry.2 ∙ word ∙ ap (λ k. at s k (get_or places j 0)) (each.each i p) ∙ ap (at s (moved_dimension n ts i)) (each.each j q));
    }
