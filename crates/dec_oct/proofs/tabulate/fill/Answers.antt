use Rattle.std.proofs.Common.{◌≡◌, ℕ, length, ap, ◌∙◌, subst, arith, rules}
use Rattle.std.specs.Prelude.{ℤ, FitsSigned}
use Rattle.std.specs.Int.{w64}
use Rattle.std.proofs.lemmas.Int.{to_z-of_z}
use Rattle.oct_def.specs.Bound.{bound_of}
use Rattle.half_matrix.specs.Lending.{with_entry}
use Rattle.half_matrix.proofs.Ranges.{length-set_entry}
use Rattle.dec_oct.proofs.Stored.{stored-more, stored-row, stored-all}
use Rattle.dec_oct.proofs.tabulate.fill.Goals as goal

pub columns-preserved : goal.columns-preserved
columns-preserved g c =
    let asked : ℕ → ℕ → ℤ → Type 0 = λ r s w. g.F.Fn.post c.args.entry (r, (s, tt)) w in
    let fits : FitsSigned w64 c.entry.result = search rules in
    let e : c.set.new.self ≡ with_entry c.columns.m c.rows.i c.columns.j (bound_of c.entry.result) = subst (λ w. c.set.new.self ≡ with_entry c.columns.m c.rows.i c.columns.j (bound_of w)) (to_z-of_z w64 c.entry.result fits) c.set.ensures in
    let r = c.vars-size.ensures.rows in
    let l = c.columns.invariant.0 in (
      ap length e ∙ length-set_entry c.columns.m c.rows.i c.columns.j (bound_of c.entry.result) ∙ l,
      stored-more asked c.columns.m c.set.new.self c.rows.i c.columns.j c.entry.result c.columns.invariant.1 (omega arith) (omega arith) (omega arith) e c.entry.ensures,
    )

pub rows-preserved : goal.rows-preserved
rows-preserved g c =
    let asked : ℕ → ℕ → ℤ → Type 0 = λ r s w. g.F.Fn.post c.args.entry (r, (s, tt)) w in
    (c.columns.invariant.0, stored-row asked c.columns.m c.rows.i c.columns.j c.columns.invariant.1 (omega arith))

pub returns-clause-entries : goal.returns-clause-entries
returns-clause-entries g c = λ i j p q.
    let asked : ℕ → ℕ → ℤ → Type 0 = λ r s w. g.F.Fn.post c.args.entry (r, (s, tt)) w in
    let r = c.vars-size.ensures.rows in
    stored-all asked c.rows.m (length c.args.m.now) c.rows.i i j c.rows.invariant.1 c.rows.invariant.0 (omega arith) p q
