use Rattle.std.proofs.Common.{◌≡◌, ℕ, ◌*◌, length, length-append, ap, sym, subst, ◌∙◌, arith, rules, ◌∷◌, [], ◌++◌}
use Rattle.std.specs.Prelude.{ℤ, FitsSigned}
use Rattle.std.specs.Int.{w64}
use Rattle.std.proofs.lemmas.Int.{to_z-of_z}
use Rattle.full_oct.proofs.Places.{Filled, filled_more, filled_at}
use Rattle.full_oct.proofs.matrix.filled.Goals as goal

pub columns-preserved : goal.columns-preserved
columns-preserved g c =
    let asked : ℕ → ℕ → ℤ → Type 0 = λ i j w. g.F.Fn.post c.args.entry (i, (j, tt)) w in
    let fits : FitsSigned w64 c.entry.result = search rules in
    let pushed : c.push.new.self.items ≡ c.columns.words.items ++ c.entry.result ∷ [] =
    c.in_ok-push.ensures.items ∙ ap (λ w. c.columns.words.items ++ w ∷ []) (to_z-of_z w64 c.entry.result fits) in
    let more = filled_more c.args.size asked c.columns.words.items c.rows.i c.columns.j c.entry.result c.columns.invariant.1 c.columns.invariant.0 (omega arith) c.entry.ensures in
    (omega (arith, ap length pushed, length-append c.columns.words.items (c.entry.result ∷ [])), subst (Filled c.args.size asked) (sym pushed) more)

pub returns-clause-entries : goal.returns-clause-entries
returns-clause-entries g c =
    let asked : ℕ → ℕ → ℤ → Type 0 = λ i j w. g.F.Fn.post c.args.entry (i, (j, tt)) w in
    filled_at c.args.size asked c.rows.words.items c.rows.invariant.1 (c.rows.invariant.0 ∙ ap (λ i. i * c.args.size) (omega arith))
