use Rattle.std.proofs.Common.{refl, ap, ◌∙◌, position, Bor, List, ℕ}
use Rattle.std.specs.Str.{bytes_eq}
use Rattle.spl_types.proofs.Places.{place_along}
use Rattle.spl_types.proofs.tables.NameTable.number.Goals as goal

pub returns-clause-place : goal.returns-clause-place
returns-clause-place c =
    c.get_index_of.ensures.index
    ∙ (place_along (λ (k : Bor (List ℕ)). bytes_eq c.args.name.now k.now) (bytes_eq c.args.name.now) (λ (k : Bor (List ℕ)). k.now) c.self.inside.names.keys (λ k. refl)
    ∙ ap (λ names. position (bytes_eq c.args.name.now) names) c.self.view_is)
