use Rattle.std.proofs.Common.{refl, ap, ◌∙◌, not, Bor, List, ℕ}
use Rattle.std.specs.Str.{bytes_eq}
use Rattle.spl_types.specs.Checks.{is_among}
use Rattle.spl_types.proofs.Places.{any_along}
use Rattle.spl_types.proofs.Copying.{kept_distinct}
use Rattle.spl_types.proofs.tables.NameTable.add.Goals as goal

pub returns-clause-fresh : goal.returns-clause-fresh
returns-clause-fresh c =
    c.in-Ok.ensures.added
    ∙ (ap not (any_along (λ (k : Bor (List ℕ)). bytes_eq c.args.name.now k.now) (bytes_eq c.args.name.now) (λ (k : Bor (List ℕ)). k.now) c.self.inside.names.keys (λ k. refl))
    ∙ ap (λ names. not (is_among c.args.name.now names)) c.self.view_is)

pub invariant_of-self-2 : goal.invariant_of-self-2
invariant_of-self-2 c = kept_distinct c.self.inside.names.keys c.insert.new.self.keys c.args.name c.in-Ok.ensures.keys c.self.invariant
