use Rattle.std.proofs.Common.{ap, sym, ◌∙◌, ◌++◌, ◌∷◌, [], is_some}
use Rattle.indexmap.proofs.CallerLemmas.{insert_entry-new}
use Rattle.spl_types.specs.Tables.{number_in}
use Rattle.spl_types.proofs.Numbering.{seen, number_along, none_of, with_known, with_fresh, seen_push}
use Rattle.spl_types.proofs.tables.ProcTable.add.Goals as goal

pub returns-then-contains_key : goal.returns-then-contains_key
returns-then-contains_key c =
    let same = number_along c.args.name.now c.self.inside.numbers.entries ∙ ap (λ t. number_in c.args.name.now t) c.self.view_is in
    sym (with_known c.args.self.now c.args.name.now c.args.number (sym (ap is_some same) ∙ (sym c.contains_key.ensures ∙ c.if-contains_key.true)))

pub returns : goal.returns
returns c =
    let same = number_along c.args.name.now c.self.inside.numbers.entries ∙ ap (λ t. number_in c.args.name.now t) c.self.view_is in
    let fresh = sym c.contains_key.ensures ∙ c.if-contains_key.false in
    ap seen (c.in-Ok.ensures.entries ∙ insert_entry-new _ c.self.inside.numbers c.args.name c.args.number (none_of _ fresh))
    ∙ (seen_push c.self.inside.numbers.entries c.args.name c.args.number
    ∙ (ap (λ t. t ++ (c.args.name.now, c.args.number) ∷ []) c.self.view_is
    ∙ sym (with_fresh c.args.self.now c.args.name.now c.args.number (sym (ap is_some same) ∙ fresh))))
