use Rattle.std.proofs.Common.{[], ◌∷◌, ◌++◌, map, set, sym, ap, ◌∙◌}
use Rattle.std.proofs.lemmas.List.{get_or-map, map-set}
use Rattle.equations.proofs.rows.push_onto.Goals as goal

pub returns : goal.returns
returns g c =
    map-set (λ r. r.items) c.args.rows.now.items c.args.point c.push.new.self
    ∙ ap (set (map (λ r. r.items) c.args.rows.now.items) c.args.point)
    (c.in_ok-push.ensures.items ∙ ap (λ l. l ++ c.args.item ∷ []) (ap (λ r. r.items) c.index_mut.ensures.value ∙ sym (get_or-map (λ r. r.items) c.args.rows.now.items c.args.point c.index_mut.result.now [] c.requires)))
