-- The number is that of the list's length, and the lists grow by the item.
use Rattle.std.proofs.Common.{◌≡◌, ◌++◌, ◌∷◌, [], length, sym, ap, ◌∙◌, rules}
use Rattle.spl_tree.specs.Lists.{lists_of}
use Rattle.spl_parser.proofs.Growths.{lengths, by_name}
use Rattle.spl_parser.proofs.growing.add_name.Goals as goal

pub returns-clause-number : goal.returns-clause-number
returns-clause-number c =
    let long : c.len-number.result ≡ length c.args.parts.now.names.items = search rules in
    long ∙ sym (lengths (lists_of c.args.parts.now) c.requires.tree).names

pub returns-clause-grew : goal.returns-clause-grew
returns-clause-grew c =
    let long : c.len-first.result ≡ length c.args.parts.now.letters.items = search rules in
    by_name (lists_of c.args.parts.now) c.args.bytes.now _ _ c.in_ok-extend_from_slice.ensures.items (c.in_ok-push.ensures.items ∙ ap (λ n. c.args.parts.now.names.items ++ record { first = n; count = length c.args.bytes.now } ∷ []) long) c.requires.tree c.requires.letters c.requires.few
