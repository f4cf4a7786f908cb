-- The number is that of the list's length, and the lists grow by the item.
use Rattle.std.proofs.Common.{◌≡◌, length, sym, ◌∙◌, rules}
use Rattle.spl_tree.specs.Lists.{lists_of}
use Rattle.spl_parser.proofs.Growths.{lengths, by_named}
use Rattle.spl_parser.proofs.growing.add_named.Goals as goal

pub returns-clause-number : goal.returns-clause-number
returns-clause-number c =
    let long : c.len-number.result ≡ length c.args.parts.now.name_items.items = search rules in
    long ∙ sym (lengths (lists_of c.args.parts.now) c.requires.tree).named

pub returns-clause-grew : goal.returns-clause-grew
returns-clause-grew c = by_named (lists_of c.args.parts.now) c.args.name c.args.place _ _ c.in_ok-push.ensures.items c.in_ok-push-2.ensures.items c.requires.tree c.requires.few c.requires.placed c.requires.fits
