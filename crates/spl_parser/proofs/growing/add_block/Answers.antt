-- The number is that of the list's length, and the lists grow by the item.
use Rattle.std.proofs.Common.{◌≡◌, length, sym, ◌∙◌, rules}
use Rattle.spl_tree.specs.Lists.{lists_of}
use Rattle.spl_parser.proofs.Growths.{lengths, by_ids}
use Rattle.spl_parser.proofs.growing.add_block.Goals as goal

pub returns-clause-first : goal.returns-clause-first
returns-clause-first c =
    let long : c.len-first.result ≡ length c.args.parts.now.stmt_items.items = search rules in
    long ∙ sym (lengths (lists_of c.args.parts.now) c.requires.tree).blocks

pub returns-clause-grew : goal.returns-clause-grew
returns-clause-grew c = by_ids (lists_of c.args.parts.now) c.args.ids.now _ c.in_ok-extend_from_slice.ensures.items c.requires.tree c.requires.few c.requires.there
