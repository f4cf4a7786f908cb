use Rattle.std.proofs.Common.{arith}
use Rattle.spl_tree.specs.Meaning.{named_in, names_over}
use Rattle.spl_print.specs.Canonical.{names_text}
use Rattle.spl_print.proofs.Listing.{first_item, next_item, names_count, names_first, names_item}
use Rattle.spl_print.proofs.text.put_names.Goals as goal

pub loop-k-init : goal.loop-k-init
loop-k-init c =
    first_item (names_text (names_over (named_in c.args.tree.now) c.args.list)) _ c.args.out.now.items c.put_name.new.out.items
    (omega (arith, names_count c.args.tree.now c.law_tree.ensures.numbers c.law_tree.ensures.known c.args.list c.requires))
    (names_first c.args.tree.now c.law_tree.ensures.numbers c.law_tree.ensures.known c.args.list c.requires (omega arith) c.name_item.result c.name_item.ensures.found)
    c.in_ok-put_name.ensures

pub loop-k-preserved : goal.loop-k-preserved
loop-k-preserved c =
    next_item (names_text (names_over (named_in c.args.tree.now) c.args.list)) c.loop-k.k _ c.args.out.now.items c.loop-k.out.items c.extend_from_slice.new.self.items c.put_name-in-loop-k.new.out.items
    (omega arith)
    (omega (arith, names_count c.args.tree.now c.law_tree.ensures.numbers c.law_tree.ensures.known c.args.list c.requires))
    (names_item c.args.tree.now c.law_tree.ensures.numbers c.law_tree.ensures.known c.args.list c.requires c.loop-k.k (omega arith) c.name_item-in-loop-k.result c.name_item-in-loop-k.ensures.found)
    c.loop-k.invariant
    c.in_ok-extend_from_slice.ensures.items
    c.in_ok-put_name-2.ensures
