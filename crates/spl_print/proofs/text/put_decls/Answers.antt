use Rattle.std.proofs.Common.{arith, map}
use Rattle.spl_tree.specs.Meaning.{decls_in, decls_over}
use Rattle.spl_print.specs.Canonical.{decl_text}
use Rattle.spl_print.proofs.Listing.{first_item, next_item, decls_count, decls_first, decls_item, unplaced}
use Rattle.spl_print.proofs.text.put_decls.Goals as goal

pub loop-k-init : goal.loop-k-init
loop-k-init c =
    first_item (map decl_text (decls_over (decls_in c.args.tree.now) c.args.list)) _ c.args.out.now.items c.put_decl.new.out.items
    (omega (arith, decls_count c.args.tree.now c.law_tree.ensures.numbers c.law_tree.ensures.known c.args.list c.requires))
    (decls_first c.args.tree.now c.law_tree.ensures.numbers c.law_tree.ensures.known c.args.list c.requires (omega arith) c.decl.result c.decl.ensures.found)
    (c.in_ok-put_decl.ensures unplaced)

pub loop-k-preserved : goal.loop-k-preserved
loop-k-preserved c =
    next_item (map decl_text (decls_over (decls_in c.args.tree.now) c.args.list)) c.loop-k.k _ c.args.out.now.items c.loop-k.out.items c.extend_from_slice.new.self.items c.put_decl-in-loop-k.new.out.items
    (omega arith)
    (omega (arith, decls_count c.args.tree.now c.law_tree.ensures.numbers c.law_tree.ensures.known c.args.list c.requires))
    (decls_item c.args.tree.now c.law_tree.ensures.numbers c.law_tree.ensures.known c.args.list c.requires c.loop-k.k (omega arith) c.decl-in-loop-k.result c.decl-in-loop-k.ensures.found)
    c.loop-k.invariant
    c.in_ok-extend_from_slice.ensures.items
    (c.in_ok-put_decl-2.ensures unplaced)
