use Rattle.std.proofs.Common.{◌∙◌, arith}
use Rattle.spl_tree.specs.Meaning.{named_in, names_over}
use Rattle.spl_print.specs.Canonical.{names_text}
use Rattle.spl_print.proofs.Listing.{names_count, one_target, other_targets}
use Rattle.spl_print.proofs.text.put_targets.Goals as goal

pub returns-then-targets-eq1 : goal.returns-then-targets-eq1
returns-then-targets-eq1 c =
    let count = names_count c.args.tree.now c.law_tree.ensures.numbers c.law_tree.ensures.known c.args.targets c.requires in
    one_target (names_text (names_over (named_in c.args.tree.now) c.args.targets)) c.args.out.now.items c.put_names.new.out.items
    (count ∙ c.if-targets-eq1.true)
    c.in_ok-put_names.ensures

pub returns : goal.returns
returns c =
    let count = names_count c.args.tree.now c.law_tree.ensures.numbers c.law_tree.ensures.known c.args.targets c.requires in
    other_targets (names_text (names_over (named_in c.args.tree.now) c.args.targets)) c.args.out.now.items c.extend_from_slice.new.self.items c.put_names-2.new.out.items c.extend_from_slice-2.new.self.items
    (λ one. omega arith)
    c.in_ok-extend_from_slice.ensures.items
    c.in_ok-put_names-2.ensures
    c.in_ok-extend_from_slice-2.ensures.items
