use Rattle.std.proofs.Common.{◌++◌, replicate, codes, ap, ◌∙◌}
use Rattle.spl_tree.specs.Meaning.{name_of, names_in, named_in, names_over}
use Rattle.spl_print.specs.Canonical.{listed, names_text, targets_text}
use Rattle.spl_print.proofs.Chains.{seven, call_end}
use Rattle.spl_print.proofs.lines.put_call_line.Goals as goal

pub returns : goal.returns
returns c =
    let blanks = replicate c.args.indent 32 in
    let targets = targets_text (names_text (names_over (named_in c.args.tree.now) c.args.targets)) in
    let called = name_of (names_in c.args.tree.now) c.args.called in
    let args = listed (names_text (names_over (named_in c.args.tree.now) c.args.args)) in
    seven c.args.out.now.items c.put_blanks.new.out.items c.put_targets.new.out.items c.extend_from_slice.new.self.items c.put_name.new.out.items c.extend_from_slice-2.new.self.items c.put_names.new.out.items c.extend_from_slice-3.new.self.items
    blanks targets (codes " = ") called (codes "(") args (codes ");\n")
    c.in_ok-put_blanks.ensures c.in_ok-put_targets.ensures c.in_ok-extend_from_slice.ensures.items c.in_ok-put_name.ensures c.in_ok-extend_from_slice-2.ensures.items c.in_ok-put_names.ensures c.in_ok-extend_from_slice-3.ensures.items
    ∙ ap (λ t. c.args.out.now.items ++ (blanks ++ t)) (call_end targets called args)
