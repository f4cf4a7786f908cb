use Rattle.std.proofs.Common.{◌++◌, codes, ap, ◌∙◌}
use Rattle.spl_tree.specs.Meaning.{name_of, names_in, decls_in, decls_over}
use Rattle.spl_print.specs.Canonical.{decls_text}
use Rattle.spl_print.proofs.Chains.{seven, heading_end}
use Rattle.spl_print.proofs.lines.put_heading.Goals as goal

pub returns : goal.returns
returns c =
    let name = name_of (names_in c.args.tree.now) c.args.proc.name in
    let inputs = decls_text (decls_over (decls_in c.args.tree.now) c.args.proc.inputs) in
    let outputs = decls_text (decls_over (decls_in c.args.tree.now) c.args.proc.outputs) in
    seven c.args.out.now.items c.extend_from_slice.new.self.items c.put_name.new.out.items c.extend_from_slice-2.new.self.items c.put_decls.new.out.items c.extend_from_slice-3.new.self.items c.put_decls-2.new.out.items c.extend_from_slice-4.new.self.items
    (codes "proc ") name (codes "(") inputs (codes ") returns (") outputs (codes ")\n")
    c.in_ok-extend_from_slice.ensures.items c.in_ok-put_name.ensures c.in_ok-extend_from_slice-2.ensures.items c.in_ok-put_decls.ensures c.in_ok-extend_from_slice-3.ensures.items c.in_ok-put_decls-2.ensures c.in_ok-extend_from_slice-4.ensures.items
    ∙ ap (λ t. c.args.out.now.items ++ t) (heading_end name inputs outputs)
