use Rattle.std.proofs.Common.{◌<◌, false, length, get_or, refl, sym, ap, ◌∙◌, arith}
use Rattle.spl_tree.specs.Program.{Declared}
use Rattle.spl_tree.specs.Meaning.{decls_in, decls_over}
use Rattle.spl_types.specs.Naming.{texts}
use Rattle.spl_types.proofs.Declaring.{no_decl}
use Rattle.spl_types.proofs.NamesSoFar.{inputs_so}
use Rattle.spl_types.proofs.names.add_inputs.Goals as goal

pub loop-i-preserved : goal.loop-i-preserved
loop-i-preserved c = λ targets f.
    let ds = decls_over (decls_in c.args.tree.now) c.args.list in
    let lt : c.loop-i.i < length ds = omega (arith, c.decl_count-i-end.ensures.count) in
    let x = c.name.ensures ∙ sym (ap (λ (d : Declared). d.name.name) (c.decl_node.ensures.stands no_decl)) in
    inputs_so c.args.assigned.now targets (texts c.args.names.now.items) (texts c.loop-i.names.items) (texts c.add_input.new.names.items) ds c.loop-i.i c.name.result.now (get_or c.args.assigned.now c.loop-i.i false) lt f refl x (c.loop-i.invariant targets f) c.in_ok-add_input.ensures
