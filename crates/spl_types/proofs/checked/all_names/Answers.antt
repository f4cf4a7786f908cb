use Rattle.std.proofs.Common.{◌≡◌, ◌++◌, map, filter, ap, ◌∙◌}
use Rattle.spl_types.specs.Checks.{is_among, declared_names}
use Rattle.spl_types.specs.Dimensions.{targets_in, input_name}
use Rattle.spl_types.specs.Naming.{texts}
use Rattle.spl_types.specs.Routines.{routine_in}
use Rattle.spl_types.proofs.NamesSoFar.{on_ok, dimensions_so}
use Rattle.spl_types.proofs.checked.all_names.Goals as goal

pub returns : goal.returns
returns c =
    let u = routine_in c.args.tree.now c.args.routine in
    let ts = targets_in u in
    let n0 = texts c.new-names.result.items in
    let n1 = texts c.add_inputs.new.names.items in
    let n2 = texts c.add_all.new.names.items in
    let n3 = texts c.add_all-2.new.names.items in
    let n4 = texts c.add_copies.new.names.items in
    let flags = c.as_slice-assigned.ensures.value ∙ c.requires.flags in
    let first = on_ok c.add_inputs.result (n1 ≡ n0 ++ map (input_name ts) (declared_names u.inputs)) _ c.in_ok-add_inputs.was (c.add_inputs.ensures ts flags) in
    let last = on_ok c.add_copies.result (n4 ≡ n3 ++ filter (λ x. is_among x ts) (declared_names u.inputs)) _ c.in_ok-add_copies.was (c.add_copies.ensures ts flags) in
    dimensions_so u n0 n1 n2 n3 n4 (ap texts c.new-names.ensures.items) first c.in_ok-add_all.ensures c.in_ok-add_all-2.ensures last
