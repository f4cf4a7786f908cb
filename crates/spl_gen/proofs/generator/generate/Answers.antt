use Rattle.std.proofs.Common.{codes}
use Rattle.spl_gen.specs.Generated.{chain, declarations, each, generated, steps}
use Rattle.spl_gen.proofs.Groups.{seven}
use Rattle.spl_gen.proofs.generator.generate.Goals as goal

pub returns : goal.returns
unfolding generated
returns c =
    let n = c.args.n in
    seven (codes "var ") (each declarations n) (codes ";\nbegin\n") (each chain n) (codes "while random do\n") (each steps n) (codes "done;\nend\n")
    c.new-out.result.items c.extend_from_slice.new.self.items c.put_all_declarations.new.out.items c.extend_from_slice-2.new.self.items c.put_all_chains.new.out.items c.extend_from_slice-3.new.self.items
    c.put_all_steps.new.out.items c.extend_from_slice-4.new.self.items
    c.new-out.ensures.items c.in_ok-extend_from_slice.ensures.items c.in_ok-put_all_declarations.ensures c.in_ok-extend_from_slice-2.ensures.items c.in_ok-put_all_chains.ensures c.in_ok-extend_from_slice-3.ensures.items
    c.in_ok-put_all_steps.ensures c.in_ok-extend_from_slice-4.ensures.items
