use Rattle.std.proofs.Common.{◌≡◌, length, take, refl, ◌∙◌, arith}
use Rattle.std.proofs.lemmas.List.{length-take}
use Rattle.spl_types.proofs.Copying.{no_flags, no_copies}
use Rattle.spl_types.proofs.walk.start.Goals as goal

pub returns-clause-met : goal.returns-clause-met
returns-clause-met c =
    let s = c.args.scope.now in
    let count : length (take s.inputs s.declared) ≡ c.loop.counter = omega (arith, length-take s.inputs s.declared, c.requires.inputs, c.loop-test.false, c.loop.auto.counter-end) in
    record {
      points = refl;
      assigned = c.loop.invariant ∙ no_flags (take s.inputs s.declared) c.loop.counter count;
      dims = omega (arith, c.len-dims.ensures, no_copies (take s.inputs s.declared));
    }
