use Rattle.std.proofs.Common.{length, sym, ap, ◌∙◌, arith}
use Rattle.spl_core.specs.declared.parts.Proc.{Proc}
use Rattle.spl_core.specs.Parts.{Parts, proc_at, owner_of}
use Rattle.iteration.proofs.Planned.{points, dims_told}
use Rattle.iteration.proofs.system.CoreSystemEquations.dims.Goals as goal

pub owner-requires : goal.owner-requires
owner-requires g c = omega (arith, ap (λ (k : Parts). length k.owners) c.self.view_is, points c.args.self.now, c.requires.point)

pub returns : goal.returns
returns g c = record {
  dims = ap (λ (q : Proc). q.dims) (c.proc_at.ensures.found ∙ ap (proc_at c.self.inside.core.now) c.owner.ensures.found ∙ ap (λ (k : Parts). proc_at k (owner_of k c.args.p)) c.self.view_is)
      ∙ sym (dims_told c.args.self.now c.args.p);
}
