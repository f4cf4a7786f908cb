use Rattle.std.proofs.Common.{sym, subst}
use Rattle.dec_transfer.specs.Forgotten.{AreOthers}
use Rattle.dec_transfer.proofs.Forgotten.{value-forgotten, marks-forgotten}
use Rattle.dec_transfer.proofs.forgetting.havoc.Goals as goal

pub returns-clause-value : goal.returns-clause-value
returns-clause-value c =
    let o = subst (AreOthers c.dims.result c.args.target) (sym c.deref.ensures.value) c.in_ok-origins.ensures in
    value-forgotten c.dims.result c.args.target c.args.v.now c.in_ok-after.after c.deref.result.now c.dims.ensures o c.known.ensures c.in_ok-after.ensures.value

pub returns-clause-marks : goal.returns-clause-marks
returns-clause-marks c =
    let o = subst (AreOthers c.dims.result c.args.target) (sym c.deref.ensures.value) c.in_ok-origins.ensures in
    marks-forgotten c.dims.result c.args.target c.args.v.now c.in_ok-after.after c.deref.result.now c.requires.target c.dims.ensures o c.known.ensures c.known-2.ensures c.in_ok-after.ensures.value c.in_ok-after.ensures.marks
