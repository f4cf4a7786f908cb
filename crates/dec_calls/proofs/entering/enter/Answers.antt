use Rattle.std.proofs.Common.{◌∙◌, subst, sym}
use Rattle.dec_oct.specs.Value.{octagon}
use Rattle.dec_calls.specs.Inputs.{AreInputs}
use Rattle.dec_calls.proofs.Entered.{inputs-origins, entered-value}
use Rattle.dec_calls.proofs.entering.enter.Goals as goal

pub renamed-requires-clause-origins : goal.renamed-requires-clause-origins
renamed-requires-clause-origins c =
    let h = subst (AreInputs c.args.args.now c.args.dims) (sym c.deref.ensures.value) c.in_ok-origins.ensures in
    inputs-origins c.args.v.now.dims c.args.dims c.args.args.now _ h c.requires.args

pub returns-clause-value : goal.returns-clause-value
returns-clause-value c =
    let h = subst (AreInputs c.args.args.now c.args.dims) (sym c.deref.ensures.value) c.in_ok-origins.ensures in
    c.in_ok-entered.ensures.value ∙ entered-value c.args.dims c.args.args.now _ (octagon c.args.v.now) h
