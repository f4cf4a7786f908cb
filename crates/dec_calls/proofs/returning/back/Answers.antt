use Rattle.std.proofs.Common.{◌≡◌, ◌+◌, None, length, ap, sym, ◌∙◌, subst, rules}
use Rattle.std.specs.Prelude.{IsSome, IfSome}
use Rattle.oct_def.specs.Octagon.{bottom_value}
use Rattle.oct_def.specs.Tight.{tight}
use Rattle.dec_oct.specs.Value.{octagon, octagon_of, whole}
use Rattle.dec_parts.specs.Lower.{lowered_matrix}
use Rattle.dec_parts.specs.Moving.{moved_value, MarksAllButTargetsOf}
use Rattle.dec_calls.specs.Brought.{AreBrought}
use Rattle.dec_calls.proofs.Returns.{from-closed, moved-back, back-no_caller, back-no_exit}
use Rattle.dec_calls.proofs.returning.back.Goals as goal

pub returns-then-is_none-clause-value : goal.returns-then-is_none-clause-value
returns-then-is_none-clause-value c =
    let e : c.args.caller.now.blocks ≡ None = search rules in
    c.bottom.ensures.value ∙ ap bottom_value c.dims.ensures ∙ sym (back-no_caller c.args.caller.now c.args.exit.now c.args.args.now c.args.outputs c.args.targets.now e)

pub returns-then-is_none-2-clause-value : goal.returns-then-is_none-2-clause-value
returns-then-is_none-2-clause-value c =
    let e : c.args.exit.now.blocks ≡ None = search rules in
    c.bottom-then-is_none-2.ensures.value ∙ ap bottom_value c.dims-then-is_none-2.ensures ∙ sym (back-no_exit c.args.caller.now c.args.exit.now c.args.args.now c.args.outputs c.args.targets.now e)

pub returns-clause-value : goal.returns-clause-value
returns-clause-value c =
    let caller = c.args.caller.now in
    let exit = c.args.exit.now in
    let args = c.args.args.now in
    let targets = c.args.targets.now in
    let bounds = c.in_ok-bounds.bounds.items in
    let here : IsSome caller.blocks = search rules in
    let there : IsSome exit.blocks = search rules in
    let brought = subst (λ n. IfSome exit.blocks (λ e. AreBrought n args c.args.outputs (whole exit.dims e) bounds)) c.dims-2.ensures c.in_ok-bounds.ensures in
    let n = caller.dims + length targets in
    let after = subst (λ xs. IfSome caller.blocks (λ a. octagon c.in_ok-after.after ≡ moved_value caller.dims targets (octagon_of n (tight (lowered_matrix n xs (whole n a)))))) c.deref.ensures.value c.in_ok-after.ensures.value in
    from-closed (λ v. octagon c.in_ok-after.after ≡ moved_value caller.dims targets v) caller exit (length targets) args c.args.outputs bounds c.requires.count c.known.ensures c.known-2.ensures c.requires.inside here there brought after
    ∙ moved-back (octagon caller) (octagon exit) args c.args.outputs targets

pub returns-clause-marks : goal.returns-clause-marks
returns-clause-marks c =
    let caller = c.args.caller.now in
    let exit = c.args.exit.now in
    let args = c.args.args.now in
    let targets = c.args.targets.now in
    let bounds = c.in_ok-bounds.bounds.items in
    let here : IsSome caller.blocks = search rules in
    let there : IsSome exit.blocks = search rules in
    let brought = subst (λ n. IfSome exit.blocks (λ e. AreBrought n args c.args.outputs (whole exit.dims e) bounds)) c.dims-2.ensures c.in_ok-bounds.ensures in
    let n = caller.dims + length targets in
    let after = subst (λ xs. IfSome caller.blocks (λ a. MarksAllButTargetsOf caller.dims targets (octagon_of n (tight (lowered_matrix n xs (whole n a)))) c.in_ok-after.after.blocks)) c.deref.ensures.value c.in_ok-after.ensures.marks in
    from-closed (λ v. MarksAllButTargetsOf caller.dims targets v c.in_ok-after.after.blocks) caller exit (length targets) args c.args.outputs bounds c.requires.count c.known.ensures c.known-2.ensures c.requires.inside here there brought after
