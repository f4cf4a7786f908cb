-- A target is no input, or an input that was a target before, or one that becomes a target now.
use Rattle.std.proofs.Common.{if◌then◌else◌, Some, None, length, get_or, sym, ap, ◌∙◌, refl, arith}
use Rattle.std.proofs.lemmas.Bool.{lt-ltb, le-ltb}
use Rattle.spl_types.specs.declared.fault.CheckRule.TheVariants.{TooManyVariables}
use Rattle.spl_types.specs.Checks.{dimension_count}
use Rattle.spl_types.specs.Walking.{scope_in}
use Rattle.spl_types.proofs.Copying.{distinct_take, is_no_input, is_input, roomy_elsewhere, roomy_again, room_of, met_elsewhere, met_again, met_first}
use Rattle.spl_types.proofs.walk.meet_target.Goals as goal

pub returns-then-number-len : goal.returns-then-number-len
returns-then-number-len c = λ x at m g.
    let s = c.args.scope.now in
    let none = is_no_input s.declared s.inputs m.targets x c.args.number at (omega (arith, ap length g.assigned, c.if-number-len.true, c.len.ensures, c.args.walk.now.copies.assigned.ok.0)) in
    (ap (λ b. if b then None else Some (TooManyVariables, c.args.at)) (roomy_elsewhere (scope_in s) m.targets x none), met_elsewhere (scope_in s) m c.args.walk.now x none g)

pub returns-then-index : goal.returns-then-index
returns-then-index c = λ x at m g.
    let s = c.args.scope.now in
    let i = is_input s.declared s.inputs m.targets x c.args.number at (omega (arith, ap length g.assigned, c.if-number-len.false, c.len.ensures, c.args.walk.now.copies.assigned.ok.0)) in
    let among = sym (c.index.ensures ∙ (ap (λ l. get_or l c.args.number c.index.result.now) g.assigned ∙ i.flag c.index.result.now)) ∙ c.if-index.true in
    (ap (λ b. if b then None else Some (TooManyVariables, c.args.at)) (roomy_again (scope_in s) m.targets x among), met_again (scope_in s) m c.args.walk.now x among g)

pub returns-then-walk-ge-MOST_DIMENSIONS : goal.returns-then-walk-ge-MOST_DIMENSIONS
returns-then-walk-ge-MOST_DIMENSIONS c = λ x at m g.
    let s = c.args.scope.now in
    let i = is_input s.declared s.inputs m.targets x c.args.number at (omega (arith, ap length g.assigned, c.if-number-len.false, c.len.ensures, c.args.walk.now.copies.assigned.ok.0)) in
    let among = sym (c.index.ensures ∙ (ap (λ l. get_or l c.args.number c.index.result.now) g.assigned ∙ i.flag c.index.result.now)) ∙ c.if-index.false in
    ap (λ b. if b then None else Some (TooManyVariables, c.args.at)) (room_of (scope_in s) m.targets x i.among among ∙ le-ltb (dimension_count (scope_in s) m.targets) 128 (omega (arith, g.dims, c.if-walk-ge-MOST_DIMENSIONS.true)))

pub returns : goal.returns
returns c = λ x at m g.
    let s = c.args.scope.now in
    let i = is_input s.declared s.inputs m.targets x c.args.number at (omega (arith, ap length g.assigned, c.if-number-len.false, c.len.ensures, c.args.walk.now.copies.assigned.ok.0)) in
    let among = sym (c.index.ensures ∙ (ap (λ l. get_or l c.args.number c.index.result.now) g.assigned ∙ i.flag c.index.result.now)) ∙ c.if-index.false in (
      ap (λ b. if b then None else Some (TooManyVariables, c.args.at)) (room_of (scope_in s) m.targets x i.among among ∙ lt-ltb (dimension_count (scope_in s) m.targets) 128 (omega (arith, g.dims, c.if-walk-ge-MOST_DIMENSIONS.false))),
      met_first (scope_in s) m c.args.walk.now _ x c.args.number i.there i.name (distinct_take s.inputs s.declared c.requires) among refl refl refl g,
    )
