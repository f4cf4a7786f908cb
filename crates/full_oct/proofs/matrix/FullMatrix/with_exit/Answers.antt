use Rattle.std.proofs.Common.{◌≡◌, ◌+◌, ◌*◌, None, refl, sym, subst, ◌∙◌, arith, length}
use Rattle.oct_def.specs.Bound.{least}
use Rattle.transfer_def.specs.Dimensions.{extended}
use Rattle.transfer_def.specs.Back.{least_below, brought_in_row}
use Rattle.full_oct.proofs.Bringing.{Brought, brought-nothing, brought-row, brought-same, rows-more, joined-all, length-extended, square-extended}
use Rattle.full_oct.proofs.matrix.FullMatrix.with_exit.Goals as goal

pub loop-i-init : goal.loop-i-init
unfolding least_below
loop-i-init c =
    let ext = extended c.args.dims c.args.outputs c.args.self.now in
    subst (Brought (λ p q. None) ext) (sym c.in_ok-m.ensures.extended) (brought-nothing ext (square-extended c.args.dims c.args.outputs c.args.self.now))

pub bring_row-requires-clause-rows : goal.bring_row-requires-clause-rows
bring_row-requires-clause-rows c = c.loop-i.invariant.rows ∙ length-extended c.args.dims c.args.outputs c.args.self.now

pub loop-i-preserved : goal.loop-i-preserved
loop-i-preserved c =
    let n = c.args.dims in
    let args = c.args.args.now in
    let exit = c.args.exit.now in
    let i = c.loop-i.i in
    let ext = extended n c.args.outputs c.args.self.now in
    brought-same (λ p q. least (brought_in_row n args c.args.outputs exit p q i) (least_below i (brought_in_row n args c.args.outputs exit p q)))
    (λ p q. least_below (i + 1) (brought_in_row n args c.args.outputs exit p q)) ext c.bring_row.new.self
    (λ p q. rows-more n args c.args.outputs exit i p q)
    (brought-row (λ p q. least_below i (brought_in_row n args c.args.outputs exit p q)) (λ p q. brought_in_row n args c.args.outputs exit p q i) ext c.loop-i.m c.bring_row.new.self c.loop-i.invariant
    c.bring_row.ensures.rows c.bring_row.ensures.square c.bring_row.ensures.entries)

pub returns : goal.returns
returns c =
    let n = c.args.dims in
    let args = c.args.args.now in
    let exit = c.args.exit.now in
    let ext = extended n c.args.outputs c.args.self.now in
    let all : c.loop-i.i ≡ 2 * (length args + c.args.outputs) = omega arith in
    record {
      joined = joined-all n args c.args.outputs c.args.self.now exit ext c.loop-i.m refl
          (subst (λ k. Brought (λ p q. least_below k (brought_in_row n args c.args.outputs exit p q)) ext c.loop-i.m) all c.loop-i.invariant);
      rows = c.loop-i.invariant.rows ∙ length-extended n c.args.outputs c.args.self.now;
    }
