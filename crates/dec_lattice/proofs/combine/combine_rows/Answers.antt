use Rattle.std.proofs.Common.{◌≡◌, ◌*◌, refl, subst, arith}
use Rattle.std.specs.Prelude.{ℕ}
use Rattle.tight_closure.proofs.Rows.{RowsDone}
use Rattle.dec_lattice.specs.Operation.{combined_entry}
use Rattle.dec_lattice.proofs.Rows.{row-combined, all-combined}
use Rattle.dec_lattice.proofs.combine.combine_rows.Goals as goal

pub loop-i-preserved : goal.loop-i-preserved
loop-i-preserved c =
    let n = c.vars-size.result in (
      row-combined c.args.op n c.loop-i.i c.args.dst.now c.args.src.now c.loop-i.dst c.row_mut-words.result.now c.combine_row.new.dst c.fill_row.new.buf _ (omega arith) (omega arith) (omega arith)
          c.loop-i.invariant.0 c.row_mut-words.ensures.length c.combine_row.ensures.length c.row_mut-words.ensures.words c.fill_row.ensures refl c.combine_row.ensures.combined,
      c.fill_row.ensures.size,
    )

pub returns : goal.returns
returns c =
    let m = c.args.dst.now in
    let x = c.args.src.now in
    let n = c.vars-size.result in
    let all : c.loop-i.i ≡ 2 * n = omega arith in
    all-combined c.args.op n m x c.loop-i.dst (omega arith) (omega arith) c.shape.ensures.coherent c.shape-2.ensures.coherent c.shape-3.ensures.square c.shape-3.ensures.coherent
    (subst (λ (t : ℕ). RowsDone (combined_entry c.args.op m x) m t c.loop-i.dst) all c.loop-i.invariant.0)
