use Rattle.std.proofs.Common.{◌≡◌, ◌*◌, subst, arith}
use Rattle.std.specs.Prelude.{ℕ}
use Rattle.oct_def.specs.Tight.{strong_entry}
use Rattle.minplus_lanes.proofs.Rows.{again}
use Rattle.minplus_lanes.proofs.Halves.{half_word}
use Rattle.tight_closure.proofs.Rows.{RowsDone, no_rows}
use Rattle.tight_closure.proofs.Strong.{half_words_of, strong_more, all_strong}
use Rattle.tight_closure.proofs.ends.strengthen_rows.Goals as goal

pub loop-i-init : goal.loop-i-init
loop-i-init c = no_rows (strong_entry c.args.m.now) c.args.m.now

pub row_mut-requires : goal.row_mut-requires
row_mut-requires c = omega (arith, c.loop-i.invariant.size)

pub strengthen_row-requires-clause-halves : goal.strengthen_row-requires-clause-halves
strengthen_row-requires-clause-halves c = half_words_of c.args.m.now c.args.halves.now c.requires.in_range c.requires.halves

pub loop-i-preserved : goal.loop-i-preserved
loop-i-preserved c =
    let m = c.args.m.now in
    let hs = c.args.halves.now in
    let o = c.opposite.result in
    let words = half_words_of m hs c.requires.in_range c.requires.halves in
    let same = again _ (half_word _ (words.words o (omega (arith, c.requires.halves.size)))) in
    strong_more c.vars-size.result c.loop-i.i o m c.loop-i.m c.row_mut.result.now c.strengthen_row.new.dst hs _ (omega arith) (omega arith) c.opposite.ensures
    c.loop-i.invariant c.requires.halves c.row_mut.ensures.length c.strengthen_row.ensures.length c.row_mut.ensures.words same c.strengthen_row.ensures.strong

pub returns : goal.returns
returns c =
    let m = c.args.m.now in
    let n = c.vars-size.result in
    let all : c.loop-i.i ≡ 2 * n = omega arith in
    all_strong n m c.loop-i.m (omega arith) c.shape.ensures.coherent c.shape-2.ensures.square c.shape-2.ensures.coherent (subst (λ (t : ℕ). RowsDone (strong_entry m) m t c.loop-i.m) all c.loop-i.invariant)
