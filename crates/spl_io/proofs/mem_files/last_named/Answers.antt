use Rattle.std.proofs.Common.{ap, sym, ◌∙◌, nat_eq}
use Rattle.std.specs.Ordering.{nat_cmp}
use Rattle.std.specs.Cmp.Lexicographic.{slice_cmp, pointwise}
use Rattle.std.specs.FinMap.{get-empty}
use Rattle.spl_io.proofs.Entries.{finds-same, finds-other}
use Rattle.spl_io.proofs.mem_files.last_named.Goals as goal
use Rattle.spl_io.proofs.mem_files.last_named.Goals.{then-eq, else-eq}

pub loop-place-init : goal.loop-place-init
loop-place-init c = get-empty (slice_cmp nat_cmp) c.args.name.now

pub loop-place-preserved : goal.loop-place-preserved
loop-place-preserved c =
    let told = ap (pointwise nat_eq c.args.name.now) (sym c.as_slice.ensures.value) ∙ sym c.eq.ensures in
    elim c.if-eq.branch [
      | then-eq w ↦ finds-same c.args.entries.now c.args.name.now c.loop-place.place c.if-eq.found c.index-entries-place.result c.loop-place-test.true c.index-entries-place.is (told ∙ w.if-eq.true) w.found-is
      | else-eq w ↦ finds-other c.args.entries.now c.args.name.now c.loop-place.place c.loop-place.found c.if-eq.found c.index-entries-place.result c.loop-place-test.true c.index-entries-place.is (told ∙ w.if-eq.false) w.found-is c.loop-place.invariant
    ]
