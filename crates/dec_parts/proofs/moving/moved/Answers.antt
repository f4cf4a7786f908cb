use Rattle.std.proofs.Common.{◌≡◌, sym, subst, arith}
use Rattle.dec_oct.specs.Value.{octagon}
use Rattle.dec_parts.specs.Rename.{AreOrigins, renamed_value, KeepsOwnMarksOf}
use Rattle.dec_parts.specs.Moving.{AreMovedOrigins}
use Rattle.dec_parts.proofs.MovedVariables.{moved-origins, value-moved, marks-moved}
use Rattle.dec_parts.proofs.MovedMarks.{marks-all_but}
use Rattle.dec_parts.proofs.moving.moved.Goals as goal

pub renamed-requires-clause-origins : goal.renamed-requires-clause-origins
renamed-requires-clause-origins c =
    let n = c.args.dims in
    let ts = c.args.targets.now in
    let o = c.deref.result.now in
    let h : AreMovedOrigins n ts o = subst (AreMovedOrigins n ts) (sym c.deref.ensures.value) c.in_ok-origins.ensures in
    subst (λ d. AreOrigins d o) (sym c.requires.dims) (moved-origins n ts o h)

pub renamed-requires-clause-few : goal.renamed-requires-clause-few
renamed-requires-clause-few c =
    let n = c.args.dims in
    let ts = c.args.targets.now in
    let o = c.deref.result.now in
    let h : AreMovedOrigins n ts o = subst (AreMovedOrigins n ts) (sym c.deref.ensures.value) c.in_ok-origins.ensures in
    omega (arith, h.size)

pub returns : goal.returns
returns c =
    let n = c.args.dims in
    let ts = c.args.targets.now in
    let v = c.args.v.now in
    let r = c.in_ok-r.r in
    let o = c.deref.result.now in
    let h : AreMovedOrigins n ts o = subst (AreMovedOrigins n ts) (sym c.deref.ensures.value) c.in_ok-origins.ensures in
    let e : octagon r ≡ renamed_value o (octagon v) = c.in_ok-r.ensures.value in
    let own : KeepsOwnMarksOf o v.blocks r.blocks = c.in_ok-r.ensures.marks in
    let value = value-moved n ts o v r h c.requires.dims c.known.ensures e in
    let marks = marks-moved n ts o v r h c.known-2.ensures e own in
    record {
      value = value;
      marks = marks;
      missing = λ distinct inside tells. marks-all_but n ts v r distinct inside c.requires.dims c.known.ensures c.known-2.ensures tells value marks;
    }
