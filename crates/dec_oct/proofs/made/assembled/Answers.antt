use Rattle.std.proofs.Common.{sym, ap, subst}
use Rattle.oct_def.specs.Matrix.{IsEvenMatrix}
use Rattle.block_laws.specs.Assembly.{assembly}
use Rattle.dec_oct.specs.Value.{blocks_of}
use Rattle.dec_oct.specs.Cost.{TellsMarks}
use Rattle.dec_oct.specs.Given.{KeepsMarksOf}
use Rattle.dec_oct.specs.Cut.{IsCut}
use Rattle.dec_oct.proofs.Flags.{marks-settled}
use Rattle.dec_oct.proofs.Results.{AreShapes, given-parts, given-even, made-is, marks-kept}
use Rattle.dec_oct.proofs.made.assembled.Goals as goal

pub cut_components-requires-clause-value : goal.cut_components-requires-clause-value
cut_components-requires-clause-value c =
    let g = c.args.given.now in
    let a = blocks_of g.partition g.matrices.items g.settled.items in
    let shapes : AreShapes g.matrices.items = subst AreShapes c.deref.ensures.value c.know_shapes.ensures in
    subst (λ x. IsEvenMatrix c.args.dims (assembly c.args.dims g.partition x)) (sym c.deref-2.ensures.value) (given-even c.args.dims a c.requires.given shapes)

pub of_blocks-requires-clause-blocks : goal.of_blocks-requires-clause-blocks
of_blocks-requires-clause-blocks c =
    let g = c.args.given.now in
    let a = blocks_of g.partition g.matrices.items g.settled.items in
    let made = c.in_ok-made.made in
    let kept = c.in_ok-kept.kept.items in
    let shapes : AreShapes g.matrices.items = subst AreShapes c.deref.ensures.value c.know_shapes.ensures in
    let cut : IsCut c.args.dims (assembly c.args.dims g.partition g.matrices.items) made.partition made.matrices.items = subst (λ x. IsCut c.args.dims (assembly c.args.dims g.partition x) made.partition made.matrices.items) c.deref-2.ensures.value c.in_ok-made.ensures in
    let told : TellsMarks a made.partition made.matrices.items kept = subst (λ x. TellsMarks (blocks_of g.partition x g.settled.items) made.partition made.matrices.items kept) c.deref-3.ensures.value
    (subst (λ x. TellsMarks (blocks_of g.partition c.deref-3.result.now x) made.partition made.matrices.items kept) c.deref-4.ensures.value c.in_ok-kept.ensures) in
    made-is c.args.dims _ _ _ _ cut (given-even c.args.dims a c.requires.given shapes) told.size (marks-settled a _ _ kept c.requires.given.given.count c.requires.given.given.settled cut.parts.count told)

pub returns-clause-marks : goal.returns-clause-marks
returns-clause-marks c =
    let g = c.args.given.now in
    let a = blocks_of g.partition g.matrices.items g.settled.items in
    let made = c.in_ok-made.made in
    let kept = c.in_ok-kept.kept.items in
    let shapes : AreShapes g.matrices.items = subst AreShapes c.deref.ensures.value c.know_shapes.ensures in
    let cut : IsCut c.args.dims (assembly c.args.dims g.partition g.matrices.items) made.partition made.matrices.items = subst (λ x. IsCut c.args.dims (assembly c.args.dims g.partition x) made.partition made.matrices.items) c.deref-2.ensures.value c.in_ok-made.ensures in
    let told : TellsMarks a made.partition made.matrices.items kept = subst (λ x. TellsMarks (blocks_of g.partition x g.settled.items) made.partition made.matrices.items kept) c.deref-3.ensures.value
    (subst (λ x. TellsMarks (blocks_of g.partition c.deref-3.result.now x) made.partition made.matrices.items kept) c.deref-4.ensures.value c.in_ok-kept.ensures) in
    subst (KeepsMarksOf a) (sym (ap (λ d. d.blocks) c.in_ok-v.ensures)) (marks-kept c.args.dims a _ _ kept (given-parts c.args.dims a c.requires.given.given shapes) cut told)
