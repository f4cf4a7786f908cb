use Rattle.std.proofs.Common.{ℕ, ◌+◌, ◌*◌, ◌<◌, ◌≤◌, length, sym, ap, subst, ◌∙◌, arith}
use Rattle.oct_def.specs.Bound.{InRange}
use Rattle.oct_def.specs.Table.{at}
use Rattle.oct_def.specs.Matrix.{IsEvenMatrix}
use Rattle.block_laws.specs.Assembly.{matrix, assembly}
use Rattle.dec_oct.specs.Value.{blocks_of, IsSettled}
use Rattle.dec_oct.specs.Cost.{TellsAgain, unmarked_cost}
use Rattle.dec_oct.proofs.Assembled.{coherent-assembly}
use Rattle.dec_oct.proofs.Flags.{again-settled, marks-settled}
use Rattle.dec_oct.proofs.Sures.{told, sure-cost}
use Rattle.dec_oct.proofs.Results.{given-parts, given-shape, loose-low, closed-parts, closed-strong, closed-even, closed-is, made-is, room-of, in_range-blocks}
use Rattle.dec_oct.proofs.made.closed_value.Goals as goal

pub merged_parts-requires-clause-parts : goal.merged_parts-requires-clause-parts
merged_parts-requires-clause-parts c =
    let g = c.args.given.now in
    let a = blocks_of g.partition g.matrices.items g.settled.items in
    closed-parts c.args.dims g.partition g.matrices.items c.args.closed.now (given-parts c.args.dims a c.requires.given.given c.requires.shapes) c.requires.closed

pub merged_parts-requires-clause-coherent : goal.merged_parts-requires-clause-coherent
merged_parts-requires-clause-coherent c =
    let g = c.args.given.now in
    let a = blocks_of g.partition g.matrices.items g.settled.items in
    let ps = closed-parts c.args.dims g.partition g.matrices.items c.args.closed.now (given-parts c.args.dims a c.requires.given.given c.requires.shapes) c.requires.closed in
    coherent-assembly c.args.dims g.partition c.args.closed.now ps (λ b p. (c.know_shapes.ensures b (let e = ps.count in omega arith)).1)

pub merged_parts-requires-clause-strong : goal.merged_parts-requires-clause-strong
merged_parts-requires-clause-strong c =
    let g = c.args.given.now in
    let a = blocks_of g.partition g.matrices.items g.settled.items in
    closed-strong c.args.dims g.partition g.matrices.items c.args.closed.now (given-parts c.args.dims a c.requires.given.given c.requires.shapes) c.requires.closed

pub cut_components-requires-clause-value : goal.cut_components-requires-clause-value
cut_components-requires-clause-value c =
    let g = c.args.given.now in
    let a = blocks_of g.partition g.matrices.items g.settled.items in
    let ps = given-parts c.args.dims a c.requires.given.given c.requires.shapes in
    (closed-even c.args.dims g.partition c.in_ok-joint.joint.partition g.matrices.items c.args.closed.now c.deref.result.now ps (given-shape c.args.dims a c.requires.given.given c.requires.shapes) (loose-low c.args.dims a c.requires.given c.requires.shapes) c.requires.closed
    (ap (assembly c.args.dims c.in_ok-joint.joint.partition) c.deref.ensures.value ∙ c.in_ok-joint.ensures.same)).1

pub second_marks-requires-clause-room : goal.second_marks-requires-clause-room
second_marks-requires-clause-room c =
    let made = c.in_ok-made.made in
    subst (λ ms. (b : ℕ) → b < length ms → length (matrix ms b) ≤ 2 * c.args.scratch.now) (sym c.deref-2.ensures.value)
    (room-of c.args.dims c.args.scratch.now made.partition made.matrices.items c.in_ok-made.ensures.parts c.requires.room)

pub second_marks-requires-clause-in_range : goal.second_marks-requires-clause-in_range
second_marks-requires-clause-in_range c =
    let g = c.args.given.now in
    let a = blocks_of g.partition g.matrices.items g.settled.items in
    let made = c.in_ok-made.made in
    let ps = given-parts c.args.dims a c.requires.given.given c.requires.shapes in
    let r = closed-even c.args.dims g.partition c.in_ok-joint.joint.partition g.matrices.items c.args.closed.now c.deref.result.now ps (given-shape c.args.dims a c.requires.given.given c.requires.shapes) (loose-low c.args.dims a c.requires.given c.requires.shapes) c.requires.closed
    (ap (assembly c.args.dims c.in_ok-joint.joint.partition) c.deref.ensures.value ∙ c.in_ok-joint.ensures.same) in
    subst (λ ms. (b : ℕ) → b < length ms → (i j : ℕ) → InRange (at (matrix ms b) i j)) (sym c.deref-2.ensures.value)
    (in_range-blocks c.args.dims made.partition made.matrices.items c.in_ok-made.ensures.parts (subst (IsEvenMatrix c.args.dims) (sym c.in_ok-made.ensures.same) r.1))

pub of_blocks-requires-clause-blocks : goal.of_blocks-requires-clause-blocks
of_blocks-requires-clause-blocks c =
    let g = c.args.given.now in
    let a = blocks_of g.partition g.matrices.items g.settled.items in
    let ps = given-parts c.args.dims a c.requires.given.given c.requires.shapes in
    let r = closed-even c.args.dims g.partition c.in_ok-joint.joint.partition g.matrices.items c.args.closed.now c.deref.result.now ps (given-shape c.args.dims a c.requires.given.given c.requires.shapes) (loose-low c.args.dims a c.requires.given c.requires.shapes) c.requires.closed
    (ap (assembly c.args.dims c.in_ok-joint.joint.partition) c.deref.ensures.value ∙ c.in_ok-joint.ensures.same) in
    let t : TellsAgain c.in_ok-made.made.matrices.items c.in_ok-again.again.items = subst (λ x. TellsAgain x c.in_ok-again.again.items) c.deref-2.ensures.value c.in_ok-again.ensures.again in
    made-is c.args.dims _ _ _ _ c.in_ok-made.ensures r.1 (t.size ∙ c.in_ok-made.ensures.parts.count) (again-settled _ _ t)

pub second_marks-requires-clause-settled : goal.second_marks-requires-clause-settled
second_marks-requires-clause-settled c =
    let g = c.args.given.now in
    let made = c.in_ok-made.made in
    subst (λ ms. IsSettled ms c.deref-3.result.now) (sym c.deref-2.ensures.value)
    (subst (λ xs. IsSettled made.matrices.items xs) (sym c.deref-3.ensures.value)
    (marks-settled (blocks_of g.partition c.args.closed.now c.args.sure.now) made.partition made.matrices.items c.in_ok-known.known.items (c.requires.closed.0 ∙ c.requires.given.given.count) c.requires.sure.settled c.in_ok-made.ensures.parts.count c.in_ok-known.ensures))

pub returns-clause-value : goal.returns-clause-value
returns-clause-value c =
    let g = c.args.given.now in
    let a = blocks_of g.partition g.matrices.items g.settled.items in
    let made = c.in_ok-made.made in
    let more = c.in_ok-known.known.items in
    let again = c.in_ok-again.again.items in
    let old = c.args.count.now in
    let new = c.second_marks.new.count in
    let ps = given-parts c.args.dims a c.requires.given.given c.requires.shapes in
    let r = closed-even c.args.dims g.partition c.in_ok-joint.joint.partition g.matrices.items c.args.closed.now c.deref.result.now ps (given-shape c.args.dims a c.requires.given.given c.requires.shapes) (loose-low c.args.dims a c.requires.given c.requires.shapes) c.requires.closed
    (ap (assembly c.args.dims c.in_ok-joint.joint.partition) c.deref.ensures.value ∙ c.in_ok-joint.ensures.same) in
    let t : TellsAgain made.matrices.items again = subst (λ x. TellsAgain x again) c.deref-2.ensures.value c.in_ok-again.ensures.again in
    let tells = told a made.partition made.matrices.items in
    let fewer : unmarked_cost made.matrices.items more ≤ unmarked_cost made.matrices.items tells.known = sure-cost g.partition made.partition g.matrices.items c.args.closed.now made.matrices.items g.settled.items c.args.sure.now tells.known more
    c.requires.given.given.count c.in_ok-made.ensures.parts.count c.requires.given.given.settled c.requires.closed c.requires.sure tells.told c.in_ok-known.ensures in
    let bound : new ≤ old + unmarked_cost made.matrices.items more = subst (λ x. new ≤ old + unmarked_cost x more) c.deref-2.ensures.value
    (subst (λ x. new ≤ old + unmarked_cost c.deref-2.result.now x) c.deref-3.ensures.value c.second_marks.ensures.count) in
    closed-is c.args.dims a _ _ _ tells.known again old new _ r.0 c.in_ok-made.ensures tells.told t (omega (arith, bound, fewer)) c.in_ok-v.ensures
