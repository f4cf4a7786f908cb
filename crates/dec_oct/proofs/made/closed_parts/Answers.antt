use Rattle.std.proofs.Common.{ℕ, ◌*◌, ◌<◌, ◌≤◌, length, None, sym, subst, ◌∙◌, arith}
use Rattle.block_laws.specs.Assembly.{matrix}
use Rattle.dec_oct.specs.Cost.{ClosesEach}
use Rattle.dec_oct.specs.Value.{blocks_of}
use Rattle.dec_oct.proofs.Results.{AreShapes, given-parts, room-for, closed-empty, bottom-end}
use Rattle.dec_oct.proofs.made.closed_parts.Goals as goal

pub close_unmarked-requires-clause-room : goal.close_unmarked-requires-clause-room
close_unmarked-requires-clause-room c =
    let g = c.args.given.now in
    subst (λ ms. (b : ℕ) → b < length ms → length (matrix ms b) ≤ 2 * c.in_ok-scratch.scratch) (sym c.deref-2.ensures.value)
    (room-for c.args.dims (blocks_of g.partition g.matrices.items g.settled.items) c.in_ok-scratch.scratch c.requires.given (let e = c.in_ok-scratch.ensures in omega arith))

pub returns-in-None-clause-value : goal.returns-in-None-clause-value
returns-in-None-clause-value c =
    let g = c.args.given.now in
    let h : ClosesEach c.deref-2.result.now None = rw c.in-None.is at c.in_ok-close_unmarked.ensures.each in
    let k : ClosesEach g.matrices.items None = subst (λ ms. ClosesEach ms None) c.deref-2.ensures.value h in
    let shapes : AreShapes g.matrices.items = subst AreShapes c.deref.ensures.value c.know_shapes.ensures in
    c.bottom.ensures.value ∙ bottom-end c.args.dims _ (closed-empty c.args.dims g.partition g.matrices.items (given-parts c.args.dims (blocks_of g.partition g.matrices.items g.settled.items) c.requires.given.given shapes) k)
