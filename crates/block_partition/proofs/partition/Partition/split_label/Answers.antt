use Rattle.std.proofs.Common.{◌≡◌, sym, ap, ◌∙◌, arith}
use Rattle.block_partition.specs.Partition.{place, home}
use Rattle.block_partition.proofs.Places.{block_size}
use Rattle.block_partition.proofs.Relabelled.{split-place, split-part, split-other, plain-some, plain-none}
use Rattle.block_partition.proofs.partition.Partition.split_label.Goals as goal

pub returns-in_err-a : goal.returns-in_err-a
returns-in_err-a c = split-other c.args.self.now c.args.b c.args.v _ c.args.labels.now (λ (e : home c.args.self.now c.args.v ≡ c.args.b). let p = c.in_err-a.ensures in let q = c.requires.block in absurd (omega arith)) (c.from_residual.ensures ∙ plain-none c.args.self.now c.args.v c.in_err-a.ensures)

pub bounds-labels-i : goal.bounds-labels-i
bounds-labels-i c =
    let r = split-place c.args.self.now c.args.b c.args.v c.in_ok-a.a c.in_ok-a.ensures c.if-a-b.true in
    let e = c.place_of-i.ensures ∙ ap (λ vs. place vs c.args.v) c.block.ensures in
    omega (arith, c.requires.size)

pub offset_bounds-labels-i : goal.offset_bounds-labels-i
offset_bounds-labels-i c =
    let r = split-place c.args.self.now c.args.b c.args.v c.in_ok-a.a c.in_ok-a.ensures c.if-a-b.true in
    let e = c.place_of-i.ensures ∙ ap (λ vs. place vs c.args.v) c.block.ensures in
    let s = block_size 512 c.args.self.now c.args.b c.known.ensures.partition c.requires.block in
    omega (arith, c.requires.size)

pub returns-then-a-b : goal.returns-then-a-b
returns-then-a-b c = let h = c.in_ok-a.ensures in split-part c.args.self.now c.args.b c.args.v c.place_of-i.result _ c.args.labels.now (sym h.0 ∙ c.if-a-b.true) (c.place_of-i.ensures ∙ ap (λ vs. place vs c.args.v) c.block.ensures) c.part_label.ensures

pub returns-else-a-b : goal.returns-else-a-b
returns-else-a-b c = let h = c.in_ok-a.ensures in split-other c.args.self.now c.args.b c.args.v _ c.args.labels.now (λ e. c.if-a-b.false (h.0 ∙ e)) (plain-some c.args.self.now c.args.v c.in_ok-a.a h)
