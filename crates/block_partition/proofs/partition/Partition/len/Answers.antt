use Rattle.std.proofs.Common.{length, sym, ap, ◌∙◌, arith}
use Rattle.std.proofs.lemmas.List.{length-map}
use Rattle.block_partition.proofs.Places.{block_count}
use Rattle.block_partition.proofs.partition.Partition.len.Goals as goal

pub returns-clause-small : goal.returns-clause-small
returns-clause-small c =
    let r = block_count 512 _ c.known.ensures.partition c.known.ensures.ordered in
    let l = sym (length-map c.blocks-2.result.now (λ vs. vs.items)) ∙ ap length c.blocks-2.ensures in
    omega arith

pub overflow_cast-result : goal.overflow_cast-result
overflow_cast-result c =
    let r = block_count 512 _ c.known.ensures.partition c.known.ensures.ordered in
    let l = sym (length-map c.blocks-2.result.now (λ vs. vs.items)) ∙ ap length c.blocks-2.ensures in
    omega arith
