-- Each token is a step, or has the place of the fault.
use Rattle.std.proofs.Common.{◌<◌, length, arith}
use Rattle.spl_tree.specs.Lists.{lists_of}
use Rattle.spl_parser.proofs.Reading.{reads_none, ends_inside, reads_more, reads_fault, stops_with}
use Rattle.spl_parser.proofs.parsing.read_tokens.Goals as goal

pub loop-k-init : goal.loop-k-init
loop-k-init c = reads_none c.args.bytes.now c.args.tokens.now (lists_of c.args.parts.now) c.requires.fresh

pub step-requires-clause-inside : goal.step-requires-clause-inside
step-requires-clause-inside c =
    let lt : c.loop-k.k < length c.args.tokens.now = omega (arith, c.loop-k-test.true, c.len-k-end.ensures.count) in
    ends_inside c.args.bytes.now c.args.tokens.now c.loop-k.k c.at-token.result c.at-token.ensures.found lt (c.law_tokens_spelled.ensures c.args.bytes.now c.args.tokens.now c.requires.cut c.requires.unbroken)

pub returns-in-Err-Syntax-clause-fault : goal.returns-in-Err-Syntax-clause-fault
returns-in-Err-Syntax-clause-fault c =
    let lt : c.loop-k.k < length c.args.tokens.now = omega (arith, c.loop-k-test.true, c.len-k-end.ensures.count) in
    reads_fault c.args.bytes.now c.args.tokens.now c.loop-k.k (lists_of c.loop-k.parts) (lists_of c.step.new.parts) c.loop-k.state c.at-token.result c.at-token.ensures.found lt c.loop-k.invariant
    (stops_with c.in-Err-Syntax.field-0 _ c.in-Err-Syntax.field-0-is c.in-Err-Syntax.ensures)

pub loop-k-preserved : goal.loop-k-preserved
loop-k-preserved c =
    let lt : c.loop-k.k < length c.args.tokens.now = omega (arith, c.loop-k-test.true, c.len-k-end.ensures.count) in
    reads_more c.args.bytes.now c.args.tokens.now c.loop-k.k (lists_of c.loop-k.parts) (lists_of c.step.new.parts) c.loop-k.state c.in-Ok.next c.at-token.result c.at-token.ensures.found lt c.at-token.ensures.known c.loop-k.invariant c.in-Ok.ensures
