-- The tree is whole, or the text ends before a program does.
use Rattle.spl_tree.specs.Lists.{lists_of}
use Rattle.spl_parser.proofs.Reading.{whole_tree, whole_derived, open_fault}
use Rattle.spl_parser.proofs.parsing.parse.Goals as goal

pub from_parts-requires : goal.from_parts-requires
from_parts-requires c =
    whole_tree c.args.bytes.now c.args.tokens.now 1048576 (lists_of c.read_tokens.new.parts) c.in_ok-state.state c.in-Finished.main c.in-Finished.begin c.in-Finished.is c.in_ok-state.ensures.read

pub returns-in-Finished-clause-derived : goal.returns-in-Finished-clause-derived
returns-in-Finished-clause-derived c =
    whole_derived c.args.bytes.now c.args.tokens.now 1048576 (lists_of c.read_tokens.new.parts) c.from_parts.result c.in_ok-state.state c.in-Finished.main c.in-Finished.begin c.in-Finished.is c.from_parts.ensures c.in_ok-state.ensures.read

pub returns-in_default : goal.returns-in_default
returns-in_default c = record {
  derived = tt;
  fault = open_fault c.args.bytes.now c.args.tokens.now 1048576 (lists_of c.read_tokens.new.parts) c.in_ok-state.state c.in_ok-state.ensures.read (λ x b. c.in_default.not-Finished x b);
}
