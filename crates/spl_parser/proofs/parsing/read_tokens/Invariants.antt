use Rattle.spl_tree.specs.Lists.{lists_of}
use Rattle.spl_parser.proofs.Reading.{Reads}
use Rattle.spl_parser.proofs.parsing.read_tokens.Given as goal

-- the tokens so far lead to the state
abbrev pub invariant-loop-k : goal.invariant-loop-k
invariant-loop-k l = Reads l.bytes l.tokens l.k (lists_of l.parts) l.state
