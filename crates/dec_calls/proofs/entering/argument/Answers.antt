use Rattle.std.proofs.Common.{length, sym}
use Rattle.std.proofs.lemmas.Bool.{cond-true, cond-false, lt-ltb, le-ltb}
use Rattle.dec_calls.specs.Inputs.{argument_of}
use Rattle.dec_calls.proofs.entering.argument.Goals as goal

pub returns-then-v-args : goal.returns-then-v-args
unfolding argument_of
returns-then-v-args c = sym (cond-true _ _ _ (lt-ltb c.args.v (length c.args.args.now) c.if-v-args.true))

pub returns-else-v-args : goal.returns-else-v-args
unfolding argument_of
returns-else-v-args c = sym (cond-false _ _ _ (le-ltb c.args.v (length c.args.args.now) c.if-v-args.false))
