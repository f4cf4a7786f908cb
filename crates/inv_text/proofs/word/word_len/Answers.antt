use Rattle.inv_text.proofs.WordEnds.{ends_here, goes_on}
use Rattle.inv_text.proofs.word.word_len.Goals as goal

pub returns-then-byte-le32-clause-found : goal.returns-then-byte-le32-clause-found
returns-then-byte-le32-clause-found c = λ word rest e p s. ends_here c.args.text.now word rest c.loop-k.k e p (c.loop-k.invariant word rest e p s) c.if-byte-le32.true

pub loop-k-preserved : goal.loop-k-preserved
loop-k-preserved c = λ word rest e p s. goes_on c.args.text.now word rest c.loop-k.k e s (c.loop-k.invariant word rest e p s) c.if-byte-le32.false
