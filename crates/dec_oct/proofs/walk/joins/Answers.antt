use Rattle.std.proofs.Common.{◌+◌, ◌*◌, arith}
use Rattle.dec_oct.proofs.Walks.{joins-at, joins-none}
use Rattle.dec_oct.proofs.walk.joins.Goals as goal

pub returns-then-is_link-clause-yes : goal.returns-then-is_link-clause-yes
returns-then-is_link-clause-yes c = λ _. joins-at _ c.args.u c.args.w (2 * c.args.u) (2 * c.args.w) (omega arith) (omega arith) (omega arith) (omega arith) (c.is_link.ensures.yes c.if-is_link.true)

pub returns-then-is_link-2-clause-yes : goal.returns-then-is_link-2-clause-yes
returns-then-is_link-2-clause-yes c = λ _. joins-at _ c.args.u c.args.w (2 * c.args.u) (2 * c.args.w + 1) (omega arith) (omega arith) (omega arith) (omega arith) (c.is_link-2.ensures.yes c.if-is_link-2.true)

pub returns-then-is_link-3-clause-yes : goal.returns-then-is_link-3-clause-yes
returns-then-is_link-3-clause-yes c = λ _. joins-at _ c.args.u c.args.w (2 * c.args.u + 1) (2 * c.args.w) (omega arith) (omega arith) (omega arith) (omega arith) (c.is_link-3.ensures.yes c.if-is_link-3.true)

pub returns-clause-yes : goal.returns-clause-yes
returns-clause-yes c = λ e. joins-at _ c.args.u c.args.w (2 * c.args.u + 1) (2 * c.args.w + 1) (omega arith) (omega arith) (omega arith) (omega arith) (c.is_link-4.ensures.yes e)

pub returns-clause-no : goal.returns-clause-no
returns-clause-no c = λ e. joins-none _ c.args.u c.args.w (c.is_link.ensures.no c.if-is_link.false) (c.is_link-2.ensures.no c.if-is_link-2.false) (c.is_link-3.ensures.no c.if-is_link-3.false) (c.is_link-4.ensures.no e)
