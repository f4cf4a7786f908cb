use Rattle.std.proofs.Common.{◌+◌, ◌-◌, ◌*◌, ◌/◌, ◌%◌, cond, length, get_or, ap, sym, lt-ltb, le-ltb, arith}
use Rattle.transfer_def.specs.Back.{joined_dimension, joined_variable}
use Rattle.dec_calls.proofs.returning.joined_dimension.Goals as goal

pub returns-then-variable-args-clause-place : goal.returns-then-variable-args-clause-place
unfolding joined_dimension joined_variable
returns-then-variable-args-clause-place c =
    let n = c.args.dims in
    let args = c.args.args.now in
    let i = c.args.i in
    ap (λ b. 2 * cond b (get_or args (i / 2) 0) (n + (i / 2 - length args)) + i % 2) (sym (lt-ltb (i / 2) (length args) c.if-variable-args.true))

pub returns-else-variable-args-clause-place : goal.returns-else-variable-args-clause-place
unfolding joined_dimension joined_variable
returns-else-variable-args-clause-place c =
    let n = c.args.dims in
    let args = c.args.args.now in
    let i = c.args.i in
    ap (λ b. 2 * cond b (get_or args (i / 2) 0) (n + (i / 2 - length args)) + i % 2) (sym (le-ltb (i / 2) (length args) (omega (arith, c.if-variable-args.false))))
