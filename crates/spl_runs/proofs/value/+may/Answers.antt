use Rattle.std.proofs.Common.{◌<◌, arith}
use Rattle.spl_core.specs.declared.parts.CoreCond.TheVariants as cond
use Rattle.spl_runs.proofs.Parted.{condition_parts}
use Rattle.spl_runs.proofs.value.+may.Goals as goal

pub may-requires : goal.may-requires
may-requires t c = let h : c.in-Not.a < c.args.c = condition_parts c.args.core.now c.in-Not.ensures.known c.args.c (cond.Not c.in-Not.a) c.requires c.in-Not.ensures.found in (omega (arith, c.decreases), omega arith)

pub may-x-requires : goal.may-x-requires
may-x-requires t c = let h = condition_parts c.args.core.now c.in-And.ensures.known c.args.c (cond.And c.in-And.a c.in-And.b) c.requires c.in-And.ensures.found in (omega (arith, c.decreases, h.0), omega (arith, h.0))

pub may-y-requires : goal.may-y-requires
may-y-requires t c = let h = condition_parts c.args.core.now c.in-And.ensures.known c.args.c (cond.And c.in-And.a c.in-And.b) c.requires c.in-And.ensures.found in (omega (arith, c.decreases, h.1), omega (arith, h.1))

pub may-x-requires-in-Or : goal.may-x-requires-in-Or
may-x-requires-in-Or t c = let h = condition_parts c.args.core.now c.in-Or.ensures.known c.args.c (cond.Or c.in-Or.a c.in-Or.b) c.requires c.in-Or.ensures.found in (omega (arith, c.decreases, h.0), omega (arith, h.0))

pub may-y-requires-in-Or : goal.may-y-requires-in-Or
may-y-requires-in-Or t c = let h = condition_parts c.args.core.now c.in-Or.ensures.known c.args.c (cond.Or c.in-Or.a c.in-Or.b) c.requires c.in-Or.ensures.found in (omega (arith, c.decreases, h.1), omega (arith, h.1))
