use Rattle.std.proofs.Common.{◌≡◌, ◌*◌, ◌++◌, [], take, drop}
use Rattle.control_points.specs.Building.{Adds, Lengthens, SameNodes}
use Rattle.control_points.specs.Emitting.{copies_named}
use Rattle.control_points.proofs.Starting.{flat}
use Rattle.control_points.proofs.builder.Builder.push_pairs.Given as goal

-- the pairs so far
abbrev pub invariant-loop-k : goal.invariant-loop-k
invariant-loop-k l = record {
  dims : l.self.parts.dims ≡ l.fn.self.parts.dims ++ flat (copies_named l.dims (take l.k (drop l.fn.from l.names)));
  sizes : Lengthens 0 (2 * l.k) l.fn.self l.self;
  same : SameNodes l.fn.self l.self;
  adds : Adds [] [] l.fn.self.points l.fn.self l.self;
}
