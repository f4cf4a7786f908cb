-- A worked core for products.
use Rattle.std.specs.Prelude.{[], ◌∷◌}
use Rattle.spl_core.specs.declared.parts.CoreExpr.TheVariants as expr
use Rattle.spl_core.specs.Parts.{Parts}

-- a main program with the variables x and y and one point, and the expressions x, y and `x * y`, which no edge names
abbrev pub multiplied : Parts
multiplied = record {
  procs = record { inputs = 0; outputs = 0; dims = 2; entry = 0; exit = 0 } ∷ [];
  owners = 0 ∷ [];
  edges = [];
  dims = [];
  exprs = expr.Variable 0 ∷ expr.Variable 1 ∷ expr.Mul 0 1 ∷ [];
  conds = [];
}
