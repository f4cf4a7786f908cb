-- Worked invariants: those of a loop that counts to ten, and the same with a bound too sharp.
use Rattle.std.specs.Prelude.{◌≡◌, ℕ, false, true, List, [], ◌∷◌, Some, None, pos, negsuc}
use Rattle.oct_def.specs.Bound.{Bound}
use Rattle.oct_def.specs.Octagon.{Octagon}
use Rattle.spl_core.specs.declared.parts.Cmp.TheVariants as cmp
use Rattle.spl_core.specs.Expression.{Number, Variable, Add}
use Rattle.spl_core.specs.Condition.{Condition, Compare}
use Rattle.spl_core.specs.Graph.{skips, assigns, tests, starts, Graph}
use Rattle.call_graph.specs.Order.{is_cut}
use Rattle.equations.specs.Equations.{equation, read, value_in}
use Rattle.equations.specs.Inductive.{Inductive}
use Rattle.inv_check.specs.Verdict.{FailsAt}

abbrev pub is_less : Condition
is_less = Compare cmp.Lt (Variable 0) (Number 10)

-- the graph of `var i:int; begin i = 0; while i < 10 do i = i + 1; done; end`
abbrev pub counting : Graph
counting = record {
  procs = record { inputs = 0; outputs = 0; dims = 1; entry = 0; exit = 5 } ∷ [];
  owners = 0 ∷ 0 ∷ 0 ∷ 0 ∷ 0 ∷ 0 ∷ [];
  arcs = record { source = 0; target = 1; move = starts [] }
      ∷ record { source = 1; target = 2; move = assigns 0 (Number 0) }
      ∷ record { source = 2; target = 3; move = tests is_less true }
      ∷ record { source = 2; target = 5; move = tests is_less false }
      ∷ record { source = 4; target = 2; move = skips }
      ∷ record { source = 3; target = 4; move = assigns 0 (Add (Variable 0) (Number 1)) } ∷ [];
}

-- the value of one variable by -2 times its lower bound and twice its upper bound
abbrev pub between : Bound → Bound → Octagon
between low high = record { dims = 1; matrix = Some ((Some (pos 0) ∷ low ∷ []) ∷ (high ∷ Some (pos 0) ∷ []) ∷ []) }

-- i is anything at the points before the assignment, from 0 to 10 before the loop, to 9 in it, from 1 to 10 at its end, and 10 after it
abbrev pub counted : List Octagon
counted = between None None ∷ between None None ∷ between (Some (pos 0)) (Some (pos 20)) ∷ between (Some (pos 0)) (Some (pos 18))
    ∷ between (Some (negsuc 1)) (Some (pos 20)) ∷ between (Some (negsuc 19)) (Some (pos 20)) ∷ []

-- from 0 to 9 before the loop
abbrev pub too_sharp : List Octagon
too_sharp = between None None ∷ between None None ∷ between (Some (pos 0)) (Some (pos 18)) ∷ between (Some (pos 0)) (Some (pos 18))
    ∷ between (Some (negsuc 1)) (Some (pos 20)) ∷ between (Some (negsuc 19)) (Some (pos 20)) ∷ []

-- the value of F at a point
abbrev pub brought_to : List Octagon → ℕ → Octagon
brought_to values p = equation counting (read (is_cut counting) (value_in values)) p

pub record WorkedInvariants : Type 0 where
  pub at_entry : brought_to counted 0 ≡ between None None
  pub before_assignment : brought_to counted 1 ≡ between None None
  pub before_loop : brought_to counted 2 ≡ between (Some (pos 0)) (Some (pos 20))
  pub in_loop : brought_to counted 3 ≡ between (Some (pos 0)) (Some (pos 18))
  pub at_end : brought_to counted 4 ≡ between (Some (negsuc 1)) (Some (pos 20))
  pub after_loop : brought_to counted 5 ≡ between (Some (negsuc 19)) (Some (pos 20))
  pub sharp_entry : brought_to too_sharp 0 ≡ between None None
  pub sharp_assignment : brought_to too_sharp 1 ≡ between None None
  pub sharp_loop : brought_to too_sharp 2 ≡ between (Some (pos 0)) (Some (pos 20))

-- the first are inductive, and the others break at the point before the loop
pub record InductiveExamples : Type 0 where
  pub worked : WorkedInvariants
  pub holds : Inductive counting (value_in counted)
  pub fails : FailsAt counting (value_in too_sharp) 2
