-- Which procedures a procedure reaches by calls.
use Rattle.std.specs.Prelude.{◌≡◌, ℕ, zero, suc, Bool, true, false, ◌&&◌, ◌||◌, nat_eq, length}
use Rattle.std.specs.List.{list_any, count_by, range_with_len}
use Rattle.spl_core.specs.Graph.{Move, skips, assigns, havocs, tests, calls, starts, Arc, Graph, owner_of}

-- a move is a call of procedure q
abbrev pub is_call_of : ℕ → Move → Bool
is_call_of q skips = false
is_call_of q (assigns target e) = false
is_call_of q (havocs target) = false
is_call_of q (tests condition wanted) = false
is_call_of q (calls callee args targets) = nat_eq callee q
is_call_of q (starts copies) = false

-- an edge of procedure p is a call of procedure q
abbrev pub is_call_from : Graph → ℕ → ℕ → Arc → Bool
is_call_from g p q a = nat_eq (owner_of g a.source) p && is_call_of q a.move

-- some edge of p calls q
unfoldable pub calls_directly : Graph → ℕ → ℕ → Bool
calls_directly g p q = list_any (is_call_from g p q) g.arcs

-- a chain of one or more calls leads from p to q
pub data Reaches (g : Graph) : ℕ → ℕ → Type 0 where
  directly : (p q : ℕ) → calls_directly g p q ≡ true → Reaches g p q
  onward : (p m q : ℕ) → calls_directly g p m ≡ true → Reaches g m q → Reaches g p q

-- a chain of one or more calls, between whose ends only procedures below k stand (the closure by pivots)
unfoldable pub reaches_below : Graph → ℕ → ℕ → ℕ → Bool
reaches_below g zero p q = calls_directly g p q
reaches_below g (suc k) p q = reaches_below g k p q || (reaches_below g k p k && reaches_below g k k q)

unfoldable pub reaches : Graph → ℕ → ℕ → Bool
reaches g p q = reaches_below g (length g.procs) p q

-- the procedures that p reaches, itself counted
abbrev pub is_reached : Graph → ℕ → ℕ → Bool
is_reached g p q = nat_eq q p || reaches g p q

unfoldable pub reach_count : Graph → ℕ → ℕ
reach_count g p = count_by (is_reached g p) (range_with_len 0 (length g.procs))
