-- Values within 128 bits as the code has them: too wide, missing, or an integer.
use Rattle.std.specs.Prelude.{Bool, true, false, ◌&&◌, ◌||◌, if◌then◌else◌, Option, None, Some, ℤ, neg_ℤ}
use Rattle.spl_core.specs.declared.parts.Cmp.{Cmp}
use Rattle.spl_core.specs.Expression.{Expression, State, eval}
use Rattle.spl_core.specs.Condition.{Condition, compares}
use Rattle.spl_runs.specs.declared.value.Computed.{Computed}
use Rattle.spl_runs.specs.declared.value.Computed.TheVariants as value
use Rattle.spl_runs.specs.Replay.{is_past, is_wide, is_wide_condition, same_bool, may}

-- a value that isn't too wide
abbrev pub computed : Option ℤ → Computed
computed None = value.Missing
computed (Some x) = value.Is x

-- the value of an expression, if all its parts are within 128 bits
abbrev pub exact : Expression → State → Computed
exact e s = if is_wide e s then value.Wide else computed (eval e s)

-- whether a condition may come out so, if all its parts are within 128 bits
abbrev pub exact_may : Condition → State → Bool → Option Bool
exact_may c s wanted = if is_wide_condition c s then None else Some (may c s wanted)

-- ---- the same over what the parts give

-- a value, too wide where it's past 128 bits
abbrev pub within : Option ℤ → Computed
within o = if is_past o then value.Wide else computed o

-- what a checked operation of the code gives: none where the value is past 128 bits
abbrev pub checked : Option ℤ → Computed
checked None = value.Wide
checked (Some x) = value.Is x

abbrev pub negated : Computed → Computed
negated value.Wide = value.Wide
negated value.Missing = value.Missing
negated (value.Is x) = within (Some (neg_ℤ x))

-- an operation on two: a part that is too wide comes before one that is missing
abbrev pub combined : (ℤ → ℤ → Option ℤ) → Computed → Computed → Computed
combined f value.Wide y = value.Wide
combined f value.Missing value.Wide = value.Wide
combined f value.Missing value.Missing = value.Missing
combined f value.Missing (value.Is y) = value.Missing
combined f (value.Is x) value.Wide = value.Wide
combined f (value.Is x) value.Missing = value.Missing
combined f (value.Is x) (value.Is y) = within (f x y)

-- both, or one of two
abbrev pub both_or_one : Bool → Bool → Bool → Bool
both_or_one true a b = a && b
both_or_one false a b = a || b

abbrev pub joined : Bool → Option Bool → Option Bool → Option Bool
joined all None y = None
joined all (Some a) None = None
joined all (Some a) (Some b) = Some (both_or_one all a b)

-- whether a comparison of two comes out as wanted; neither way where one is missing
abbrev pub compared : Cmp → Bool → Computed → Computed → Option Bool
compared r wanted value.Wide y = None
compared r wanted value.Missing value.Wide = None
compared r wanted value.Missing value.Missing = Some false
compared r wanted value.Missing (value.Is y) = Some false
compared r wanted (value.Is x) value.Wide = None
compared r wanted (value.Is x) value.Missing = Some false
compared r wanted (value.Is x) (value.Is y) = Some (same_bool (compares r x y) wanted)
