-- Conditions, and how they may come out in a state.
use Rattle.std.specs.Prelude.{◌≡◌, ℕ, ◌⊎◌, Bool, true, false, not, List, Option, None, Some, ℤ, int_lt, int_le}
use Rattle.std.specs.Ordering.{int_eq}
use Rattle.spl_core.specs.declared.parts.Cmp.{Cmp}
use Rattle.spl_core.specs.declared.parts.Cmp.TheVariants as cmp
use Rattle.spl_core.specs.Expression.{Expression, eval, IsOver, IsLimited}

-- a condition: a constant, a free choice, a negation, both, one of two, a comparison
pub data Condition : Type 0 where
  Constant : (value : Bool) → Condition
  Random : Condition
  Not : (c : Condition) → Condition
  And : (c d : Condition) → Condition
  Or : (c d : Condition) → Condition
  Compare : (r : Cmp) (a b : Expression) → Condition

-- whether a comparison holds of two integers
abbrev pub compares : Cmp → ℤ → ℤ → Bool
compares cmp.Eq x y = int_eq x y
compares cmp.Ne x y = not (int_eq x y)
compares cmp.Lt x y = int_lt x y
compares cmp.Le x y = int_le x y
compares cmp.Gt x y = int_lt y x
compares cmp.Ge x y = int_le y x

-- how a comparison of two values comes out; missing where one of them is
abbrev pub comparison : Cmp → Option ℤ → Option ℤ → Option Bool
comparison r None y = None
comparison r (Some x) None = None
comparison r (Some x) (Some y) = Some (compares r x y)

-- the comparison that holds exactly where another one comes out as wanted
abbrev pub asked : Cmp → Bool → Cmp
asked r true = r
asked cmp.Eq false = cmp.Ne
asked cmp.Ne false = cmp.Eq
asked cmp.Lt false = cmp.Ge
asked cmp.Le false = cmp.Gt
asked cmp.Gt false = cmp.Le
asked cmp.Ge false = cmp.Lt

-- a condition may come out so in a state; a comparison comes out neither way where a value is missing
abbrev pub May : Condition → List ℤ → Bool → Type 0
May (Constant value) s b = b ≡ value
May Random s b = Unit {0}
May (Not c) s b = May c s (not b)
May (And c d) s true = May c s true × May d s true
May (And c d) s false = May c s false ⊎ May d s false
May (Or c d) s true = May c s true ⊎ May d s true
May (Or c d) s false = May c s false × May d s false
May (Compare r a b) s wanted = comparison r (eval a s) (eval b s) ≡ Some wanted

-- each variable of the condition is one of the first n dimensions
abbrev pub IsConditionOver : ℕ → Condition → Type 0
IsConditionOver n (Constant value) = Unit {0}
IsConditionOver n Random = Unit {0}
IsConditionOver n (Not c) = IsConditionOver n c
IsConditionOver n (And c d) = IsConditionOver n c × IsConditionOver n d
IsConditionOver n (Or c d) = IsConditionOver n c × IsConditionOver n d
IsConditionOver n (Compare r a b) = IsOver n a × IsOver n b

-- no literal of the condition is above the greatest one
abbrev pub IsConditionLimited : Condition → Type 0
IsConditionLimited (Constant value) = Unit {0}
IsConditionLimited Random = Unit {0}
IsConditionLimited (Not c) = IsConditionLimited c
IsConditionLimited (And c d) = IsConditionLimited c × IsConditionLimited d
IsConditionLimited (Or c d) = IsConditionLimited c × IsConditionLimited d
IsConditionLimited (Compare r a b) = IsLimited a × IsLimited b
