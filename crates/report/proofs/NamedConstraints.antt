-- Constraints of which each variable has a name.
use Rattle.std.proofs.Common.{◌≡◌, ℕ, suc, List, ◌∷◌, slice_get, ap, ◌∙◌}
use Rattle.report.specs.Names.{IsNamed, AllNamed}
use Rattle.report.specs.declared.constraint.Constraint.{Constraint}

pub named-first : (n : ℕ) (all : List Constraint) (c : Constraint) (cs : List Constraint) → all ≡ c ∷ cs → AllNamed n all → IsNamed n c
named-first n all c cs e named = named.each 0 c (ap (λ xs. slice_get xs 0) e)

pub named-others : (n : ℕ) (all : List Constraint) (c : Constraint) (cs : List Constraint) → all ≡ c ∷ cs → AllNamed n all → AllNamed n cs
named-others n all c cs e named =
    record { each = λ k d at. named.each (suc k) d (ap (λ xs. slice_get xs (suc k)) e ∙ at) }
