-- How many variables the value of a call has.
use Rattle.std.proofs.Common.{◌≡◌, ℕ, ◌+◌, Bool, List, [], ◌∷◌, ◌++◌, length, length-append, sym, ap, ◌∙◌, subst, arith}
use Rattle.std.specs.List.{All}
use Rattle.std.proofs.lemmas.List.Elements.{All-push}
use Rattle.oct_def.specs.Octagon.{Octagon, top_value, bottom_value, tight_value, join_value, widen_value, narrow_value}
use Rattle.spl_core.specs.Expression.{Expression}
use Rattle.spl_core.specs.Condition.{Condition}
use Rattle.transfer_def.specs.Assign.{assign_value}
use Rattle.transfer_def.specs.Forget.{forget_value}
use Rattle.transfer_def.specs.Test.{test_value}
use Rattle.transfer_def.specs.Enter.{enter_value}
use Rattle.transfer_def.specs.Back.{back_value}
use Rattle.transfer_def.proofs.Tests.{dims-test_value}

pub after_top : (n : ℕ) (r : Octagon) → r ≡ top_value n → r.dims ≡ n
unfolding top_value
after_top n r same = ap (λ (v : Octagon). v.dims) same

pub after_bottom : (n : ℕ) (r : Octagon) → r ≡ bottom_value n → r.dims ≡ n
unfolding bottom_value
after_bottom n r same = ap (λ (v : Octagon). v.dims) same

pub after_tight : (v r : Octagon) → r ≡ tight_value v → r.dims ≡ v.dims
unfolding tight_value
after_tight v r same = ap (λ (v : Octagon). v.dims) same

pub after_assign : (x : ℕ) (e : Expression) (v r : Octagon) → r ≡ assign_value x e v → r.dims ≡ v.dims
unfolding assign_value
after_assign x e v r same = ap (λ (v : Octagon). v.dims) same

pub after_havoc : (x : ℕ) (v r : Octagon) → r ≡ forget_value x v → r.dims ≡ v.dims
unfolding forget_value
after_havoc x v r same = ap (λ (v : Octagon). v.dims) same

pub after_test : (c : Condition) (wanted : Bool) (v r : Octagon) → r ≡ test_value c wanted v → r.dims ≡ v.dims
after_test c wanted v r same = ap (λ (v : Octagon). v.dims) same ∙ dims-test_value c wanted v

pub after_join : (a b r : Octagon) → r ≡ join_value a b → r.dims ≡ a.dims
unfolding join_value
after_join a b r same = ap (λ (v : Octagon). v.dims) same

pub after_widen : (a b r : Octagon) → r ≡ widen_value a b → r.dims ≡ a.dims
unfolding widen_value
after_widen a b r same = ap (λ (v : Octagon). v.dims) same

pub after_narrow : (a b r : Octagon) → r ≡ narrow_value a b → r.dims ≡ a.dims
unfolding narrow_value
after_narrow a b r same = ap (λ (v : Octagon). v.dims) same

pub after_enter : (v : Octagon) (args : List ℕ) (n : ℕ) (r : Octagon) → r ≡ enter_value v args n → r.dims ≡ n
unfolding enter_value
after_enter v args n r same = ap (λ (v : Octagon). v.dims) same

pub after_back : (caller exit : Octagon) (args : List ℕ) (outputs : ℕ) (targets : List ℕ) (r : Octagon) → r ≡ back_value caller exit args outputs targets → r.dims ≡ caller.dims
unfolding back_value
after_back caller exit args outputs targets r same = ap (λ (v : Octagon). v.dims) same

-- a list of so many values over n variables, and one more
pub push-sized : {V : Type 0} → (m : V → Octagon) (n k : ℕ) (xs ys : List V) (x : V) → (length xs ≡ k) × All (λ v. (m v).dims ≡ n) xs
    → (m x).dims ≡ n → ys ≡ xs ++ x ∷ [] → (length ys ≡ k + 1) × All (λ v. (m v).dims ≡ n) ys
push-sized m n k xs ys x h sized same =
    subst (λ zs. (length zs ≡ k + 1) × All (λ v. (m v).dims ≡ n) zs) (sym same)
    (omega (arith, length-append xs (x ∷ []), h.0), All-push (λ v. (m v).dims ≡ n) xs x h.1 sized)
