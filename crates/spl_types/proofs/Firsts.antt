-- The first broken check of a list and of its parts.
use Rattle.std.proofs.Common.{◌≡◌, ℕ, Bool, true, false, if◌then◌else◌, List, [], ◌∷◌, ◌++◌, Option, Some, None, Result, Ok, Err, MatchResult, IsErrAnd, refl, sym, ap, ◌∙◌, subst}
use Rattle.spl_types.specs.declared.fault.CheckRule.{CheckRule}
use Rattle.spl_types.specs.declared.fault.CheckFault.{CheckFault}
use Rattle.spl_types.specs.declared.fault.CheckFault.TheVariants.{Broken, NoMemory}
use Rattle.spl_types.specs.Checks.{Check, first_broken}
use Rattle.spl_types.specs.Faults.{Kept, Faulted, Answers, AnswersWith}

pub broken_here : (c : Check) (cs : List Check) → c.kept ≡ false → first_broken (c ∷ cs) ≡ Some (c.rule, c.at)
broken_here c cs h = ap (λ b. if b then first_broken cs else Some (c.rule, c.at)) h

pub broken_later : (c : Check) (cs : List Check) → c.kept ≡ true → first_broken (c ∷ cs) ≡ first_broken cs
broken_later c cs h = ap (λ b. if b then first_broken cs else Some (c.rule, c.at)) h

-- after those that are kept
pub broken_after : (xs ys : List Check) → Kept xs → first_broken (xs ++ ys) ≡ first_broken ys
broken_after [] ys h = refl
broken_after (x ∷ xs) ys h = by x.kept refl (broken_after xs ys)
  where
    some_none : (p : CheckRule × ℕ) → Some p ≡ None → ⊥
    some_none p q = cc

    by : (b : Bool) → x.kept ≡ b → (Kept xs → first_broken (xs ++ ys) ≡ first_broken ys) → first_broken (x ∷ (xs ++ ys)) ≡ first_broken ys
    by true e rest = broken_later x (xs ++ ys) e ∙ rest (sym (broken_later x xs e) ∙ h)
    by false e rest = absurd (some_none (x.rule, x.at) (sym (broken_here x xs e) ∙ h))

-- among the first
pub broken_before : (xs ys : List Check) (p : CheckRule × ℕ) → first_broken xs ≡ Some p → first_broken (xs ++ ys) ≡ Some p
broken_before [] ys p h = cc
broken_before (x ∷ xs) ys p h = by x.kept refl (broken_before xs ys p)
  where
    by : (b : Bool) → x.kept ≡ b → (first_broken xs ≡ Some p → first_broken (xs ++ ys) ≡ Some p) → first_broken (x ∷ (xs ++ ys)) ≡ Some p
    by true e rest = broken_later x (xs ++ ys) e ∙ rest (sym (broken_later x xs e) ∙ h)
    by false e rest = broken_here x (xs ++ ys) e ∙ (sym (broken_here x xs e) ∙ h)

pub kept_append : (xs ys : List Check) → Kept xs → Kept ys → Kept (xs ++ ys)
kept_append xs ys h g = broken_after xs ys h ∙ g

-- of what is kept each part is
pub kept_first : (xs ys : List Check) → Kept (xs ++ ys) → Kept xs
kept_first xs ys h = by (first_broken xs) refl
  where
    by : (o : Option (CheckRule × ℕ)) → first_broken xs ≡ o → Kept xs
    by None e = e
    by (Some p) e = let f : first_broken (xs ++ ys) ≡ Some p = broken_before xs ys p e in cc

pub kept_last : (xs ys : List Check) → Kept (xs ++ ys) → Kept ys
kept_last xs ys h = sym (broken_after xs ys (kept_first xs ys h)) ∙ h

-- faults
pub faulted_first : (xs ys : List Check) (e : CheckFault) → Faulted xs e → Faulted (xs ++ ys) e
faulted_first xs ys (Broken rule at) h = broken_before xs ys (rule, at) h
faulted_first xs ys NoMemory h = h

pub faulted_same : (xs ys : List Check) (e : CheckFault) → first_broken xs ≡ first_broken ys → Faulted xs e → Faulted ys e
faulted_same xs ys (Broken rule at) s h = sym s ∙ h
faulted_same xs ys NoMemory s h = h

pub faulted_then : (xs ys : List Check) (e : CheckFault) → Kept xs → Faulted ys e → Faulted (xs ++ ys) e
faulted_then xs ys e k h = faulted_same ys (xs ++ ys) e (sym (broken_after xs ys k)) h

-- answers
pub answers_then : {X : Type 0} (r : Result X CheckFault) (xs ys : List Check) → Kept xs → Answers r ys → Answers r (xs ++ ys)
answers_then (Ok v) xs ys k h = kept_append xs ys k h
answers_then (Err e) xs ys k h = faulted_then xs ys e k h

-- the exit of a `?`
pub faulted_exit : {X : Type 0} (P : X → Type 0) (r : Result X CheckFault) (e : CheckFault) (cs : List Check) → IsErrAnd r (λ y. y ≡ e) → Faulted cs e → MatchResult r P (Faulted cs)
faulted_exit P (Ok v) e cs h f = absurd h
faulted_exit P (Err y) e cs h f = let F : CheckFault → Type 0 = λ z. Faulted cs z in subst F (sym h) f

-- what an answer says of its value, and of its fault
pub kept_of : {X : Type 0} (r : Result X CheckFault) (cs : List Check) (P : X → Type 0) (v : X) → r ≡ Ok v → AnswersWith r cs P → Kept cs × P v
kept_of {X} r cs P v e h = let Q : Result X CheckFault → Type 0 = λ q. AnswersWith q cs P in subst Q e h

pub fault_of : {X : Type 0} (r : Result X CheckFault) (cs : List Check) (P : X → Type 0) (y : CheckFault) → r ≡ Err y → AnswersWith r cs P → Faulted cs y
fault_of {X} r cs P y e h = let Q : Result X CheckFault → Type 0 = λ q. AnswersWith q cs P in subst Q e h

-- an answer after what is kept
pub then_answers : {X : Type 0} (r : Result X CheckFault) (xs ys : List Check) (P : Type 0) → Kept xs × P → Answers r ys → AnswersWith r (xs ++ ys) (λ _. P)
then_answers (Ok v) xs ys P h g = (kept_append xs ys h.0 g, h.1)
then_answers (Err e) xs ys P h g = faulted_then xs ys e h.0 g

pub then_answers_with : {X : Type 0} (r : Result X CheckFault) (xs ys : List Check) (P : X → Type 0) → Kept xs → AnswersWith r ys P → AnswersWith r (xs ++ ys) P
then_answers_with (Ok v) xs ys P h g = (kept_append xs ys h g.0, g.1)
then_answers_with (Err e) xs ys P h g = faulted_then xs ys e h g
