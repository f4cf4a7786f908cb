-- The names of a call, one by one.
use Rattle.std.proofs.Common.{◌≡◌, ℕ, suc, ◌+◌, ◌<◌, ◌≤◌, Bool, true, false, not, List, [], ◌∷◌, ◌++◌, length, take, drop, get_or, Some, None, Result, Ok, Err, refl, sym, ap, ◌∙◌, subst, append_assoc, drop-cons}
use Rattle.std.proofs.lemmas.List.{take_more, map-append, take-append-drop, append-nil, take_all}
use Rattle.spl_tree.specs.Program.{Named}
use Rattle.spl_types.specs.declared.fault.CheckRule.{CheckRule}
use Rattle.spl_types.specs.declared.fault.CheckFault.{CheckFault}
use Rattle.spl_types.specs.declared.fault.CheckRule.TheVariants.{UnknownVariable, RepeatedTarget, TooManyVariables}
use Rattle.spl_types.specs.declared.scope.Walk.{Walk}
use Rattle.spl_types.specs.Checks.{Check, check, first_broken, Scope, Met, is_among, has_room, target_checks, targets_checks, argument_checks, with_targets, plain_names}
use Rattle.spl_types.specs.Faults.{Kept, Faulted, AnswersWith}
use Rattle.spl_types.specs.Walking.{HasMet, StepsToNext}
use Rattle.spl_types.proofs.Firsts.{kept_append, faulted_then, faulted_first, kept_of, fault_of}

pub kept_one : (rule : CheckRule) (at : ℕ) (b : Bool) → Kept (check rule at b ∷ []) → b ≡ true
kept_one rule at true h = refl
kept_one rule at false h = absurd (some_none (rule, at) h)
  where
    some_none : (p : CheckRule × ℕ) → Some p ≡ None → ⊥
    some_none p q = cc

-- a list, split at an item
pub split_at : {X : Type 0} (xs : List X) (i : ℕ) (d : X) → i < length xs → xs ≡ take i xs ++ get_or xs i d ∷ drop (suc i) xs
split_at xs i d lt = sym (take-append-drop i xs) ∙ ap (λ l. take i xs ++ l) (drop-cons xs i d lt)

-- no name
abbrev pub no_named : Named
no_named = record { name = []; at = 0 }

-- arguments
abbrev pub argument_check : List (List ℕ) → Named → Check
argument_check names x = check UnknownVariable x.at (is_among x.name names)

pub arguments_more : (names : List (List ℕ)) (xs : List Named) (i : ℕ) → i < length xs → Kept (argument_checks names (take i xs)) → Kept (argument_check names (get_or xs i no_named) ∷ []) → Kept (argument_checks names (take (i + 1) xs))
arguments_more names xs i lt h k =
    let e : argument_checks names (take (i + 1) xs) ≡ argument_checks names (take i xs) ++ argument_check names (get_or xs i no_named) ∷ [] =
    ap (λ l. argument_checks names l) (take_more xs i no_named lt) ∙ map-append (argument_check names) (take i xs) (get_or xs i no_named ∷ []) in
    ap first_broken e ∙ kept_append (argument_checks names (take i xs)) (argument_check names (get_or xs i no_named) ∷ []) h k

pub arguments_fault : (names : List (List ℕ)) (xs : List Named) (i : ℕ) (e : CheckFault) → i < length xs → Kept (argument_checks names (take i xs)) → Faulted (argument_check names (get_or xs i no_named) ∷ []) e → Faulted (argument_checks names xs) e
arguments_fault names xs i e lt h f =
    let q : argument_checks names xs ≡ argument_checks names (take i xs) ++ (argument_check names (get_or xs i no_named) ∷ argument_checks names (drop (suc i) xs)) =
    ap (λ l. argument_checks names l) (split_at xs i no_named lt) ∙ map-append (argument_check names) (take i xs) (get_or xs i no_named ∷ drop (suc i) xs) in
    let P : List Check → Type 0 = λ cs. Faulted cs e in
    subst P (sym q) (faulted_then (argument_checks names (take i xs)) (argument_check names (get_or xs i no_named) ∷ argument_checks names (drop (suc i) xs)) e h (faulted_first (argument_check names (get_or xs i no_named) ∷ []) (argument_checks names (drop (suc i) xs)) e f))

-- targets
pub targets_append : (c : Scope) (ts listed : List (List ℕ)) (xs ys : List Named) → targets_checks c ts listed (xs ++ ys) ≡ targets_checks c ts listed xs ++ targets_checks c ts (listed ++ plain_names xs) ys
targets_append c ts listed [] ys = ap (λ l. targets_checks c ts l ys) (sym (append-nil listed))
targets_append c ts listed (x ∷ xs) ys =
    ap (λ l. target_checks c ts listed x ++ l) (targets_append c ts (listed ++ x.name ∷ []) xs ys ∙ ap (λ l. targets_checks c ts (listed ++ x.name ∷ []) xs ++ targets_checks c ts l ys) (append_assoc listed (x.name ∷ []) (plain_names xs)))
    ∙ sym (append_assoc (target_checks c ts listed x) (targets_checks c ts (listed ++ x.name ∷ []) xs) (targets_checks c ts (listed ++ plain_names (x ∷ xs)) ys))

-- the next one
pub next_step : (c : Scope) (m : Met) (ts listed listed' : List (List ℕ)) (x : Named) (new : Walk) (r : Result (Unit {0}) CheckFault) → m.targets ≡ ts ++ listed
    → Kept (check UnknownVariable x.at (is_among x.name c.declared) ∷ []) → Kept (check RepeatedTarget x.at (not (is_among x.name listed)) ∷ []) → listed' ≡ listed ++ x.name ∷ []
    → AnswersWith r (check TooManyVariables x.at (has_room c m.targets x.name) ∷ []) (λ _. HasMet c (with_targets m (x.name ∷ [])) new)
    → AnswersWith r (target_checks c ts listed x) (λ _. HasMet c (with_targets m (x.name ∷ [])) new × (listed' ≡ listed ++ x.name ∷ []))
next_step c m ts listed listed' x new r e u f l h = by r h
  where
    by : (q : Result (Unit {0}) CheckFault) → AnswersWith q (check TooManyVariables x.at (has_room c m.targets x.name) ∷ []) (λ _. HasMet c (with_targets m (x.name ∷ [])) new) → AnswersWith q (target_checks c ts listed x) (λ _. HasMet c (with_targets m (x.name ∷ [])) new × (listed' ≡ listed ++ x.name ∷ []))
    by (Ok v) g =
        let P : List (List ℕ) → Type 0 = λ t. Kept (check TooManyVariables x.at (has_room c t x.name) ∷ []) in
        (kept_append (check UnknownVariable x.at (is_among x.name c.declared) ∷ []) (check RepeatedTarget x.at (not (is_among x.name listed)) ∷ check TooManyVariables x.at (has_room c (ts ++ listed) x.name) ∷ []) u (kept_append (check RepeatedTarget x.at (not (is_among x.name listed)) ∷ []) (check TooManyVariables x.at (has_room c (ts ++ listed) x.name) ∷ []) f (subst P e g.0)), (g.1, l))
    by (Err y) g =
        let P : List (List ℕ) → Type 0 = λ t. Faulted (check TooManyVariables x.at (has_room c t x.name) ∷ []) y in
        faulted_then (check UnknownVariable x.at (is_among x.name c.declared) ∷ []) (check RepeatedTarget x.at (not (is_among x.name listed)) ∷ check TooManyVariables x.at (has_room c (ts ++ listed) x.name) ∷ []) y u (faulted_then (check RepeatedTarget x.at (not (is_among x.name listed)) ∷ []) (check TooManyVariables x.at (has_room c (ts ++ listed) x.name) ∷ []) y f (subst P e g))

pub plain_more : (xs : List Named) (i : ℕ) → i < length xs → plain_names (take (i + 1) xs) ≡ plain_names (take i xs) ++ (get_or xs i no_named).name ∷ []
plain_more xs i lt = ap plain_names (take_more xs i no_named lt) ∙ map-append (λ (n : Named). n.name) (take i xs) (get_or xs i no_named ∷ [])

-- the targets so far, and one more
pub targets_more : (c : Scope) (ts : List (List ℕ)) (xs : List Named) (i : ℕ) → i < length xs → Kept (targets_checks c ts [] (take i xs)) → Kept (target_checks c ts (plain_names (take i xs)) (get_or xs i no_named)) → Kept (targets_checks c ts [] (take (i + 1) xs))
targets_more c ts xs i lt h k =
    let one : targets_checks c ts (plain_names (take i xs)) (get_or xs i no_named ∷ []) ≡ target_checks c ts (plain_names (take i xs)) (get_or xs i no_named) = append-nil (target_checks c ts (plain_names (take i xs)) (get_or xs i no_named)) in
    let e : targets_checks c ts [] (take (i + 1) xs) ≡ targets_checks c ts [] (take i xs) ++ target_checks c ts (plain_names (take i xs)) (get_or xs i no_named) =
    ap (λ l. targets_checks c ts [] l) (take_more xs i no_named lt)
    ∙ (targets_append c ts [] (take i xs) (get_or xs i no_named ∷ [])
    ∙ ap (λ l. targets_checks c ts [] (take i xs) ++ l) one) in
    ap first_broken e ∙ kept_append (targets_checks c ts [] (take i xs)) (target_checks c ts (plain_names (take i xs)) (get_or xs i no_named)) h k

pub targets_fault : (c : Scope) (ts : List (List ℕ)) (xs : List Named) (i : ℕ) (e : CheckFault) → i < length xs → Kept (targets_checks c ts [] (take i xs)) → Faulted (target_checks c ts (plain_names (take i xs)) (get_or xs i no_named)) e → Faulted (targets_checks c ts [] xs) e
targets_fault c ts xs i e lt h f =
    let x : Named = get_or xs i no_named in
    let rest : List Check = targets_checks c ts (plain_names (take i xs) ++ x.name ∷ []) (drop (suc i) xs) in
    let q : targets_checks c ts [] xs ≡ targets_checks c ts [] (take i xs) ++ (target_checks c ts (plain_names (take i xs)) x ++ rest) =
    ap (λ l. targets_checks c ts [] l) (split_at xs i no_named lt) ∙ targets_append c ts [] (take i xs) (x ∷ drop (suc i) xs) in
    let P : List Check → Type 0 = λ cs. Faulted cs e in
    subst P (sym q) (faulted_then (targets_checks c ts [] (take i xs)) (target_checks c ts (plain_names (take i xs)) x ++ rest) e h (faulted_first (target_checks c ts (plain_names (take i xs)) x) rest e f))

pub met_more : (c : Scope) (m : Met) (xs : List Named) (i : ℕ) (w : Walk) → i < length xs → HasMet c (with_targets (with_targets m (plain_names (take i xs))) ((get_or xs i no_named).name ∷ [])) w → HasMet c (with_targets m (plain_names (take (i + 1) xs))) w
met_more c m xs i w lt h =
    let e : (m.targets ++ plain_names (take i xs)) ++ (get_or xs i no_named).name ∷ [] ≡ m.targets ++ plain_names (take (i + 1) xs) =
    append_assoc m.targets (plain_names (take i xs)) ((get_or xs i no_named).name ∷ []) ∙ ap (λ l. m.targets ++ l) (sym (plain_more xs i lt)) in
    let P : List (List ℕ) → Type 0 = λ t. HasMet c (record m { targets = t }) w in
    subst P e h

-- the targets so far were met
pub record MetSoFar (c : Scope) (m : Met) (xs : List Named) (i : ℕ) (listed : List (List ℕ)) (w : Walk) : Type 0 where
  pub same : listed ≡ plain_names (take i xs)
  pub kept : Kept (targets_checks c m.targets [] (take i xs))
  pub met : HasMet c (with_targets m (plain_names (take i xs))) w

next_of : (c : Scope) (m : Met) (xs : List Named) (i : ℕ) (listed listed' : List (List ℕ)) (w w' : Walk) (r : Result (Unit {0}) CheckFault) → MetSoFar c m xs i listed w → StepsToNext c xs i listed listed' w w' r
    → AnswersWith r (target_checks c m.targets (plain_names (take i xs)) (get_or xs i no_named)) (λ _. HasMet c (with_targets (with_targets m (plain_names (take i xs))) ((get_or xs i no_named).name ∷ [])) w' × (listed' ≡ listed ++ (get_or xs i no_named).name ∷ []))
next_of c m xs i listed listed' w w' r h g =
    let P : List (List ℕ) → Type 0 = λ ys. AnswersWith r (target_checks c m.targets ys (get_or xs i no_named)) (λ _. HasMet c (with_targets (with_targets m (plain_names (take i xs))) ((get_or xs i no_named).name ∷ [])) w' × (listed' ≡ listed ++ (get_or xs i no_named).name ∷ [])) in
    subst P h.same (g (with_targets m (plain_names (take i xs))) m.targets no_named (ap (λ ys. m.targets ++ ys) (sym h.same)) h.met)

pub none_so_far : (c : Scope) (m : Met) (xs : List Named) (w : Walk) → HasMet c m w → MetSoFar c m xs 0 [] w
none_so_far c m xs w h =
    let P : List (List ℕ) → Type 0 = λ t. HasMet c (record m { targets = t }) w in
    record { same = refl; kept = refl; met = subst P (sym (append-nil m.targets)) h }

pub one_more : (c : Scope) (m : Met) (xs : List Named) (i : ℕ) (listed listed' : List (List ℕ)) (w w' : Walk) (r : Result (Unit {0}) CheckFault) (v : Unit {0}) → i < length xs → r ≡ Ok v → StepsToNext c xs i listed listed' w w' r → MetSoFar c m xs i listed w → MetSoFar c m xs (i + 1) listed' w'
one_more c m xs i listed listed' w w' r v lt e g h =
    let q : Kept (target_checks c m.targets (plain_names (take i xs)) (get_or xs i no_named)) × (HasMet c (with_targets (with_targets m (plain_names (take i xs))) ((get_or xs i no_named).name ∷ [])) w' × (listed' ≡ listed ++ (get_or xs i no_named).name ∷ [])) =
    (kept_of r (target_checks c m.targets (plain_names (take i xs)) (get_or xs i no_named)) (λ _. HasMet c (with_targets (with_targets m (plain_names (take i xs))) ((get_or xs i no_named).name ∷ [])) w' × (listed' ≡ listed ++ (get_or xs i no_named).name ∷ [])) v e (next_of c m xs i listed listed' w w' r h g)) in
    record {
      same = q.1.1 ∙ (ap (λ l. l ++ (get_or xs i no_named).name ∷ []) h.same ∙ sym (plain_more xs i lt));
      kept = targets_more c m.targets xs i lt h.kept q.0;
      met = met_more c m xs i w' lt q.1.0;
    }

pub next_fault : (c : Scope) (m : Met) (xs : List Named) (i : ℕ) (listed listed' : List (List ℕ)) (w w' : Walk) (r : Result (Unit {0}) CheckFault) (y : CheckFault) → i < length xs → r ≡ Err y → StepsToNext c xs i listed listed' w w' r → MetSoFar c m xs i listed w → Faulted (targets_checks c m.targets [] xs) y
next_fault c m xs i listed listed' w w' r y lt e g h =
    targets_fault c m.targets xs i y lt h.kept (fault_of r (target_checks c m.targets (plain_names (take i xs)) (get_or xs i no_named)) (λ _. HasMet c (with_targets (with_targets m (plain_names (take i xs))) ((get_or xs i no_named).name ∷ [])) w' × (listed' ≡ listed ++ (get_or xs i no_named).name ∷ [])) y e (next_of c m xs i listed listed' w w' r h g))

-- all targets
pub all_targets : (c : Scope) (m : Met) (xs : List Named) (i : ℕ) (listed : List (List ℕ)) (w : Walk) → length xs ≤ i → MetSoFar c m xs i listed w → Kept (targets_checks c m.targets [] xs) × HasMet c (with_targets m (plain_names xs)) w
all_targets c m xs i listed w le h = let P : List Named → Type 0 = λ ys. Kept (targets_checks c m.targets [] ys) × HasMet c (with_targets m (plain_names ys)) w in subst P (take_all i xs le) (h.kept, h.met)
