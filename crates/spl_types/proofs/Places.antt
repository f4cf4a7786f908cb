-- The first place of a name in a list, and what it says of the list.
use Rattle.std.proofs.Common.{◌≡◌, ℕ, suc, zero, ◌+◌, ◌<◌, ◌≤◌, Bool, true, false, ◌||◌, cond, List, [], ◌∷◌, length, take, map, get_or, position, Some, None, is_some, refl, sym, ap, ◌∙◌, subst, arith}
use Rattle.std.specs.List.{list_any, find, position_from}
use Rattle.std.proofs.lemmas.Iterator.Adapters.{position_from-zero}

-- tests that agree along a map
pub any_along : {X Y : Type 0} (p : X → Bool) (q : Y → Bool) (f : X → Y) (xs : List X) → ((x : X) → p x ≡ q (f x)) → list_any p xs ≡ list_any q (map f xs)
any_along p q f [] h = refl
any_along p q f (x ∷ xs) h = ap (λ b. b || list_any p xs) (h x) ∙ ap (λ b. q (f x) || b) (any_along p q f xs h)

from_along : {X Y : Type 0} (p : X → Bool) (q : Y → Bool) (f : X → Y) (i : ℕ) (xs : List X) → ((x : X) → p x ≡ q (f x)) → position_from p i xs ≡ position_from q i (map f xs)
from_along p q f i [] h = refl
from_along p q f i (x ∷ xs) h = ap (λ b. cond b (Some i) (position_from p (i + 1) xs)) (h x) ∙ ap (λ o. cond (q (f x)) (Some i) o) (from_along p q f (i + 1) xs h)

pub place_along : {X Y : Type 0} (p : X → Bool) (q : Y → Bool) (f : X → Y) (xs : List X) → ((x : X) → p x ≡ q (f x)) → position p xs ≡ position q (map f xs)
place_along p q f xs h = position_from-zero p xs ∙ (from_along p q f 0 xs h ∙ sym (position_from-zero q (map f xs)))

-- a place is there exactly where some item passes
from_any : {X : Type 0} (p : X → Bool) (i : ℕ) (xs : List X) → is_some (position_from p i xs) ≡ list_any p xs
from_any p i [] = refl
from_any p i (x ∷ xs) = by (p x) refl (from_any p (i + 1) xs)
  where
    by : (b : Bool) → p x ≡ b → is_some (position_from p (i + 1) xs) ≡ list_any p xs → is_some (cond (p x) (Some i) (position_from p (i + 1) xs)) ≡ (p x || list_any p xs)
    by true e rest = ap (λ b. is_some (cond b (Some i) (position_from p (i + 1) xs))) e ∙ sym (ap (λ b. b || list_any p xs) e)
    by false e rest = ap (λ b. is_some (cond b (Some i) (position_from p (i + 1) xs))) e ∙ (rest ∙ sym (ap (λ b. b || list_any p xs) e))

pub place_any : {X : Type 0} (p : X → Bool) (xs : List X) → is_some (position p xs) ≡ list_any p xs
place_any p xs = ap is_some (position_from-zero p xs) ∙ from_any p 0 xs

-- where the first place is, and what is before it
pub record FirstAt {X : Type 0} (p : X → Bool) (xs : List X) (d : X) (k : ℕ) : Type 0 where
  pub within : k < length xs
  pub passes : p (get_or xs k d) ≡ true
  pub found : find p xs ≡ Some (get_or xs k d)
  pub among : (n : ℕ) → k < n → list_any p (take n xs) ≡ true
  pub before : (n : ℕ) → n ≤ k → list_any p (take n xs) ≡ false

first_here : {X : Type 0} (p : X → Bool) (x : X) (xs : List X) (d : X) → p x ≡ true → FirstAt p (x ∷ xs) d 0
first_here {X} p x xs d e = record {
  within = omega arith;
  passes = e;
  found = ap (λ b. cond b (Some x) (find p xs)) e;
  among = among;
  before = before;
}
  where
    among : (n : ℕ) → 0 < n → list_any p (take n (x ∷ xs)) ≡ true
    among zero h = absurd (omega arith)
    among (suc n) h = ap (λ b. b || list_any p (take n xs)) e

    before : (n : ℕ) → n ≤ 0 → list_any p (take n (x ∷ xs)) ≡ false
    before zero h = refl
    before (suc n) h = absurd (omega arith)

first_later : {X : Type 0} (p : X → Bool) (x : X) (xs : List X) (d : X) (k : ℕ) → p x ≡ false → FirstAt p xs d k → FirstAt p (x ∷ xs) d (suc k)
first_later {X} p x xs d k e f = record {
  within = omega (arith, f.within);
  passes = f.passes;
  found = ap (λ b. cond b (Some x) (find p xs)) e ∙ f.found;
  among = among;
  before = before;
}
  where
    among : (n : ℕ) → suc k < n → list_any p (take n (x ∷ xs)) ≡ true
    among zero h = absurd (omega arith)
    among (suc n) h = ap (λ b. b || list_any p (take n xs)) e ∙ f.among n (omega arith)

    before : (n : ℕ) → n ≤ suc k → list_any p (take n (x ∷ xs)) ≡ false
    before zero h = refl
    before (suc n) h = ap (λ b. b || list_any p (take n xs)) e ∙ f.before n (omega arith)

from_found : {X : Type 0} (p : X → Bool) (i j : ℕ) (xs : List X) (d : X) → position_from p i xs ≡ Some j → (k : ℕ) × (j ≡ i + k) × FirstAt p xs d k
from_found p i j [] d h = absurd (some_none j (sym h))
  where
    some_none : (j : ℕ) → Some j ≡ None → ⊥
    some_none j q = cc
from_found p i j (x ∷ xs) d h = by (p x) refl (from_found p (i + 1) j xs d)
  where
    by : (b : Bool) → p x ≡ b → (position_from p (i + 1) xs ≡ Some j → (k : ℕ) × (j ≡ (i + 1) + k) × FirstAt p xs d k) → (k : ℕ) × (j ≡ i + k) × FirstAt p (x ∷ xs) d k
    by true e rest =
        let q : Some i ≡ Some j = sym (ap (λ b. cond b (Some i) (position_from p (i + 1) xs)) e) ∙ h in
        let r : i ≡ j = cc in
        let t : j ≡ i + 0 = omega (arith, r) in
        (0, t, first_here p x xs d e)
    by false e rest =
        let q = rest (sym (ap (λ b. cond b (Some i) (position_from p (i + 1) xs)) e) ∙ h) in
        let t : j ≡ i + suc q.0 = omega (arith, q.1) in
        (suc q.0, t, first_later p x xs d q.0 e q.2)

pub place_found : {X : Type 0} (p : X → Bool) (xs : List X) (k : ℕ) (d : X) → position p xs ≡ Some k → FirstAt p xs d k
place_found p xs k d h =
    let q = from_found p 0 k xs d (sym (position_from-zero p xs) ∙ h) in
    let e : q.0 ≡ k = omega (arith, q.1) in
    let P : ℕ → Type 0 = λ n. FirstAt p xs d n in
    subst P e q.2

-- no place
pub place_none : {X : Type 0} (p : X → Bool) (xs : List X) → position p xs ≡ None → list_any p xs ≡ false
place_none p xs h = sym (place_any p xs) ∙ ap is_some h

find_none : {X : Type 0} (p : X → Bool) (xs : List X) → list_any p xs ≡ false → find p xs ≡ None
find_none p [] h = refl
find_none p (x ∷ xs) h = by (p x) refl (find_none p xs)
  where
    no_true : true ≡ false → ⊥
    no_true q = cc

    by : (b : Bool) → p x ≡ b → (list_any p xs ≡ false → find p xs ≡ None) → find p (x ∷ xs) ≡ None
    by true e rest = absurd (no_true (sym (ap (λ b. b || list_any p xs) e) ∙ h))
    by false e rest = ap (λ b. cond b (Some x) (find p xs)) e ∙ rest (sym (ap (λ b. b || list_any p xs) e) ∙ h)

pub nothing_found : {X : Type 0} (p : X → Bool) (xs : List X) → position p xs ≡ None → find p xs ≡ None
nothing_found p xs h = find_none p xs (place_none p xs h)
