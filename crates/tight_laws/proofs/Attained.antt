-- Each finite entry of a strongly closed matrix is attained by a state that meets the matrix: choose V_i so that V_j, at
-- that distance from it, meets the entries between the two variables, which three checks of pairs allow, and extend the
-- state variable by variable. No case on parity is left, since unary entries are even.
use Rattle.std.proofs.Common.{◌≡◌, ◌≢◌, ℕ, ◌*◌, ◌/◌, ◌<◌, ◌≤◌, ◌⊎◌, inl, inr, Bool, true, false, ◌||◌, eqb, List, length, replicate, Some, None, refl, sym, ap, ◌∙◌, subst, arith, zero, suc}
use Rattle.std.specs.Prelude.{ℤ, pos, neg_ℤ, ◌+ℤ◌, ◌-ℤ◌}
use Rattle.std.proofs.lemmas.Int.{ints}
use Rattle.std.proofs.lemmas.List.{length-replicate}
use Rattle.std.proofs.lemmas.Bool.Decides.{Decides-eqb}
use Rattle.oct_def.specs.Bound.{Bound, plus, least, half, floor_half, Within, IsEven}
use Rattle.oct_def.specs.Table.{Matrix, at}
use Rattle.oct_def.specs.Matrix.{opposite, signed_value, Meets}
use Rattle.oct_def.proofs.Bounds.{half_low, half_high, within-least_left, within-least_right, least_is, of_choice}
use Rattle.oct_def.proofs.Indices.{opposite_twice, signed-opposite}
use Rattle.oct_def.proofs.Sound.{meets-square}
use Rattle.tight_laws.proofs.Below.{Below, Below-same, Below-trans, within-comm}
use Rattle.tight_laws.proofs.Strong.{IsStrong, unary, outside_row, outside_column}
use Rattle.tight_laws.proofs.States.{MeetsOn, More, ceiling, ceiling-limit, under-ceiling, room, Chosen, chosen, choose, put, length-put, signed-put, signed-put_other, placed, two_unary}

-- ---- from some variables to all

abbrev pub knows : ℕ → (ℕ → Bool) → ℕ → Bool
knows zero known w = known w
knows (suc k) known w = eqb w k || knows k known w

or_left : (a b : Bool) → a ≡ true → (a || b) ≡ true
or_left a b e = rw e refl

or_right : (a b : Bool) → b ≡ true → (a || b) ≡ true
or_right true b e = refl
or_right false b e = e

or_split : (a b : Bool) → (a || b) ≡ true → (a ≡ true) ⊎ (b ≡ true)
or_split true b e = inl refl
or_split false b e = inr e

knows-known : (k : ℕ) (known : ℕ → Bool) (w : ℕ) → known w ≡ true → knows k known w ≡ true
knows-known zero known w e = e
knows-known (suc k) known w e = or_right (eqb w k) (knows k known w) (knows-known k known w e)

knows-below : (k : ℕ) (known : ℕ → Bool) (w : ℕ) → w < k → knows k known w ≡ true
knows-below zero known w h = absurd (omega arith)
knows-below (suc k) known w h = by (λ lt. knows-below k known w lt) (grind arith)
  where
    by : (w < k → knows k known w ≡ true) → (w < k) ⊎ (w ≡ k) → (eqb w k || knows k known w) ≡ true
    by before (inl lt) = or_right (eqb w k) (knows k known w) (before lt)
    by before (inr e) = or_left (eqb w k) (knows k known w) ((Decides-eqb w k).1 e)

more-or : (known : ℕ → Bool) (v : ℕ) → More known (λ w. eqb w v || known w) v
more-or known v = record { more = λ w e. by w (or_split (eqb w v) (known w) e) }
  where
    by : (w : ℕ) → (eqb w v ≡ true) ⊎ (known w ≡ true) → (w ≡ v) ⊎ (known w ≡ true)
    by w (inl e) = inl ((Decides-eqb w v).0 e)
    by w (inr e) = inr e

pub data Extended (n : ℕ) (r : Matrix) (known now : ℕ → Bool) (s : List ℤ) : Type 0 where
  extended : (t : List ℤ) → length t ≡ n → MeetsOn now t r → ((i : ℕ) → known (i / 2) ≡ true → signed_value t i ≡ signed_value s i) → Extended n r known now s

-- the variable k was known
meets_again : (known : ℕ → Bool) (k : ℕ) (s : List ℤ) (r : Matrix) → known k ≡ true → MeetsOn known s r → MeetsOn (λ w. eqb w k || known w) s r
meets_again known k s r e m = record { within = λ i j a b. m.within i j (by (i / 2) a) (by (j / 2) b) }
  where
    by : (w : ℕ) → (eqb w k || known w) ≡ true → known w ≡ true
    by w a = elim ((more-or known k).more w a) [ inl f ↦ ap known f ∙ e | inr f ↦ f ]

extend-one : (n : ℕ) (r : Matrix) (known : ℕ → Bool) (s : List ℤ) → IsStrong n r → MeetsOn known s r → length s ≡ n → (k : ℕ) → k < n → Extended n r known (λ w. eqb w k || known w) s
extend-one n r known s h m size k lt = by (known k) refl
  where
    half_k : (2 * k) / 2 ≡ k
    half_k = omega arith

    with_value : known k ≡ false → Chosen (ceiling n r s known (2 * k)) (ceiling n r s known (opposite (2 * k))) → Extended n r known (λ w. eqb w k || known w) s
    with_value e (chosen y low high) =
        extended (put s (2 * k) y) (length-put s (2 * k) y ∙ size)
        (placed n r s known (λ w. eqb w k || known w) h m (2 * k) y (omega arith) size (ap known half_k ∙ e) (subst (More known (λ w. eqb w k || known w)) (sym half_k) (more-or known k)) low high)
        (λ i f. signed-put_other s (2 * k) i y (λ g. let w = ap known (g ∙ half_k) in cc))

    by : (b : Bool) → known k ≡ b → Extended n r known (λ w. eqb w k || known w) s
    by true e = extended s size (meets_again known k s r e m) (λ i f. refl)
    by false e = with_value e (choose _ _ (room n r s known h m (2 * k) (omega arith)))

extend-next : (n : ℕ) (r : Matrix) (known : ℕ → Bool) (s : List ℤ) → IsStrong n r → (k : ℕ) → k < n → Extended n r known (knows k known) s → Extended n r known (knows (suc k) known) s
extend-next n r known s h k lt (extended t size m same) = by (extend-one n r (knows k known) t h m size k lt)
  where
    by : Extended n r (knows k known) (λ w. eqb w k || knows k known w) t → Extended n r known (knows (suc k) known) s
    by (extended u size' m' same') = extended u size' m' (λ i e. same' i (knows-known k known (i / 2) e) ∙ same i e)

extend-all : (n : ℕ) (r : Matrix) (known : ℕ → Bool) (s : List ℤ) → IsStrong n r → MeetsOn known s r → length s ≡ n → (k : ℕ) → k ≤ n → Extended n r known (knows k known) s
extend-all n r known s h m size zero le = extended s size m (λ i e. refl)
extend-all n r known s h m size (suc k) le = extend-next n r known s h k (omega arith) (extend-all n r known s h m size k (omega arith))

-- all variables are known
meets-all : (n : ℕ) (r : Matrix) (known : ℕ → Bool) (s : List ℤ) → IsStrong n r → MeetsOn (knows n known) s r → Meets s r
meets-all n r known s h m =
    let rows = h.closed.rows in
    meets-square s r h.closed.square (λ i j p q. m.within i j (knows-below n known (i / 2) (omega arith)) (knows-below n known (j / 2) (omega arith)))

-- ---- the values of one entry

pub data Start (n : ℕ) (r : Matrix) (i j : ℕ) (x : ℤ) : Type 0 where
  start : (known : ℕ → Bool) (s : List ℤ) → length s ≡ n → MeetsOn known s r → known (i / 2) ≡ true → known (j / 2) ≡ true → (signed_value s j -ℤ signed_value s i) ≡ x → Start n r i j x

pub data Attained (r : Matrix) (i j : ℕ) (x : ℤ) : Type 0 where
  attained : (s : List ℤ) → Meets s r → (signed_value s j -ℤ signed_value s i) ≡ x → Attained r i j x

attained-start : (n : ℕ) (r : Matrix) (i j : ℕ) (x : ℤ) → IsStrong n r → Start n r i j x → Attained r i j x
attained-start n r i j x h (start known s size m ki kj e) = by (extend-all n r known s h m size n (omega arith))
  where
    by : Extended n r known (knows n known) s → Attained r i j x
    by (extended t size' m' same) = attained t (meets-all n r known t h m') (let a = same i ki in let b = same j kj in cc)

-- the bounds on the value of V_i
unfoldable pub first_bound : Matrix → ℕ → ℕ → ℤ → Bound
first_bound r i j x = least (unary r (opposite i)) (least (plus (unary r (opposite j)) (Some (neg_ℤ x))) (half (plus (at r (opposite i) j) (Some (neg_ℤ x)))))

from_strong : (x : ℤ) (a b : Bound) → Below (Some x) (plus a b) → Within (pos 0) (plus (plus b (Some (neg_ℤ x))) a)
from_strong x a None h = tt
from_strong x None (Some v) h = tt
from_strong x (Some u) (Some v) h = let k = h.is in omega (arith, ints)

from_triangle : (x : ℤ) (a b : Bound) → IsEven a → Below (Some x) (plus a b) → Within (pos 0) (plus (half (plus b (Some (neg_ℤ x)))) (half a))
from_triangle x a None e h = tt
from_triangle x None (Some v) e h = tt
from_triangle x (Some u) (Some v) e h =
    let k = h.is in
    let twice : (floor_half u +ℤ floor_half u) ≡ u = cc in
    let l = half_high (v +ℤ neg_ℤ x) in
    omega (arith, ints)

first_sum : (r : Matrix) (i : ℕ) (x : ℤ) (b : Bound) → IsEven (at r i (opposite i)) → Below (Some x) (plus (at r i (opposite i)) b) → Within (pos 0) (plus (half (plus b (Some (neg_ℤ x)))) (unary r i))
unfolding unary
first_sum r i x b e h = from_triangle x (at r i (opposite i)) b e h

first_room : (n : ℕ) (r : Matrix) (i j : ℕ) (x : ℤ) → IsStrong n r → i < 2 * n → at r i j ≡ Some x → Within (pos 0) (plus (first_bound r i j x) (unary r i))
unfolding first_bound
first_room n r i j x h p e =
    let last = plus (unary r (opposite j)) (Some (neg_ℤ x)) in
    let sum = half (plus (at r (opposite i) j) (Some (neg_ℤ x))) in
    of_choice (λ t. Within (pos 0) (plus t (unary r i))) (unary r (opposite i)) (least last sum) _ (least_is (unary r (opposite i)) (least last sum))
    (within-comm (unary r i) (unary r (opposite i)) (two_unary n r h i p))
    (of_choice (λ t. Within (pos 0) (plus t (unary r i))) last sum _ (least_is last sum)
    (from_strong x (unary r i) (unary r (opposite j)) (Below-trans (Below-same (sym e)) (h.strong i j)))
    (by_triangle (Below-trans (Below-same (sym e)) (h.closed.triangle i (opposite i) j))))
  where
    by_triangle : Below (Some x) (plus (at r i (opposite i)) (at r (opposite i) j)) → Within (pos 0) (plus (half (plus (at r (opposite i) j) (Some (neg_ℤ x)))) (unary r i))
    by_triangle l = first_sum r i x (at r (opposite i) j) (h.even i) l

false_true : false ≡ true → ⊥
false_true e = cc

abbrev nothing : ℕ → Bool
nothing w = false

nothing-met : (s : List ℤ) (r : Matrix) → MeetsOn nothing s r
nothing-met s r = record { within = λ i j a b. absurd (false_true a) }

one_known : (n : ℕ) (r : Matrix) (i : ℕ) (t : ℤ) → IsStrong n r → i < 2 * n → Within t (unary r (opposite i)) → Within (neg_ℤ t) (unary r i) → MeetsOn (λ w. eqb w (i / 2)) (put (replicate n (pos 0)) i t) r
one_known n r i t h p high low =
    let zeros = replicate n (pos 0) in
    placed n r zeros nothing (λ w. eqb w (i / 2)) h (nothing-met zeros r) i t p (length-replicate n (pos 0)) refl
    (record { more = λ w e. inl ((Decides-eqb w (i / 2)).0 e) })
    (under-ceiling n r zeros nothing i t (λ k q e. absurd (false_true e)) high)
    (under-ceiling n r zeros nothing (opposite i) (neg_ℤ t) (λ k q e. absurd (false_true e)) (subst (λ w. Within (neg_ℤ t) (unary r w)) (sym (opposite_twice i)) low))

-- ---- both values in one variable

zero_entry : (n : ℕ) (r : Matrix) (i : ℕ) (x : ℤ) → IsStrong n r → i < 2 * n → at r i i ≡ Some x → pos 0 ≡ x
zero_entry n r i x h p e = let z = h.closed.zeros i p in cc

unary_value : (t x : ℤ) (a b : Bound) → a ≡ Some x → IsEven a → Within t (plus (half a) (Some (neg_ℤ x))) → Within (neg_ℤ t) (half a) → (neg_ℤ t -ℤ t) ≡ x
unary_value t x None b e v p q = absurd (cc)
unary_value t x (Some y) b e v p q =
    let twice : (floor_half y +ℤ floor_half y) ≡ y = cc in
    let same : y ≡ x = cc in
    omega (arith, ints)

unary_entry : (r : Matrix) (i : ℕ) (t x : ℤ) → at r i (opposite i) ≡ Some x → IsEven (at r i (opposite i)) → Within t (plus (unary r i) (Some (neg_ℤ x))) → Within (neg_ℤ t) (unary r i) → (neg_ℤ t -ℤ t) ≡ x
unfolding unary
unary_entry r i t x e v p q = unary_value t x (at r i (opposite i)) None e v p q

-- ---- values in two variables

not_eqb : (a b : ℕ) → a ≢ b → eqb a b ≡ false
not_eqb a b h = by (eqb a b) refl
  where
    by : (c : Bool) → eqb a b ≡ c → c ≡ false
    by false e = refl
    by true e = absurd (h ((Decides-eqb a b).0 e))

where_is : (i j : ℕ) → ((j ≡ i) ⊎ (j ≡ opposite i)) ⊎ (j / 2 ≢ i / 2)
where_is i j = grind arith

first_of_three : (r : Matrix) (i j : ℕ) (x t : ℤ) → Within t (first_bound r i j x) → Within t (unary r (opposite i))
unfolding first_bound
first_of_three r i j x t h = within-least_left t (unary r (opposite i)) (least (plus (unary r (opposite j)) (Some (neg_ℤ x))) (half (plus (at r (opposite i) j) (Some (neg_ℤ x))))) h

last_of_three : (r : Matrix) (i j : ℕ) (x t : ℤ) → Within t (first_bound r i j x) → Within t (least (plus (unary r (opposite j)) (Some (neg_ℤ x))) (half (plus (at r (opposite i) j) (Some (neg_ℤ x)))))
unfolding first_bound
last_of_three r i j x t h = within-least_right t (unary r (opposite i)) (least (plus (unary r (opposite j)) (Some (neg_ℤ x))) (half (plus (at r (opposite i) j) (Some (neg_ℤ x))))) h

second_of_three : (r : Matrix) (i j : ℕ) (x t : ℤ) → Within t (first_bound r i j x) → Within t (plus (unary r (opposite j)) (Some (neg_ℤ x)))
second_of_three r i j x t h = within-least_left t (plus (unary r (opposite j)) (Some (neg_ℤ x))) (half (plus (at r (opposite i) j) (Some (neg_ℤ x)))) (last_of_three r i j x t h)

third_of_three : (r : Matrix) (i j : ℕ) (x t : ℤ) → Within t (first_bound r i j x) → Within t (half (plus (at r (opposite i) j) (Some (neg_ℤ x))))
third_of_three r i j x t h = within-least_right t (plus (unary r (opposite j)) (Some (neg_ℤ x))) (half (plus (at r (opposite i) j) (Some (neg_ℤ x)))) (last_of_three r i j x t h)

sum_within : (t x : ℤ) (a : Bound) → Within t (half (plus a (Some (neg_ℤ x)))) → Within (t +ℤ x) (plus (Some (neg_ℤ t)) a)
sum_within t x None h = tt
sum_within t x (Some y) h = let l = half_low (y +ℤ neg_ℤ x) in omega (arith, ints)

moved_within : (t x : ℤ) (a : Bound) → Within t (plus a (Some (neg_ℤ x))) → Within (t +ℤ x) a
moved_within t x None h = tt
moved_within t x (Some y) h = omega (arith, ints)

rest_within : (z : ℤ) (a b : Bound) → Below a (Some z) → Within (pos 0) (plus a b) → Within (neg_ℤ z) b
rest_within z a None l h = tt
rest_within z None (Some y) l h = absurd l.is
rest_within z (Some x) (Some y) l h = let k = l.is in omega (arith, ints)

two_values : (n : ℕ) (r : Matrix) (i j : ℕ) (x t : ℤ) → IsStrong n r → i < 2 * n → j < 2 * n → at r i j ≡ Some x → j / 2 ≢ i / 2
    → Within t (unary r (opposite i)) → Within (neg_ℤ t) (unary r i) → Within t (plus (unary r (opposite j)) (Some (neg_ℤ x))) → Within t (half (plus (at r (opposite i) j) (Some (neg_ℤ x))))
    → Start n r i j x
two_values n r i j x t h p q e apart high low other sum =
    start both_known second (length-put first j z ∙ size)
    (placed n r first known both_known h met j z q size unknown (more-or known (j / 2)) upper lower)
    (or_right (eqb (i / 2) (j / 2)) (known (i / 2)) known_i)
    (or_left (eqb (j / 2) (j / 2)) (known (j / 2)) ((Decides-eqb (j / 2) (j / 2)).1 refl))
    (let a = signed-put first j z (omega (arith, size)) in let b = signed-put_other first j i z (λ g. apart (sym g)) in let c = value_i in
    let d : (signed_value second j -ℤ signed_value second i) ≡ (z -ℤ t) = cc in d ∙ difference)
  where
    z : ℤ
    z = t +ℤ x

    first : List ℤ
    first = put (replicate n (pos 0)) i t

    second : List ℤ
    second = put first j z

    known : ℕ → Bool
    known = λ w. eqb w (i / 2)

    both_known : ℕ → Bool
    both_known = λ w. eqb w (j / 2) || eqb w (i / 2)

    known_i : eqb (i / 2) (i / 2) ≡ true
    known_i = (Decides-eqb (i / 2) (i / 2)).1 refl

    unknown : eqb (j / 2) (i / 2) ≡ false
    unknown = not_eqb (j / 2) (i / 2) apart

    size : length first ≡ n
    size = length-put (replicate n (pos 0)) i t ∙ length-replicate n (pos 0)

    value_i : signed_value first i ≡ t
    value_i = signed-put (replicate n (pos 0)) i t (omega (arith, length-replicate n (pos 0)))

    met : MeetsOn known first r
    met = one_known n r i t h p high low

    difference : ((t +ℤ x) -ℤ t) ≡ x
    difference = omega (arith, ints)

    each : (k : ℕ) → (k ≡ i) ⊎ (k ≡ opposite i) → Within z (plus (Some (signed_value first k)) (at r k j))
    each k (inl f) = subst (λ w. Within z (plus (Some (signed_value first w)) (at r w j))) (sym f) (subst (λ (w : ℤ). Within z (plus (Some w) (at r i j))) (sym value_i) (subst (λ w. Within z (plus (Some t) w)) (sym e) (omega (arith, ints))))
    each k (inr f) =
        let value : signed_value first (opposite i) ≡ neg_ℤ t = signed-opposite first i ∙ ap neg_ℤ value_i in
        subst (λ w. Within z (plus (Some (signed_value first w)) (at r w j))) (sym f) (subst (λ (w : ℤ). Within z (plus (Some w) (at r (opposite i) j))) (sym value) (sum_within t x (at r (opposite i) j) sum))

    upper : Within z (ceiling n r first known j)
    upper = under-ceiling n r first known j z (λ k lt f. let g = (Decides-eqb (k / 2) (i / 2)).0 f in each k (grind arith)) (moved_within t x (unary r (opposite j)) other)

    at_i : Below (ceiling n r first known j) (Some z)
    at_i = Below-trans (ceiling-limit n r first known j i p known_i) (Below-same (ap (λ w. plus (Some (signed_value first i)) w) e ∙ ap (λ (w : ℤ). Some (w +ℤ x)) value_i))

    lower : Within (neg_ℤ z) (ceiling n r first known (opposite j))
    lower = rest_within z (ceiling n r first known j) (ceiling n r first known (opposite j)) at_i (room n r first known h met j q)

one_value : (n : ℕ) (r : Matrix) (i j : ℕ) (x t : ℤ) → IsStrong n r → i < 2 * n → at r i j ≡ Some x → (j ≡ i) ⊎ (j ≡ opposite i)
    → Within t (unary r (opposite i)) → Within (neg_ℤ t) (unary r i) → Within t (plus (unary r (opposite j)) (Some (neg_ℤ x))) → Start n r i j x
one_value n r i j x t h p e same high low other =
    start (λ w. eqb w (i / 2)) first (length-put (replicate n (pos 0)) i t ∙ length-replicate n (pos 0)) (one_known n r i t h p high low)
    ((Decides-eqb (i / 2) (i / 2)).1 refl) ((Decides-eqb (j / 2) (i / 2)).1 (halves same)) (by same e)
  where
    first : List ℤ
    first = put (replicate n (pos 0)) i t

    halves : (j ≡ i) ⊎ (j ≡ opposite i) → j / 2 ≡ i / 2
    halves (inl f) = omega arith
    halves (inr f) = omega arith

    value_i : signed_value first i ≡ t
    value_i = signed-put (replicate n (pos 0)) i t (omega (arith, length-replicate n (pos 0)))

    across : at r i (opposite i) ≡ Some x → Within t (plus (unary r i) (Some (neg_ℤ x))) → (signed_value first (opposite i) -ℤ signed_value first i) ≡ x
    across g o =
        let value : signed_value first (opposite i) ≡ neg_ℤ t = signed-opposite first i ∙ ap neg_ℤ value_i in
        let d : (signed_value first (opposite i) -ℤ signed_value first i) ≡ (neg_ℤ t -ℤ t) = cc value_i in
        d ∙ unary_entry r i t x g (h.even i) o low

    by : (j ≡ i) ⊎ (j ≡ opposite i) → at r i j ≡ Some x → (signed_value first j -ℤ signed_value first i) ≡ x
    by (inl f) g =
        let zero = zero_entry n r i x h p (subst (λ w. at r i w ≡ Some x) f g) in
        let d : (signed_value first i -ℤ signed_value first i) ≡ pos 0 = omega (arith, ints) in
        subst (λ w. (signed_value first w -ℤ signed_value first i) ≡ x) (sym f) (d ∙ zero)
    by (inr f) g =
        let back : opposite j ≡ i = omega arith in
        subst (λ w. (signed_value first w -ℤ signed_value first i) ≡ x) (sym f) (across (subst (λ w. at r i w ≡ Some x) f g) (subst (λ w. Within t (plus (unary r w) (Some (neg_ℤ x)))) back other))

started : (n : ℕ) (r : Matrix) (i j : ℕ) (x : ℤ) → IsStrong n r → i < 2 * n → j < 2 * n → at r i j ≡ Some x → Start n r i j x
started n r i j x h p q e = by (choose (first_bound r i j x) (unary r i) (first_room n r i j x h p e))
  where
    with_bounds : (t : ℤ) → Within t (unary r (opposite i)) → Within (neg_ℤ t) (unary r i) → Within t (plus (unary r (opposite j)) (Some (neg_ℤ x))) → Within t (half (plus (at r (opposite i) j) (Some (neg_ℤ x))))
        → ((j ≡ i) ⊎ (j ≡ opposite i)) ⊎ (j / 2 ≢ i / 2) → Start n r i j x
    with_bounds t high low other sum (inl same) = one_value n r i j x t h p e same high low other
    with_bounds t high low other sum (inr apart) = two_values n r i j x t h p q e apart high low other sum

    by : Chosen (first_bound r i j x) (unary r i) → Start n r i j x
    by (chosen t a low) =
        with_bounds t (first_of_three r i j x t a) low (second_of_three r i j x t a) (third_of_three r i j x t a) (where_is i j)

pub attained-strong : (n : ℕ) (r : Matrix) → IsStrong n r → (i j : ℕ) (x : ℤ) → at r i j ≡ Some x → Attained r i j x
attained-strong n r h i j x e = by (place i) (place j)
  where
    place : (k : ℕ) → (k < 2 * n) ⊎ (2 * n ≤ k)
    place k = grind arith

    by : (i < 2 * n) ⊎ (2 * n ≤ i) → (j < 2 * n) ⊎ (2 * n ≤ j) → Attained r i j x
    by (inl p) (inl q) = attained-start n r i j x h (started n r i j x h p q e)
    by (inl p) (inr q) = absurd (let f = outside_column n r h.closed.rows h.closed.square i j q in cc)
    by (inr p) q = absurd (let f = outside_row n r h.closed.rows i j p in cc)
