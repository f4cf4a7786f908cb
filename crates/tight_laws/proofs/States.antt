-- A state of some variables that meets their entries of a strongly closed matrix is extended by one more variable. The
-- ceiling of a signed dimension t is the least of V_k + r k t over the known k and of half its own unary entry. The
-- ceilings of t and of its opposite have a sum of at least 0, so an integer lies between them, and it meets all limits.
use Rattle.std.proofs.Common.{◌≡◌, ◌≢◌, ℕ, ◌*◌, ◌/◌, ◌%◌, ◌<◌, ◌≤◌, ◌⊎◌, inl, inr, Bool, true, false, cond, eqb, List, length, set, Some, None, refl, sym, ap, ◌∙◌, subst, arith, zero, suc}
use Rattle.std.specs.Prelude.{ℤ, pos, neg_ℤ, ◌+ℤ◌, ◌-ℤ◌}
use Rattle.std.proofs.lemmas.Int.{ints}
use Rattle.std.proofs.lemmas.List.{get_or-set_same, get_or-set_other, length-set}
use Rattle.oct_def.specs.Bound.{Bound, plus, least, half, Within}
use Rattle.oct_def.specs.Table.{Matrix, at}
use Rattle.oct_def.specs.Matrix.{opposite, signed_value}
use Rattle.oct_def.proofs.Bounds.{half_low, half_high, least_is, of_choice}
use Rattle.oct_def.proofs.Indices.{opposite_twice, opposite_below, signed-opposite}
use Rattle.tight_laws.proofs.Below.{Below, Below-same, Below-trans, Below-left, Below-right, four_choices, Below-within, within-Below, within-comm}
use Rattle.tight_laws.proofs.Strong.{IsStrong, unary, unary-below, outside_row}

-- ---- the least of the bounds of the indices below n

unfoldable pub lowest : ℕ → (ℕ → Bound) → Bound
lowest zero f = None
lowest (suc n) f = least (f n) (lowest n f)

lowest-choice : (P : Bound → Type 0) → (n : ℕ) (f : ℕ → Bound) → P None → ((k : ℕ) → k < n → P (f k)) → P (lowest n f)
unfolding lowest
lowest-choice P zero f none each = none
lowest-choice P (suc n) f none each =
    of_choice P (f n) (lowest n f) (least (f n) (lowest n f)) (least_is (f n) (lowest n f)) (each n (omega arith)) (lowest-choice P n f none (λ k h. each k (omega arith)))

pub lowest-below : (n : ℕ) (f : ℕ → Bound) (k : ℕ) → k < n → Below (lowest n f) (f k)
unfolding lowest
lowest-below zero f k h = absurd (omega arith)
lowest-below (suc n) f k h = by (λ lt. lowest-below n f k lt) (grind arith)
  where
    by : (k < n → Below (lowest n f) (f k)) → (k < n) ⊎ (n ≡ k) → Below (least (f n) (lowest n f)) (f k)
    by before (inl lt) = Below-trans (Below-right (f n) (lowest n f)) (before lt)
    by before (inr e) = subst (λ t. Below (least (f n) (lowest n f)) (f t)) e (Below-left (f n) (lowest n f))

-- ---- the limits that known values leave for one more

-- a state meets the entries between the known variables
pub record MeetsOn (known : ℕ → Bool) (s : List ℤ) (r : Matrix) : Type 0 where
  pub within : (i j : ℕ) → known (i / 2) ≡ true → known (j / 2) ≡ true → Within (signed_value s j -ℤ signed_value s i) (at r i j)

-- what V_k leaves for V_t
unfoldable pub limit : Matrix → List ℤ → (ℕ → Bool) → ℕ → ℕ → Bound
limit r s known t k = cond (known (k / 2)) (plus (Some (signed_value s k)) (at r k t)) None

-- what all known values and its own unary entry leave for V_t
unfoldable pub ceiling : ℕ → Matrix → List ℤ → (ℕ → Bool) → ℕ → Bound
ceiling n r s known t = least (lowest (2 * n) (limit r s known t)) (unary r (opposite t))

within_same : (x y : ℤ) (a b : Bound) → x ≡ y → a ≡ b → Within x a → Within y b
within_same x y a b e f h = subst (Within y) f (subst (λ z. Within z a) e h)

within_none : (x : ℤ) (a : Bound) → a ≡ None → Within x a
within_none x a e = subst (Within x) (sym e) tt

under_limit : (z x : ℤ) (a : Bound) → Within z (plus (Some x) a) → Within (z -ℤ x) a
under_limit z x None h = tt
under_limit z x (Some y) h = omega (arith, ints)

limit_known : (r : Matrix) (s : List ℤ) (known : ℕ → Bool) (t k : ℕ) → known (k / 2) ≡ true → limit r s known t k ≡ plus (Some (signed_value s k)) (at r k t)
unfolding limit
limit_known r s known t k e = ap (λ (b : Bool). cond b (plus (Some (signed_value s k)) (at r k t)) None) e

pub ceiling-limit : (n : ℕ) (r : Matrix) (s : List ℤ) (known : ℕ → Bool) (t k : ℕ) → k < 2 * n → known (k / 2) ≡ true → Below (ceiling n r s known t) (plus (Some (signed_value s k)) (at r k t))
unfolding ceiling
ceiling-limit n r s known t k h e =
    Below-trans (Below-left (lowest (2 * n) (limit r s known t)) (unary r (opposite t))) (Below-trans (lowest-below (2 * n) (limit r s known t) k h) (Below-same (limit_known r s known t k e)))

ceiling-unary : (n : ℕ) (r : Matrix) (s : List ℤ) (known : ℕ → Bool) (t : ℕ) → Below (ceiling n r s known t) (unary r (opposite t))
unfolding ceiling
ceiling-unary n r s known t = Below-right (lowest (2 * n) (limit r s known t)) (unary r (opposite t))

-- what is under each limit and the unary entry is under the ceiling
pub under-ceiling : (n : ℕ) (r : Matrix) (s : List ℤ) (known : ℕ → Bool) (t : ℕ) (z : ℤ)
    → ((k : ℕ) → k < 2 * n → known (k / 2) ≡ true → Within z (plus (Some (signed_value s k)) (at r k t))) → Within z (unary r (opposite t)) → Within z (ceiling n r s known t)
unfolding ceiling limit
under-ceiling n r s known t z each last =
    of_choice (Within z) (lowest (2 * n) (limit r s known t)) (unary r (opposite t)) _ (least_is (lowest (2 * n) (limit r s known t)) (unary r (opposite t)))
    (lowest-choice (Within z) (2 * n) (limit r s known t) tt (λ k h. by k h (known (k / 2)) refl)) last
  where
    by : (k : ℕ) → k < 2 * n → (b : Bool) → known (k / 2) ≡ b → Within z (cond b (plus (Some (signed_value s k)) (at r k t)) None)
    by k h true e = each k h e
    by k h false e = tt

-- ---- the limits leave room

with_none : (a : Bound) → Within (pos 0) (plus a None)
with_none None = tt
with_none (Some x) = tt

limits_positive : (x y : ℤ) (a b c : Bound) → Within (neg_ℤ y -ℤ x) c → Below c (plus a b) → Within (pos 0) (plus (plus (Some x) a) (plus (Some y) b))
limits_positive x y None b c h l = tt
limits_positive x y (Some u) None c h l = tt
limits_positive x y (Some u) (Some v) None h l = absurd l.is
limits_positive x y (Some u) (Some v) (Some w) h l = let k = l.is in omega (arith, ints)

unary_positive : (x : ℤ) (a b c : Bound) → Within (neg_ℤ x) c → Below c (plus a b) → Within (pos 0) (plus (plus (Some x) a) b)
unary_positive x None b c h l = tt
unary_positive x (Some u) None c h l = tt
unary_positive x (Some u) (Some v) None h l = absurd l.is
unary_positive x (Some u) (Some v) (Some w) h l = let k = l.is in omega (arith, ints)

within_half : (x y : ℤ) (a : Bound) → (y +ℤ y) ≡ x → Within x a → Within y (half a)
within_half x y None e h = tt
within_half x y (Some z) e h = let k = half_high z in omega (arith, ints)

within_twice : (x y : ℤ) (a : Bound) → x ≡ (y +ℤ y) → Within y (half a) → Within x a
within_twice x y None e h = tt
within_twice x y (Some z) e h = let k = half_low z in omega (arith, ints)

-- a known value is within its unary bound
known_unary : (r : Matrix) (known : ℕ → Bool) (s : List ℤ) → MeetsOn known s r → (k : ℕ) → known (k / 2) ≡ true → Within (neg_ℤ (signed_value s k)) (unary r k)
unfolding unary
known_unary r known s m k e =
    let negated = signed-opposite s k in
    let same : opposite k / 2 ≡ k / 2 = omega arith in
    within_half (signed_value s (opposite k) -ℤ signed_value s k) (neg_ℤ (signed_value s k)) (at r k (opposite k)) (omega (arith, ints)) (m.within k (opposite k) e (ap known same ∙ e))

two_limits : (n : ℕ) (r : Matrix) (s : List ℤ) (known : ℕ → Bool) → IsStrong n r → MeetsOn known s r → (t k l : ℕ) → Within (pos 0) (plus (limit r s known t k) (limit r s known (opposite t) l))
unfolding limit
two_limits n r s known h m t k l = by (known (k / 2)) (known (l / 2)) refl refl
  where
    both : known (k / 2) ≡ true → known (l / 2) ≡ true → Within (pos 0) (plus (plus (Some (signed_value s k)) (at r k t)) (plus (Some (signed_value s l)) (at r l (opposite t))))
    both e f =
        let same : opposite l / 2 ≡ l / 2 = omega arith in
        let negated = signed-opposite s l in
        let turned : at r t (opposite l) ≡ at r l (opposite t) = h.closed.twins t (opposite l) ∙ ap (λ w. at r w (opposite t)) (opposite_twice l) in
        let reach : Within (neg_ℤ (signed_value s l) -ℤ signed_value s k) (at r k (opposite l)) =
        within_same _ _ (at r k (opposite l)) (at r k (opposite l)) (ap (λ w. w -ℤ signed_value s k) negated) refl (m.within k (opposite l) e (ap known same ∙ f)) in
        subst (λ w. Within (pos 0) (plus (plus (Some (signed_value s k)) (at r k t)) (plus (Some (signed_value s l)) w))) turned
        (limits_positive (signed_value s k) (signed_value s l) (at r k t) (at r t (opposite l)) (at r k (opposite l)) reach (h.closed.triangle k t (opposite l)))

    by : (b c : Bool) → known (k / 2) ≡ b → known (l / 2) ≡ c → Within (pos 0) (plus (cond b (plus (Some (signed_value s k)) (at r k t)) None) (cond c (plus (Some (signed_value s l)) (at r l (opposite t))) None))
    by false c e f = tt
    by true false e f = with_none (plus (Some (signed_value s k)) (at r k t))
    by true true e f = both e f

limit_and_unary : (n : ℕ) (r : Matrix) (s : List ℤ) (known : ℕ → Bool) → IsStrong n r → MeetsOn known s r → (t k : ℕ) → Within (pos 0) (plus (limit r s known t k) (unary r t))
unfolding limit
limit_and_unary n r s known h m t k = by (known (k / 2)) refl
  where
    by : (b : Bool) → known (k / 2) ≡ b → Within (pos 0) (plus (cond b (plus (Some (signed_value s k)) (at r k t)) None) (unary r t))
    by false e = tt
    by true e = unary_positive (signed_value s k) (at r k t) (unary r t) (unary r k) (known_unary r known s m k e) (unary-below n r h.closed k t)

lowest_and_unary : (n : ℕ) (r : Matrix) (s : List ℤ) (known : ℕ → Bool) → IsStrong n r → MeetsOn known s r → (t u : ℕ) → t ≡ u → Within (pos 0) (plus (lowest (2 * n) (limit r s known t)) (unary r u))
lowest_and_unary n r s known h m t u e =
    subst (λ w. Within (pos 0) (plus (lowest (2 * n) (limit r s known t)) (unary r w))) e
    (lowest-choice (λ a. Within (pos 0) (plus a (unary r t))) (2 * n) (limit r s known t) tt (λ k lt. limit_and_unary n r s known h m t k))

two_lowest : (n : ℕ) (r : Matrix) (s : List ℤ) (known : ℕ → Bool) → IsStrong n r → MeetsOn known s r → (t : ℕ) → Within (pos 0) (plus (lowest (2 * n) (limit r s known t)) (lowest (2 * n) (limit r s known (opposite t))))
two_lowest n r s known h m t =
    lowest-choice (λ a. Within (pos 0) (plus a (lowest (2 * n) (limit r s known (opposite t))))) (2 * n) (limit r s known t) tt (λ k lt.
    lowest-choice (λ b. Within (pos 0) (plus (limit r s known t k) b)) (2 * n) (limit r s known (opposite t)) (with_none (limit r s known t k)) (λ l lt'.
    two_limits n r s known h m t k l))

pub two_unary : (n : ℕ) (r : Matrix) → IsStrong n r → (t : ℕ) → t < 2 * n → Within (pos 0) (plus (unary r t) (unary r (opposite t)))
two_unary n r h t lt = within-Below (Below-trans (Below-same (sym (h.closed.zeros t lt))) (h.strong t t))

-- the ceilings of a dimension and its opposite leave a value
pub room : (n : ℕ) (r : Matrix) (s : List ℤ) (known : ℕ → Bool) → IsStrong n r → MeetsOn known s r → (t : ℕ) → t < 2 * n → Within (pos 0) (plus (ceiling n r s known t) (ceiling n r s known (opposite t)))
unfolding ceiling
room n r s known h m t lt =
    let a = lowest (2 * n) (limit r s known t) in
    let b = lowest (2 * n) (limit r s known (opposite t)) in
    four_choices (Within (pos 0)) a (unary r (opposite t)) b (unary r (opposite (opposite t)))
    (two_lowest n r s known h m t)
    (lowest_and_unary n r s known h m t (opposite (opposite t)) (sym (opposite_twice t)))
    (within-comm b (unary r (opposite t)) (lowest_and_unary n r s known h m (opposite t) (opposite t) refl))
    (two_unary n r h (opposite t) (opposite_below n t lt))

-- ---- a value between two ceilings

pub data Chosen (a b : Bound) : Type 0 where
  chosen : (y : ℤ) → Within y a → Within (neg_ℤ y) b → Chosen a b

pub choose : (a b : Bound) → Within (pos 0) (plus a b) → Chosen a b
choose None None h = chosen (pos 0) tt tt
choose None (Some w) h = chosen (neg_ℤ w) tt (omega (arith, ints))
choose (Some y) None h = chosen y (omega (arith, ints)) tt
choose (Some y) (Some w) h = chosen y (omega (arith, ints)) (omega (arith, ints))

-- ---- the state with one more value

abbrev pub turned : ℕ → ℤ → ℤ
turned t z = cond (eqb (t % 2) 0) z (neg_ℤ z)

-- the state in which V_t is z
unfoldable pub put : List ℤ → ℕ → ℤ → List ℤ
put s t z = set s (t / 2) (turned t z)

turned_twice : (b : Bool) (z : ℤ) → cond b (cond b z (neg_ℤ z)) (neg_ℤ (cond b z (neg_ℤ z))) ≡ z
turned_twice true z = refl
turned_twice false z = omega (arith, ints)

pub length-put : (s : List ℤ) (t : ℕ) (z : ℤ) → length (put s t z) ≡ length s
unfolding put
length-put s t z = length-set s (t / 2) (turned t z)

pub signed-put : (s : List ℤ) (t : ℕ) (z : ℤ) → t / 2 < length s → signed_value (put s t z) t ≡ z
unfolding put
signed-put s t z h = ap (λ (w : ℤ). cond (eqb (t % 2) 0) w (neg_ℤ w)) (get_or-set_same s (t / 2) (turned t z) (pos 0) h) ∙ turned_twice (eqb (t % 2) 0) z

pub signed-put_other : (s : List ℤ) (t i : ℕ) (z : ℤ) → i / 2 ≢ t / 2 → signed_value (put s t z) i ≡ signed_value s i
unfolding put
signed-put_other s t i z h = ap (λ (w : ℤ). cond (eqb (i % 2) 0) w (neg_ℤ w)) (get_or-set_other s (t / 2) (i / 2) (turned t z) (pos 0) h)

across_unary : (r : Matrix) (i : ℕ) (x y : ℤ) → x ≡ (y +ℤ y) → Within y (unary r i) → Within x (at r i (opposite i))
unfolding unary
across_unary r i x y e h = within_twice x y (at r i (opposite i)) e h

pub record More (before now : ℕ → Bool) (v : ℕ) : Type 0 where
  pub more : (w : ℕ) → now w ≡ true → (w ≡ v) ⊎ (before w ≡ true)

pub placed : (n : ℕ) (r : Matrix) (s : List ℤ) (known now : ℕ → Bool) → IsStrong n r → MeetsOn known s r → (t : ℕ) (z : ℤ) → t < 2 * n → length s ≡ n → known (t / 2) ≡ false → More known now (t / 2)
    → Within z (ceiling n r s known t) → Within (neg_ℤ z) (ceiling n r s known (opposite t)) → MeetsOn now (put s t z) r
placed n r s known now h m t z lt size unknown more low high = record { within = λ i j e f. by i j (more.more (i / 2) e) (more.more (j / 2) f) }
  where
    new : ℕ → ℤ
    new = signed_value (put s t z)

    same : (i : ℕ) → known (i / 2) ≡ true → new i ≡ signed_value s i
    same i e = signed-put_other s t i z (λ q. let w = ap known q in cc)

    at_t : (u : ℕ) → (u ≡ t) ⊎ (u ≡ opposite t) → Within (new u) (ceiling n r s known u)
    at_t u (inl e) = subst (λ w. Within (new w) (ceiling n r s known w)) (sym e) (subst (λ y. Within y (ceiling n r s known t)) (sym (signed-put s t z (omega arith))) low)
    at_t u (inr e) =
        let value : new (opposite t) ≡ neg_ℤ z = signed-opposite (put s t z) t ∙ ap neg_ℤ (signed-put s t z (omega arith)) in
        subst (λ w. Within (new w) (ceiling n r s known w)) (sym e) (subst (λ y. Within y (ceiling n r s known (opposite t))) (sym value) high)

    fits : (u : ℕ) → u / 2 ≡ t / 2 → Within (new u) (ceiling n r s known u)
    fits u e = at_t u (grind arith)

    one_row : (i j : ℕ) → known (i / 2) ≡ true → j / 2 ≡ t / 2 → (i < 2 * n) ⊎ (2 * n ≤ i) → Within (new j -ℤ new i) (at r i j)
    one_row i j e f (inl p) =
        let all : Below (Some (new j)) (plus (Some (signed_value s i)) (at r i j)) = Below-trans (Below-within (fits j f)) (ceiling-limit n r s known j i p e) in
        within_same (new j -ℤ signed_value s i) (new j -ℤ new i) (at r i j) (at r i j) (ap (λ w. new j -ℤ w) (sym (same i e))) refl (under_limit (new j) (signed_value s i) (at r i j) (within-Below all))
    one_row i j e f (inr p) = within_none _ (at r i j) (outside_row n r h.closed.rows i j p)

    inside : (i : ℕ) → (i < 2 * n) ⊎ (2 * n ≤ i)
    inside i = grind arith

    one_column : (i j : ℕ) → i / 2 ≡ t / 2 → known (j / 2) ≡ true → Within (new j -ℤ new i) (at r i j)
    one_column i j e f =
        let ij : opposite j / 2 ≡ j / 2 = omega arith in
        let ii : opposite i / 2 ≡ t / 2 = omega arith in
        let ni = signed-opposite (put s t z) i in
        let nj = signed-opposite (put s t z) j in
        within_same (new (opposite i) -ℤ new (opposite j)) (new j -ℤ new i) (at r (opposite j) (opposite i)) (at r i j) (omega (arith, ints)) (sym (h.closed.twins i j))
        (one_row (opposite j) (opposite i) (ap known ij ∙ f) ii (inside (opposite j)))

    diagonal : (i : ℕ) → i < 2 * n → Within (new i -ℤ new i) (at r i i)
    diagonal i p = within_same (pos 0) (new i -ℤ new i) (Some (pos 0)) (at r i i) (omega (arith, ints)) (sym (h.closed.zeros i p)) (omega (arith, ints))

    across : (i : ℕ) → i / 2 ≡ t / 2 → Within (new (opposite i) -ℤ new i) (at r i (opposite i))
    across i e =
        let ei : opposite i / 2 ≡ t / 2 = omega arith in
        let negated = signed-opposite (put s t z) i in
        let under : Below (Some (new (opposite i))) (unary r (opposite (opposite i))) = Below-trans (Below-within (fits (opposite i) ei)) (ceiling-unary n r s known (opposite i)) in
        let back : Within (new (opposite i)) (unary r i) = subst (λ w. Within (new (opposite i)) (unary r w)) (opposite_twice i) (within-Below under) in
        across_unary r i (new (opposite i) -ℤ new i) (new (opposite i)) (omega (arith, ints)) back

    own : (i j : ℕ) → i / 2 ≡ t / 2 → (i ≡ j) ⊎ (j ≡ opposite i) → Within (new j -ℤ new i) (at r i j)
    own i j e (inl f) = subst (λ w. Within (new w -ℤ new i) (at r i w)) f (diagonal i (omega arith))
    own i j e (inr f) = subst (λ w. Within (new w -ℤ new i) (at r i w)) (sym f) (across i e)

    by : (i j : ℕ) → (i / 2 ≡ t / 2) ⊎ (known (i / 2) ≡ true) → (j / 2 ≡ t / 2) ⊎ (known (j / 2) ≡ true) → Within (new j -ℤ new i) (at r i j)
    by i j (inr e) (inr f) =
        within_same (signed_value s j -ℤ signed_value s i) (new j -ℤ new i) (at r i j) (at r i j) (let a = same i e in let b = same j f in cc) refl (m.within i j e f)
    by i j (inr e) (inl f) = one_row i j e f (inside i)
    by i j (inl e) (inr f) = one_column i j e f
    by i j (inl e) (inl f) = own i j e (grind arith)
