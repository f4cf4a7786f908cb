-- A state that meets a matrix satisfies what is listed of it.
use Rattle.std.proofs.Common.{◌≡◌, ℕ, ◌+◌, ◌*◌, ◌/◌, ◌%◌, Bool, true, false, not, List, [], ◌∷◌, ◌++◌, Option, None, Some, ℤ, pos, ◌+ℤ◌, ◌-ℤ◌, ◌≤ℤ◌, neg_ℤ, if◌then◌else◌, refl, ap, ◌∙◌, subst, arith}
use Rattle.std.proofs.lemmas.Int.{ints}
use Rattle.std.specs.Option.{option_map}
use Rattle.std.specs.List.{flat_map}
use Rattle.std.specs.Ordering.{int_eq}
use Rattle.std.proofs.lemmas.Bool.Decides.{Decides-int_eq}
use Rattle.oct_def.specs.Bound.{Bound, Within}
use Rattle.oct_def.specs.Table.{Matrix, at}
use Rattle.oct_def.specs.Matrix.{Meets, MeetsValue, value_at, signed_value}
use Rattle.oct_def.proofs.Bounds.{within-half}
use Rattle.oct_def.specs.Tight.{implied_entry}
use Rattle.report.specs.Constraint.{term_value, second_value, opposite_term, signed}
use Rattle.report.specs.Listed.{between, at_least, at_most_of, equal_to, plain, minus, same_bound, pair_bound, listed_pair, listed_alone, listed_variable, listed}
use Rattle.report.specs.Sound.{SatisfiesAll, IsTrueOf, ListingIsSound}
use Rattle.report.specs.declared.constraint.Sum.{Sum}
use Rattle.report.specs.declared.constraint.Term.{Term}
use Rattle.report.specs.declared.constraint.Constraint.{Constraint}

pub satisfies-append : (s : List ℤ) (xs ys : List Constraint) → SatisfiesAll s xs → SatisfiesAll s ys → SatisfiesAll s (xs ++ ys)
satisfies-append s [] ys p q = q
satisfies-append s (x ∷ xs) ys p q = (p.0, satisfies-append s xs ys p.1 q)

pub satisfies-flat_map : (s : List ℤ) (f : ℕ → List Constraint) (ks : List ℕ) → ((k : ℕ) → SatisfiesAll s (f k)) → SatisfiesAll s (flat_map f ks)
satisfies-flat_map s f [] h = tt
satisfies-flat_map s f (k ∷ ks) h = satisfies-append s (f k) (flat_map f ks) (h k) (satisfies-flat_map s f ks h)

-- the value of a sum
abbrev sum_value : Sum → List ℤ → ℤ
sum_value sum s = term_value sum.first s +ℤ second_value sum.second s

signed-not : (b : Bool) (x : ℤ) → signed (not b) x ≡ neg_ℤ (signed b x)
signed-not true x = omega (arith, ints)
signed-not false x = refl

second-opposite : (t : Option Term) (s : List ℤ) → second_value (option_map opposite_term t) s ≡ neg_ℤ (second_value t s)
second-opposite None s = omega (arith, ints)
second-opposite (Some t) s = signed-not t.negative (value_at s t.variable)

below : (x y b : ℤ) → neg_ℤ (x +ℤ y) ≤ℤ b → pos 0 ≤ℤ ((x +ℤ y) +ℤ b)
below x y b h = omega (arith, ints)

above : (x y x' y' a : ℤ) → x' ≡ neg_ℤ x → y' ≡ neg_ℤ y → (x +ℤ y) ≤ℤ a → pos 0 ≤ℤ ((x' +ℤ y') +ℤ a)
above x y x' y' a e f h = omega (arith, ints)

equal : (x y a b : ℤ) → a +ℤ b ≡ pos 0 → neg_ℤ (x +ℤ y) ≤ℤ b → (x +ℤ y) ≤ℤ a → (x +ℤ y) +ℤ b ≡ pos 0
equal x y a b e h k = omega (arith, ints)

-- both bounds of a sum, as an equality or as two constraints
both : (s : List ℤ) (sum : Sum) (a b : ℤ) → neg_ℤ (sum_value sum s) ≤ℤ b → sum_value sum s ≤ℤ a → SatisfiesAll s (between sum (Some b) (Some a))
both s sum a b h k = by (int_eq (a +ℤ b) (pos 0)) refl
  where
    by : (t : Bool) → int_eq (a +ℤ b) (pos 0) ≡ t → SatisfiesAll s (if t then equal_to sum b ∷ [] else at_least sum b ∷ (at_most_of sum a ∷ []))
    by true e = (equal (term_value sum.first s) (second_value sum.second s) a b ((Decides-int_eq (a +ℤ b) (pos 0)).0 e) h k, tt)
    by false e =
        (below (term_value sum.first s) (second_value sum.second s) b h, (above (term_value sum.first s) (second_value sum.second s) _ _ a (signed-not sum.first.negative (value_at s sum.first.variable)) (second-opposite sum.second s) k, tt))

-- a sum between its bounds satisfies what is listed of it
pub satisfies-between : (s : List ℤ) (sum : Sum) (b a : Bound) → Within (neg_ℤ (sum_value sum s)) b → Within (sum_value sum s) a → SatisfiesAll s (between sum b a)
satisfies-between s sum None None h k = tt
satisfies-between s sum (Some b) None h k = (below (term_value sum.first s) (second_value sum.second s) b h, tt)
satisfies-between s sum None (Some a) h k =
    (above (term_value sum.first s) (second_value sum.second s) _ _ a (signed-not sum.first.negative (value_at s sum.first.variable)) (second-opposite sum.second s) k, tt)
satisfies-between s sum (Some b) (Some a) h k = both s sum a b h k

-- ---- what a matrix bounds

signed-even : (s : List ℤ) (k : ℕ) → signed_value s (2 * k) ≡ value_at s k
signed-even s k =
    let e : (2 * k) % 2 ≡ 0 = omega arith in
    let d : (2 * k) / 2 ≡ k = omega arith in
    rw (e, d) refl

signed-odd : (s : List ℤ) (k : ℕ) → signed_value s (2 * k + 1) ≡ neg_ℤ (value_at s k)
signed-odd s k =
    let e : (2 * k + 1) % 2 ≡ 1 = omega arith in
    let d : (2 * k + 1) / 2 ≡ k = omega arith in
    rw (e, d) refl

-- an implied bound is left out, which only loosens
within-pair : (full : Bool) (m : Matrix) (x : ℤ) (i j : ℕ) → Within x (at m i j) → Within x (pair_bound full m i j)
within-pair true m x i j h = h
within-pair false m x i j h = by (same_bound (at m i j) (implied_entry m i j))
  where
    by : (t : Bool) → Within x (if t then None else at m i j)
    by true = tt
    by false = h

-- a bound of a matrix on a difference, read as one on x
bounds : (s : List ℤ) (m : Matrix) (i j : ℕ) (a b x : ℤ) → Meets s m → signed_value s j ≡ a → signed_value s i ≡ b → a -ℤ b ≡ x → Within x (at m i j)
bounds s m i j a b x meets e f g = subst (λ y. Within y (at m i j)) (ap (λ y. y -ℤ signed_value s i) e ∙ ap (λ y. a -ℤ y) f ∙ g) (meets.within i j)

satisfies-pair : (full : Bool) (s : List ℤ) (m : Matrix) (v u : ℕ) → Meets s m → SatisfiesAll s (listed_pair full m v u)
unfolding listed_pair
satisfies-pair full s m v u meets =
    let x = value_at s v in
    let y = value_at s u in
    satisfies-append s _ _
    (satisfies-between s (record { first = minus u; second = Some (plain v) }) _ _
    (within-pair full m _ (2 * v) (2 * u) (bounds s m (2 * v) (2 * u) y x _ meets (signed-even s u) (signed-even s v) (omega (arith, ints))))
    (within-pair full m _ (2 * u) (2 * v) (bounds s m (2 * u) (2 * v) x y _ meets (signed-even s v) (signed-even s u) (omega (arith, ints)))))
    (satisfies-between s (record { first = plain u; second = Some (plain v) }) _ _
    (within-pair full m _ (2 * u) (2 * v + 1) (bounds s m (2 * u) (2 * v + 1) (neg_ℤ x) y _ meets (signed-odd s v) (signed-even s u) (omega (arith, ints))))
    (within-pair full m _ (2 * u + 1) (2 * v) (bounds s m (2 * u + 1) (2 * v) x (neg_ℤ y) _ meets (signed-even s v) (signed-odd s u) (omega (arith, ints)))))

satisfies-alone : (s : List ℤ) (m : Matrix) (v : ℕ) → Meets s m → SatisfiesAll s (listed_alone m v)
unfolding listed_alone
satisfies-alone s m v meets =
    let x = value_at s v in
    satisfies-between s (record { first = plain v; second = None }) _ _
    (within-half _ (at m (2 * v) (2 * v + 1)) (bounds s m (2 * v) (2 * v + 1) (neg_ℤ x) x _ meets (signed-odd s v) (signed-even s v) (omega (arith, ints))))
    (within-half _ (at m (2 * v + 1) (2 * v)) (bounds s m (2 * v + 1) (2 * v) x (neg_ℤ x) _ meets (signed-even s v) (signed-odd s v) (omega (arith, ints))))

satisfies-variable : (full : Bool) (s : List ℤ) (m : Matrix) → Meets s m → (v : ℕ) → SatisfiesAll s (listed_variable full m v)
unfolding listed_variable
satisfies-variable full s m meets v =
    satisfies-append s _ _ (satisfies-flat_map s (listed_pair full m v) _ (λ u. satisfies-pair full s m v u meets)) (satisfies-alone s m v meets)

satisfies-listed : (full : Bool) (n : ℕ) (m : Matrix) (s : List ℤ) → Meets s m → SatisfiesAll s (listed full n m)
unfolding listed
satisfies-listed full n m s meets = satisfies-flat_map s (listed_variable full m) _ (satisfies-variable full s m meets)

says_of : (full : Bool) (n : ℕ) (m : Option Matrix) (s : List ℤ) → MeetsValue s m → IsTrueOf (option_map (listed full n) m) s
says_of full n None s meets = meets
says_of full n (Some m) s meets = satisfies-listed full n m s meets

pub listing_sound : ListingIsSound
listing_sound full v s meets = says_of full v.dims v.matrix s meets
