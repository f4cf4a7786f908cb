-- Relaxing entries at one pivot, without clamping. Three facts are kept after the pivots vs: the diagonal is 0; each entry
-- (i, j) is at most the sum of (i, v) and (v, j) for v in vs; and each finite entry is at most b in size for itself and b
-- for each v in vs on a least path, where (i, v) and (v, j) add up to it. Where the pivot p lowers an entry, the pivots on
-- least paths of (i, p) and of (p, j) differ, since a common one would give a path no longer without p, as no cycle at p
-- is negative; all of them, and p, are on a least path of the new entry. So sizes add up, without paths.
use Rattle.std.proofs.Common.{◌≡◌, ℕ, ◌+◌, ◌<◌, ◌⊎◌, inl, inr, Bool, true, false, List, ◌∷◌, Some, None, refl, sym, ap, ◌∙◌, subst, arith}
use Rattle.std.specs.Prelude.{pos}
use Rattle.std.proofs.lemmas.Int.{ints}
use Rattle.oct_def.specs.Bound.{Bound, plus, least, at_most, Within}
use Rattle.oct_def.proofs.Orders.{plus_assoc}
use Rattle.tight_laws.proofs.Below.{Below, Below-refl, Below-same, Below-trans, Below-plus, Below-left, Below-right, Below-least, Below-antisym, Below-four, Below-longer, Below-within, Below-test, test-Below, Below-other, within-comm, Sized, Sized-more, Sized-plus}
use Rattle.tight_laws.proofs.Weights.{In, weigh, weigh-more, weigh-both, weigh-last, weigh-longer}

-- entries by two indices
abbrev pub Entries : Type 0
Entries = ℕ → ℕ → Bound

unfoldable pub relax : ℕ → Entries → Entries
relax p f i j = least (f i j) (plus (f i p) (f p j))

-- v lies on a least path from i to j
unfoldable pub on_path : Entries → ℕ → ℕ → ℕ → Bool
on_path f i j v = at_most (plus (f i v) (f v j)) (f i j)

-- after the pivots vs, the last one first
pub record Closed (size b : ℕ) (vs : List ℕ) (f : Entries) : Type 0 where
  pub inside : (v : ℕ) → In v vs → v < size
  pub zeros : (i : ℕ) → i < size → f i i ≡ Some (pos 0)
  pub closed : (v i j : ℕ) → In v vs → i < size → j < size → Below (f i j) (plus (f i v) (f v j))
  pub small : (i j : ℕ) → i < size → j < size → Sized (b + weigh b (on_path f i j) vs) (f i j)

-- no cycle over p is negative
pub record NoLoss (size p : ℕ) (f : Entries) : Type 0 where
  pub cycles : (i : ℕ) → i < size → Within (pos 0) (plus (f p i) (f i p))

plus_zero_below : (a : Bound) → Below a (plus a (Some (pos 0)))
plus_zero_below None = Below-refl None
plus_zero_below (Some x) = Below-same (ap Some (omega (arith, ints)))

zero_plus_below : (a : Bound) → Below a (plus (Some (pos 0)) a)
zero_plus_below None = Below-refl None
zero_plus_below (Some x) = Below-same (ap Some (omega (arith, ints)))

-- the least of two is the first where that isn't above the second
pub least_first : {a b : Bound} → Below a b → least a b ≡ a
least_first {a} {b} h = Below-antisym (Below-left a b) (Below-least (Below-refl a) h)

pub least_second : {a b : Bound} → Below b a → least a b ≡ b
least_second {a} {b} h = Below-antisym (Below-right a b) (Below-least h (Below-refl b))

-- the pivot's own rows and columns stay
relax-column : (f : Entries) (p i : ℕ) → f p p ≡ Some (pos 0) → relax p f i p ≡ f i p
unfolding relax
relax-column f p i e = least_first (subst (λ t. Below (f i p) (plus (f i p) t)) (sym e) (plus_zero_below (f i p)))

relax-row : (f : Entries) (p j : ℕ) → f p p ≡ Some (pos 0) → relax p f p j ≡ f p j
unfolding relax
relax-row f p j e = least_first (subst (λ t. Below (f p j) (plus t (f p j))) (sym e) (zero_plus_below (f p j)))

relax-old : (f : Entries) (p i j : ℕ) → Below (relax p f i j) (f i j)
unfolding relax
relax-old f p i j = Below-left (f i j) (plus (f i p) (f p j))

relax-new : (f : Entries) (p i j : ℕ) → Below (relax p f i j) (plus (f i p) (f p j))
unfolding relax
relax-new f p i j = Below-right (f i j) (plus (f i p) (f p j))

relax-zeros : (size b : ℕ) (vs : List ℕ) (t : ℕ) (f : Entries) → Closed size b vs f → NoLoss size t f → (i : ℕ) → i < size → relax t f i i ≡ Some (pos 0)
unfolding relax
relax-zeros size b vs t f c n i hi =
    let e = c.zeros i hi in
    let g : Below (Some (pos 0)) (plus (f i t) (f t i)) = Below-within (within-comm (f t i) (f i t) (n.cycles i hi)) in
    least_first (subst (λ a. Below a (plus (f i t) (f t i))) (sym e) g) ∙ e

relax-closed_old : (size b : ℕ) (vs : List ℕ) (t : ℕ) (f : Entries) → Closed size b vs f → NoLoss size t f → t < size → (v i j : ℕ) → In v vs → i < size → j < size → Below (relax t f i j) (plus (relax t f i v) (relax t f v j))
unfolding relax
relax-closed_old size b vs t f c n ht v i j hv hi hj =
    let x = relax-old f t i j in
    let y = relax-new f t i j in
    let inside : v < size = c.inside v hv in
    Below-four (f i v) (plus (f i t) (f t v)) (f v j) (plus (f v t) (f t j))
    (Below-trans x (c.closed v i j hv hi hj))
    (Below-trans y (Below-trans (Below-plus (c.closed v i t hv hi ht) (Below-refl (f t j))) (Below-same (plus_assoc (f i v) (f v t) (f t j)))))
    (Below-trans y (Below-trans (Below-plus (Below-refl (f i t)) (c.closed v t j hv ht hj)) (Below-same (sym (plus_assoc (f i t) (f t v) (f v j))))))
    (Below-trans y (Below-longer (f i t) (f t v) (f v t) (f t j) (n.cycles v inside)))

relax-closed_new : (size b : ℕ) (vs : List ℕ) (t : ℕ) (f : Entries) → Closed size b vs f → t < size → (i j : ℕ) → Below (relax t f i j) (plus (relax t f i t) (relax t f t j))
relax-closed_new size b vs t f c ht i j =
    let e = c.zeros t ht in
    Below-trans (relax-new f t i j) (Below-plus (Below-same (sym (relax-column f t i e))) (Below-same (sym (relax-row f t j e))))

relax-same : (f : Entries) (t i j : ℕ) → Below (f i j) (plus (f i t) (f t j)) → f i j ≡ relax t f i j
unfolding relax
relax-same f t i j h = sym (least_first h)

relax-lower : (f : Entries) (t i j : ℕ) → Below (plus (f i t) (f t j)) (f i j) → plus (f i t) (f t j) ≡ relax t f i j
unfolding relax
relax-lower f t i j h = sym (least_second h)

-- where the entry stays, a vertex on a least path stays on one
on_path-kept : (f : Entries) (t i j v : ℕ) → Below (f i j) (plus (f i t) (f t j)) → on_path f i j v ≡ true → on_path (relax t f) i j v ≡ true
unfolding on_path
on_path-kept f t i j v h e =
    test-Below (Below-trans (Below-plus (relax-old f t i v) (relax-old f t v j)) (Below-trans (Below-test e) (Below-same (relax-same f t i j h))))

-- where the pivot lowers the entry, the vertices on the least paths of both parts are on the new one
on_path-first : (f : Entries) (t i j v : ℕ) → Below (plus (f i t) (f t j)) (f i j) → on_path f i t v ≡ true → on_path (relax t f) i j v ≡ true
unfolding on_path
on_path-first f t i j v h e =
    test-Below (Below-trans (Below-plus (relax-old f t i v) (relax-new f t v j))
    (Below-trans (Below-same (sym (plus_assoc (f i v) (f v t) (f t j))))
    (Below-trans (Below-plus (Below-test e) (Below-refl (f t j))) (Below-same (relax-lower f t i j h)))))

on_path-second : (f : Entries) (t i j v : ℕ) → Below (plus (f i t) (f t j)) (f i j) → on_path f t j v ≡ true → on_path (relax t f) i j v ≡ true
unfolding on_path
on_path-second f t i j v h e =
    test-Below (Below-trans (Below-plus (relax-new f t i v) (relax-old f t v j))
    (Below-trans (Below-same (plus_assoc (f i t) (f t v) (f v j)))
    (Below-trans (Below-plus (Below-refl (f i t)) (Below-test e)) (Below-same (relax-lower f t i j h)))))

-- and so is the pivot
on_path-pivot : (f : Entries) (t i j : ℕ) → f t t ≡ Some (pos 0) → Below (plus (f i t) (f t j)) (f i j) → on_path (relax t f) i j t ≡ true
unfolding on_path
on_path-pivot f t i j z h =
    test-Below (Below-trans (Below-plus (relax-old f t i t) (relax-old f t t j)) (Below-same (relax-lower f t i j h)))

-- a vertex on both parts would give a path as low without the pivot
on_path-apart : (size b : ℕ) (vs : List ℕ) (t : ℕ) (f : Entries) → Closed size b vs f → NoLoss size t f → t < size → (i j v : ℕ) → In v vs → i < size → j < size
    → on_path f i t v ≡ true → on_path f t j v ≡ true → Below (f i j) (plus (f i t) (f t j))
unfolding on_path
on_path-apart size b vs t f c n ht i j v hv hi hj d e =
    let inside : v < size = c.inside v hv in
    Below-trans (c.closed v i j hv hi hj)
    (Below-trans (Below-longer (f i v) (f v t) (f t v) (f v j) (within-comm (f t v) (f v t) (n.cycles v inside))) (Below-plus (Below-test d) (Below-test e)))

relax-small : (size b : ℕ) (vs : List ℕ) (t : ℕ) (f : Entries) → Closed size b vs f → NoLoss size t f → t < size → (i j : ℕ) → i < size → j < size → Sized (b + weigh b (on_path (relax t f) i j) (t ∷ vs)) (relax t f i j)
relax-small size b vs t f c n ht i j hi hj = by (at_most (f i j) (plus (f i t) (f t j))) refl
  where
    kept : Below (f i j) (plus (f i t) (f t j)) → Sized (b + weigh b (on_path (relax t f) i j) (t ∷ vs)) (relax t f i j)
    kept h =
        let more = weigh-more b (on_path f i j) (on_path (relax t f) i j) vs (λ v lt e. on_path-kept f t i j v h e) in
        let longer = weigh-longer b (on_path (relax t f) i j) t vs in
        subst (Sized (b + weigh b (on_path (relax t f) i j) (t ∷ vs))) (relax-same f t i j h) (Sized-more (omega arith) (c.small i j hi hj))

    lowered : (Below (f i j) (plus (f i t) (f t j)) → ⊥) → Below (plus (f i t) (f t j)) (f i j) → Sized (b + weigh b (on_path (relax t f) i j) (t ∷ vs)) (relax t f i j)
    lowered apart h =
        let both = weigh-both b (on_path f i t) (on_path f t j) (on_path (relax t f) i j) vs
        (λ v lt e. on_path-first f t i j v h e) (λ v lt e. on_path-second f t i j v h e)
        (λ v lt d e. apart (on_path-apart size b vs t f c n ht i j v lt hi hj d e)) in
        let last = weigh-last b (on_path (relax t f) i j) t vs (on_path-pivot f t i j (c.zeros t ht) h) in
        subst (Sized (b + weigh b (on_path (relax t f) i j) (t ∷ vs))) (relax-lower f t i j h) (Sized-more (omega arith) (Sized-plus (c.small i t hi ht) (c.small t j ht hj)))

    by : (a : Bool) → at_most (f i j) (plus (f i t) (f t j)) ≡ a → Sized (b + weigh b (on_path (relax t f) i j) (t ∷ vs)) (relax t f i j)
    by true e = kept (Below-test e)
    by false e = lowered (λ h. let g = test-Below h in cc) (Below-other e)

-- the step
pub closed-relax : (size b : ℕ) (vs : List ℕ) (t : ℕ) (f : Entries) → Closed size b vs f → NoLoss size t f → t < size → Closed size b (t ∷ vs) (relax t f)
closed-relax size b vs t f c n ht = record {
  inside = λ v hv. elim hv [ inl e ↦ subst (λ w. w < size) (sym e) ht | inr m ↦ c.inside v m ];
  zeros = relax-zeros size b vs t f c n;
  closed = λ v i j hv hi hj. at_pivot v i j hi hj hv;
  small = relax-small size b vs t f c n ht;
}
  where
    at_pivot : (v i j : ℕ) → i < size → j < size → (v ≡ t) ⊎ In v vs → Below (relax t f i j) (plus (relax t f i v) (relax t f v j))
    at_pivot v i j hi hj (inr hv) = relax-closed_old size b vs t f c n ht v i j hv hi hj
    at_pivot v i j hi hj (inl e) = subst (λ w. Below (relax t f i j) (plus (relax t f i w) (relax t f w j))) (sym e) (relax-closed_new size b vs t f c ht i j)
