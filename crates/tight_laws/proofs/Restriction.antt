-- A restriction of a matrix that is its own tight closure is so too: each step of the closure reads entries of the listed
-- variables alone, and leaves those of the whole matrix as they are.
use Rattle.std.proofs.Common.{◌≡◌, ℕ, ◌+◌, ◌*◌, ◌/◌, ◌%◌, ◌<◌, ◌≤◌, Bool, true, false, cond, eqb, List, length, get_or, Some, None, refl, sym, ap, ◌∙◌, subst, arith, zero, suc}
use Rattle.std.specs.Prelude.{pos}
use Rattle.std.proofs.lemmas.Bool.Decides.{Decides-eqb}
use Rattle.oct_def.specs.Bound.{evened, is_negative}
use Rattle.oct_def.specs.Table.{Matrix, at}
use Rattle.oct_def.specs.Matrix.{opposite, IsSquare, IsMatrix}
use Rattle.oct_def.specs.Tight.{path, long_path, pivot_entry, pair_entry, pair_step, pair_steps, closure, negative_cycle, has_negative_cycle, even_entry, evening, crossing, has_crossing, strong_entry, strengthening, tight_even, tight_closed, tight}
use Rattle.oct_def.proofs.Tables.{length-table, at-table, square-table, same-matrices}
use Rattle.oct_def.proofs.Indices.{opposite_below, some_index-none, some_index-each}
use Rattle.oct_def.proofs.Closings.{even_entry-unary, even_entry-other}
use Rattle.tight_laws.specs.Restricted.{listed_dimension, restricted_entry, restricted}
use Rattle.tight_laws.specs.Laws.{RestrictionIsTight}
use Rattle.tight_laws.proofs.Below.{Below-same, Below-trans, Below-antisym}
use Rattle.tight_laws.proofs.Closing.{at-pair_step}
use Rattle.tight_laws.proofs.Strong.{at-evening, length-evening}
use Rattle.tight_laws.proofs.Results.{Answers, answers, answered}
use Rattle.tight_laws.proofs.Own.{own-steps, own-pair_step, even_entry-lower, strong_entry-lower}
use Rattle.tight_laws.proofs.Again.{own_table}

-- what each step finds in a matrix over n variables that is its own tight closure
record IsOwn (n : ℕ) (m : Matrix) : Type 0 where
  pub pairs : (w i j : ℕ) → w < n → i < 2 * n → j < 2 * n → pair_entry w m i j ≡ at m i j
  pub even : (i : ℕ) → i < 2 * n → evened (at m i (opposite i)) ≡ at m i (opposite i)
  pub uncrossed : (i : ℕ) → i < 2 * n → crossing m i ≡ false
  pub strong : (i j : ℕ) → i < 2 * n → j < 2 * n → strong_entry m i j ≡ at m i j

-- ---- a matrix that is its own tight closure

own-answers : (n : ℕ) (m : Matrix) → IsMatrix n m → tight m ≡ Some m → Answers m m
unfolding tight closure
own-answers n m h e =
    let rows = h.rows in
    let size : length m / 2 ≡ n = omega arith in
    subst (λ c. Answers c m) (own-steps n m h e n (omega arith)) (answered (pair_steps n m) m (subst (λ k. tight_closed (pair_steps k m) ≡ Some m) size e))

square-evening : (m : Matrix) → IsSquare (evening m)
unfolding evening
square-evening m = square-table (length m) (even_entry m)

at-strengthening : (m : Matrix) (i j : ℕ) → i < length m → j < length m → at (strengthening m) i j ≡ strong_entry m i j
unfolding strengthening
at-strengthening m i j p q = at-table (length m) (strong_entry m) i j p q

own-evening : (n : ℕ) (m : Matrix) → IsMatrix n m → m ≡ strengthening (evening m) → evening m ≡ m
own-evening n m h c =
    let rows = h.rows in
    let size = length-evening n m rows in
    same-matrices (evening m) m (square-evening m) h.square (size ∙ sym rows) (λ i j p q.
    let hi : i < 2 * n = omega arith in
    let hj : j < 2 * n = omega arith in
    Below-antisym
    (Below-trans (Below-same (at-evening n m rows i j hi hj)) (even_entry-lower m i j))
    (Below-trans (Below-same (ap (λ r. at r i j) c ∙ at-strengthening (evening m) i j p q)) (strong_entry-lower (evening m) i j)))

own : (n : ℕ) (m : Matrix) → IsMatrix n m → tight m ≡ Some m → IsOwn n m
unfolding pair_entry has_crossing
own n m h e = by (own-answers n m h e)
  where
    by : Answers m m → IsOwn n m
    by (answers a b c) =
        let rows = h.rows in
        let even : evening m ≡ m = own-evening n m h c in
        let strong : m ≡ strengthening m = c ∙ ap strengthening even in
        record {
          pairs = λ w i j hw hi hj. sym (at-pair_step (2 * n) w m rows i j hi hj) ∙ ap (λ t. at t i j) (own-pair_step n m h e w hw);
          even = λ i hi. sym (even_entry-unary m i (opposite i) refl) ∙ sym (at-evening n m rows i (opposite i) hi (opposite_below n i hi)) ∙ ap (λ t. at t i (opposite i)) even;
          uncrossed = λ i hi. some_index-each (length m) (crossing m) (ap has_crossing (sym even) ∙ b) i (omega arith);
          strong = λ i j hi hj. sym (at-strengthening m i j (omega arith) (omega arith)) ∙ ap (λ t. at t i j) (sym strong);
        }

-- ---- the other way

own-all_steps : (n : ℕ) (r : Matrix) → ((w : ℕ) → w < n → pair_step w r ≡ r) → (l : ℕ) → l ≤ n → pair_steps l r ≡ r
unfolding pair_steps
own-all_steps n r step zero h = refl
own-all_steps n r step (suc l) h = ap (pair_step l) (own-all_steps n r step l (omega arith)) ∙ step l (omega arith)

again-pair_step : (n : ℕ) (r : Matrix) → length r ≡ 2 * n → IsSquare r → IsOwn n r → (w : ℕ) → w < n → pair_step w r ≡ r
unfolding pair_step
again-pair_step n r rows sq h w hw = own_table r sq (pair_entry w r) (λ i j p q. h.pairs w i j hw (omega arith) (omega arith))

again-even_entry : (n : ℕ) (r : Matrix) → IsOwn n r → (i j : ℕ) → i < 2 * n → even_entry r i j ≡ at r i j
again-even_entry n r h i j hi = by (eqb j (opposite i)) refl
  where
    by : (b : Bool) → eqb j (opposite i) ≡ b → even_entry r i j ≡ at r i j
    by true f = let g = (Decides-eqb j (opposite i)).0 f in even_entry-unary r i j g ∙ subst (λ t. evened (at r i t) ≡ at r i t) (sym g) (h.even i hi)
    by false f = even_entry-other r i j (λ g. let k = (Decides-eqb j (opposite i)).1 g in cc)

again-evening : (n : ℕ) (r : Matrix) → length r ≡ 2 * n → IsSquare r → IsOwn n r → evening r ≡ r
unfolding evening
again-evening n r rows sq h = own_table r sq (even_entry r) (λ i j p q. again-even_entry n r h i j (omega arith))

again-strengthening : (n : ℕ) (r : Matrix) → length r ≡ 2 * n → IsSquare r → IsOwn n r → strengthening r ≡ r
unfolding strengthening
again-strengthening n r rows sq h = own_table r sq (strong_entry r) (λ i j p q. h.strong i j (omega arith) (omega arith))

again-no_cycle : (n : ℕ) (r : Matrix) → length r ≡ 2 * n → ((i : ℕ) → i < 2 * n → at r i i ≡ Some (pos 0)) → has_negative_cycle r ≡ false
unfolding has_negative_cycle negative_cycle
again-no_cycle n r rows zeros = some_index-none (length r) (negative_cycle r) (λ i p. ap is_negative (zeros i (omega arith)))

again-no_crossing : (n : ℕ) (r : Matrix) → length r ≡ 2 * n → IsOwn n r → has_crossing r ≡ false
unfolding has_crossing
again-no_crossing n r rows h = some_index-none (length r) (crossing r) (λ i p. h.uncrossed i (omega arith))

again-tight_even : (r : Matrix) → has_crossing r ≡ false → strengthening r ≡ r → tight_even r ≡ Some r
unfolding tight_even
again-tight_even r k s = ap (λ (b : Bool). cond b None (Some (strengthening r))) k ∙ ap Some s

again-tight_closed : (r : Matrix) → has_negative_cycle r ≡ false → evening r ≡ r → tight_even r ≡ Some r → tight_closed r ≡ Some r
unfolding tight_closed
again-tight_closed r k e s = ap (λ (b : Bool). cond b None (tight_even (evening r))) k ∙ ap tight_even e ∙ s

own-again : (n : ℕ) (r : Matrix) → length r ≡ 2 * n → IsSquare r → ((i : ℕ) → i < 2 * n → at r i i ≡ Some (pos 0)) → IsOwn n r → tight r ≡ Some r
unfolding tight closure
own-again n r rows sq zeros h =
    ap tight_closed (own-all_steps n r (again-pair_step n r rows sq h) (length r / 2) (omega arith))
    ∙ again-tight_closed r (again-no_cycle n r rows zeros) (again-evening n r rows sq h)
    (again-tight_even r (again-no_crossing n r rows h) (again-strengthening n r rows sq h))

-- ---- the listed variables

half_even : (w : ℕ) → (2 * w) / 2 ≡ w
half_even w = omega arith

half_odd : (w : ℕ) → (2 * w + 1) / 2 ≡ w
half_odd w = omega arith

half_opposite : (i : ℕ) → opposite i / 2 ≡ i / 2
half_opposite i = omega arith

listed-even : (vs : List ℕ) (w : ℕ) → listed_dimension vs (2 * w) ≡ 2 * get_or vs w 0
unfolding listed_dimension
listed-even vs w = rw (half_even w) (omega arith)

listed-odd : (vs : List ℕ) (w : ℕ) → listed_dimension vs (2 * w + 1) ≡ 2 * get_or vs w 0 + 1
unfolding listed_dimension
listed-odd vs w = rw (half_odd w) (omega arith)

turned : (x i : ℕ) → 2 * x + opposite i % 2 ≡ opposite (2 * x + i % 2)
turned x i = omega arith

listed-opposite : (vs : List ℕ) (i : ℕ) → listed_dimension vs (opposite i) ≡ opposite (listed_dimension vs i)
unfolding listed_dimension
listed-opposite vs i = ap (λ t. 2 * get_or vs t 0 + opposite i % 2) (half_opposite i) ∙ turned (get_or vs (i / 2) 0) i

listed-below : (n : ℕ) (vs : List ℕ) → ((k : ℕ) → k < length vs → get_or vs k 0 < n) → (i : ℕ) → i < 2 * length vs → listed_dimension vs i < 2 * n
unfolding listed_dimension
listed-below n vs h i hi = let b = h (i / 2) (omega arith) in omega (arith, b)

length-restricted : (vs : List ℕ) (m : Matrix) → length (restricted vs m) ≡ 2 * length vs
unfolding restricted
length-restricted vs m = length-table (2 * length vs) (restricted_entry vs m)

square-restricted : (vs : List ℕ) (m : Matrix) → IsSquare (restricted vs m)
unfolding restricted
square-restricted vs m = square-table (2 * length vs) (restricted_entry vs m)

at-restricted : (vs : List ℕ) (m : Matrix) (i j : ℕ) → i < 2 * length vs → j < 2 * length vs → at (restricted vs m) i j ≡ at m (listed_dimension vs i) (listed_dimension vs j)
unfolding restricted restricted_entry
at-restricted vs m i j hi hj = at-table (2 * length vs) (restricted_entry vs m) i j hi hj

-- equal entries take the same step
same_pivot : (a b : Matrix) (p q i j s t x y : ℕ) → at a i j ≡ at b x y → at a i p ≡ at b x s → at a p j ≡ at b s y → at a i q ≡ at b x t → at a q j ≡ at b t y
    → at a p q ≡ at b s t → at a q p ≡ at b t s → pivot_entry p q a i j ≡ pivot_entry s t b x y
unfolding pivot_entry path long_path
same_pivot a b p q i j s t x y e1 e2 e3 e4 e5 e6 e7 = rw (e1, e2, e3, e4, e5, e6, e7) refl

same_crossing : (a b : Matrix) (i x : ℕ) → at a i (opposite i) ≡ at b x (opposite x) → at a (opposite i) i ≡ at b (opposite x) x → crossing a i ≡ crossing b x
unfolding crossing
same_crossing a b i x e f = rw (e, f) refl

same_strong : (a b : Matrix) (i j x y : ℕ) → at a i j ≡ at b x y → at a i (opposite i) ≡ at b x (opposite x) → at a (opposite j) j ≡ at b (opposite y) y → strong_entry a i j ≡ strong_entry b x y
unfolding strong_entry
same_strong a b i j x y e f g = rw (e, f, g) refl

own-restricted : (n : ℕ) (vs : List ℕ) (m : Matrix) → ((k : ℕ) → k < length vs → get_or vs k 0 < n) → IsOwn n m → IsOwn (length vs) (restricted vs m)
unfolding pair_entry
own-restricted n vs m inside h = record {
  pairs = λ w i j hw hi hj.
      let hp : 2 * w < 2 * length vs = omega arith in
      let hq : 2 * w + 1 < 2 * length vs = omega arith in
      same_pivot r m (2 * w) (2 * w + 1) i j (2 * get_or vs w 0) (2 * get_or vs w 0 + 1) (f i) (f j)
      (entry i j hi hj) (to_even i w hi hp) (from_even w j hp hj) (to_odd i w hi hq) (from_odd w j hq hj)
      (from_even w (2 * w + 1) hp hq ∙ ap (at m (2 * get_or vs w 0)) (listed-odd vs w))
      (from_odd w (2 * w) hq hp ∙ ap (at m (2 * get_or vs w 0 + 1)) (listed-even vs w))
      ∙ h.pairs (get_or vs w 0) (f i) (f j) (inside w hw) (below i hi) (below j hj) ∙ sym (entry i j hi hj);
  even = λ i hi. ap evened (unary i hi) ∙ h.even (f i) (below i hi) ∙ sym (unary i hi);
  uncrossed = λ i hi. same_crossing r m i (f i) (unary i hi) (unary_back i hi) ∙ h.uncrossed (f i) (below i hi);
  strong = λ i j hi hj. same_strong r m i j (f i) (f j) (entry i j hi hj) (unary i hi) (unary_back j hj) ∙ h.strong (f i) (f j) (below i hi) (below j hj) ∙ sym (entry i j hi hj);
}
  where
    r : Matrix
    r = restricted vs m

    f : ℕ → ℕ
    f = listed_dimension vs

    below : (i : ℕ) → i < 2 * length vs → f i < 2 * n
    below i hi = listed-below n vs inside i hi

    entry : (i j : ℕ) → i < 2 * length vs → j < 2 * length vs → at r i j ≡ at m (f i) (f j)
    entry i j hi hj = at-restricted vs m i j hi hj

    to_even : (i w : ℕ) → i < 2 * length vs → 2 * w < 2 * length vs → at r i (2 * w) ≡ at m (f i) (2 * get_or vs w 0)
    to_even i w hi hp = entry i (2 * w) hi hp ∙ ap (at m (f i)) (listed-even vs w)

    from_even : (w j : ℕ) → 2 * w < 2 * length vs → j < 2 * length vs → at r (2 * w) j ≡ at m (2 * get_or vs w 0) (f j)
    from_even w j hp hj = entry (2 * w) j hp hj ∙ ap (λ t. at m t (f j)) (listed-even vs w)

    to_odd : (i w : ℕ) → i < 2 * length vs → 2 * w + 1 < 2 * length vs → at r i (2 * w + 1) ≡ at m (f i) (2 * get_or vs w 0 + 1)
    to_odd i w hi hq = entry i (2 * w + 1) hi hq ∙ ap (at m (f i)) (listed-odd vs w)

    from_odd : (w j : ℕ) → 2 * w + 1 < 2 * length vs → j < 2 * length vs → at r (2 * w + 1) j ≡ at m (2 * get_or vs w 0 + 1) (f j)
    from_odd w j hq hj = entry (2 * w + 1) j hq hj ∙ ap (λ t. at m t (f j)) (listed-odd vs w)

    unary : (i : ℕ) → i < 2 * length vs → at r i (opposite i) ≡ at m (f i) (opposite (f i))
    unary i hi = entry i (opposite i) hi (opposite_below (length vs) i hi) ∙ ap (at m (f i)) (listed-opposite vs i)

    unary_back : (i : ℕ) → i < 2 * length vs → at r (opposite i) i ≡ at m (opposite (f i)) (f i)
    unary_back i hi = entry (opposite i) i (opposite_below (length vs) i hi) hi ∙ ap (λ t. at m t (f i)) (listed-opposite vs i)

pub restriction_is_tight : RestrictionIsTight
restriction_is_tight n vs m h inside e =
    own-again (length vs) (restricted vs m) (length-restricted vs m) (square-restricted vs m)
    (λ i hi. at-restricted vs m i i hi hi ∙ h.diagonal (listed_dimension vs i) (let rows = h.rows in let b = listed-below n vs inside i hi in omega (arith, b)))
    (own-restricted n vs m inside (own n m h e))
