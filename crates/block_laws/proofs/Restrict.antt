-- The part of a matrix over a block, and each step of the tight closure there.
use Rattle.std.proofs.Common.{◌≡◌, ℕ, ◌+◌, ◌*◌, ◌/◌, ◌<◌, ◌≤◌, ◌⊎◌, inl, inr, Bool, true, false, cond, eqb, List, length, None, refl, sym, ap, ◌∙◌, subst, arith, zero, suc}
use Rattle.std.proofs.lemmas.Bool.{cases_lt, cases_eq}
use Rattle.std.proofs.lemmas.Bool.Decides.{Decides-eqb, same_from_decides}
use Rattle.oct_def.specs.Bound.{Bound, plus, clamped, evened, is_negative}
use Rattle.oct_def.specs.Table.{Matrix, table, at}
use Rattle.oct_def.specs.Matrix.{opposite}
use Rattle.oct_def.specs.Tight.{path, long_path, least_of_five, pivot_entry, pair_entry, pair_step, pair_steps, closure, negative_cycle, has_negative_cycle, even_entry, evening, crossing, has_crossing, strong_entry, strengthening}
use Rattle.oct_def.proofs.Tables.{length-table, at-table, table-same}
use Rattle.oct_def.proofs.Orders.{plus_none, least_none}
use Rattle.oct_def.proofs.Indices.{opposite_below, some_index-none, some_index-each}
use Rattle.oct_def.proofs.Sound.{length-pair_steps}
use Rattle.block_partition.specs.Partition.{member, place, IsIn, IsBlock}
use Rattle.block_laws.specs.Assembly.{outer, inner, restrict_entry, restrict, IsCutOff}
use Rattle.block_partition.proofs.Places.{member-place, in-member}
use Rattle.block_laws.proofs.Places.{outer-even, outer-odd, outer-opposite, outer_below, outer_in, inner_below, outer-inner, inner-outer}

pub length-restrict : (vs : List ℕ) (m : Matrix) → length (restrict vs m) ≡ 2 * length vs
unfolding restrict
length-restrict vs m = length-table (2 * length vs) (restrict_entry vs m)

pub at-restrict : (vs : List ℕ) (m : Matrix) (i j : ℕ) → i < 2 * length vs → j < 2 * length vs → at (restrict vs m) i j ≡ at m (outer vs i) (outer vs j)
unfolding restrict restrict_entry
at-restrict vs m i j p q = at-table (2 * length vs) (restrict_entry vs m) i j p q

-- the part of a table over a block is the table that a function with the same entries gives
pub restrict-is : (n : ℕ) (vs : List ℕ) (f : ℕ → ℕ → Bound) (g : ℕ → ℕ → Bound) (k : ℕ) → IsBlock n vs → k ≡ 2 * length vs → ((i j : ℕ) → i < 2 * length vs → j < 2 * length vs → f (outer vs i) (outer vs j) ≡ g i j) → restrict vs (table (2 * n) f) ≡ table k g
unfolding restrict restrict_entry
restrict-is n vs f g k bl e same =
    table-same (2 * length vs) (restrict_entry vs (table (2 * n) f)) g
    (λ i j p q. at-table (2 * n) f (outer vs i) (outer vs j) (outer_below n vs i bl p) (outer_below n vs j bl q) ∙ same i j p q)
    ∙ ap (λ t. table t g) (sym e)

-- ---- the pair step at a variable of the block

path-restrict : (vs : List ℕ) (m : Matrix) (p i j : ℕ) → p < 2 * length vs → i < 2 * length vs → j < 2 * length vs → path (restrict vs m) p i j ≡ path m (outer vs p) (outer vs i) (outer vs j)
unfolding path
path-restrict vs m p i j hp hi hj = rw (at-restrict vs m i p hi hp, at-restrict vs m p j hp hj) refl

long_path-restrict : (vs : List ℕ) (m : Matrix) (p q i j : ℕ) → p < 2 * length vs → q < 2 * length vs → i < 2 * length vs → j < 2 * length vs → long_path (restrict vs m) p q i j ≡ long_path m (outer vs p) (outer vs q) (outer vs i) (outer vs j)
unfolding long_path
long_path-restrict vs m p q i j hp hq hi hj = rw (at-restrict vs m i p hi hp, at-restrict vs m p q hp hq, at-restrict vs m q j hq hj) refl

five_same : (a b c d e a' b' c' d' e' : Bound) → a ≡ a' → b ≡ b' → c ≡ c' → d ≡ d' → e ≡ e' → least_of_five a b c d e ≡ least_of_five a' b' c' d' e'
five_same a b c d e a' b' c' d' e' ea eb ec ed ee = rw (ea, eb, ec, ed, ee) refl

pivot_entry-restrict : (vs : List ℕ) (m : Matrix) (p q i j : ℕ) → p < 2 * length vs → q < 2 * length vs → i < 2 * length vs → j < 2 * length vs → pivot_entry p q (restrict vs m) i j ≡ pivot_entry (outer vs p) (outer vs q) m (outer vs i) (outer vs j)
unfolding pivot_entry
pivot_entry-restrict vs m p q i j hp hq hi hj =
    five_same _ _ _ _ _ _ _ _ _ _ (at-restrict vs m i j hi hj) (path-restrict vs m p i j hp hi hj) (path-restrict vs m q i j hq hi hj)
    (long_path-restrict vs m p q i j hp hq hi hj) (long_path-restrict vs m q p i j hq hp hi hj)

pub pair_entry-restrict : (vs : List ℕ) (m : Matrix) (c i j : ℕ) → c < length vs → i < 2 * length vs → j < 2 * length vs → pair_entry c (restrict vs m) i j ≡ pair_entry (member vs c) m (outer vs i) (outer vs j)
unfolding pair_entry
pair_entry-restrict vs m c i j hc hi hj =
    pivot_entry-restrict vs m (2 * c) (2 * c + 1) i j (omega arith) (omega arith) hi hj
    ∙ ap (λ p. pivot_entry p (outer vs (2 * c + 1)) m (outer vs i) (outer vs j)) (outer-even vs c)
    ∙ ap (λ q. pivot_entry (2 * member vs c) q m (outer vs i) (outer vs j)) (outer-odd vs c)

pub restrict-pair_step : (n : ℕ) (vs : List ℕ) (m : Matrix) (c : ℕ) → length m ≡ 2 * n → IsBlock n vs → c < length vs → restrict vs (pair_step (member vs c) m) ≡ pair_step c (restrict vs m)
unfolding pair_step
restrict-pair_step n vs m c e bl hc =
    ap (λ t. restrict vs (table t (pair_entry (member vs c) m))) e
    ∙ restrict-is n vs (pair_entry (member vs c) m) (pair_entry c (restrict vs m)) _ bl (length-restrict vs m)
    (λ i j p q. sym (pair_entry-restrict vs m c i j hc p q))

-- ---- the pair step at another variable

path-none_left : (m : Matrix) (p i j : ℕ) → at m i p ≡ None → path m p i j ≡ None
unfolding path
path-none_left m p i j e = ap (λ (a : Bound). clamped (plus a (at m p j))) e

path-none_right : (m : Matrix) (p i j : ℕ) → at m p j ≡ None → path m p i j ≡ None
unfolding path
path-none_right m p i j e = ap (λ (a : Bound). clamped (plus (at m i p) a)) e ∙ ap clamped (plus_none (at m i p))

long_path-none_left : (m : Matrix) (p q i j : ℕ) → at m i p ≡ None → long_path m p q i j ≡ None
unfolding long_path
long_path-none_left m p q i j e = ap (λ (a : Bound). clamped (plus (plus a (at m p q)) (at m q j))) e

long_path-none_right : (m : Matrix) (p q i j : ℕ) → at m q j ≡ None → long_path m p q i j ≡ None
unfolding long_path
long_path-none_right m p q i j e =
    ap (λ (a : Bound). clamped (plus (plus (at m i p) (at m p q)) a)) e ∙ ap clamped (plus_none (plus (at m i p) (at m p q)))

five-none : (a b c d e : Bound) → b ≡ None → c ≡ None → d ≡ None → e ≡ None → least_of_five a b c d e ≡ a
five-none a b c d e eb ec ed ee = five_same a b c d e a None None None None refl eb ec ed ee ∙ least_none a

-- an entry whose row or column has no bound at the pivots stays
pub pair_entry-still : (k : ℕ) (m : Matrix) (i j : ℕ) → ((at m i (2 * k) ≡ None) × (at m i (2 * k + 1) ≡ None)) ⊎ ((at m (2 * k) j ≡ None) × (at m (2 * k + 1) j ≡ None)) → pair_entry k m i j ≡ at m i j
unfolding pair_entry pivot_entry
pair_entry-still k m i j (inl (ep, eq)) =
    five-none (at m i j) _ _ _ _ (path-none_left m (2 * k) i j ep) (path-none_left m (2 * k + 1) i j eq)
    (long_path-none_left m (2 * k) (2 * k + 1) i j ep) (long_path-none_left m (2 * k + 1) (2 * k) i j eq)
pair_entry-still k m i j (inr (ep, eq)) =
    five-none (at m i j) _ _ _ _ (path-none_right m (2 * k) i j ep) (path-none_right m (2 * k + 1) i j eq)
    (long_path-none_right m (2 * k) (2 * k + 1) i j eq) (long_path-none_right m (2 * k + 1) (2 * k) i j ep)

-- the pivots of a variable in the block, or of one that isn't
pivots_in : (vs : List ℕ) (k : ℕ) → IsIn vs k → IsIn vs ((2 * k) / 2) × IsIn vs ((2 * k + 1) / 2)
pivots_in vs k h =
    let e : (2 * k) / 2 ≡ k = omega arith in
    let f : (2 * k + 1) / 2 ≡ k = omega arith in
    (rw e h, rw f h)

pivots_out : (vs : List ℕ) (k : ℕ) → (IsIn vs k → ⊥) → (IsIn vs ((2 * k) / 2) → ⊥) × (IsIn vs ((2 * k + 1) / 2) → ⊥)
pivots_out vs k h =
    let e : (2 * k) / 2 ≡ k = omega arith in
    let f : (2 * k + 1) / 2 ≡ k = omega arith in
    (rw e h, rw f h)

-- a variable is in a block or isn't
pub cases_in : (vs : List ℕ) (v : ℕ) → IsIn vs v ⊎ (IsIn vs v → ⊥)
cases_in vs v = by (cases_lt (place vs v) (length vs))
  where
    by : (place vs v < length vs) ⊎ (length vs ≤ place vs v) → IsIn vs v ⊎ (IsIn vs v → ⊥)
    by (inl p) = inl p
    by (inr p) = inr (λ h. omega arith)

-- entries between the block and other variables stay
pub pair_entry-out : (n k : ℕ) (vs : List ℕ) (m : Matrix) → length m ≡ 2 * n → k < n → IsCutOff vs m → (i j : ℕ) → i < length m → j < length m → IsIn vs (i / 2) → (IsIn vs (j / 2) → ⊥) → (pair_entry k m i j ≡ at m i j) × (pair_entry k m j i ≡ at m j i)
pair_entry-out n k vs m e hk cut i j p q hi hj = by (cases_in vs k)
  where
    by : IsIn vs k ⊎ (IsIn vs k → ⊥) → (pair_entry k m i j ≡ at m i j) × (pair_entry k m j i ≡ at m j i)
    by (inl h) =
        let r = pivots_in vs k h in (
          pair_entry-still k m i j (inr (cut.out (2 * k) j (omega arith) q (r.0) hj, cut.out (2 * k + 1) j (omega arith) q (r.1) hj)),
          pair_entry-still k m j i (inl (cut.back (2 * k) j (omega arith) q (r.0) hj, cut.back (2 * k + 1) j (omega arith) q (r.1) hj)),
        )
    by (inr h) =
        let r = pivots_out vs k h in (
          pair_entry-still k m i j (inl (cut.out i (2 * k) p (omega arith) hi (r.0), cut.out i (2 * k + 1) p (omega arith) hi (r.1))),
          pair_entry-still k m j i (inr (cut.back i (2 * k) p (omega arith) hi (r.0), cut.back i (2 * k + 1) p (omega arith) hi (r.1))),
        )

-- entries of the block stay at the step at a variable outside
pub pair_entry-in : (n k : ℕ) (vs : List ℕ) (m : Matrix) → length m ≡ 2 * n → k < n → IsCutOff vs m → (IsIn vs k → ⊥) → (i j : ℕ) → i < length m → IsIn vs (i / 2) → pair_entry k m i j ≡ at m i j
pair_entry-in n k vs m e hk cut h i j p hi =
    let r = pivots_out vs k h in
    pair_entry-still k m i j (inl (cut.out i (2 * k) p (omega arith) hi (r.0), cut.out i (2 * k + 1) p (omega arith) hi (r.1)))

pub cut_off-table : (n : ℕ) (vs : List ℕ) (f : ℕ → ℕ → Bound) → ((i j : ℕ) → i < n → j < n → IsIn vs (i / 2) → (IsIn vs (j / 2) → ⊥) → (f i j ≡ None) × (f j i ≡ None)) → IsCutOff vs (table n f)
cut_off-table n vs f none = record {
  out = λ i j p q hi hj.
      let pi : i < n = omega (arith, length-table n f) in
      let pj : j < n = omega (arith, length-table n f) in
      at-table n f i j pi pj ∙ (none i j pi pj hi hj).0;
  back = λ i j p q hi hj.
      let pi : i < n = omega (arith, length-table n f) in
      let pj : j < n = omega (arith, length-table n f) in
      at-table n f j i pj pi ∙ (none i j pi pj hi hj).1;
}

pub cut_off-pair_step : (n k : ℕ) (vs : List ℕ) (m : Matrix) → length m ≡ 2 * n → k < n → IsCutOff vs m → IsCutOff vs (pair_step k m)
unfolding pair_step
cut_off-pair_step n k vs m e hk cut = cut_off-table (length m) vs (pair_entry k m) (λ i j p q hi hj.
    let r = pair_entry-out n k vs m e hk cut i j p q hi hj in
    (r.0 ∙ cut.out i j p q hi hj, r.1 ∙ cut.back i j p q hi hj))

pub cut_off-pair_steps : (n k : ℕ) (vs : List ℕ) (m : Matrix) → length m ≡ 2 * n → k ≤ n → IsCutOff vs m → IsCutOff vs (pair_steps k m)
unfolding pair_steps
cut_off-pair_steps n zero vs m e hk cut = cut
cut_off-pair_steps n (suc k) vs m e hk cut =
    cut_off-pair_step n k vs (pair_steps k m) (length-pair_steps k m ∙ e) (omega arith) (cut_off-pair_steps n k vs m e (omega arith) cut)

pub restrict-pair_step_out : (n k : ℕ) (vs : List ℕ) (m : Matrix) → length m ≡ 2 * n → k < n → IsBlock n vs → IsCutOff vs m → (IsIn vs k → ⊥) → restrict vs (pair_step k m) ≡ restrict vs m
unfolding pair_step restrict restrict_entry
restrict-pair_step_out n k vs m e hk bl cut h =
    table-same (2 * length vs) _ _ (λ i j p q.
    let pi : outer vs i < length m = let b = outer_below n vs i bl p in omega arith in
    let pj : outer vs j < length m = let b = outer_below n vs j bl q in omega arith in
    at-table (length m) (pair_entry k m) (outer vs i) (outer vs j) pi pj
    ∙ pair_entry-in n k vs m e hk cut h (outer vs i) (outer vs j) pi (outer_in vs i p))

-- ---- all pair steps

-- the members of the block below k are the first c
pub record IsSplit (vs : List ℕ) (k c : ℕ) : Type 0 where
  pub low : (i : ℕ) → i < c → member vs i < k
  pub high : (i : ℕ) → c ≤ i → i < length vs → k ≤ member vs i
  pub within : c ≤ length vs

split-in : (n : ℕ) (vs : List ℕ) (k c : ℕ) → IsBlock n vs → IsSplit vs (suc k) c → IsIn vs k → (c ≡ suc (place vs k)) × IsSplit vs k (place vs k)
split-in n vs k c bl s h =
    let e = member-place vs k h in
    let above : (cc : c ≤ place vs k) → ⊥ = λ cc. let r = s.high (place vs k) cc h in omega arith in
    let below : (cc : suc (place vs k) < c) → ⊥ = λ cc.
    let w = s.within in
    let r = s.low (suc (place vs k)) cc in
    let t = bl.rising (place vs k) (suc (place vs k)) (omega arith) (omega arith) in omega arith in (
      grind (arith, above, below),
      record {
        low = λ i p. let t = bl.rising i (place vs k) p h in omega arith;
        high = λ i p q. by i q (cases_eq i (place vs k)) p;
        within = omega arith;
      },
    )
  where
    by : (i : ℕ) → i < length vs → (i ≡ place vs k) ⊎ (i ≡ place vs k → ⊥) → place vs k ≤ i → k ≤ member vs i
    by i q (inl f) p = let g : member vs i ≡ k = ap (member vs) f ∙ member-place vs k h in omega arith
    by i q (inr f) p =
        let lt : place vs k < i = grind (arith, f) in
        let t = bl.rising (place vs k) i lt q in
        let e = member-place vs k h in omega arith

split-out : (vs : List ℕ) (k c : ℕ) → IsSplit vs (suc k) c → (IsIn vs k → ⊥) → IsSplit vs k c
split-out vs k c s h = record {
  low = λ i p. let w = s.within in by i (omega arith) (s.low i p) (cases_eq (member vs i) k);
  high = λ i p q. let r = s.high i p q in omega arith;
  within = s.within;
}
  where
    by : (i : ℕ) → i < length vs → member vs i < suc k → (member vs i ≡ k) ⊎ (member vs i ≡ k → ⊥) → member vs i < k
    by i q r (inl f) = absurd (h (subst (IsIn vs) f (in-member vs i q)))
    by i q r (inr f) = grind (arith, f)

pub restrict-pair_steps : (n : ℕ) (vs : List ℕ) (m : Matrix) → length m ≡ 2 * n → IsBlock n vs → IsCutOff vs m → (k c : ℕ) → k ≤ n → IsSplit vs k c → restrict vs (pair_steps k m) ≡ pair_steps c (restrict vs m)
unfolding pair_steps
restrict-pair_steps n vs m e bl cut zero zero hk s = refl
restrict-pair_steps n vs m e bl cut zero (suc c) hk s = absurd (let r = s.low 0 (omega arith) in omega arith)
restrict-pair_steps n vs m e bl cut (suc k) c hk s =
    by (cases_in vs k) (λ d t. restrict-pair_steps n vs m e bl cut k d (omega arith) t)
  where
    rows : length (pair_steps k m) ≡ 2 * n
    rows = length-pair_steps k m ∙ e

    by : IsIn vs k ⊎ (IsIn vs k → ⊥) → ((d : ℕ) → IsSplit vs k d → restrict vs (pair_steps k m) ≡ pair_steps d (restrict vs m)) → restrict vs (pair_step k (pair_steps k m)) ≡ pair_steps c (restrict vs m)
    by (inl h) before =
        let r = split-in n vs k c bl s h in
        ap (λ v. restrict vs (pair_step v (pair_steps k m))) (sym (member-place vs k h))
        ∙ restrict-pair_step n vs (pair_steps k m) (place vs k) rows bl h
        ∙ ap (pair_step (place vs k)) (before (place vs k) r.1)
        ∙ ap (λ d. pair_steps d (restrict vs m)) (sym r.0)
    by (inr h) before =
        restrict-pair_step_out n k vs (pair_steps k m) rows (omega arith) bl (cut_off-pair_steps n k vs m e (omega arith) cut) h
        ∙ before c (split-out vs k c s h)

pub restrict-closure : (n : ℕ) (vs : List ℕ) (m : Matrix) → length m ≡ 2 * n → IsBlock n vs → IsCutOff vs m → restrict vs (closure m) ≡ closure (restrict vs m)
unfolding closure
restrict-closure n vs m e bl cut =
    let k : length m / 2 ≡ n = omega arith in
    let c : length (restrict vs m) / 2 ≡ length vs = omega (arith, length-restrict vs m) in
    ap (λ t. restrict vs (pair_steps t m)) k
    ∙ restrict-pair_steps n vs m e bl cut n (length vs) (omega arith) (record {
      low = λ i p. bl.below i p;
      high = λ i p q. absurd (omega arith);
      within = omega arith;
    })
    ∙ ap (λ t. pair_steps t (restrict vs m)) (sym c)

-- ---- evening and strengthening

outer_same : (n : ℕ) (vs : List ℕ) (i j : ℕ) → IsBlock n vs → i < 2 * length vs → j < 2 * length vs → outer vs i ≡ outer vs j → i ≡ j
outer_same n vs i j bl p q e = sym (inner-outer n vs i bl p) ∙ ap (inner vs) e ∙ inner-outer n vs j bl q

unary-restrict : (n : ℕ) (vs : List ℕ) (i j : ℕ) → IsBlock n vs → i < 2 * length vs → j < 2 * length vs → eqb j (opposite i) ≡ eqb (outer vs j) (opposite (outer vs i))
unary-restrict n vs i j bl p q =
    same_from_decides {P = j ≡ opposite i} _ _ (Decides-eqb j (opposite i)) (
      λ e. outer_same n vs j (opposite i) bl q (opposite_below (length vs) i p) ((Decides-eqb (outer vs j) (opposite (outer vs i))).0 e ∙ sym (outer-opposite vs i)),
      λ e. (Decides-eqb (outer vs j) (opposite (outer vs i))).1 (ap (outer vs) e ∙ outer-opposite vs i),
    )

even_entry-restrict : (n : ℕ) (vs : List ℕ) (m : Matrix) (i j : ℕ) → IsBlock n vs → i < 2 * length vs → j < 2 * length vs → even_entry (restrict vs m) i j ≡ even_entry m (outer vs i) (outer vs j)
unfolding even_entry
even_entry-restrict n vs m i j bl p q =
    ap (λ (b : Bool). cond b (evened (at (restrict vs m) i j)) (at (restrict vs m) i j)) (unary-restrict n vs i j bl p q)
    ∙ ap (λ (a : Bound). cond (eqb (outer vs j) (opposite (outer vs i))) (evened a) a) (at-restrict vs m i j p q)

pub restrict-evening : (n : ℕ) (vs : List ℕ) (m : Matrix) → length m ≡ 2 * n → IsBlock n vs → restrict vs (evening m) ≡ evening (restrict vs m)
unfolding evening
restrict-evening n vs m e bl =
    ap (λ t. restrict vs (table t (even_entry m))) e
    ∙ restrict-is n vs (even_entry m) (even_entry (restrict vs m)) _ bl (length-restrict vs m)
    (λ i j p q. sym (even_entry-restrict n vs m i j bl p q))

at-restrict_unary : (vs : List ℕ) (m : Matrix) (i : ℕ) → i < 2 * length vs → at (restrict vs m) i (opposite i) ≡ at m (outer vs i) (opposite (outer vs i))
at-restrict_unary vs m i p =
    at-restrict vs m i (opposite i) p (opposite_below (length vs) i p) ∙ ap (at m (outer vs i)) (outer-opposite vs i)

at-restrict_unary_back : (vs : List ℕ) (m : Matrix) (j : ℕ) → j < 2 * length vs → at (restrict vs m) (opposite j) j ≡ at m (opposite (outer vs j)) (outer vs j)
at-restrict_unary_back vs m j p =
    at-restrict vs m (opposite j) j (opposite_below (length vs) j p) p ∙ ap (λ t. at m t (outer vs j)) (outer-opposite vs j)

pub strong_entry-restrict : (vs : List ℕ) (m : Matrix) (i j : ℕ) → i < 2 * length vs → j < 2 * length vs → strong_entry (restrict vs m) i j ≡ strong_entry m (outer vs i) (outer vs j)
unfolding strong_entry
strong_entry-restrict vs m i j p q = rw (at-restrict vs m i j p q, at-restrict_unary vs m i p, at-restrict_unary_back vs m j q) refl

pub restrict-strengthening : (n : ℕ) (vs : List ℕ) (m : Matrix) → length m ≡ 2 * n → IsBlock n vs → restrict vs (strengthening m) ≡ strengthening (restrict vs m)
unfolding strengthening
restrict-strengthening n vs m e bl =
    ap (λ t. restrict vs (table t (strong_entry m))) e
    ∙ restrict-is n vs (strong_entry m) (strong_entry (restrict vs m)) _ bl (length-restrict vs m)
    (λ i j p q. sym (strong_entry-restrict vs m i j p q))

-- evening leaves a block cut off
pub cut_off-evening : (n : ℕ) (vs : List ℕ) (m : Matrix) → length m ≡ 2 * n → IsCutOff vs m → IsCutOff vs (evening m)
unfolding evening even_entry
cut_off-evening n vs m e cut = cut_off-table (length m) vs (even_entry m) (λ i j p q hi hj.
    (by (eqb j (opposite i)) (at m i j) (cut.out i j p q hi hj), by (eqb i (opposite j)) (at m j i) (cut.back i j p q hi hj)))
  where
    by : (b : Bool) (a : Bound) → a ≡ None → cond b (evened a) a ≡ None
    by true a f = ap evened f
    by false a f = f

-- ---- the two tests

pub loops-restrict : (n : ℕ) (vs : List ℕ) (m : Matrix) → length m ≡ 2 * n → IsBlock n vs → has_negative_cycle m ≡ false → has_negative_cycle (restrict vs m) ≡ false
unfolding has_negative_cycle negative_cycle
loops-restrict n vs m e bl h = some_index-none _ (negative_cycle (restrict vs m)) (λ i p.
    let q : i < 2 * length vs = omega (arith, length-restrict vs m) in
    let r : outer vs i < length m = let b = outer_below n vs i bl q in omega arith in
    ap is_negative (at-restrict vs m i i q q) ∙ some_index-each (length m) (negative_cycle m) h (outer vs i) r)

pub crossing-restrict : (n : ℕ) (vs : List ℕ) (m : Matrix) → length m ≡ 2 * n → IsBlock n vs → has_crossing m ≡ false → has_crossing (restrict vs m) ≡ false
unfolding has_crossing crossing
crossing-restrict n vs m e bl h = some_index-none _ (crossing (restrict vs m)) (λ i p.
    let q : i < 2 * length vs = omega (arith, length-restrict vs m) in
    let r : outer vs i < length m = let b = outer_below n vs i bl q in omega arith in
    ap (λ (a : Bound). is_negative (plus a (at (restrict vs m) (opposite i) i))) (at-restrict_unary vs m i q)
    ∙ ap (λ (a : Bound). is_negative (plus (at m (outer vs i) (opposite (outer vs i))) a)) (at-restrict_unary_back vs m i q)
    ∙ some_index-each (length m) (crossing m) h (outer vs i) r)

-- a test fails everywhere where it fails in a block of each variable
pub record IsClear (n v : ℕ) (m : Matrix) (test : Matrix → Bool) : Type 0 where
  pub home : List ℕ
  pub home_block : IsBlock n home
  pub home_in : IsIn home v
  pub clear : test (restrict home m) ≡ false

pub loops-clear : (n : ℕ) (m : Matrix) → length m ≡ 2 * n → ((v : ℕ) → v < n → IsClear n v m has_negative_cycle) → has_negative_cycle m ≡ false
unfolding has_negative_cycle negative_cycle
loops-clear n m e each = some_index-none (length m) (negative_cycle m) (λ i p. at_home i (each (i / 2) (omega arith)))
  where
    at_home : (i : ℕ) → IsClear n (i / 2) m has_negative_cycle → is_negative (at m i i) ≡ false
    at_home i h =
        let q = inner_below h.home i h.home_in in
        let f = some_index-each _ (negative_cycle (restrict h.home m)) h.clear (inner h.home i) (omega (arith, length-restrict h.home m)) in
        let g : at m i i ≡ at (restrict h.home m) (inner h.home i) (inner h.home i) =
        sym (at-restrict h.home m _ _ q q ∙ ap (λ t. at m t t) (outer-inner h.home i h.home_in)) in
        ap is_negative g ∙ f

pub crossing-clear : (n : ℕ) (m : Matrix) → length m ≡ 2 * n → ((v : ℕ) → v < n → IsClear n v m has_crossing) → has_crossing m ≡ false
unfolding has_crossing crossing
crossing-clear n m e each = some_index-none (length m) (crossing m) (λ i p. at_home i (each (i / 2) (omega arith)))
  where
    at_home : (i : ℕ) → IsClear n (i / 2) m has_crossing → is_negative (plus (at m i (opposite i)) (at m (opposite i) i)) ≡ false
    at_home i h =
        let q = inner_below h.home i h.home_in in
        let f = some_index-each _ (crossing (restrict h.home m)) h.clear (inner h.home i) (omega (arith, length-restrict h.home m)) in
        let back = outer-inner h.home i h.home_in in
        let g : at (restrict h.home m) (inner h.home i) (opposite (inner h.home i)) ≡ at m i (opposite i) =
        at-restrict_unary h.home m _ q ∙ ap (λ t. at m t (opposite t)) back in
        let k : at (restrict h.home m) (opposite (inner h.home i)) (inner h.home i) ≡ at m (opposite i) i =
        at-restrict_unary_back h.home m _ q ∙ ap (λ t. at m (opposite t) t) back in
        ap (λ (a : Bound). is_negative (plus a (at m (opposite i) i))) (sym g)
        ∙ ap (λ (a : Bound). is_negative (plus (at (restrict h.home m) (inner h.home i) (opposite (inner h.home i))) a)) (sym k) ∙ f
