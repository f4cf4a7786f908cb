-- The closure of small entries without a negative cycle is closed. It is told for any list of variables as pivots: after
-- the steps at k variables each finite entry is at most (2k + 1) * b in size, so with (2k + 1) * b within the limit every
-- step is two unclamped relaxations, and what these keep holds of the matrix.
use Rattle.std.proofs.Common.{◌≡◌, ℕ, ◌+◌, ◌*◌, ◌/◌, ◌<◌, ◌≤◌, ◌⊎◌, inl, inr, true, List, [], ◌∷◌, length, Some, refl, sym, ap, ◌∙◌, subst, arith, zero, suc}
use Rattle.std.specs.Prelude.{pos}
use Rattle.std.proofs.Math.Nat.{mul-le-mul_right}
use Rattle.oct_def.specs.Bound.{Within, InRange}
use Rattle.oct_def.specs.Table.{Matrix, at}
use Rattle.oct_def.specs.Matrix.{IsSquare}
use Rattle.oct_def.specs.Tight.{pivot_entry, pair_entry, pair_step, pair_steps}
use Rattle.oct_def.proofs.Tables.{at-table}
use Rattle.oct_def.proofs.Sound.{length-pair_step, square-pair_step}
use Rattle.tight_laws.proofs.Below.{Below, Below-same, Below-trans, Below-plus, Below-within, within-Below, Below-test, test-Below, Sized, Sized-more}
use Rattle.tight_laws.proofs.Clamps.{in_range-Sized}
use Rattle.tight_laws.proofs.Weights.{In, weigh, weigh-more, weigh-most}
use Rattle.tight_laws.proofs.Relax.{Entries, relax, on_path, Closed, NoLoss, closed-relax}
use Rattle.tight_laws.proofs.Pairs.{relax_both, KeepsDiagonal, pivot-old, no_loss-first, no_loss-second, pivot-relaxed}

pub record Same (size : ℕ) (f g : Entries) : Type 0 where
  pub same : (i j : ℕ) → i < size → j < size → f i j ≡ g i j

on_path-same : (size : ℕ) (f g : Entries) → Same size f g → (i j v : ℕ) → i < size → j < size → v < size → on_path g i j v ≡ true → on_path f i j v ≡ true
unfolding on_path
on_path-same size f g s i j v hi hj hv e =
    test-Below (Below-trans (Below-plus (Below-same (s.same i v hi hv)) (Below-same (s.same v j hv hj))) (Below-trans (Below-test e) (Below-same (sym (s.same i j hi hj)))))

closed-same : (size b : ℕ) (vs : List ℕ) (f g : Entries) → Same size f g → Closed size b vs g → Closed size b vs f
closed-same size b vs f g s c = record {
  inside = c.inside;
  zeros = λ i hi. s.same i i hi hi ∙ c.zeros i hi;
  closed = λ v i j hv hi hj.
      let inside : v < size = c.inside v hv in
      Below-trans (Below-same (s.same i j hi hj)) (Below-trans (c.closed v i j hv hi hj) (Below-plus (Below-same (sym (s.same i v hi inside))) (Below-same (sym (s.same v j inside hj)))));
  small = λ i j hi hj.
      let more = weigh-more b (on_path g i j) (on_path f i j) vs (λ v hv e. on_path-same size f g s i j v hi hj (c.inside v hv) e) in
      subst (Sized (b + weigh b (on_path f i j) vs)) (sym (s.same i j hi hj)) (Sized-more (omega arith) (c.small i j hi hj));
}

-- entries of a closed matrix are between the limits
pub closed-in_range : (size b : ℕ) (vs : List ℕ) (f : Entries) → b + length vs * b ≤ 2305843009213693952 → Closed size b vs f → (i j : ℕ) → i < size → j < size → InRange (f i j)
closed-in_range size b vs f fits c i j hi hj =
    let most = weigh-most b (on_path f i j) vs in
    in_range-Sized (omega arith) (c.small i j hi hj)

closed-both : (size b p q : ℕ) (vs : List ℕ) (f : Entries) → p < size → q < size → Closed size b vs f → NoLoss size p f → NoLoss size q (relax p f) → Closed size b (q ∷ p ∷ vs) (relax_both p q f)
unfolding relax_both
closed-both size b p q vs f hp hq c n o = closed-relax size b (p ∷ vs) q (relax p f) (closed-relax size b vs p f c n hp) o hq

pub at-pair_step : (size k : ℕ) (m : Matrix) → length m ≡ size → (i j : ℕ) → i < size → j < size → at (pair_step k m) i j ≡ pivot_entry (2 * k) (2 * k + 1) m i j
unfolding pair_step pair_entry
at-pair_step size k m e i j hi hj = at-table (length m) (pair_entry k m) i j (omega arith) (omega arith)

pub record FineDiagonal (size : ℕ) (m : Matrix) : Type 0 where
  pub fine : (i : ℕ) → i < size → Within (pos 0) (at m i i)

-- the pivots of the steps at some variables, the last one first
abbrev pub dims : List ℕ → List ℕ
dims [] = []
dims (w ∷ ws) = (2 * w + 1) ∷ (2 * w) ∷ dims ws

pub length-dims : (ws : List ℕ) → length (dims ws) ≡ 2 * length ws
length-dims [] = refl
length-dims (w ∷ ws) = let e = length-dims ws in omega arith

shorter : (w : ℕ) (ws : List ℕ) → 2 * length ws ≤ 2 * length (w ∷ ws)
shorter w ws = omega arith

-- the pair steps at some variables, the last one first
unfoldable pub steps_at : List ℕ → Matrix → Matrix
steps_at [] m = m
steps_at (w ∷ ws) m = pair_step w (steps_at ws m)

closed-pair_step : (n b w : ℕ) (ws : List ℕ) (m : Matrix) → length m ≡ 2 * n → w < n → b + (2 * length (w ∷ ws)) * b ≤ 2305843009213693952 → Closed (2 * n) b (dims ws) (at m) → FineDiagonal (2 * n) (pair_step w m) → Closed (2 * n) b (dims (w ∷ ws)) (at (pair_step w m))
closed-pair_step n b w ws m e hw fits c h =
    let p = 2 * w in
    let q = 2 * w + 1 in
    let hp : p < 2 * n = omega arith in
    let hq : q < 2 * n = omega arith in
    let keeps : KeepsDiagonal (2 * n) p q m = record { loops = λ i hi. subst (Within (pos 0)) (at-pair_step (2 * n) w m e i i hi hi) (h.fine i hi) } in
    let both : Closed (2 * n) b (q ∷ p ∷ dims ws) (relax_both p q (at m)) = closed-both (2 * n) b p q (dims ws) (at m) hp hq c (no_loss-first (2 * n) p q m keeps) (no_loss-second (2 * n) p q m hp hq keeps) in
    let all : b + length (dims (w ∷ ws)) * b ≤ 2305843009213693952 = subst (λ t. b + t * b ≤ 2305843009213693952) (sym (length-dims (w ∷ ws))) fits in
    let less : length (dims ws) * b ≤ length (dims (w ∷ ws)) * b = mul-le-mul_right b (omega (arith, length-dims ws, length-dims (w ∷ ws))) in
    let same : Same (2 * n) (at (pair_step w m)) (relax_both p q (at m)) = record {
      same = λ i j hi hj. at-pair_step (2 * n) w m e i j hi hj ∙ pivot-relaxed (2 * n) p q m hp hq keeps i j hi hj
          (closed-in_range (2 * n) b (dims ws) (at m) (omega arith) c i j hi hj)
          (closed-in_range (2 * n) b (q ∷ p ∷ dims ws) (relax_both p q (at m)) all both i j hi hj);
    } in
    closed-same (2 * n) b (q ∷ p ∷ dims ws) (at (pair_step w m)) (relax_both p q (at m)) same both

-- entries only fall
pub pair_step-lower : (size k : ℕ) (m : Matrix) → length m ≡ size → (i j : ℕ) → i < size → j < size → Below (at (pair_step k m) i j) (at m i j)
pair_step-lower size k m e i j hi hj = Below-trans (Below-same (at-pair_step size k m e i j hi hj)) (pivot-old (2 * k) (2 * k + 1) m i j)

closed-start : (size b : ℕ) (f : Entries) → ((i : ℕ) → i < size → f i i ≡ Some (pos 0)) → ((i j : ℕ) → i < size → j < size → Sized b (f i j)) → Closed size b [] f
closed-start size b f z s = record {
  inside = λ v m. absurd m;
  zeros = z;
  closed = λ v i j hv hi hj. absurd hv;
  small = λ i j hi hj. Sized-more (omega arith) (s i j hi hj);
}

pub length-steps_at : (ws : List ℕ) (m : Matrix) → length (steps_at ws m) ≡ length m
unfolding steps_at
length-steps_at [] m = refl
length-steps_at (w ∷ ws) m = length-pair_step w (steps_at ws m) ∙ length-steps_at ws m

pub square-steps_at : (ws : List ℕ) (m : Matrix) → IsSquare m → IsSquare (steps_at ws m)
unfolding steps_at
square-steps_at [] m sq = sq
square-steps_at (w ∷ ws) m sq = square-pair_step w (steps_at ws m)

earlier_fine : (n : ℕ) (w : ℕ) (m : Matrix) → length m ≡ 2 * n → FineDiagonal (2 * n) (pair_step w m) → FineDiagonal (2 * n) m
earlier_fine n w m e h = record { fine = λ i hi. within-Below (Below-trans (Below-within (h.fine i hi)) (pair_step-lower (2 * n) w m e i i hi hi)) }

pub closed-steps_at : (n b : ℕ) (m : Matrix) → length m ≡ 2 * n
    → ((i : ℕ) → i < 2 * n → at m i i ≡ Some (pos 0)) → ((i j : ℕ) → i < 2 * n → j < 2 * n → Sized b (at m i j))
    → (ws : List ℕ) → ((w : ℕ) → In w ws → w < n) → b + (2 * length ws) * b ≤ 2305843009213693952
    → FineDiagonal (2 * n) (steps_at ws m) → Closed (2 * n) b (dims ws) (at (steps_at ws m))
unfolding steps_at
closed-steps_at n b m e z s [] inside fits h = closed-start (2 * n) b (at m) z s
closed-steps_at n b m e z s (w ∷ ws) inside fits h =
    let rows : length (steps_at ws m) ≡ 2 * n = length-steps_at ws m ∙ e in
    let less : (2 * length ws) * b ≤ (2 * length (w ∷ ws)) * b = mul-le-mul_right b (shorter w ws) in
    closed-pair_step n b w ws (steps_at ws m) rows (inside w (inl refl)) fits
    (closed-steps_at n b m e z s ws (λ v k. inside v (inr k)) (omega arith) (earlier_fine n w (steps_at ws m) rows h)) h

-- the pair steps of the closure
abbrev pub down : ℕ → List ℕ
down zero = []
down (suc n) = n ∷ down n

pub steps_down : (n : ℕ) (m : Matrix) → steps_at (down n) m ≡ pair_steps n m
unfolding steps_at pair_steps
steps_down zero m = refl
steps_down (suc n) m = ap (pair_step n) (steps_down n m)

pub length-down : (n : ℕ) → length (down n) ≡ n
length-down zero = refl
length-down (suc n) = let e = length-down n in omega arith

pub down-inside : (n w : ℕ) → In w (down n) → w < n
down-inside zero w m = absurd m
down-inside (suc n) w (inl e) = omega arith
down-inside (suc n) w (inr m) = let h = down-inside n w m in omega arith

pub down-all : (n w : ℕ) → w < n → In w (down n)
down-all zero w h = absurd (omega arith)
down-all (suc n) w h = by (λ lt. down-all n w lt) (grind arith)
  where
    by : (w < n → In w (down n)) → (w ≡ n) ⊎ (w < n) → (w ≡ n) ⊎ In w (down n)
    by before (inl e) = inl e
    by before (inr lt) = inr (before lt)

-- both dimensions of each variable are pivots
pub dims-in : (ws : List ℕ) (v : ℕ) → In (v / 2) ws → In v (dims ws)
dims-in [] v m = absurd m
dims-in (w ∷ ws) v (inl e) = by (grind arith)
  where
    by : (v ≡ 2 * w + 1) ⊎ (v ≡ 2 * w) → (v ≡ 2 * w + 1) ⊎ ((v ≡ 2 * w) ⊎ In v (dims ws))
    by (inl f) = inl f
    by (inr f) = inr (inl f)
dims-in (w ∷ ws) v (inr m) = inr (inr (dims-in ws v m))
