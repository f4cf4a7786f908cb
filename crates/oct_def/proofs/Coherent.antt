-- Each step of the tight closure keeps a matrix coherent.
use Rattle.std.proofs.Common.{◌≡◌, ℕ, ◌+◌, ◌*◌, ◌<◌, ◌≤◌, Bool, cond, eqb, length, refl, sym, ap, ◌∙◌, subst, arith, zero, suc}
use Rattle.std.proofs.lemmas.Bool.Decides.{Decides-eqb, same_from_decides}
use Rattle.oct_def.specs.Bound.{Bound, plus, clamped, least, half, evened}
use Rattle.oct_def.specs.Table.{Matrix, table, at}
use Rattle.oct_def.specs.Matrix.{opposite, IsCoherent}
use Rattle.oct_def.specs.Tight.{path, long_path, least_of_five, pivot_entry, pair_entry, pair_step, pair_steps, even_entry, evening, strong_entry, strengthening}
use Rattle.oct_def.proofs.Tables.{length-table, at-table}
use Rattle.oct_def.proofs.Orders.{plus_comm, plus_assoc, least_swap}
use Rattle.oct_def.proofs.Indices.{opposite_below, opposite-even, opposite-odd, opposite_twice, opposite_turned}
use Rattle.oct_def.proofs.Sound.{length-pair_steps}

-- a table of a function that is the same at each entry and its twin is coherent
pub coherent-table : (n : ℕ) (f : ℕ → ℕ → Bound) → ((i j : ℕ) → i < 2 * n → j < 2 * n → f i j ≡ f (opposite j) (opposite i)) → IsCoherent (table (2 * n) f)
coherent-table n f same = record {
  twins = λ i j p q.
      let pi : i < 2 * n = omega (arith, length-table (2 * n) f) in
      let pj : j < 2 * n = omega (arith, length-table (2 * n) f) in
      at-table (2 * n) f i j pi pj ∙ same i j pi pj ∙ sym (at-table (2 * n) f (opposite j) (opposite i) (opposite_below n j pj) (opposite_below n i pi));
}

-- the twin of an entry, in a coherent matrix over n variables
pub twin : (n : ℕ) (m : Matrix) → length m ≡ 2 * n → IsCoherent m → (i j : ℕ) → i < 2 * n → j < 2 * n → at m i j ≡ at m (opposite j) (opposite i)
twin n m e co i j p q = co.twins i j (omega arith) (omega arith)

-- ---- the pair step

-- a path over a dimension is the twin's path over the opposite one
path-twin : (n : ℕ) (m : Matrix) → length m ≡ 2 * n → IsCoherent m → (p i j : ℕ) → p < 2 * n → i < 2 * n → j < 2 * n → path m p i j ≡ path m (opposite p) (opposite j) (opposite i)
unfolding path
path-twin n m e co p i j hp hi hj =
    let first = twin n m e co i p hi hp in
    let second = twin n m e co p j hp hj in
    ap clamped (ap (λ a. plus a (at m p j)) first ∙ ap (plus (at m (opposite p) (opposite i))) second ∙ plus_comm (at m (opposite p) (opposite i)) (at m (opposite j) (opposite p)))

-- a path over two opposite dimensions is the twin's path over the same two
long_path-twin : (n : ℕ) (m : Matrix) → length m ≡ 2 * n → IsCoherent m → (p q i j : ℕ) → p < 2 * n → q ≡ opposite p → i < 2 * n → j < 2 * n → long_path m p q i j ≡ long_path m p q (opposite j) (opposite i)
unfolding long_path
long_path-twin n m e co p q i j hp hq hi hj =
    let back : opposite q ≡ p = opposite_turned p q hq in
    let q_in : q < 2 * n = omega arith in
    let first : at m i p ≡ at m q (opposite i) = twin n m e co i p hi hp ∙ ap (λ t. at m t (opposite i)) (sym hq) in
    let last : at m q j ≡ at m (opposite j) p = twin n m e co q j q_in hj ∙ ap (at m (opposite j)) back in
    ap clamped
    (ap (λ a. plus (plus a (at m p q)) (at m q j)) first ∙ ap (plus (plus (at m q (opposite i)) (at m p q))) last
    ∙ plus_comm (plus (at m q (opposite i)) (at m p q)) (at m (opposite j) p)
    ∙ ap (plus (at m (opposite j) p)) (plus_comm (at m q (opposite i)) (at m p q))
    ∙ sym (plus_assoc (at m (opposite j) p) (at m p q) (at m q (opposite i))))

five_swapped : (a b c d e a' b' c' d' e' : Bound) → a ≡ a' → b ≡ c' → c ≡ b' → d ≡ d' → e ≡ e' → least_of_five a b c d e ≡ least_of_five a' b' c' d' e'
five_swapped a b c d e a' b' c' d' e' ea eb ec ed ee =
    let same : least_of_five a b c d e ≡ least_of_five a' c' b' d' e' = rw (ea, eb, ec, ed, ee) refl in
    same ∙ ap (least a') (least_swap c' b' (least d' e'))

pub pair_entry-twin : (n : ℕ) (m : Matrix) → length m ≡ 2 * n → IsCoherent m → (k i j : ℕ) → k < n → i < 2 * n → j < 2 * n → pair_entry k m i j ≡ pair_entry k m (opposite j) (opposite i)
unfolding pair_entry pivot_entry
pair_entry-twin n m e co k i j hk hi hj =
    let p = 2 * k in
    let q = 2 * k + 1 in
    let p_in : p < 2 * n = omega arith in
    let q_in : q < 2 * n = omega arith in
    let over_p : path m p i j ≡ path m q (opposite j) (opposite i) = path-twin n m e co p i j p_in hi hj ∙ ap (λ t. path m t (opposite j) (opposite i)) (opposite-even k) in
    let over_q : path m q i j ≡ path m p (opposite j) (opposite i) = path-twin n m e co q i j q_in hi hj ∙ ap (λ t. path m t (opposite j) (opposite i)) (opposite-odd k) in
    five_swapped (at m i j) (path m p i j) (path m q i j) (long_path m p q i j) (long_path m q p i j) _ _ _ _ _
    (twin n m e co i j hi hj) over_p over_q
    (long_path-twin n m e co p q i j p_in (sym (opposite-even k)) hi hj)
    (long_path-twin n m e co q p i j q_in (sym (opposite-odd k)) hi hj)

pub coherent-pair_step : (n : ℕ) (m : Matrix) → length m ≡ 2 * n → IsCoherent m → (k : ℕ) → k < n → IsCoherent (pair_step k m)
unfolding pair_step
coherent-pair_step n m e co k hk =
    subst (λ t. IsCoherent (table t (pair_entry k m))) (sym e) (coherent-table n (pair_entry k m) (λ i j p q. pair_entry-twin n m e co k i j hk p q))

pub coherent-pair_steps : (n : ℕ) (m : Matrix) → length m ≡ 2 * n → IsCoherent m → (k : ℕ) → k ≤ n → IsCoherent (pair_steps k m)
unfolding pair_steps
coherent-pair_steps n m e co zero hk = co
coherent-pair_steps n m e co (suc k) hk =
    coherent-pair_step n (pair_steps k m) (length-pair_steps k m ∙ e) (coherent-pair_steps n m e co k (omega arith)) k (omega arith)

-- ---- evening and strengthening

unary-twin : (i j : ℕ) → eqb j (opposite i) ≡ eqb (opposite i) (opposite (opposite j))
unary-twin i j = rw opposite_twice (same_from_decides {P = j ≡ opposite i} _ _ (Decides-eqb j (opposite i)) (λ e. sym ((Decides-eqb (opposite i) j).0 e), λ e. (Decides-eqb (opposite i) j).1 (sym e)))

even_entry-twin : (n : ℕ) (m : Matrix) → length m ≡ 2 * n → IsCoherent m → (i j : ℕ) → i < 2 * n → j < 2 * n → even_entry m i j ≡ even_entry m (opposite j) (opposite i)
unfolding even_entry
even_entry-twin n m e co i j p q =
    ap (λ (b : Bool). cond b (evened (at m i j)) (at m i j)) (unary-twin i j)
    ∙ ap (λ (a : Bound). cond (eqb (opposite i) (opposite (opposite j))) (evened a) a) (twin n m e co i j p q)

pub coherent-evening : (n : ℕ) (m : Matrix) → length m ≡ 2 * n → IsCoherent m → IsCoherent (evening m)
unfolding evening
coherent-evening n m e co =
    subst (λ t. IsCoherent (table t (even_entry m))) (sym e) (coherent-table n (even_entry m) (λ i j p q. even_entry-twin n m e co i j p q))

strong_entry-twin : (n : ℕ) (m : Matrix) → length m ≡ 2 * n → IsCoherent m → (i j : ℕ) → i < 2 * n → j < 2 * n → strong_entry m i j ≡ strong_entry m (opposite j) (opposite i)
unfolding strong_entry
strong_entry-twin n m e co i j p q =
    let other : at m i (opposite i) ≡ at m (opposite (opposite i)) (opposite i) = ap (λ t. at m t (opposite i)) (sym (opposite_twice i)) in
    let this : at m (opposite j) j ≡ at m (opposite j) (opposite (opposite j)) = ap (at m (opposite j)) (sym (opposite_twice j)) in
    ap (λ a. least a (plus (half (at m i (opposite i))) (half (at m (opposite j) j)))) (twin n m e co i j p q)
    ∙ ap (least (at m (opposite j) (opposite i)))
    (plus_comm (half (at m i (opposite i))) (half (at m (opposite j) j))
    ∙ ap (λ a. plus (half a) (half (at m i (opposite i)))) this
    ∙ ap (λ a. plus (half (at m (opposite j) (opposite (opposite j)))) (half a)) other)

pub coherent-strengthening : (n : ℕ) (m : Matrix) → length m ≡ 2 * n → IsCoherent m → IsCoherent (strengthening m)
unfolding strengthening
coherent-strengthening n m e co =
    subst (λ t. IsCoherent (table t (strong_entry m))) (sym e) (coherent-table n (strong_entry m) (λ i j p q. strong_entry-twin n m e co i j p q))
