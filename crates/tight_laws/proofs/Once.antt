-- One pass over the other variables suffices: the steps at them and then at v are all steps, in another order.
use Rattle.std.proofs.Common.{◌≡◌, ℕ, ◌/◌, ◌<◌, inl, inr, Bool, true, false, eqb, ◌∷◌, length, refl, sym, ap, ◌∙◌, subst, arith, suc}
use Rattle.std.proofs.lemmas.Bool.Decides.{Decides-eqb}
use Rattle.oct_def.specs.Table.{Matrix}
use Rattle.oct_def.specs.Tight.{pair_step, pair_steps, tight_closed, closure, tight}
use Rattle.oct_def.proofs.Values.{shape-matrix}
use Rattle.tight_laws.specs.Laws.{IsSmallMatrix}
use Rattle.tight_laws.specs.Quick.{near_steps, quick_once}
use Rattle.tight_laws.proofs.Weights.{In}
use Rattle.tight_laws.proofs.Closing.{steps_at, steps_down, down}
use Rattle.tight_laws.proofs.Order.{Order, any_order}
use Rattle.tight_laws.proofs.Near.{OthersClosed, Stepped, stepped, near-stepped, others, others-length, others-inside, others-all, order-down, not_eqb, steps_once}

order-once : (n v : ℕ) → v < n → Order n (v ∷ others v n)
order-once n v hv = record {
  inside = λ w m. elim m [ inl e ↦ subst (λ x. x < n) (sym e) hv | inr k ↦ others-inside v n w k ];
  all = λ w hw. by w hw (eqb w v) refl;
  few = let one = others-length v n in let more : length (v ∷ others v n) ≡ suc (length (others v n)) = refl in omega arith;
}
  where
    by : (w : ℕ) → w < n → (b : Bool) → eqb w v ≡ b → In w (v ∷ others v n)
    by w hw true e = inl ((Decides-eqb w v).0 e)
    by w hw false e = inr (others-all v n w hw (not_eqb w v e))

-- one pass suffices
pub once-closed : (n v : ℕ) (m : Matrix) → IsSmallMatrix n m → v < n → OthersClosed v m → quick_once v m ≡ tight m
unfolding quick_once tight closure
once-closed n v m h hv o =
    let rows = h.matrix.rows in
    let size : length m / 2 ≡ n = omega arith in
    ap (λ k. tight_closed (pair_step v (near_steps v k m))) size
    ∙ by (near-stepped n v n m (record { shape = shape-matrix n m h.matrix; others = o }) (omega arith))
    ∙ any_order n m h (v ∷ others v n) (down n) (order-once n v hv) (order-down n) ∙ ap tight_closed (steps_down n m) ∙ ap (λ k. tight_closed (pair_steps k m)) (sym size)
  where
    by : Stepped n v (others v n) m (near_steps v n m) → tight_closed (pair_step v (near_steps v n m)) ≡ tight_closed (steps_at (v ∷ others v n) m)
    by (stepped e g) = ap tight_closed (ap (pair_step v) e ∙ steps_once v (others v n) m)
