-- The entries at a callee's entry.
use Rattle.std.proofs.Common.{◌≡◌, ◌≢◌, ℕ, ◌*◌, ◌/◌, ◌<◌, ◌&&◌, true, false, cond, Some, None, List, length, sym, ap, ◌∙◌, arith, nat_lt, eq-eqb, ne_eqb}
use Rattle.std.specs.Prelude.{pos}
use Rattle.std.specs.List.{All}
use Rattle.oct_def.specs.Table.{Matrix, at}
use Rattle.transfer_def.specs.Enter.{argument_dimension, input_entry, enter_entry}

pub enter_entry-same : (args : List ℕ) (m : Matrix) (i j : ℕ) → i ≡ j → Some (pos 0) ≡ enter_entry args m i j
unfolding enter_entry
enter_entry-same args m i j e = ap (λ b. cond b (Some (pos 0)) (input_entry args m i j)) (sym (eq-eqb i j e))

apart : (args : List ℕ) (m : Matrix) (i j : ℕ) → i ≢ j → input_entry args m i j ≡ enter_entry args m i j
unfolding enter_entry
apart args m i j d = ap (λ b. cond b (Some (pos 0)) (input_entry args m i j)) (sym (ne_eqb i j d))

pub enter_entry-inputs : (args : List ℕ) (m : Matrix) (i j : ℕ) → i ≢ j → true ≡ (nat_lt i (2 * length args) && nat_lt j (2 * length args)) → at m (argument_dimension args i) (argument_dimension args j) ≡ enter_entry args m i j
unfolding input_entry
enter_entry-inputs args m i j d e = ap (λ b. cond b (at m (argument_dimension args i) (argument_dimension args j)) None) e ∙ apart args m i j d

pub enter_entry-none : (args : List ℕ) (m : Matrix) (i j : ℕ) → i ≢ j → false ≡ (nat_lt i (2 * length args) && nat_lt j (2 * length args)) → None ≡ enter_entry args m i j
unfolding input_entry
enter_entry-none args m i j d e = ap (λ b. cond b (at m (argument_dimension args i) (argument_dimension args j)) None) e ∙ apart args m i j d

pub argument_dimension-below : (n : ℕ) (args : List ℕ) (i : ℕ) → All (λ x. x < n) args → i < 2 * length args → argument_dimension args i < 2 * n
unfolding argument_dimension
argument_dimension-below n args i h p =
    let inside : i / 2 < length args = omega arith in
    let below = h (i / 2) 0 inside in
    omega (arith, below)
