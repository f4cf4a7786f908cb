-- Entering a callee is a renaming in which each input is its argument, and all else is new.
use Rattle.std.proofs.Common.{◌≡◌, ℕ, ◌*◌, ◌/◌, ◌<◌, ◌≤◌, ◌⊎◌, inl, inr, List, length, get_or, Option, Some, None, refl, sym, ap, ◌∙◌, subst, arith}
use Rattle.std.specs.Prelude.{pos}
use Rattle.std.specs.List.{All}
use Rattle.std.specs.Option.{option_map}
use Rattle.std.proofs.lemmas.List.{get_or_past}
use Rattle.oct_def.specs.Octagon.{Octagon}
use Rattle.dec_oct.specs.Value.{octagon_of}
use Rattle.std.proofs.lemmas.Bool.{cases_eq, cases_lt, cond-true, cond-false, eq-eqb, ne_eqb, lt-ltb, le-ltb}
use Rattle.oct_def.specs.Table.{Matrix, table, at}
use Rattle.oct_def.proofs.Tables.{table-same}
use Rattle.transfer_def.specs.Enter.{argument_dimension, input_entry, enter_entry, enter_matrix, enter_value}
use Rattle.dec_parts.specs.Rename.{origin, renamed_entry, renamed_matrix, renamed_value, AreOrigins}
use Rattle.dec_parts.proofs.Renaming.{dimension-old, dimension-new, renamed-same, renamed-old, renamed-new_row, renamed-new_column}
use Rattle.dec_calls.specs.Inputs.{argument_of, AreInputs}

enter-same : (args : List ℕ) (m : Matrix) (i j : ℕ) → i ≡ j → enter_entry args m i j ≡ Some (pos 0)
unfolding enter_entry
enter-same args m i j e = cond-true _ _ _ (eq-eqb i j e)

enter-inputs : (args : List ℕ) (m : Matrix) (i j : ℕ) → (i ≡ j → ⊥) → i < 2 * length args → j < 2 * length args → enter_entry args m i j ≡ at m (argument_dimension args i) (argument_dimension args j)
unfolding enter_entry input_entry
enter-inputs args m i j d p q = cond-false _ _ _ (ne_eqb i j d) ∙ rw (lt-ltb i (2 * length args) p, lt-ltb j (2 * length args) q) refl

enter-row : (args : List ℕ) (m : Matrix) (i j : ℕ) → (i ≡ j → ⊥) → 2 * length args ≤ i → enter_entry args m i j ≡ None
unfolding enter_entry input_entry
enter-row args m i j d p = cond-false _ _ _ (ne_eqb i j d) ∙ rw (le-ltb i (2 * length args) p) refl

enter-column : (args : List ℕ) (m : Matrix) (i j : ℕ) → (i ≡ j → ⊥) → i < 2 * length args → 2 * length args ≤ j → enter_entry args m i j ≡ None
unfolding enter_entry input_entry
enter-column args m i j d p q = cond-false _ _ _ (ne_eqb i j d) ∙ rw (lt-ltb i (2 * length args) p, le-ltb j (2 * length args) q) refl

pub entered-is : (n : ℕ) (args : List ℕ) (origins : List (Option ℕ)) (m : Matrix) → AreInputs args n origins → renamed_matrix origins m ≡ enter_matrix args n m
unfolding renamed_matrix enter_matrix argument_dimension argument_of
entered-is n args origins m h = ap (λ k. table (2 * k) (renamed_entry origins m)) h.size ∙ table-same (2 * n) _ _ (λ i j p q. by i j p q (cases_eq i j) (cases_lt i (2 * length args)) (cases_lt j (2 * length args)))
  where
    old : (i : ℕ) → i < 2 * n → i < 2 * length args → origin origins (i / 2) ≡ Some (get_or args (i / 2) 0)
    old i p q = h.each (i / 2) (omega arith) ∙ cond-true _ _ _ (lt-ltb (i / 2) (length args) (omega arith))

    new : (i : ℕ) → i < 2 * n → 2 * length args ≤ i → origin origins (i / 2) ≡ None
    new i p q = h.each (i / 2) (omega arith) ∙ cond-false _ _ _ (le-ltb (i / 2) (length args) (omega arith))

    by : (i j : ℕ) → i < 2 * n → j < 2 * n → (i ≡ j) ⊎ (i ≡ j → ⊥) → (i < 2 * length args) ⊎ (2 * length args ≤ i) → (j < 2 * length args) ⊎ (2 * length args ≤ j) → renamed_entry origins m i j ≡ enter_entry args m i j
    by i j p q (inl e) _ _ = renamed-same origins m i j e ∙ sym (enter-same args m i j e)
    by i j p q (inr d) (inr r) _ = renamed-new_row origins m i j d (dimension-new origins i (new i p r)) ∙ sym (enter-row args m i j d r)
    by i j p q (inr d) (inl r) (inr s) = renamed-new_column origins m i j d (dimension-new origins j (new j q s)) ∙ sym (enter-column args m i j d r s)
    by i j p q (inr d) (inl r) (inl s) = renamed-old origins m i j _ _ d (dimension-old origins i _ (old i p r)) (dimension-old origins j _ (old j q s)) ∙ sym (enter-inputs args m i j d r s)

-- the value at the entry, Bottom too
pub entered-value : (n : ℕ) (args : List ℕ) (origins : List (Option ℕ)) (v : Octagon) → AreInputs args n origins → renamed_value origins v ≡ enter_value v args n
unfolding renamed_value enter_value
entered-value n args origins v h = ap (λ k. octagon_of k (option_map (renamed_matrix origins) v.matrix)) h.size ∙ ap (octagon_of n) (by v.matrix)
  where
    by : (m : Option Matrix) → option_map (renamed_matrix origins) m ≡ option_map (enter_matrix args n) m
    by None = refl
    by (Some m) = ap Some (entered-is n args origins m h)

-- each argument is a variable of the caller
pub inputs-origins : (n dims : ℕ) (args : List ℕ) (origins : List (Option ℕ)) → AreInputs args dims origins → All (λ x. x < n) args → AreOrigins n origins
unfolding argument_of
inputs-origins n dims args origins h all v u e = by (cases_lt v dims) (cases_lt v (length args))
  where
    by : (v < dims) ⊎ (dims ≤ v) → (v < length args) ⊎ (length args ≤ v) → u < n
    by (inr past) _ = let f = get_or_past origins v None (omega (arith, h.size)) in absurd (cc)
    by (inl p) (inl q) =
        let f = sym (cond-true _ _ _ (lt-ltb v (length args) q)) ∙ sym (h.each v p) ∙ e in
        let g : get_or args v 0 ≡ u = cc in
        subst (λ t. t < n) g (all v 0 q)
    by (inl p) (inr q) = let f = sym (cond-false _ _ _ (le-ltb v (length args) q)) ∙ sym (h.each v p) ∙ e in absurd (cc)
