-- One pass over a list that marks numbers.
use Rattle.std.proofs.Common.{◌≡◌, ℕ, suc, ◌+◌, ◌<◌, ◌≢◌, ◌⊎◌, inl, inr, Bool, true, false, ◌||◌, eqb, List, [], ◌∷◌, ◌++◌, length, get_or, set, map, refl, sym, ap, ◌∙◌, subst, arith}
use Rattle.std.specs.List.{list_any, range_with_len}
use Rattle.std.proofs.Math.ListN.{take, replicate}
use Rattle.std.proofs.Math.Seq.{take-suc}
use Rattle.std.proofs.lemmas.Bool.Decides.{eqb_tells}
use Rattle.std.proofs.lemmas.List.{length-replicate, get_or-replicate, get_or-set_same, get_or-set_other, length-set}
use Rattle.std.proofs.lemmas.List.Folds.{list_any-append}
use Rattle.std.proofs.lemmas.List.FromFn.{length-map-range_with_len, get_or-map-range_with_len, fill_by_all}

-- for each number below n, whether some item marks it
abbrev pub marks : {A : Type 0} → (ℕ → A → Bool) → ℕ → List A → List Bool
marks P n xs = map (λ x. list_any (P x) xs) (range_with_len 0 n)

pub marks_none : {A : Type 0} → (P : ℕ → A → Bool) (n : ℕ) → replicate n false ≡ marks P n []
marks_none P n = fill_by_all (λ x. list_any (P x) []) (replicate n false) n false (length-replicate n false) (λ i h. get_or-replicate n i false false h)

any_more : {A : Type 0} → (p : A → Bool) (xs : List A) (i : ℕ) (d : A) → i < length xs → list_any p (take (i + 1) xs) ≡ (list_any p (take i xs) || p (get_or xs i d))
any_more p xs i d lt =
    let more : take (i + 1) xs ≡ take i xs ++ (get_or xs i d ∷ []) = let e : i + 1 ≡ suc i = omega arith in ap (λ n. take n xs) e ∙ take-suc xs i d lt in
    ap (list_any p) more ∙ list_any-append p (take i xs) (get_or xs i d ∷ []) ∙ ap (λ b. list_any p (take i xs) || b) (last (p (get_or xs i d)))
  where
    last : (b : Bool) → (b || false) ≡ b
    last true = refl
    last false = refl

-- an item that marks the number k alone
pub marks_hit : {A : Type 0} → (P : ℕ → A → Bool) (n k : ℕ) (xs : List A) (i : ℕ) (d : A) (old new : List Bool) → i < length xs → k < n → ((x : ℕ) → P x (get_or xs i d) ≡ eqb k x) → old ≡ marks P n (take i xs) → new ≡ set old k true → new ≡ marks P n (take (i + 1) xs)
marks_hit P n k xs i d old new lt within only is now = fill_by_all (λ x. list_any (P x) (take (i + 1) xs)) new n false long each
  where
    old_long : length old ≡ n
    old_long = ap length is ∙ length-map-range_with_len (λ x. list_any (P x) (take i xs)) 0 n

    long : length new ≡ n
    long = ap length now ∙ length-set old k true ∙ old_long

    before : (x : ℕ) → x < n → get_or old x false ≡ list_any (P x) (take i xs)
    before x h = ap (λ l. get_or l x false) is ∙ get_or-map-range_with_len (λ y. list_any (P y) (take i xs)) 0 n x x false h (omega arith)

    after : (x : ℕ) → list_any (P x) (take (i + 1) xs) ≡ (list_any (P x) (take i xs) || eqb k x)
    after x = any_more (P x) xs i d lt ∙ ap (λ b. list_any (P x) (take i xs) || b) (only x)

    true_right : (b : Bool) → true ≡ (b || true)
    true_right true = refl
    true_right false = refl

    false_right : (b : Bool) → b ≡ (b || false)
    false_right true = refl
    false_right false = refl

    by : (x : ℕ) → x < n → ((eqb k x ≡ true) × (k ≡ x)) ⊎ ((eqb k x ≡ false) × (k ≢ x)) → get_or new x false ≡ (list_any (P x) (take i xs) || eqb k x)
    by x h (inl same) =
        ap (λ l. get_or l x false) now ∙ subst (λ y. get_or (set old k true) y false ≡ true) same.1 (get_or-set_same old k true false (omega (arith, old_long)))
        ∙ true_right (list_any (P x) (take i xs)) ∙ ap (λ b. list_any (P x) (take i xs) || b) (sym same.0)
    by x h (inr other) =
        ap (λ l. get_or l x false) now ∙ get_or-set_other old k x true false (λ e. other.1 (sym e)) ∙ before x h
        ∙ false_right (list_any (P x) (take i xs)) ∙ ap (λ b. list_any (P x) (take i xs) || b) (sym other.0)

    each : (x : ℕ) → x < n → get_or new x false ≡ list_any (P x) (take (i + 1) xs)
    each x h = by x h (eqb_tells k x) ∙ sym (after x)

-- an item that marks nothing
pub marks_miss : {A : Type 0} → (P : ℕ → A → Bool) (n : ℕ) (xs : List A) (i : ℕ) (d : A) (old : List Bool) → i < length xs → ((x : ℕ) → P x (get_or xs i d) ≡ false) → old ≡ marks P n (take i xs) → old ≡ marks P n (take (i + 1) xs)
marks_miss P n xs i d old lt none is = fill_by_all (λ x. list_any (P x) (take (i + 1) xs)) old n false long each
  where
    long : length old ≡ n
    long = ap length is ∙ length-map-range_with_len (λ x. list_any (P x) (take i xs)) 0 n

    false_right : (b : Bool) → b ≡ (b || false)
    false_right true = refl
    false_right false = refl

    each : (x : ℕ) → x < n → get_or old x false ≡ list_any (P x) (take (i + 1) xs)
    each x h =
        ap (λ l. get_or l x false) is ∙ get_or-map-range_with_len (λ y. list_any (P y) (take i xs)) 0 n x x false h (omega arith)
        ∙ false_right (list_any (P x) (take i xs)) ∙ ap (λ b. list_any (P x) (take i xs) || b) (sym (none x)) ∙ sym (any_more (P x) xs i d lt)
