-- One more number in a walk over a range.
use Rattle.std.proofs.Common.{◌≡◌, ℕ, suc, zero, ◌+◌, ◌<◌, Bool, true, false, cond, List, [], ◌∷◌, ◌++◌, refl, sym, ap, ◌∙◌, arith}
use Rattle.std.specs.List.{filter, flat_map, count_by, range_with_len}
use Rattle.std.proofs.lemmas.List.{append_assoc}
use Rattle.std.proofs.lemmas.List.{map-id}
use Rattle.std.proofs.lemmas.List.Elements.{filter-append}
use Rattle.std.proofs.lemmas.List.Sums.{sum_by-append}
use Rattle.std.proofs.lemmas.List.FromFn.{map-range_with_len_more}
use Rattle.std.proofs.lemmas.Grind.{flat_map-append}

pub range_more : (n : ℕ) → range_with_len 0 (n + 1) ≡ range_with_len 0 n ++ n ∷ []
range_more n = sym (map-id (range_with_len 0 (n + 1))) ∙ map-range_with_len_more (λ k. k) 0 n n (omega arith) ∙ ap (λ l. l ++ n ∷ []) (map-id (range_with_len 0 n))

pub filter_more : (f : ℕ → Bool) (n : ℕ) → filter f (range_with_len 0 (n + 1)) ≡ filter f (range_with_len 0 n) ++ cond (f n) (n ∷ []) []
filter_more f n = ap (filter f) (range_more n) ∙ filter-append f (range_with_len 0 n) (n ∷ [])

no_more : {A : Type 0} → (xs : List A) → xs ++ [] ≡ xs
no_more [] = refl
no_more (x ∷ xs) = ap (λ l. x ∷ l) (no_more xs)

-- a number that is kept, and one that is left out
pub kept_more : (f : ℕ → Bool) (n : ℕ) (base old new : List ℕ) → old ≡ base ++ filter f (range_with_len 0 n) → f n ≡ true → new ≡ old ++ n ∷ [] → new ≡ base ++ filter f (range_with_len 0 (n + 1))
kept_more f n base old new is held now =
    now ∙ ap (λ l. l ++ n ∷ []) is ∙ append_assoc base (filter f (range_with_len 0 n)) (n ∷ [])
    ∙ ap (λ l. base ++ l) (ap (λ b. filter f (range_with_len 0 n) ++ cond b (n ∷ []) []) (sym held) ∙ sym (filter_more f n))

pub left_out : (f : ℕ → Bool) (n : ℕ) (base old : List ℕ) → old ≡ base ++ filter f (range_with_len 0 n) → f n ≡ false → old ≡ base ++ filter f (range_with_len 0 (n + 1))
left_out f n base old is none =
    is ∙ ap (λ l. base ++ l) (sym (no_more (filter f (range_with_len 0 n))) ∙ ap (λ b. filter f (range_with_len 0 n) ++ cond b (n ∷ []) []) (sym none) ∙ sym (filter_more f n))

-- the same for what the kept numbers stand for
pub group_more : (h : ℕ → List ℕ) (f : ℕ → Bool) (n : ℕ) (base old new : List ℕ) → old ≡ base ++ flat_map h (filter f (range_with_len 0 n)) → f n ≡ true → new ≡ old ++ h n → new ≡ base ++ flat_map h (filter f (range_with_len 0 (n + 1)))
group_more h f n base old new is held now =
    now ∙ ap (λ l. l ++ h n) is ∙ append_assoc base (flat_map h (filter f (range_with_len 0 n))) (h n)
    ∙ ap (λ l. base ++ l) (ap (λ l. flat_map h (filter f (range_with_len 0 n)) ++ l) (sym (no_more (h n))) ∙ sym (flat_map-append h (filter f (range_with_len 0 n)) (n ∷ []))
    ∙ ap (flat_map h) (ap (λ b. filter f (range_with_len 0 n) ++ cond b (n ∷ []) []) (sym held) ∙ sym (filter_more f n)))

pub group_out : (h : ℕ → List ℕ) (f : ℕ → Bool) (n : ℕ) (base old : List ℕ) → old ≡ base ++ flat_map h (filter f (range_with_len 0 n)) → f n ≡ false → old ≡ base ++ flat_map h (filter f (range_with_len 0 (n + 1)))
group_out h f n base old is none =
    is ∙ ap (λ l. base ++ flat_map h l) (sym (no_more (filter f (range_with_len 0 n))) ∙ ap (λ b. filter f (range_with_len 0 n) ++ cond b (n ∷ []) []) (sym none) ∙ sym (filter_more f n))

pub flat_more : (h : ℕ → List ℕ) (n : ℕ) (old new : List ℕ) → old ≡ flat_map h (range_with_len 0 n) → new ≡ old ++ h n → new ≡ flat_map h (range_with_len 0 (n + 1))
flat_more h n old new is now =
    now ∙ ap (λ l. l ++ h n) is ∙ ap (λ l. flat_map h (range_with_len 0 n) ++ l) (sym (no_more (h n))) ∙ sym (flat_map-append h (range_with_len 0 n) (n ∷ [])) ∙ ap (flat_map h) (sym (range_more n))

-- counts
pub count_more : (f : ℕ → Bool) (n : ℕ) → count_by f (range_with_len 0 (n + 1)) ≡ count_by f (range_with_len 0 n) + cond (f n) 1 0
count_more f n = ap (count_by f) (range_more n) ∙ sum_by-append (λ k. cond (f k) 1 0) (range_with_len 0 n) (n ∷ []) ∙ omega arith

pub count_same : (f g : ℕ → Bool) (n : ℕ) → ((k : ℕ) → k < n → f k ≡ g k) → count_by f (range_with_len 0 n) ≡ count_by g (range_with_len 0 n)
count_same f g zero same = refl
count_same f g (suc n) same =
    let e : suc n ≡ n + 1 = omega arith in
    ap (λ k. count_by f (range_with_len 0 k)) e ∙ count_more f n
    ∙ ap (λ c. c + cond (f n) 1 0) (count_same f g n (λ k lt. same k (omega arith))) ∙ ap (λ b. count_by g (range_with_len 0 n) + cond b 1 0) (same n (omega arith))
    ∙ sym (count_more g n) ∙ ap (λ k. count_by g (range_with_len 0 k)) (sym e)

pub count_yes : (f : ℕ → Bool) (n old new : ℕ) → old ≡ count_by f (range_with_len 0 n) → f n ≡ true → new ≡ old + 1 → new ≡ count_by f (range_with_len 0 (n + 1))
count_yes f n old new is held now = now ∙ ap (λ k. k + 1) is ∙ ap (λ b. count_by f (range_with_len 0 n) + cond b 1 0) (sym held) ∙ sym (count_more f n)

pub count_no : (f : ℕ → Bool) (n old : ℕ) → old ≡ count_by f (range_with_len 0 n) → f n ≡ false → old ≡ count_by f (range_with_len 0 (n + 1))
count_no f n old is none =
    let e : count_by f (range_with_len 0 n) ≡ count_by f (range_with_len 0 n) + 0 = omega arith in
    is ∙ e ∙ ap (λ b. count_by f (range_with_len 0 n) + cond b 1 0) (sym none) ∙ sym (count_more f n)
