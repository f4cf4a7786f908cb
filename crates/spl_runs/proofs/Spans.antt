-- Dimensions of a span, one by one, and edges out of a point.
use Rattle.std.proofs.Common.{◌≡◌, ℕ, suc, zero, ◌+◌, ◌*◌, ◌<◌, ◌≤◌, List, [], ◌∷◌, ◌++◌, length, take, drop, get_or, ℤ, refl, sym, ap, ◌∙◌, arith, drop-cons}
use Rattle.std.specs.Prelude.{slice_set}
use Rattle.std.proofs.Math.Seq.{take-suc}
use Rattle.std.proofs.lemmas.List.{length-take, length-drop, get_or-take, get_or-drop, map-append}
use Rattle.spl_core.specs.declared.parts.Span.{Span}
use Rattle.spl_core.specs.Parts.{Parts, span_dims}
use Rattle.spl_core.specs.Expression.{State, value_of}
use Rattle.spl_core.specs.Graph.{pairs_in}
use Rattle.spl_runs.specs.Runs.{copied, values_of, with_values}

-- ---- spans

pub span_at : (c : Parts) (s : Span) (k : ℕ) → k < s.count → get_or (span_dims c s) k 0 ≡ get_or c.dims (s.first + k) 0
span_at c s k l = get_or-take s.count (drop s.first c.dims) k 0 l ∙ get_or-drop s.first c.dims k 0

pub span_length : (c : Parts) (s : Span) → s.first + s.count ≤ length c.dims → length (span_dims c s) ≡ s.count
span_length c s h = omega (arith, length-take s.count (drop s.first c.dims), length-drop s.first c.dims)

drop_all : {X : Type 0} (xs : List X) (n : ℕ) → length xs ≤ n → drop n xs ≡ []
drop_all [] zero l = refl
drop_all [] (suc n) l = refl
drop_all (x ∷ xs) zero l = absurd (omega arith)
drop_all (x ∷ xs) (suc n) l = drop_all xs n (omega arith)

-- ---- values of dimensions

pub values_more : (s : State) (dims : List ℕ) (k : ℕ) → k < length dims → values_of s (take k dims) ++ value_of s (get_or dims k 0) ∷ [] ≡ values_of s (take (suc k) dims)
values_more s dims k l = sym (ap (values_of s) (take-suc dims k 0 l) ∙ map-append (value_of s) (take k dims) (get_or dims k 0 ∷ []))

-- ---- outputs

with_none : (s : State) (xs : List ℕ) → with_values s xs [] ≡ s
with_none s [] = refl
with_none s (x ∷ xs) = refl

pub outputs_more : (s t : State) (xs : List ℕ) (ys : List ℤ) (k : ℕ) (d : ℤ) → k < length xs → k < length ys → t ≡ slice_set s (get_or xs k 0) (get_or ys k d)
    → with_values s (drop k xs) (drop k ys) ≡ with_values t (drop (suc k) xs) (drop (suc k) ys)
outputs_more s t xs ys k d l m e = rw (drop-cons xs k 0 l, drop-cons ys k d m) (ap (λ z. with_values z (drop (suc k) xs) (drop (suc k) ys)) (sym e))

pub outputs_none : (s : State) (xs : List ℕ) (ys : List ℤ) (k : ℕ) → length ys ≤ k → with_values s (drop k xs) (drop k ys) ≡ with_values s (drop (suc k) xs) (drop (suc k) ys)
outputs_none s xs ys k l = rw (drop_all ys k l, drop_all ys (suc k) (omega arith)) (with_none s (drop k xs) ∙ sym (with_none s (drop (suc k) xs)))

-- ---- pairs

pub pairs_more : (s t : State) (xs : List ℕ) (k : ℕ) → 2 * k + 1 < length xs → t ≡ slice_set s (get_or xs (2 * k) 0) (value_of s (get_or xs (2 * k + 1) 0))
    → copied (pairs_in (drop (2 * k) xs)) s ≡ copied (pairs_in (drop (2 * suc k) xs)) t
pairs_more s t xs k l e =
    let a : drop (2 * k) xs ≡ get_or xs (2 * k) 0 ∷ drop (suc (2 * k)) xs = drop-cons xs (2 * k) 0 (omega arith) in
    let i : suc (2 * k) ≡ 2 * k + 1 = omega arith in
    let b : drop (suc (2 * k)) xs ≡ get_or xs (suc (2 * k)) 0 ∷ drop (suc (suc (2 * k))) xs = drop-cons xs (suc (2 * k)) 0 (omega arith) in
    let j : suc (suc (2 * k)) ≡ 2 * suc k = omega arith in
    ap (λ z. copied (pairs_in z) s) (a ∙ ap (λ z. get_or xs (2 * k) 0 ∷ z) b)
    ∙ (ap (λ z. copied (pairs_in (drop (suc (suc (2 * k))) xs)) (slice_set s (get_or xs (2 * k) 0) (value_of s (get_or xs z 0)))) i
    ∙ (ap (λ z. copied (pairs_in (drop z xs)) (slice_set s (get_or xs (2 * k) 0) (value_of s (get_or xs (2 * k + 1) 0)))) j
    ∙ ap (copied (pairs_in (drop (2 * suc k) xs))) (sym e)))

short : (xs : List ℕ) (s : State) → length xs ≤ 1 → copied (pairs_in xs) s ≡ s
short [] s l = refl
short (x ∷ []) s l = refl
short (x ∷ y ∷ xs) s l = absurd (omega arith)

pub pairs_end : (s : State) (xs : List ℕ) (k : ℕ) → length xs ≤ 2 * k + 1 → copied (pairs_in (drop (2 * k) xs)) s ≡ s
pairs_end s xs k l = short (drop (2 * k) xs) s (omega (arith, length-drop (2 * k) xs))

-- ---- edges out of a point
