-- What the kernels make of rows.
use Rattle.std.specs.Prelude.{◌≡◌, ℕ, ◌<◌, ◌⊎◌, Some, None, List, length, ℤ, pos, negsuc, ◌≤ℤ◌, int_lt, if◌then◌else◌, slice_index_or, Bool, FitsSigned}
use Rattle.std.specs.Int.{w64}
use Rattle.oct_def.specs.Bound.{Bound, plus, clamped, least, bound_of, none_word, low_limit, top_limit, IsWord}

-- the bound of a number in which each above the greatest bound stands for none
abbrev pub loose : ℤ → Bound
loose m = if int_lt top_limit m then None else Some m

-- the bound that the word at place j stands for
abbrev pub bound_at : List ℤ → ℕ → Bound
bound_at xs j = bound_of (slice_index_or xs j (pos 0))

-- each entry is a word of a bound between the limits
pub record AllWords (xs : List ℤ) : Type 0 where
  pub words : (j : ℕ) → j < length xs → IsWord (slice_index_or xs j (pos 0))

-- a weight that isn't none is at most 2^62 in size
pub record IsSmall (a : ℤ) : Type 0 where
  pub low : negsuc 4611686018427387903 ≤ℤ a
  pub high : a ≤ℤ pos 4611686018427387904

abbrev pub IsWeight : ℤ → Type 0
IsWeight a = (a ≡ none_word) ⊎ IsSmall a

-- what stands for a sum below the least bound: none for a positive weight, whose sum with none has wrapped
abbrev pub lowest : ℤ → ℤ
lowest a = if int_lt (pos 0) a then none_word else low_limit

-- the sum of a weight and a word, clamped
abbrev pub sum_bound : ℤ → ℤ → Bound
sum_bound a x = clamped (plus (bound_of a) (bound_of x))

-- the least of a word and of two clamped sums
abbrev pub relaxed : ℤ → ℤ → ℤ → ℤ → ℤ → Bound
relaxed d a x b y = least (bound_of d) (least (sum_bound a x) (sum_bound b y))

-- the same at place j of three rows
unfoldable pub relaxed_at : List ℤ → ℤ → List ℤ → ℤ → List ℤ → ℕ → Bound
relaxed_at d a p b q j = relaxed (slice_index_or d j (pos 0)) a (slice_index_or p j (pos 0)) b (slice_index_or q j (pos 0))

-- the word of half a bound: none, or at most 2^60 in size
abbrev pub IsHalfWord : ℤ → Type 0
IsHalfWord w = (w ≡ none_word) ⊎ ((negsuc 1152921504606846975 ≤ℤ w) × (w ≤ℤ pos 1152921504606846976))

pub record AllHalves (xs : List ℤ) : Type 0 where
  pub words : (j : ℕ) → j < length xs → IsHalfWord (slice_index_or xs j (pos 0))

-- the least of a word and of the sum of two halves, at place j of two rows
unfoldable pub strong_at : List ℤ → ℤ → List ℤ → ℕ → Bound
strong_at d half halves j = least (bound_of (slice_index_or d j (pos 0))) (plus (bound_of half) (bound_of (slice_index_or halves j (pos 0))))

-- each entry is a signed number of 64 bits, as each word of a slice is
pub record AllFit (xs : List ℤ) : Type 0 where
  pub fits : (j : ℕ) → j < length xs → FitsSigned w64 (slice_index_or xs j (pos 0))

-- the word of a at place j is above that of b
unfoldable pub is_above : List ℤ → List ℤ → ℕ → Bool
is_above a b j = int_lt (slice_index_or b j (pos 0)) (slice_index_or a j (pos 0))

-- what stands for none in a row of small words: a sum with it stays above the limit
abbrev pub far : ℤ
far = pos 4611686018427387904

-- a small word: none by its stand-in, or at most 2^59 in size
abbrev pub IsLow : ℤ → Type 0
IsLow x = (x ≡ far) ⊎ ((negsuc 576460752303423487 ≤ℤ x) × (x ≤ℤ pos 576460752303423488))

pub record AllLow (xs : List ℤ) : Type 0 where
  pub words : (j : ℕ) → j < length xs → IsLow (slice_index_or xs j (pos 0))

-- a weight of at most 2^60 in size
pub record IsLowSize (a : ℤ) : Type 0 where
  pub low : negsuc 1152921504606846975 ≤ℤ a
  pub high : a ≤ℤ pos 1152921504606846976

abbrev pub IsLowWeight : ℤ → Type 0
IsLowWeight a = (a ≡ none_word) ⊎ IsLowSize a

-- the sum of a weight and a small word, clamped
abbrev pub low_sum : ℤ → ℤ → Bound
low_sum a x = clamped (plus (bound_of a) (loose x))

-- the least of a word and of two such sums, at place j of three rows
unfoldable pub low_at : List ℤ → ℤ → List ℤ → ℤ → List ℤ → ℕ → Bound
low_at d a p b q j = least (bound_of (slice_index_or d j (pos 0))) (least (low_sum a (slice_index_or p j (pos 0))) (low_sum b (slice_index_or q j (pos 0))))
