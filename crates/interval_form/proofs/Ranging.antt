-- The ranges of a matrix, one after the other.
use Rattle.std.proofs.Common.{◌≡◌, ℕ, ◌+◌, ◌≤◌, [], ◌∷◌, ◌++◌, List, length, length-append, refl, sym, ap, ◌∙◌, arith}
use Rattle.std.proofs.lemmas.List.FromFn.{map-range_with_len_more}
use Rattle.oct_def.specs.Table.{Matrix}
use Rattle.interval_form.specs.Interval.{range_of, ranges_of}
use Rattle.interval_form.specs.declared.interval.Interval.{Interval}
use Rattle.interval_form.proofs.Bounding.{length-ranges_of}

pub ranges-none : (m : Matrix) → [] ≡ ranges_of 0 m
unfolding ranges_of
ranges-none m = refl

pub ranges-more : (v : ℕ) (m : Matrix) (more old : List Interval) → old ≡ ranges_of v m → more ≡ old ++ range_of m v ∷ [] → more ≡ ranges_of (v + 1) m
unfolding ranges_of
ranges-more v m more old h e = e ∙ (ap (λ (rs : List Interval). rs ++ range_of m v ∷ []) h ∙ sym (map-range_with_len_more (range_of m) 0 v v (omega arith)))

pub few-ranges : (n : ℕ) (m : Matrix) (rs : List Interval) → rs ≡ ranges_of n m → n ≤ 511 → length rs ≤ 512
few-ranges n m rs h l = let e = ap length h ∙ length-ranges_of n m in omega arith

pub few-more : (n : ℕ) (m : Matrix) (rs more : List Interval) (i : Interval) → rs ≡ ranges_of n m → n ≤ 511 → more ≡ rs ++ i ∷ [] → length more ≤ 512
few-more n m rs more i h l e =
    let k = ap length e ∙ length-append rs (i ∷ []) in
    let r = ap length h ∙ length-ranges_of n m in
    omega arith

pub range-pushed : (v : ℕ) (m : Matrix) (more old : List Interval) (i : Interval) → old ≡ ranges_of v m → i ≡ range_of m v → more ≡ old ++ i ∷ [] → more ≡ ranges_of (v + 1) m
range-pushed v m more old i h r e = ranges-more v m more old h (e ∙ ap (λ (x : Interval). old ++ x ∷ []) r)
