-- The lines of the points, one after the other.
use Rattle.std.proofs.Common.{◌≡◌, ℕ, zero, suc, ◌+◌, ◌-◌, ◌<◌, ◌⊎◌, inl, inr, List, [], ◌∷◌, ◌++◌, length, get_or, take, drop, codes, decimal, Option, None, refl, sym, ap, subst, ◌∙◌, arith}
use Rattle.std.proofs.lemmas.List.{take_more, length-append, take_all, drop_at}
use Rattle.oct_def.specs.Table.{Matrix}
use Rattle.oct_def.specs.Octagon.{IsValueOver}
use Rattle.inv_text.specs.Invariants.{matrix_in, dims_in}
use Rattle.inv_text.specs.CertText.{value_text, cert_text}
use Rattle.inv_text.specs.Reading.{lines_from, AreInvariantsUpTo}
use Rattle.inv_text.proofs.Texts.{lines_next}

pub lines_step : (dims : List ℕ) (whole : List (Option Matrix)) (p : ℕ) → p < length dims
    → lines_from whole p (length dims - p) ≡ decimal p ++ (value_text (matrix_in whole p) ++ 10 ∷ lines_from whole (p + 1) (length dims - (p + 1)))
lines_step dims whole p l =
    let e : length dims - p ≡ suc (length dims - (p + 1)) = omega arith in
    ap (lines_from whole p) e ∙ lines_next whole p (length dims - (p + 1))

pub text_lines : (x : List (Option Matrix)) → cert_text x ≡ codes "interproc-invariants 1\npoints " ++ (decimal (length x) ++ (codes "\n" ++ lines_from x 0 (length x)))
unfolding cert_text
text_lines x = refl

-- one value more
at_end : (x : List (Option Matrix)) (v : Option Matrix) (q : ℕ) → q ≡ length x → get_or (x ++ v ∷ []) q None ≡ v
at_end [] v zero e = refl
at_end [] v (suc q) e = absurd (omega (arith, e))
at_end (a ∷ x) v zero e = absurd (omega (arith, e))
at_end (a ∷ x) v (suc q) e = at_end x v q (omega (arith, e))

before_end : (x : List (Option Matrix)) (v : Option Matrix) (q : ℕ) → q < length x → get_or (x ++ v ∷ []) q None ≡ get_or x q None
before_end [] v q l = absurd (omega arith)
before_end (a ∷ x) v zero l = refl
before_end (a ∷ x) v (suc q) l = before_end x v q (omega arith)

pub pushed_over : (dims : List ℕ) (p : ℕ) (x y : List (Option Matrix)) (v : Option Matrix) → AreInvariantsUpTo dims p x → IsValueOver (dims_in dims p) v → y ≡ x ++ v ∷ [] → AreInvariantsUpTo dims (p + 1) y
pushed_over dims p x y v are is e = record {
  count = ap length e ∙ length-append x (v ∷ []) ∙ ap (λ (n : ℕ). n + 1) are.count;
  values = λ q l. subst (λ (z : List (Option Matrix)). IsValueOver (dims_in dims q) (matrix_in z q)) (sym e) (by q (grind arith));
}
  where
    by : (q : ℕ) → (q < p) ⊎ (q ≡ p) → IsValueOver (dims_in dims q) (matrix_in (x ++ v ∷ []) q)
    by q (inl l) = subst (IsValueOver (dims_in dims q)) (sym (before_end x v q (omega (arith, are.count)))) (are.values q l)
    by q (inr s) =
        subst (IsValueOver (dims_in dims q)) (sym (at_end x v q (s ∙ sym are.count)))
        (subst (λ (k : ℕ). IsValueOver (dims_in dims k) v) (sym s) is)

pub taken_more : (whole x y : List (Option Matrix)) (v : Option Matrix) (p : ℕ) → p < length whole → x ≡ take p whole → v ≡ matrix_in whole p → y ≡ x ++ v ∷ [] → y ≡ take (p + 1) whole
taken_more whole x y v p l e f h =
    h ∙ ap (λ (z : List (Option Matrix)). z ++ v ∷ []) e ∙ ap (λ (z : Option Matrix). take p whole ++ z ∷ []) f ∙ sym (take_more whole p None l)

-- the text behind the first 30 bytes
pub behind_header : (text rest : List ℕ) → text ≡ codes "interproc-invariants 1\npoints " ++ rest → take (length text - 30) (drop 30 text) ≡ rest
behind_header text rest e =
    let d : drop 30 text ≡ rest = ap (drop 30) e ∙ drop_at (codes "interproc-invariants 1\npoints ") rest 30 refl in
    let n : length text ≡ length (codes "interproc-invariants 1\npoints " ++ rest) = ap length e in
    ap (take (length text - 30)) d ∙ take_all (length text - 30) rest (omega (arith, n))
