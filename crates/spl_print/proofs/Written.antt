-- Lines that were written, one after the other.
use Rattle.std.proofs.Common.{◌≡◌, ℕ, zero, suc, ◌+◌, ◌<◌, List, [], ◌∷◌, ◌++◌, length, drop, get_or, replicate, codes, refl, sym, ap, ◌∙◌, arith, append_assoc, append-nil}
use Rattle.std.proofs.Math.Seq.{drop-cons}
use Rattle.std.proofs.lemmas.List.{drop-drop}
use Rattle.spl_print.specs.Canonical.{Line, words, point, place_text, indented, written, point_lines}
use Rattle.spl_print.specs.Writing.{Wrote}
use Rattle.spl_print.proofs.Chains.{and_then, five, point_end}

drop-nothing : (n : ℕ) → drop n (let none : List (List ℕ) = [] in none) ≡ []
drop-nothing zero = refl
drop-nothing (suc n) = refl

-- lines behind others take the notes that those leave
written-append : (bytes : List ℕ) (notes : List (List ℕ)) (xs ys : List Line) → written bytes notes (xs ++ ys) ≡ written bytes notes xs ++ written bytes (drop (point_lines xs) notes) ys
written-append bytes notes [] ys = refl
written-append bytes notes (words n text ∷ xs) ys =
    ap (λ t. indented n text ++ t) (written-append bytes notes xs ys) ∙ sym (append_assoc (indented n text) (written bytes notes xs) (written bytes (drop (point_lines xs) notes) ys))
written-append bytes [] (point n offset ∷ xs) ys =
    written-append bytes [] xs ys ∙ ap (λ left. written bytes [] xs ++ written bytes left ys) (drop-nothing (point_lines xs) ∙ sym (drop-nothing (point_lines xs + 1)))
written-append bytes (note ∷ notes) (point n offset ∷ xs) ys =
    let line : List ℕ = indented n (codes "/* " ++ (place_text bytes offset ++ (codes " " ++ (note ++ codes " */")))) in
    let one : point_lines xs + 1 ≡ suc (point_lines xs) = omega arith in
    ap (λ t. line ++ t) (written-append bytes notes xs ys)
    ∙ sym (append_assoc line (written bytes notes xs) (written bytes (drop (point_lines xs) notes) ys))
    ∙ ap (λ k. (line ++ written bytes notes xs) ++ written bytes (drop k (note ∷ notes)) ys) (sym one)

point_lines-append : (xs ys : List Line) → point_lines (xs ++ ys) ≡ point_lines xs + point_lines ys
point_lines-append [] ys = omega arith
point_lines-append (words n text ∷ xs) ys = point_lines-append xs ys
point_lines-append (point n offset ∷ xs) ys = omega (arith, point_lines-append xs ys)

-- lines, then lines
pub wrote-append : (bytes : List ℕ) (points : List (List ℕ)) (xs ys : List Line) (out0 out1 out2 : List ℕ) (n0 n1 n2 : ℕ)
    → Wrote bytes points xs out0 n0 out1 n1 → Wrote bytes points ys out1 n1 out2 n2 → Wrote bytes points (xs ++ ys) out0 n0 out2 n2
wrote-append bytes points xs ys out0 out1 out2 n0 n1 n2 a b = record {
  text =
      and_then out0 out1 out2 (written bytes (drop n0 points) xs) (written bytes (drop n1 points) ys) a.text b.text
      ∙ ap (λ left. out0 ++ (written bytes (drop n0 points) xs ++ written bytes left ys)) a.left
      ∙ ap (λ t. out0 ++ t) (sym (written-append bytes (drop n0 points) xs ys));
  left =
      b.left ∙ ap (drop (point_lines ys)) a.left ∙ drop-drop (point_lines ys) (point_lines xs) (drop n0 points)
      ∙ ap (λ k. drop k (drop n0 points)) (sym (point_lines-append xs ys));
}

-- one line of words
pub wrote-words : (bytes : List ℕ) (points : List (List ℕ)) (indent : ℕ) (text out out' : List ℕ) (n : ℕ) → out' ≡ out ++ indented indent text → Wrote bytes points (words indent text ∷ []) out n out' n
wrote-words bytes points indent text out out' n e = record { text = e ∙ ap (λ t. out ++ t) (sym (append-nil (indented indent text))); left = refl }

-- the line of a point with its note
pub wrote-point : (bytes : List ℕ) (points : List (List ℕ)) (indent offset : ℕ) (note out x1 x2 x3 x4 x5 out' : List ℕ) (n : ℕ)
    → n < length points → note ≡ get_or points n note
    → x1 ≡ out ++ replicate indent 32 → x2 ≡ x1 ++ codes "/* " → x3 ≡ x2 ++ place_text bytes offset → x4 ≡ x3 ++ codes " " → x5 ≡ x4 ++ note → out' ≡ x5 ++ codes " */\n"
    → Wrote bytes points (point indent offset ∷ []) out n out' (n + 1)
wrote-point bytes points indent offset note out x1 x2 x3 x4 x5 out' n lt found e1 e2 e3 e4 e5 e6 =
    let next : n + 1 ≡ suc n = omega arith in
    let here : drop n points ≡ note ∷ drop (suc n) points = drop-cons points n note lt ∙ ap (λ x. x ∷ drop (suc n) points) (sym found) in
    let line : List ℕ = indented indent (codes "/* " ++ (place_text bytes offset ++ (codes " " ++ (note ++ codes " */")))) in
    record {
      text =
          and_then out x1 out' (replicate indent 32) _ e1 (five x1 x2 x3 x4 x5 out' (codes "/* ") (place_text bytes offset) (codes " ") note (codes " */\n") e2 e3 e4 e5 e6)
          ∙ ap (λ t. out ++ (replicate indent 32 ++ t)) (point_end (place_text bytes offset) note)
          ∙ ap (λ t. out ++ t) (sym (append-nil line))
          ∙ ap (λ left. out ++ written bytes left (point indent offset ∷ [])) (sym here);
      left = ap (λ k. drop k points) next ∙ ap (drop 1) (sym here);
    }
