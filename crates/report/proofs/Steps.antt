-- One more turn of a loop that appends a piece for each number or each element.
use Rattle.std.proofs.Common.{◌≡◌, ℕ, ◌+◌, ◌<◌, List, [], ◌∷◌, ◌++◌, length, map, take, get_or, refl, sym, ap, ◌∙◌, append_assoc, append-nil, arith}
use Rattle.std.specs.List.{flat_map, range_with_len}
use Rattle.std.proofs.lemmas.List.{map-append, take_more}
use Rattle.std.proofs.lemmas.Grind.{flat_map-append}
use Rattle.std.proofs.lemmas.List.FromFn.{map-range_with_len_more}

map-same : {A : Type 0} (xs : List A) → map (λ x. x) xs ≡ xs
map-same [] = refl
map-same (x ∷ xs) = ap (λ ys. x ∷ ys) (map-same xs)

range_more : (n : ℕ) → range_with_len 0 (n + 1) ≡ range_with_len 0 n ++ n ∷ []
range_more n =
    sym (map-same (range_with_len 0 (n + 1))) ∙ map-range_with_len_more (λ x. x) 0 n n (omega arith) ∙ ap (λ xs. xs ++ n ∷ []) (map-same (range_with_len 0 n))

pub flat_map-range_more : {A : Type 0} (f : ℕ → List A) (n : ℕ) → flat_map f (range_with_len 0 (n + 1)) ≡ flat_map f (range_with_len 0 n) ++ f n
flat_map-range_more f n =
    ap (flat_map f) (range_more n) ∙ flat_map-append f (range_with_len 0 n) (n ∷ []) ∙ ap (λ ys. flat_map f (range_with_len 0 n) ++ ys) (append-nil (f n))

-- the text so far, with one more piece
pub one_more : {A : Type 0} (f : ℕ → List A) (n : ℕ) (start so_far next : List A)
    → so_far ≡ start ++ flat_map f (range_with_len 0 n) → next ≡ so_far ++ f n → next ≡ start ++ flat_map f (range_with_len 0 (n + 1))
one_more f n start so_far next e h =
    h ∙ ap (λ xs. xs ++ f n) e ∙ append_assoc start (flat_map f (range_with_len 0 n)) (f n) ∙ ap (λ ys. start ++ ys) (sym (flat_map-range_more f n))

-- the values of one more number
pub one_more_value : {A B : Type 0} (f : A → B) (h : ℕ → B) (n : ℕ) (so_far next : List A) (x : A)
    → map f so_far ≡ map h (range_with_len 0 n) → next ≡ so_far ++ x ∷ [] → f x ≡ h n → map f next ≡ map h (range_with_len 0 (n + 1))
one_more_value f h n so_far next x e more is =
    ap (map f) more ∙ map-append f so_far (x ∷ []) ∙ ap (λ ys. ys ++ f x ∷ []) e ∙ ap (λ y. map h (range_with_len 0 n) ++ y ∷ []) is
    ∙ sym (map-range_with_len_more h 0 n n (omega arith))

-- the text so far, with one more item
pub one_more_item : {A B : Type 0} (f : A → B) (xs : List A) (i : ℕ) (d : A) (start so_far next : List B) → i < length xs
    → so_far ≡ start ++ map f (take i xs) → next ≡ so_far ++ f (get_or xs i d) ∷ [] → next ≡ start ++ map f (take (i + 1) xs)
one_more_item f xs i d start so_far next l e h =
    h ∙ ap (λ ys. ys ++ f (get_or xs i d) ∷ []) e ∙ append_assoc start (map f (take i xs)) (f (get_or xs i d) ∷ [])
    ∙ ap (λ ys. start ++ ys) (sym (ap (map f) (take_more xs i d l) ∙ map-append f (take i xs) (get_or xs i d ∷ [])))
