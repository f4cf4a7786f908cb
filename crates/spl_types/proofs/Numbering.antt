-- Tables from names to their first places.
use Rattle.std.proofs.Common.{◌≡◌, ℕ, ◌+◌, ◌<◌, Bool, true, false, cond, if◌then◌else◌, List, [], ◌∷◌, ◌++◌, length, take, get_or, map, position, Option, Some, None, is_some, Bor, refl, sym, ap, ◌∙◌, subst, arith}
use Rattle.std.specs.List.{position_from}
use Rattle.std.specs.Map.{lookup}
use Rattle.std.specs.Str.{bytes_eq}
use Rattle.std.specs.Cmp.Lexicographic.{bytes_decides}
use Rattle.std.proofs.lemmas.Iterator.Adapters.{position_from-zero}
use Rattle.std.proofs.lemmas.List.{take_more, length-map, length-take, map-append}
use Rattle.spl_tree.specs.Program.{ProcMeaning, empty}
use Rattle.spl_types.specs.Tables.{number_in, with_number, Numbers, proc_names}

-- the table that a map of names stands for
abbrev pub seen : List (Bor (List ℕ) × ℕ) → List (List ℕ × ℕ)
seen es = map (λ (e : Bor (List ℕ) × ℕ). (e.0.now, e.1)) es

pub number_along : (name : List ℕ) (es : List (Bor (List ℕ) × ℕ)) → lookup (λ (k : Bor (List ℕ)). bytes_eq name k.now) es ≡ number_in name (seen es)
number_along name [] = refl
number_along name (e ∷ es) = ap (λ o. cond (bytes_eq name e.0.now) (Some e.1) o) (number_along name es)

pub none_of : {X : Type 0} (o : Option X) → is_some o ≡ false → o ≡ None
none_of None h = refl
none_of (Some x) h = absurd (no_true h)
  where
    no_true : true ≡ false → ⊥
    no_true q = cc

pub with_known : (t : List (List ℕ × ℕ)) (name : List ℕ) (n : ℕ) → is_some (number_in name t) ≡ true → with_number t name n ≡ t
with_known t name n h = ap (λ b. if b then t else t ++ (name, n) ∷ []) h

pub with_fresh : (t : List (List ℕ × ℕ)) (name : List ℕ) (n : ℕ) → is_some (number_in name t) ≡ false → with_number t name n ≡ t ++ (name, n) ∷ []
with_fresh t name n h = ap (λ b. if b then t else t ++ (name, n) ∷ []) h

pub seen_push : (es : List (Bor (List ℕ) × ℕ)) (k : Bor (List ℕ)) (n : ℕ) → seen (es ++ (k, n) ∷ []) ≡ seen es ++ (k.now, n) ∷ []
seen_push [] k n = refl
seen_push (e ∷ es) k n = ap (λ l. (e.0.now, e.1) ∷ l) (seen_push es k n)

-- one more item at the end
abbrev or_else : Option ℕ → Option ℕ → Option ℕ
or_else None o = o
or_else (Some n) o = Some n

number_push : (name : List ℕ) (t : List (List ℕ × ℕ)) (x : List ℕ) (n : ℕ) → number_in name (t ++ (x, n) ∷ []) ≡ or_else (number_in name t) (cond (bytes_eq name x) (Some n) None)
number_push name [] x n = refl
number_push name (e ∷ es) x n = by (bytes_eq name e.0) (number_push name es x n)
  where
    by : (b : Bool) → number_in name (es ++ (x, n) ∷ []) ≡ or_else (number_in name es) (cond (bytes_eq name x) (Some n) None) → cond b (Some e.1) (number_in name (es ++ (x, n) ∷ [])) ≡ or_else (cond b (Some e.1) (number_in name es)) (cond (bytes_eq name x) (Some n) None)
    by true h = refl
    by false h = h

from_push : {X : Type 0} (p : X → Bool) (i : ℕ) (xs : List X) (x : X) → position_from p i (xs ++ x ∷ []) ≡ or_else (position_from p i xs) (cond (p x) (Some (i + length xs)) None)
from_push p i [] x = let e : i ≡ i + 0 = omega arith in ap (λ n. cond (p x) (Some n) None) e
from_push p i (y ∷ ys) x = by (p y) (from_push p (i + 1) ys x)
  where
    same : (i + 1) + length ys ≡ i + length (y ∷ ys)
    same = omega arith

    by : (b : Bool) → position_from p (i + 1) (ys ++ x ∷ []) ≡ or_else (position_from p (i + 1) ys) (cond (p x) (Some ((i + 1) + length ys)) None) → cond b (Some i) (position_from p (i + 1) (ys ++ x ∷ [])) ≡ or_else (cond b (Some i) (position_from p (i + 1) ys)) (cond (p x) (Some (i + length (y ∷ ys))) None)
    by true h = refl
    by false h = h ∙ ap (λ n. or_else (position_from p (i + 1) ys) (cond (p x) (Some n) None)) same

pub place_push : {X : Type 0} (p : X → Bool) (xs : List X) (x : X) → position p (xs ++ x ∷ []) ≡ or_else (position p xs) (cond (p x) (Some (length xs)) None)
place_push p xs x =
    let e : 0 + length xs ≡ length xs = omega arith in
    position_from-zero p (xs ++ x ∷ [])
    ∙ (from_push p 0 xs x
    ∙ (ap (λ o. or_else o (cond (p x) (Some (0 + length xs)) None)) (sym (position_from-zero p xs))
    ∙ ap (λ n. or_else (position p xs) (cond (p x) (Some n) None)) e))

-- names of one more procedure
pub number_more : (t : List (List ℕ × ℕ)) (names : List (List ℕ)) (x : List ℕ) → Numbers t names → Numbers (with_number t x (length names)) (names ++ x ∷ [])
number_more t names x h name = by (is_some (number_in x t)) refl
  where
    or_none : (o : Option ℕ) → or_else o None ≡ o
    or_none None = refl
    or_none (Some n) = refl

    known : is_some (number_in x t) ≡ true → (b : Bool) → bytes_eq name x ≡ b → position (bytes_eq name) names ≡ or_else (position (bytes_eq name) names) (cond b (Some (length names)) None)
    known k false e = sym (or_none (position (bytes_eq name) names))
    known k true e = some (position (bytes_eq name) names) (ap is_some (sym (h name)) ∙ (ap (λ y. is_some (number_in y t)) ((bytes_decides name x).0 e) ∙ k))
      where
        no_false : false ≡ true → ⊥
        no_false q = cc

        some : (o : Option ℕ) → is_some o ≡ true → o ≡ or_else o (cond true (Some (length names)) None)
        some None q = absurd (no_false q)
        some (Some n) q = refl

    by : (b : Bool) → is_some (number_in x t) ≡ b → number_in name (with_number t x (length names)) ≡ position (bytes_eq name) (names ++ x ∷ [])
    by true k = ap (λ l. number_in name l) (with_known t x (length names) k) ∙ (h name ∙ (known k (bytes_eq name x) refl ∙ sym (place_push (bytes_eq name) names x)))
    by false k =
        ap (λ l. number_in name l) (with_fresh t x (length names) k)
        ∙ (number_push name t x (length names)
        ∙ (ap (λ o. or_else o (cond (bytes_eq name x) (Some (length names)) None)) (h name)
        ∙ sym (place_push (bytes_eq name) names x)))

-- a procedure past the end
abbrev pub no_proc : ProcMeaning
no_proc = record { name = record { name = []; at = 0 }; inputs = []; outputs = []; locals = []; begin = 0; body = empty }

pub names_more : (t t' : List (List ℕ × ℕ)) (procs : List ProcMeaning) (p : ℕ) (x : List ℕ) → p < length procs → x ≡ (get_or procs p no_proc).name.name → Numbers t (proc_names (take p procs)) → t' ≡ with_number t x p → Numbers t' (proc_names (take (p + 1) procs))
names_more t t' procs p x lt e h s =
    let names = proc_names (take p procs) in
    let l : length names ≡ p = omega (arith, length-map (take p procs) (λ (q : ProcMeaning). q.name.name), length-take p procs) in
    let q : names ++ x ∷ [] ≡ proc_names (take (p + 1) procs) =
    ap (λ y. names ++ y ∷ []) e
    ∙ (sym (map-append (λ (q : ProcMeaning). q.name.name) (take p procs) (get_or procs p no_proc ∷ []))
    ∙ ap proc_names (sym (take_more procs p no_proc lt))) in
    let T : List (List ℕ × ℕ) → Type 0 = λ u. Numbers u (proc_names (take (p + 1) procs)) in
    let P : List (List ℕ) → Type 0 = λ ns. Numbers (with_number t x p) ns in
    let N : ℕ → Type 0 = λ n. Numbers (with_number t x n) (names ++ x ∷ []) in
    subst T (sym s) (subst P q (subst N l (number_more t names x h)))
