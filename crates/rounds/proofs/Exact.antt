-- The test of equal values is exact.
use Rattle.std.proofs.Common.{◌≡◌, ℕ, ◌-◌, Bool, true, false, cond, ◌&&◌, Option, Some, None, List, [], ◌∷◌, refl, ap, ◌∙◌, arith}
use Rattle.std.specs.Prelude.{ℤ}
use Rattle.std.proofs.lemmas.Bool.Decides.{Decides-eqb, Decides-int_eq}
use Rattle.oct_def.specs.Bound.{Bound}
use Rattle.oct_def.specs.Table.{Matrix}
use Rattle.oct_def.specs.Octagon.{Octagon}
use Rattle.rounds.specs.Rounds.{same_list, same_bound, same_option, same_value, Cell, ascended}

and_parts : (a b : Bool) → (a && b) ≡ true → (a ≡ true) × (b ≡ true)
and_parts true b h = (refl, h)
and_parts false b h = absurd (grind arith)

exact_list : {X : Type 0} → (same : X → X → Bool) → ((x y : X) → same x y ≡ true → x ≡ y) → (xs ys : List X) → same_list same xs ys ≡ true → xs ≡ ys
exact_list same h [] [] e = refl
exact_list same h [] (y ∷ ys) e = absurd (grind arith)
exact_list same h (x ∷ xs) [] e = absurd (grind arith)
exact_list {X = X} same h (x ∷ xs) (y ∷ ys) e =
    let r = and_parts _ _ e in
    ap (λ (z : X). z ∷ xs) (h x y r.0) ∙ ap (λ (zs : List X). y ∷ zs) (exact_list same h xs ys r.1)

exact_bound : (a b : Bound) → same_bound a b ≡ true → a ≡ b
exact_bound None None e = refl
exact_bound None (Some y) e = absurd (grind arith)
exact_bound (Some x) None e = absurd (grind arith)
exact_bound (Some x) (Some y) e = ap (λ (z : ℤ). Some z) ((Decides-int_eq x y).0 e)

exact_option : (a b : Option Matrix) → same_option a b ≡ true → a ≡ b
exact_option None None e = refl
exact_option None (Some y) e = absurd (grind arith)
exact_option (Some x) None e = absurd (grind arith)
exact_option (Some x) (Some y) e = ap (λ (z : Matrix). Some z) (exact_list (same_list same_bound) (exact_list same_bound exact_bound) x y e)

pub exact_value : (a b : Octagon) → same_value a b ≡ true → a ≡ b
unfolding same_value
exact_value a b e =
    let r = and_parts _ _ e in
    ap (λ (n : ℕ). record { dims = n; matrix = a.matrix }) ((Decides-eqb a.dims b.dims).0 r.0) ∙ ap (λ (m : Option Matrix). record { dims = b.dims; matrix = m }) (exact_option a.matrix b.matrix r.1)

-- where the value stays, the cell stays
pub ascended-same : (widen : Octagon → Octagon → Octagon) (cut : Bool) (cell : Cell) (v : Octagon) → same_value (ascended widen cut cell v).value cell.value ≡ true → ascended widen cut cell v ≡ cell
unfolding ascended
ascended-same widen true cell v e =
    ap (λ (b : Bool). record { value = (ascended widen true cell v).value; left = cond b cell.left (cell.left - 1) }) e
    ∙ ap (λ (w : Octagon). record { value = w; left = cell.left }) (exact_value (ascended widen true cell v).value cell.value e)
ascended-same widen false cell v e = ap (λ (w : Octagon). record { value = w; left = cell.left }) (exact_value v cell.value e)
