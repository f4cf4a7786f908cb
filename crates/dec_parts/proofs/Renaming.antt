-- A matrix under new numbers of its variables.
use Rattle.std.proofs.Common.{◌≡◌, ℕ, ◌+◌, ◌*◌, ◌/◌, ◌%◌, ◌<◌, ◌⊎◌, inl, inr, Bool, cond, List, length, Option, Some, None, refl, sym, ap, ◌∙◌, subst, arith}
use Rattle.std.specs.Prelude.{pos}
use Rattle.std.proofs.lemmas.Int.{ints}
use Rattle.std.proofs.lemmas.Bool.{eq-eqb, ne_eqb, cases_eq}
use Rattle.oct_def.specs.Bound.{InRange, IsEven}
use Rattle.oct_def.specs.Table.{Matrix, at}
use Rattle.oct_def.specs.Matrix.{opposite, IsCoherent, IsEvenMatrix}
use Rattle.oct_def.proofs.Tables.{length-table, at-table, square-table, table-same}
use Rattle.oct_def.proofs.Coherent.{coherent-table}
use Rattle.oct_def.proofs.Values.{each-table, EvenUnary, even_unary-table}
use Rattle.block_partition.specs.Partition.{IsBlock}
use Rattle.block_laws.specs.Assembly.{outer, restrict_entry, restrict}
use Rattle.block_laws.proofs.Places.{outer-half, outer_below}
use Rattle.dec_parts.specs.Rename.{origin, signed_origin, origin_dimension, picked, renamed_entry, renamed_matrix, AreOrigins, KeepNumbers}

-- ---- what a signed dimension was

pub dimension-old : (origins : List (Option ℕ)) (i u : ℕ) → origin origins (i / 2) ≡ Some u → origin_dimension origins i ≡ Some (2 * u + i % 2)
unfolding origin_dimension
dimension-old origins i u e = ap (signed_origin i) e

pub dimension-new : (origins : List (Option ℕ)) (i : ℕ) → origin origins (i / 2) ≡ None → origin_dimension origins i ≡ None
unfolding origin_dimension
dimension-new origins i e = ap (signed_origin i) e

pub dimension-below : (n : ℕ) (origins : List (Option ℕ)) (i p : ℕ) → AreOrigins n origins → origin_dimension origins i ≡ Some p → p < 2 * n
dimension-below n origins i p o e = by (origin origins (i / 2)) refl
  where
    by : (a : Option ℕ) → origin origins (i / 2) ≡ a → p < 2 * n
    by None f = let g : None ≡ Some p = sym (dimension-new origins i f) ∙ e in absurd (cc)
    by (Some u) f =
        let g : Some (2 * u + i % 2) ≡ Some p = sym (dimension-old origins i u f) ∙ e in
        let h : 2 * u + i % 2 ≡ p = cc in
        let b = o (i / 2) u f in
        omega arith

-- ---- entries

pub renamed-same : (origins : List (Option ℕ)) (m : Matrix) (i j : ℕ) → i ≡ j → renamed_entry origins m i j ≡ Some (pos 0)
unfolding renamed_entry
renamed-same origins m i j e = ap (λ (b : Bool). cond b (Some (pos 0)) (picked m (origin_dimension origins i) (origin_dimension origins j))) (eq-eqb i j e)

renamed-apart : (origins : List (Option ℕ)) (m : Matrix) (i j : ℕ) → (i ≡ j → ⊥) → renamed_entry origins m i j ≡ picked m (origin_dimension origins i) (origin_dimension origins j)
unfolding renamed_entry
renamed-apart origins m i j d = ap (λ (b : Bool). cond b (Some (pos 0)) (picked m (origin_dimension origins i) (origin_dimension origins j))) (ne_eqb i j d)

pub renamed-old : (origins : List (Option ℕ)) (m : Matrix) (i j p q : ℕ) → (i ≡ j → ⊥) → origin_dimension origins i ≡ Some p → origin_dimension origins j ≡ Some q → renamed_entry origins m i j ≡ at m p q
renamed-old origins m i j p q d e f = renamed-apart origins m i j d ∙ ap (λ t. picked m t (origin_dimension origins j)) e ∙ ap (picked m (Some p)) f

picked-none : (m : Matrix) (p : Option ℕ) → picked m p None ≡ None
picked-none m None = refl
picked-none m (Some p) = refl

pub renamed-new_row : (origins : List (Option ℕ)) (m : Matrix) (i j : ℕ) → (i ≡ j → ⊥) → origin_dimension origins i ≡ None → renamed_entry origins m i j ≡ None
renamed-new_row origins m i j d e = renamed-apart origins m i j d ∙ ap (λ t. picked m t (origin_dimension origins j)) e

pub renamed-new_column : (origins : List (Option ℕ)) (m : Matrix) (i j : ℕ) → (i ≡ j → ⊥) → origin_dimension origins j ≡ None → renamed_entry origins m i j ≡ None
renamed-new_column origins m i j d e = renamed-apart origins m i j d ∙ ap (picked m (origin_dimension origins i)) e ∙ picked-none m (origin_dimension origins i)

-- an entry is 0 on the diagonal, or one between old variables, or none
pub data Comes (origins : List (Option ℕ)) (m : Matrix) (i j : ℕ) : Type 0 where
  same : i ≡ j → renamed_entry origins m i j ≡ Some (pos 0) → Comes origins m i j
  between : (u w : ℕ) → (i ≡ j → ⊥) → origin origins (i / 2) ≡ Some u → origin origins (j / 2) ≡ Some w → renamed_entry origins m i j ≡ at m (2 * u + i % 2) (2 * w + j % 2) → Comes origins m i j
  nowhere : (i ≡ j → ⊥) → (origin origins (i / 2) ≡ None) ⊎ (origin origins (j / 2) ≡ None) → renamed_entry origins m i j ≡ None → Comes origins m i j

pub comes : (origins : List (Option ℕ)) (m : Matrix) (i j : ℕ) → Comes origins m i j
comes origins m i j = by (cases_eq i j) (origin origins (i / 2)) (origin origins (j / 2)) refl refl
  where
    by : (i ≡ j) ⊎ (i ≡ j → ⊥) → (a b : Option ℕ) → origin origins (i / 2) ≡ a → origin origins (j / 2) ≡ b → Comes origins m i j
    by (inl e) a b f g = same e (renamed-same origins m i j e)
    by (inr d) None b f g = nowhere d (inl f) (renamed-new_row origins m i j d (dimension-new origins i f))
    by (inr d) (Some u) None f g = nowhere d (inr g) (renamed-new_column origins m i j d (dimension-new origins j g))
    by (inr d) (Some u) (Some w) f g = between u w d f g (renamed-old origins m i j _ _ d (dimension-old origins i u f) (dimension-old origins j w g))

-- ---- the matrix

pub at-renamed : (origins : List (Option ℕ)) (m : Matrix) (i j : ℕ) → i < 2 * length origins → j < 2 * length origins → at (renamed_matrix origins m) i j ≡ renamed_entry origins m i j
unfolding renamed_matrix
at-renamed origins m i j p q = at-table (2 * length origins) (renamed_entry origins m) i j p q

half-opposite : (i : ℕ) → opposite i / 2 ≡ i / 2
half-opposite i = omega arith

opposite-apart : (i j : ℕ) → (i ≡ j → ⊥) → opposite j ≡ opposite i → ⊥
opposite-apart i j d e = d (omega arith)

-- the opposite of an old dimension
opposite-old : (u i : ℕ) → opposite (2 * u + i % 2) ≡ 2 * u + opposite i % 2
opposite-old u i = omega arith

renamed-twin : (n : ℕ) (origins : List (Option ℕ)) (m : Matrix) → AreOrigins n origins → length m ≡ 2 * n → IsCoherent m → (i j : ℕ) → renamed_entry origins m i j ≡ renamed_entry origins m (opposite j) (opposite i)
renamed-twin n origins m o e co i j = by (comes origins m i j)
  where
    turned : (k : ℕ) (a : Option ℕ) → origin origins (k / 2) ≡ a → origin origins (opposite k / 2) ≡ a
    turned k a f = ap (origin origins) (half-opposite k) ∙ f

    by : Comes origins m i j → renamed_entry origins m i j ≡ renamed_entry origins m (opposite j) (opposite i)
    by (same f g) = g ∙ sym (renamed-same origins m (opposite j) (opposite i) (ap opposite (sym f)))
    by (nowhere d (inl f) g) = g ∙ sym (renamed-new_column origins m (opposite j) (opposite i) (opposite-apart i j d) (dimension-new origins (opposite i) (turned i None f)))
    by (nowhere d (inr f) g) = g ∙ sym (renamed-new_row origins m (opposite j) (opposite i) (opposite-apart i j d) (dimension-new origins (opposite j) (turned j None f)))
    by (between u w d f g h) =
        let p : u < n = o (i / 2) u f in
        let q : w < n = o (j / 2) w g in
        h ∙ co.twins (2 * u + i % 2) (2 * w + j % 2) (omega arith) (omega arith)
        ∙ ap (λ t. at m t (opposite (2 * u + i % 2))) (opposite-old w j) ∙ ap (at m (2 * w + opposite j % 2)) (opposite-old u i)
        ∙ sym (renamed-old origins m (opposite j) (opposite i) _ _ (opposite-apart i j d) (dimension-old origins (opposite j) w (turned j (Some w) g)) (dimension-old origins (opposite i) u (turned i (Some u) f)))

zero-in_range : InRange (Some (pos 0))
zero-in_range = (omega (arith, ints), omega (arith, ints))

renamed-in_range : (origins : List (Option ℕ)) (m : Matrix) → ((i j : ℕ) → InRange (at m i j)) → (i j : ℕ) → InRange (renamed_entry origins m i j)
renamed-in_range origins m h i j = by (comes origins m i j)
  where
    by : Comes origins m i j → InRange (renamed_entry origins m i j)
    by (same e f) = subst InRange (sym f) zero-in_range
    by (between u w d e f g) = subst InRange (sym g) (h (2 * u + i % 2) (2 * w + j % 2))
    by (nowhere d e f) = subst InRange (sym f) tt

renamed-unary : (origins : List (Option ℕ)) (m : Matrix) → ((i : ℕ) → IsEven (at m i (opposite i))) → (i : ℕ) → IsEven (renamed_entry origins m i (opposite i))
renamed-unary origins m h i = by (comes origins m i (opposite i))
  where
    by : Comes origins m i (opposite i) → IsEven (renamed_entry origins m i (opposite i))
    by (same e f) = absurd (omega (arith, e))
    by (nowhere d e f) = subst IsEven (sym f) refl
    by (between u w d e f g) =
        let s : Some w ≡ Some u = sym f ∙ ap (origin origins) (half-opposite i) ∙ e in
        let t : w ≡ u = cc in
        let z : 2 * w + opposite i % 2 ≡ opposite (2 * u + i % 2) = ap (λ t. 2 * t + opposite i % 2) t ∙ sym (opposite-old u i) in
        subst IsEven (sym (g ∙ ap (at m (2 * u + i % 2)) z)) (h (2 * u + i % 2))

-- a value under new numbers is a value
pub even-renamed : (n : ℕ) (origins : List (Option ℕ)) (m : Matrix) → AreOrigins n origins → IsEvenMatrix n m → IsEvenMatrix (length origins) (renamed_matrix origins m)
unfolding renamed_matrix EvenUnary
even-renamed n origins m o v = record {
  matrix = record {
    rows = length-table (2 * length origins) (renamed_entry origins m);
    square = square-table (2 * length origins) (renamed_entry origins m);
    coherent = coherent-table (length origins) (renamed_entry origins m) (λ i j p q. renamed-twin n origins m o v.matrix.rows v.matrix.coherent i j);
    in_range = each-table InRange tt (2 * length origins) (renamed_entry origins m) (λ i j p q. renamed-in_range origins m v.matrix.in_range i j);
    diagonal = λ i p.
        let q : i < 2 * length origins = omega (arith, length-table (2 * length origins) (renamed_entry origins m)) in
        at-table (2 * length origins) (renamed_entry origins m) i i q q ∙ renamed-same origins m i i refl;
  };
  even = even_unary-table (length origins) (renamed_entry origins m) (λ i p. renamed-unary origins m v.even i);
}

-- ---- the part over variables that keep their numbers

pub part-kept : (n : ℕ) (origins : List (Option ℕ)) (m : Matrix) (vs : List ℕ) → IsEvenMatrix n m → AreOrigins n origins → IsBlock (length origins) vs → KeepNumbers origins vs → restrict vs m ≡ restrict vs (renamed_matrix origins m)
unfolding restrict restrict_entry
part-kept n origins m vs v o bl k = table-same (2 * length vs) _ _ (λ i j p q.
    let x = outer_below (length origins) vs i bl p in
    let y = outer_below (length origins) vs j bl q in
    by i j p q (cases_eq (outer vs i) (outer vs j)) ∙ sym (at-renamed origins m (outer vs i) (outer vs j) x y))
  where
    kept : (i : ℕ) → i < 2 * length vs → origin_dimension origins (outer vs i) ≡ Some (outer vs i)
    kept i p =
        let h : origin origins (outer vs i / 2) ≡ Some (outer vs i / 2) = subst (λ t. origin origins t ≡ Some t) (sym (outer-half vs i)) (k (i / 2) (omega arith)) in
        dimension-old origins (outer vs i) (outer vs i / 2) h ∙ ap Some (omega arith)

    small : (i : ℕ) → i < 2 * length vs → outer vs i < 2 * n
    small i p =
        let h : origin origins (outer vs i / 2) ≡ Some (outer vs i / 2) = subst (λ t. origin origins t ≡ Some t) (sym (outer-half vs i)) (k (i / 2) (omega arith)) in
        let q = o (outer vs i / 2) (outer vs i / 2) h in
        omega arith

    by : (i j : ℕ) → i < 2 * length vs → j < 2 * length vs → (outer vs i ≡ outer vs j) ⊎ (outer vs i ≡ outer vs j → ⊥) → at m (outer vs i) (outer vs j) ≡ renamed_entry origins m (outer vs i) (outer vs j)
    by i j p q (inl e) =
        let s = small i p in
        let r = v.matrix.rows in
        ap (at m (outer vs i)) (sym e) ∙ v.matrix.diagonal (outer vs i) (omega arith) ∙ sym (renamed-same origins m (outer vs i) (outer vs j) e)
    by i j p q (inr d) = sym (renamed-old origins m (outer vs i) (outer vs j) (outer vs i) (outer vs j) d (kept i p) (kept j q))
