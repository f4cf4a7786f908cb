-- A random assignment is a renaming in which the target is new.
use Rattle.std.proofs.Common.{◌≡◌, ℕ, ◌*◌, ◌/◌, ◌%◌, ◌+◌, ◌<◌, ◌⊎◌, inl, inr, List, length, Option, Some, None, refl, sym, ap, ◌∙◌, subst, arith}
use Rattle.std.specs.Prelude.{◌≤◌}
use Rattle.std.specs.Option.{option_map}
use Rattle.std.proofs.lemmas.Bool.{cases_eq, cases_lt, cond-true, cond-false, eq-eqb, ne_eqb}
use Rattle.std.proofs.lemmas.List.{get_or_past}
use Rattle.oct_def.specs.Table.{Matrix, table, at}
use Rattle.oct_def.specs.Matrix.{IsEvenMatrix}
use Rattle.oct_def.specs.Octagon.{top_entry}
use Rattle.oct_def.proofs.Tables.{at-table, length-table, table-same}
use Rattle.block_partition.specs.Partition.{member, block, home, IsBlock}
use Rattle.block_laws.specs.Components.{Joins, Linked, One, More}
use Rattle.block_laws.proofs.Assembly.{top_entry-off, top_entry-on}
use Rattle.transfer_def.specs.Forget.{forgotten_entry, forgotten, forget_value}
use Rattle.dec_oct.specs.Value.{Blocks, whole, Decomposed, decomposed, octagon, octagon_of, IsDecomposition, IsKeptBlocks, IsKept}
use Rattle.dec_parts.specs.Rename.{origin, renamed_entry, renamed_matrix, renamed_value, AreUnmoved, KeepsOwnMarks, KeepsOwnMarksOf}
use Rattle.dec_parts.proofs.Renaming.{dimension-old, dimension-new, renamed-same, renamed-old, renamed-new_row, renamed-new_column}
use Rattle.dec_transfer.specs.Forgotten.{AreOthers, KeepsUntouched, KeepsUntouchedOf}

forgotten-row : (x : ℕ) (m : Matrix) (i j : ℕ) → i / 2 ≡ x → forgotten_entry x m i j ≡ top_entry i j
unfolding forgotten_entry
forgotten-row x m i j e = rw (eq-eqb (i / 2) x e) refl

forgotten-column : (x : ℕ) (m : Matrix) (i j : ℕ) → (i / 2 ≡ x → ⊥) → j / 2 ≡ x → forgotten_entry x m i j ≡ top_entry i j
unfolding forgotten_entry
forgotten-column x m i j d e = rw (ne_eqb (i / 2) x d, eq-eqb (j / 2) x e) refl

forgotten-other : (x : ℕ) (m : Matrix) (i j : ℕ) → (i / 2 ≡ x → ⊥) → (j / 2 ≡ x → ⊥) → forgotten_entry x m i j ≡ at m i j
unfolding forgotten_entry
forgotten-other x m i j d e = rw (ne_eqb (i / 2) x d, ne_eqb (j / 2) x e) refl

forgotten-is : (n x : ℕ) (origins : List (Option ℕ)) (m : Matrix) → AreOthers n x origins → IsEvenMatrix n m → renamed_matrix origins m ≡ forgotten n x m
unfolding renamed_matrix forgotten
forgotten-is n x origins m h v = ap (λ k. table (2 * k) (renamed_entry origins m)) h.size ∙ table-same (2 * n) _ _ (λ i j p q. by i j p q (cases_eq i j) (cases_eq (i / 2) x) (cases_eq (j / 2) x))
  where
    new : (i : ℕ) → i < 2 * n → i / 2 ≡ x → origin origins (i / 2) ≡ None
    new i p e = h.each (i / 2) (omega arith) ∙ cond-true _ _ _ (eq-eqb (i / 2) x e)

    old : (i : ℕ) → i < 2 * n → (i / 2 ≡ x → ⊥) → origin origins (i / 2) ≡ Some (i / 2)
    old i p d = h.each (i / 2) (omega arith) ∙ cond-false _ _ _ (ne_eqb (i / 2) x d)

    whole : (i : ℕ) → 2 * (i / 2) + i % 2 ≡ i
    whole i = omega arith

    by : (i j : ℕ) → i < 2 * n → j < 2 * n → (i ≡ j) ⊎ (i ≡ j → ⊥) → (i / 2 ≡ x) ⊎ (i / 2 ≡ x → ⊥) → (j / 2 ≡ x) ⊎ (j / 2 ≡ x → ⊥) → renamed_entry origins m i j ≡ forgotten_entry x m i j
    by i j p q (inl e) (inl f) _ = renamed-same origins m i j e ∙ sym (forgotten-row x m i j f ∙ ap (top_entry i) (sym e) ∙ top_entry-on i)
    by i j p q (inl e) (inr d) (inl g) = absurd (d (ap (λ t. t / 2) e ∙ g))
    by i j p q (inl e) (inr d) (inr g) =
        let r = v.matrix.rows in
        renamed-same origins m i j e ∙ sym (forgotten-other x m i j d g ∙ ap (at m i) (sym e) ∙ v.matrix.diagonal i (omega arith))
    by i j p q (inr c) (inl f) _ = renamed-new_row origins m i j c (dimension-new origins i (new i p f)) ∙ sym (forgotten-row x m i j f ∙ top_entry-off i j c)
    by i j p q (inr c) (inr d) (inl g) = renamed-new_column origins m i j c (dimension-new origins j (new j q g)) ∙ sym (forgotten-column x m i j d g ∙ top_entry-off i j c)
    by i j p q (inr c) (inr d) (inr g) =
        renamed-old origins m i j _ _ c (dimension-old origins i (i / 2) (old i p d)) (dimension-old origins j (j / 2) (old j q g))
        ∙ ap (λ t. at m t (2 * (j / 2) + j % 2)) (whole i) ∙ ap (at m i) (whole j) ∙ sym (forgotten-other x m i j d g)

-- ---- values

forgotten-blocks : (n x : ℕ) (origins : List (Option ℕ)) (b : Option Blocks) → AreOthers n x origins → IsKeptBlocks n b → renamed_value origins (octagon (decomposed n b)) ≡ forget_value x (octagon (decomposed n b))
unfolding renamed_value forget_value
forgotten-blocks n x origins None h k = ap (λ d. octagon_of d None) h.size
forgotten-blocks n x origins (Some b) h k = ap (λ d. octagon_of d (Some (renamed_matrix origins (whole n b)))) h.size ∙ ap (λ m. octagon_of n (Some m)) (forgotten-is n x origins (whole n b) h k.value)

pub value-forgotten : (d x : ℕ) (v r : Decomposed) (origins : List (Option ℕ)) → d ≡ v.dims → AreOthers d x origins → IsKept v → octagon r ≡ renamed_value origins (octagon v) → octagon r ≡ forget_value x (octagon v)
value-forgotten d x v r origins s h k e = e ∙ forgotten-blocks v.dims x origins v.blocks (subst (λ n. AreOthers n x origins) s h) k.blocks

-- ---- marks

first-link : (m : Matrix) (u w : ℕ) → Linked m u w → (v : ℕ) × Joins m u v
first-link m u w (One _ _ j) = (w, j)
first-link m u w (More _ v _ a b) = first-link m u v a

-- no entry joins the target to a variable, so it's in no block
unjoined : (n x v : ℕ) (m : Matrix) → Joins (forgotten n x m) x v → ⊥
unfolding forgotten
unjoined n x v m j =
    let size = length-table (2 * n) (forgotten_entry x m) in
    let p = j.row_in in
    let q = j.column_in in
    j.finite (at-table (2 * n) (forgotten_entry x m) j.row j.column (omega (arith, size, p)) (omega (arith, size, q)) ∙ forgotten-row x m j.row j.column j.row_is ∙ top_entry-off j.row j.column j.apart)

no_member : (n x : ℕ) (m : Matrix) (r : Blocks) → x < n → IsDecomposition n r → whole n r ≡ forgotten n x m → (c i : ℕ) → c < length r.partition → i < length (block r.partition c) → member (block r.partition c) i ≡ x → ⊥
no_member n x m r l d e c i p q f =
    let h : home r.partition x ≡ c = ap (home r.partition) (sym f) ∙ d.parts.partition.homes c i p q in
    let k : Linked (whole n r) x x = (d.components.exact x x l l).0 (refl, omega arith) in
    let s = first-link (forgotten n x m) x x (subst (λ t. Linked t x x) e k) in
    unjoined n x s.0 m s.1

unmoved : (n x : ℕ) (origins : List (Option ℕ)) (vs : List ℕ) → AreOthers n x origins → IsBlock n vs → ((i : ℕ) → i < length vs → member vs i ≡ x → ⊥) → AreUnmoved origins vs
unmoved n x origins vs h b d = record {
  keep = λ i p. h.each (member vs i) (b.below i p) ∙ cond-false _ _ _ (ne_eqb (member vs i) x (d i p));
  only = λ v u e _. by v u e (cases_lt v n) (cases_eq v x);
}
  where
    by : (v u : ℕ) → origin origins v ≡ Some u → (v < n) ⊎ (n ≤ v) → (v ≡ x) ⊎ (v ≡ x → ⊥) → v ≡ u
    by v u e (inl p) (inl f) = let t : None ≡ Some u = sym (h.each v p ∙ cond-true _ _ _ (eq-eqb v x f)) ∙ e in absurd (cc)
    by v u e (inl p) (inr f) = let t : Some v ≡ Some u = sym (h.each v p ∙ cond-false _ _ _ (ne_eqb v x f)) ∙ e in cc
    by v u e (inr p) _ = let z = h.size in let t : None ≡ Some u = sym (get_or_past origins v None (omega arith)) ∙ e in absurd (cc)

keeps_untouched : (n x : ℕ) (origins : List (Option ℕ)) (a r : Blocks) → x < n → AreOthers n x origins → IsDecomposition n r → whole n r ≡ forgotten n x (whole n a) → KeepsOwnMarks origins a r → KeepsUntouched a r
keeps_untouched n x origins a r l h d e k = record {
  kept = λ c p t. k.kept t.place c t.within p t.members (unmoved n x origins (block r.partition c) h (d.parts.partition.blocks c p) (λ i q. no_member n x (whole n a) r l d e c i p q)) t.mark;
}

some_matrix : (x y : Matrix) → Some x ≡ Some y → x ≡ y
some_matrix x y e = cc

kept_marks : (n x d : ℕ) (origins : List (Option ℕ)) (b r : Option Blocks) → x < n → AreOthers n x origins → IsKeptBlocks d r → d ≡ n → option_map (whole d) r ≡ option_map (forgotten n x) (option_map (whole n) b) → KeepsOwnMarksOf origins b r → KeepsUntouchedOf x b r
kept_marks n x d origins None r l h t f e k = k
kept_marks n x d origins (Some a) None l h t f e k = k
kept_marks n x d origins (Some a) (Some s) l h t f e k = keeps_untouched n x origins a s l h (subst (λ z. IsDecomposition z s) f t) (ap (λ z. whole z s) (sym f) ∙ some_matrix _ _ e) k

pub marks-forgotten : (d x : ℕ) (v r : Decomposed) (origins : List (Option ℕ)) → x < v.dims → d ≡ v.dims → AreOthers d x origins → IsKept v → IsKept r → octagon r ≡ renamed_value origins (octagon v) → KeepsOwnMarksOf origins v.blocks r.blocks → KeepsUntouchedOf x v.blocks r.blocks
unfolding forget_value
marks-forgotten d x v r origins l s h k t e m =
    let f = value-forgotten d x v r origins s h k e in
    kept_marks v.dims x r.dims origins v.blocks r.blocks l (subst (λ n. AreOthers n x origins) s h) t.blocks (ap (λ z. z.dims) f) (ap (λ z. z.matrix) f) m
