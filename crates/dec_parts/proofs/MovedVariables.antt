-- Added variables that take the places of others are new numbers of variables.
use Rattle.std.proofs.Common.{◌≡◌, ℕ, ◌+◌, ◌*◌, ◌/◌, ◌%◌, ◌<◌, ◌≤◌, ◌⊎◌, inl, inr, List, length, Option, Some, None, refl, sym, ap, ◌∙◌, subst, arith}
use Rattle.std.specs.Option.{option_map}
use Rattle.std.proofs.lemmas.List.{get_or_past}
use Rattle.std.proofs.lemmas.Bool.{cases_eq, cases_lt}
use Rattle.oct_def.specs.Table.{Matrix, table, at}
use Rattle.oct_def.specs.Matrix.{IsEvenMatrix}
use Rattle.oct_def.proofs.Tables.{table-same}
use Rattle.block_partition.specs.Partition.{member, block, IsIn, IsBlock}
use Rattle.block_partition.proofs.Places.{in-member, member-place}
use Rattle.transfer_def.specs.Dimensions.{moved_variable, moved_dimension, moved_entry, moved}
use Rattle.transfer_def.proofs.Dimensions.{Moves, moves, taken, still, moved_variable-below}
use Rattle.dec_oct.specs.Value.{Blocks, Decomposed, whole, octagon, octagon_of, IsDecomposition, IsKeptBlocks, IsKept}
use Rattle.dec_parts.specs.Rename.{origin, renamed_entry, renamed_matrix, AreOrigins, renamed_value, AreUnmoved, KeepsOwnMarks, KeepsOwnMarksOf}
use Rattle.dec_parts.specs.Moving.{AreMovedOrigins, moved_value, KeepsOtherMarks, KeepsOtherMarksOf}
use Rattle.dec_parts.proofs.Renaming.{dimension-old, renamed-same, renamed-old}

-- ---- the origins

origin-inside : (origins : List (Option ℕ)) (v u : ℕ) → origin origins v ≡ Some u → v < length origins
origin-inside origins v u e = by (cases_lt v (length origins))
  where
    by : (v < length origins) ⊎ (length origins ≤ v) → v < length origins
    by (inl p) = p
    by (inr p) = let s : None ≡ Some u = sym (get_or_past origins v None p) ∙ e in absurd (cc)

pub moved-origins : (n : ℕ) (targets : List ℕ) (origins : List (Option ℕ)) → AreMovedOrigins n targets origins → AreOrigins (n + length targets) origins
moved-origins n targets origins h v u e =
    let p = origin-inside origins v u e in
    let q : v < n = omega (arith, h.size) in
    let f : Some (moved_variable n targets v) ≡ Some u = sym (h.each v q) ∙ e in
    let g : moved_variable n targets v ≡ u = cc in
    let b = moved_variable-below n v targets q in
    omega arith

moved-is : (n : ℕ) (targets : List ℕ) (origins : List (Option ℕ)) (m : Matrix) → AreMovedOrigins n targets origins → IsEvenMatrix (n + length targets) m → renamed_matrix origins m ≡ moved n targets m
unfolding renamed_matrix moved moved_entry moved_dimension
moved-is n targets origins m h v = ap (λ k. table (2 * k) (renamed_entry origins m)) h.size ∙ table-same (2 * n) _ _ (λ i j p q. by i j p q (cases_eq i j))
  where
    old : (i : ℕ) → i < 2 * n → origin origins (i / 2) ≡ Some (moved_variable n targets (i / 2))
    old i p = h.each (i / 2) (omega arith)

    by : (i j : ℕ) → i < 2 * n → j < 2 * n → (i ≡ j) ⊎ (i ≡ j → ⊥) → renamed_entry origins m i j ≡ at m (2 * moved_variable n targets (i / 2) + i % 2) (2 * moved_variable n targets (j / 2) + j % 2)
    by i j p q (inl e) =
        let b = moved_variable-below n (i / 2) targets (omega arith) in
        let r = v.matrix.rows in
        renamed-same origins m i j e ∙ sym (ap (λ t. at m (2 * moved_variable n targets (i / 2) + i % 2) (2 * moved_variable n targets (t / 2) + t % 2)) (sym e) ∙ v.matrix.diagonal _ (omega arith))
    by i j p q (inr d) = renamed-old origins m i j _ _ d (dimension-old origins i _ (old i p)) (dimension-old origins j _ (old j q))

-- a block without a target is unmoved
unmoved : (n : ℕ) (targets : List ℕ) (origins : List (Option ℕ)) (vs : List ℕ) → AreMovedOrigins n targets origins → IsBlock n vs → ((k : ℕ) → k < length targets → IsIn vs (member targets k) → ⊥) → AreUnmoved origins vs
unmoved n targets origins vs h bl free = record {
  keep = λ i p. keep i p (moves n targets (member vs i));
  only = λ v u e z. only v u e z (origin-inside origins v u e) (moves n targets v);
}
  where
    keep : (i : ℕ) → i < length vs → Moves n targets (member vs i) → origin origins (member vs i) ≡ Some (member vs i)
    keep i p (taken k q e g f) = absurd (free k q (subst (IsIn vs) (sym e) (in-member vs i p)))
    keep i p (still g f) = h.each (member vs i) (bl.below i p) ∙ ap Some f

    only : (v u : ℕ) → origin origins v ≡ Some u → IsIn vs u → v < length origins → Moves n targets v → v ≡ u
    only v u e z p (taken k q f y g) =
        let s : Some (moved_variable n targets v) ≡ Some u = sym (h.each v (omega (arith, h.size))) ∙ e in
        let t : moved_variable n targets v ≡ u = cc in
        let b : u < n = subst (λ x. x < n) (member-place vs u z) (bl.below _ z) in
        absurd (omega arith)
    only v u e z p (still g f) =
        let s : Some (moved_variable n targets v) ≡ Some u = sym (h.each v (omega (arith, h.size))) ∙ e in
        let t : moved_variable n targets v ≡ u = cc in
        sym f ∙ t

other-marks : (n : ℕ) (targets : List ℕ) (origins : List (Option ℕ)) (a r : Blocks) → AreMovedOrigins n targets origins → IsDecomposition n r → KeepsOwnMarks origins a r → KeepsOtherMarks targets a r
other-marks n targets origins a r h d k = record {
  kept = λ p c i j e free mark. k.kept p c i j e (unmoved n targets origins (block r.partition c) h (d.parts.partition.blocks c j) free) mark;
}

-- ---- the value and its marks

pub value-moved : (n : ℕ) (targets : List ℕ) (origins : List (Option ℕ)) (v r : Decomposed) → AreMovedOrigins n targets origins → v.dims ≡ n + length targets → IsKept v → octagon r ≡ renamed_value origins (octagon v) → octagon r ≡ moved_value n targets (octagon v)
unfolding renamed_value moved_value
value-moved n targets origins v r h d k e = e ∙ ap (λ s. octagon_of s (option_map (renamed_matrix origins) (option_map (whole v.dims) v.blocks))) h.size ∙ ap (octagon_of n) (by v.blocks k.blocks)
  where
    by : (o : Option Blocks) → IsKeptBlocks v.dims o → option_map (renamed_matrix origins) (option_map (whole v.dims) o) ≡ option_map (moved n targets) (option_map (whole v.dims) o)
    by None z = refl
    by (Some b) z = ap Some (moved-is n targets origins (whole v.dims b) h (subst (λ s. IsEvenMatrix s (whole v.dims b)) d z.value))

pub marks-moved : (n : ℕ) (targets : List ℕ) (origins : List (Option ℕ)) (v r : Decomposed) → AreMovedOrigins n targets origins → IsKept r → octagon r ≡ renamed_value origins (octagon v) → KeepsOwnMarksOf origins v.blocks r.blocks → KeepsOtherMarksOf targets v.blocks r.blocks
unfolding renamed_value
marks-moved n targets origins v r h k e own = by v.blocks r.blocks (subst (λ s. IsKeptBlocks s r.blocks) (ap (λ z. z.dims) e ∙ h.size) k.blocks) own
  where
    by : (a b : Option Blocks) → IsKeptBlocks n b → KeepsOwnMarksOf origins a b → KeepsOtherMarksOf targets a b
    by None b z o = o
    by (Some a) None z o = o
    by (Some a) (Some b) z o = other-marks n targets origins a b h z o
