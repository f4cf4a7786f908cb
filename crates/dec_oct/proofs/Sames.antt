-- Equal values have equal blocks.
use Rattle.std.proofs.Common.{◌≡◌, ℕ, ◌<◌, ◌≤◌, List, [], length, Option, Some, None, sym, ap, ◌∙◌, subst, arith, get_or}
use Rattle.std.proofs.lemmas.List.{same_lists, get_or_default}
use Rattle.oct_def.specs.Table.{Matrix}
use Rattle.block_partition.specs.Partition.{block}
use Rattle.block_partition.proofs.Unique.{partition-unique}
use Rattle.block_laws.specs.Assembly.{restrict}
use Rattle.block_laws.specs.Components.{Linked}
use Rattle.block_laws.proofs.Assembly.{restrict-assembly}
use Rattle.dec_oct.specs.Value.{Blocks, whole, Decomposed, decomposed, octagon, IsDecomposition, IsKept}

pub lists-same : {X : Type 0} (xs ys : List X) (d : X) (i : ℕ) → length xs ≡ length ys → ((k : ℕ) → k < i → get_or xs k d ≡ get_or ys k d) → length xs ≤ i → xs ≡ ys
lists-same xs ys d i e h p = same_lists xs ys e (λ k x q. get_or_default xs k x d q ∙ h k (omega arith) ∙ sym (get_or_default ys k x d (omega arith)))

pub same-partition : (n : ℕ) (a b : Blocks) → IsDecomposition n a → IsDecomposition n b → whole n a ≡ whole n b → a.partition ≡ b.partition
same-partition n a b da db e = partition-unique n a.partition b.partition da.parts.partition db.parts.partition da.ordered db.ordered
    (λ u w p q. (
      λ s. (db.components.exact u w p q).1 (subst (λ m. Linked m u w) e ((da.components.exact u w p q).0 s)),
      λ s. (da.components.exact u w p q).1 (subst (λ m. Linked m u w) (sym e) ((db.components.exact u w p q).0 s)),
    ))

pub same-matrices_of : (n : ℕ) (a b : Blocks) → IsDecomposition n a → IsDecomposition n b → whole n a ≡ whole n b → a.matrices ≡ b.matrices
same-matrices_of n a b da db e =
    let f = same-partition n a b da db e in
    let ca = da.parts.count in
    let cb = db.parts.count in
    let g = ap length f in
    lists-same a.matrices b.matrices [] (length a.matrices) (omega arith) (λ k p.
    sym (restrict-assembly n a.partition a.matrices k da.parts (omega arith)) ∙ ap (restrict (block a.partition k)) e ∙ ap (λ x. restrict (block x k) (whole n b)) f
    ∙ restrict-assembly n b.partition b.matrices k db.parts (omega arith)) (omega arith)

matrix_or : Option Matrix → Matrix
matrix_or None = []
matrix_or (Some m) = m

pub same-no : (d e : Decomposed) (n k : ℕ) (a b : Blocks) → decomposed n (Some a) ≡ d → decomposed k (Some b) ≡ e → IsKept d → IsKept e → d.dims ≡ e.dims → octagon d ≡ octagon e → (a.partition ≡ b.partition) × (a.matrices ≡ b.matrices)
unfolding matrix_or
same-no d e n k a b f g kd ke h o = (same-partition n a b da db m, same-matrices_of n a b da db m)
  where
    nk : n ≡ k
    nk = ap (λ x. x.dims) f ∙ h ∙ sym (ap (λ x. x.dims) g)

    da : IsDecomposition n a
    da = (subst IsKept (sym f) kd).blocks

    db : IsDecomposition n b
    db = subst (λ t. IsDecomposition t b) (sym nk) ((subst IsKept (sym g) ke).blocks)

    m : whole n a ≡ whole n b
    m = ap (λ x. matrix_or x.matrix) (ap octagon f ∙ o ∙ sym (ap octagon g)) ∙ ap (λ t. whole t b) (sym nk)
