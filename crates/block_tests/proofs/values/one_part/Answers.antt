use Rattle.std.proofs.Common.{◌≡◌, ℕ, ◌*◌, ◌<◌, ◌≤◌, ◌⊎◌, inl, inr, Bool, true, false, List, [], ◌∷◌, length, Some, refl, sym, ap, ◌∙◌, subst, arith, rules}
use Rattle.std.specs.Prelude.{pos}
use Rattle.oct_def.specs.Bound.{InRange, IsEven}
use Rattle.oct_def.specs.Table.{Matrix, at}
use Rattle.oct_def.specs.Matrix.{opposite}
use Rattle.oct_def.proofs.Tables.{at-past_row}
use Rattle.block_partition.specs.Partition.{member, block, IsBlock, IsPartition}
use Rattle.block_laws.specs.Assembly.{matrix}
use Rattle.dec_oct.specs.Value.{blocks_of, marked}
use Rattle.dec_oct.specs.Given.{IsEvenGiven}
use Rattle.block_tests.proofs.values.one_part.Goals as goal

single-given : (n : ℕ) (bs : List (List ℕ)) (ms : List Matrix) (marks : List Bool) (m : Matrix) → IsPartition 512 bs → length bs ≡ 1 → length (block bs 0) ≡ n → ((i : ℕ) → i < length (block bs 0) → member (block bs 0) i < n) → ms ≡ m ∷ [] → marks ≡ false ∷ []
    → length m ≡ 2 * n → ((i j : ℕ) → InRange (at m i j)) → ((i : ℕ) → i < length m → at m i i ≡ Some (pos 0)) → ((i : ℕ) → i < length m → IsEven (at m i (opposite i))) → IsEvenGiven n (blocks_of bs ms marks)
single-given n bs ms marks m pt one all below em ek rows range zero even = record {
  given = record {
    partition = record { blocks = λ c p. subst (λ t. IsBlock n (block bs t)) (first c p) (record { below = below; rising = (pt.blocks 0 (omega arith)).rising }); homes = pt.homes };
    count = ap length em ∙ sym one;
    size = λ c p. subst (λ t. length (matrix ms t) ≡ 2 * length (block bs t)) (first c p) (ap length at_first ∙ rows ∙ ap (λ t. 2 * t) (sym all));
    in_range = λ c p. subst (λ t. (i j : ℕ) → InRange (at (matrix ms t) i j)) (first c p) (subst (λ t. (i j : ℕ) → InRange (at t i j)) (sym at_first) range);
    marks = ap length ek ∙ sym one;
    settled = record { again = λ c p h. absurd (none c (omega (arith, ap length em, p)) h) };
  };
  diagonal = λ c p. subst (λ t. (i : ℕ) → i < length (matrix ms t) → at (matrix ms t) i i ≡ Some (pos 0)) (first c p) (subst (λ t. (i : ℕ) → i < length t → at t i i ≡ Some (pos 0)) (sym at_first) zero);
  even = λ c p. subst (λ t. (i : ℕ) → IsEven (at (matrix ms t) i (opposite i))) (first c p) (subst (λ t. (i : ℕ) → IsEven (at t i (opposite i))) (sym at_first) (λ i. by i (grind arith)));
}
  where
    first : (c : ℕ) → c < length bs → 0 ≡ c
    first c p = omega arith

    at_first : matrix ms 0 ≡ m
    at_first = ap (λ t. matrix t 0) em

    none : (c : ℕ) → c < 1 → marked marks c ≡ true → ⊥
    none c p h =
        let z : 0 ≡ c = omega arith in
        let f : false ≡ true = sym (ap (λ t. marked t 0) ek) ∙ ap (marked marks) z ∙ h in
        cc

    by : (i : ℕ) → (i < length m) ⊎ (length m ≤ i) → IsEven (at m i (opposite i))
    by i (inl p) = even i p
    by i (inr p) = subst IsEven (sym (at-past_row m i (opposite i) p)) refl

pub returns-clause-given : goal.returns-clause-given
returns-clause-given g c =
    let block = c.in_ok-partition.ensures in
    let same = c.buf-m.ensures in
    single-given _ _ _ _ c.args.matrix block.partition block.one block.size block.below c.in_ok-vec.ensures.items c.in_ok-vec-2.ensures.items
    (ap length (sym same) ∙ sym c.vars-dims.ensures.rows) c.requires.in_range
    (subst (λ (t : Matrix). (i : ℕ) → i < length t → at t i i ≡ Some (pos 0)) same (c.has_zero_diagonal.ensures (search rules)))
    (subst (λ (t : Matrix). (i : ℕ) → i < length t → IsEven (at t i (opposite i))) same (c.has_even_bounds.ensures (search rules)))
