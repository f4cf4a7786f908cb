-- Blocks under new numbers keep apart what the old ones keep apart.
use Rattle.std.proofs.Common.{◌≡◌, ℕ, ◌+◌, ◌*◌, ◌/◌, ◌%◌, ◌<◌, ◌≤◌, ◌⊎◌, inl, inr, true, false, List, length, Option, Some, None, refl, sym, ap, ◌∙◌, subst, arith}
use Rattle.std.proofs.lemmas.Bool.{cases_lt}
use Rattle.std.proofs.lemmas.List.{get_or_past}
use Rattle.oct_def.specs.Table.{Matrix}
use Rattle.oct_def.specs.Octagon.{top_entry}
use Rattle.block_partition.specs.Partition.{member, block, home, SameBlock, IsPartition}
use Rattle.block_partition.specs.Changes.{given_label}
use Rattle.block_laws.specs.Assembly.{is_joint, IsSeparated}
use Rattle.block_laws.proofs.Assembly.{joint-from, joint-not, top_entry-off, top_entry-on}
use Rattle.dec_parts.specs.Rename.{origin, renamed_entry, renamed_matrix, AreOrigins, IsAlone, AreRenamedBlocks}
use Rattle.dec_parts.proofs.Renaming.{Comes, same, between, nowhere, comes, at-renamed}

-- ---- which variables share a block

pub origin-small : (origins : List (Option ℕ)) (v u : ℕ) → origin origins v ≡ Some u → v < length origins
origin-small origins v u e = by (cases_lt v (length origins))
  where
    by : (v < length origins) ⊎ (length origins ≤ v) → v < length origins
    by (inl p) = p
    by (inr p) = let f : None ≡ Some u = sym (get_or_past origins v None p) ∙ e in absurd (cc)

-- variables of one old block
pub same-held : (bs : List (List ℕ)) (origins : List (Option ℕ)) (cs : List (List ℕ)) (v w x y : ℕ) → AreRenamedBlocks bs origins cs → origin origins v ≡ Some x → origin origins w ≡ Some y → SameBlock bs x y → SameBlock cs v w
same-held bs origins cs v w x y r e f s =
    let p = (r.are.each v (origin-small origins v x e)).held x e s.1 in
    let q = (r.are.each w (origin-small origins w y f)).held y f (subst (λ t. t < length bs) s.0 s.1) in
    (r.grouped.exact v w).1 (p ∙ ap Some s.0 ∙ sym q, λ z. let g : Some (home bs x) ≡ None = sym p ∙ z in absurd (cc))

-- two variables that are one old one
pub same-old : (bs : List (List ℕ)) (origins : List (Option ℕ)) (cs : List (List ℕ)) (v w u : ℕ) → AreRenamedBlocks bs origins cs → (v ≡ w → ⊥) → origin origins v ≡ Some u → origin origins w ≡ Some u → SameBlock cs v w
same-old bs origins cs v w u r d e f = by (cases_lt (home bs u) (length bs))
  where
    p : v < length origins
    p = origin-small origins v u e

    q : w < length origins
    q = origin-small origins w u f

    number : (k j : ℕ) → k < length origins → j < length origins → (j ≡ k → ⊥) → origin origins k ≡ Some u → origin origins j ≡ Some u → length bs ≤ home bs u → given_label r.numbers k ≡ Some (512 + u)
    number k j a b z g h l = only ((r.are.each k a).free u g l)
      where
        only : (given_label r.numbers k ≡ Some (512 + u)) ⊎ ((given_label r.numbers k ≡ None) × IsAlone origins k u) → given_label r.numbers k ≡ Some (512 + u)
        only (inl t) = t
        only (inr t) = absurd (t.1 j b z h)

    by : (home bs u < length bs) ⊎ (length bs ≤ home bs u) → SameBlock cs v w
    by (inl h) = same-held bs origins cs v w u u r e f (refl, h)
    by (inr h) =
        let a = number v w p q (λ z. d (sym z)) e f h in
        let b = number w v q p d f e h in
        (r.grouped.exact v w).1 (a ∙ sym b, λ z. let g : Some (512 + u) ≡ None = sym a ∙ z in absurd (cc))

-- ---- the blocks are blocks of the new variables

pub renamed-partition : (bs : List (List ℕ)) (origins : List (Option ℕ)) (cs : List (List ℕ)) → AreRenamedBlocks bs origins cs → IsPartition 512 cs → IsPartition (length origins) cs
renamed-partition bs origins cs r p = record {
  blocks = λ b h. record { below = λ i q. small (member (block cs b) i) (subst (λ t. t < length cs) (sym (p.homes b i h q)) h); rising = (p.blocks b h).rising };
  homes = p.homes;
}
  where
    small : (v : ℕ) → home cs v < length cs → v < length origins
    small v h = by (cases_lt v (length r.numbers))
      where
        by : (v < length r.numbers) ⊎ (length r.numbers ≤ v) → v < length origins
        by (inl q) = let e = r.are.size in omega arith
        by (inr q) = absurd (((r.grouped.exact v v).0 (refl, h)).1 (get_or_past r.numbers v None q))

-- ---- what is kept apart

pub separated-renamed : (n : ℕ) (bs : List (List ℕ)) (origins : List (Option ℕ)) (cs : List (List ℕ)) (m : Matrix) → AreOrigins n origins → IsSeparated n bs m → AreRenamedBlocks bs origins cs → IsSeparated (length origins) cs (renamed_matrix origins m)
separated-renamed n bs origins cs m o sep r = record { apart = λ i j p q h. at-renamed origins m i j p q ∙ by i j h (comes origins m i j) }
  where
    joint : (i j : ℕ) → is_joint cs i j ≡ false → SameBlock cs (i / 2) (j / 2) → ⊥
    joint i j h s = let g : true ≡ false = sym (joint-from cs i j s.0 s.1) ∙ h in absurd (cc)

    by : (i j : ℕ) → is_joint cs i j ≡ false → Comes origins m i j → renamed_entry origins m i j ≡ top_entry i j
    by i j h (same e f) = f ∙ sym (ap (top_entry i) (sym e) ∙ top_entry-on i)
    by i j h (nowhere d e f) = f ∙ sym (top_entry-off i j d)
    by i j h (between u w d e f g) = g ∙ sep.apart a b (below i u e) (below j w f) old ∙ top_entry-off a b other ∙ sym (top_entry-off i j d)
      where
        a : ℕ
        a = 2 * u + i % 2

        b : ℕ
        b = 2 * w + j % 2

        below : (k x : ℕ) → origin origins (k / 2) ≡ Some x → 2 * x + k % 2 < 2 * n
        below k x z = let p = o (k / 2) x z in omega arith

        half : (x k : ℕ) → (2 * x + k % 2) / 2 ≡ x
        half x k = omega arith

        old : is_joint bs a b ≡ false
        old = joint-not bs a b (λ s t. joint i j h (same-held bs origins cs (i / 2) (j / 2) u w r e f (sym (ap (home bs) (half u i)) ∙ s ∙ ap (home bs) (half w j), subst (λ z. home bs z < length bs) (half u i) t)))

        variables : (x y k l : ℕ) → 2 * x + k % 2 ≡ 2 * y + l % 2 → (x ≡ y) × (k % 2 ≡ l % 2)
        variables x y k l s = (omega arith, omega arith)

        other : a ≡ b → ⊥
        other s =
            let t = variables u w i j s in
            let z : i / 2 ≡ j / 2 → ⊥ = λ c. let q = t.1 in d (omega arith) in
            joint i j h (same-old bs origins cs (i / 2) (j / 2) u r z e (subst (λ k. origin origins (j / 2) ≡ Some k) (sym t.0) f))
