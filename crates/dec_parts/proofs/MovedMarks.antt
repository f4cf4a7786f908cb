-- Which marks may be missing after added variables took the places of others.
use Rattle.std.proofs.Common.{◌≡◌, ℕ, ◌+◌, ◌-◌, ◌*◌, ◌/◌, ◌%◌, ◌<◌, ◌≤◌, ◌⊎◌, inl, inr, false, List, length, Option, Some, None, refl, sym, ap, ◌∙◌, subst, arith, suc, zero, [], ◌∷◌}
use Rattle.std.specs.List.{All}
use Rattle.std.specs.Option.{option_map}
use Rattle.std.proofs.lemmas.Bool.{cases_lt, both_ways}
use Rattle.oct_def.specs.Table.{Matrix, at}
use Rattle.oct_def.specs.Tight.{tight}
use Rattle.oct_def.proofs.Tables.{length-table, at-table, table-same}
use Rattle.block_partition.specs.Partition.{member, block, home, IsIn, IsBlock}
use Rattle.block_partition.proofs.Places.{member-place, in-member, home_in, home-in}
use Rattle.block_partition.proofs.Unique.{rising-unique}
use Rattle.spl_core.specs.Facts.{AreDistinct}
use Rattle.transfer_def.specs.Dimensions.{moved_variable, moved_dimension, moved_entry, moved}
use Rattle.transfer_def.proofs.Dimensions.{moved-found, moved-none}
use Rattle.block_laws.specs.Assembly.{outer, restrict_entry, restrict, matrix}
use Rattle.block_laws.specs.Components.{Joins, Linked, One, More}
use Rattle.block_laws.proofs.Places.{outer_in}
use Rattle.block_laws.proofs.Restrict.{cases_in}
use Rattle.block_laws.proofs.Assembly.{length-assembly, restrict-assembly}
use Rattle.dec_oct.specs.Value.{Blocks, Decomposed, decomposed, marked, whole, octagon, IsDecomposition, IsKeptBlocks, IsKept}
use Rattle.dec_oct.specs.Cost.{TellsAgain, TellsAgainOf}
use Rattle.dec_parts.specs.Moving.{moved_value, KeepsOtherMarks, KeepsOtherMarksOf, IsChanged, HoldsTarget, WasBesideTarget, MarksAllButTargetsOf}

-- ---- entries that stay

-- one of the first variables, and no target
record IsStill (n : ℕ) (targets : List ℕ) (v : ℕ) : Type 0 where
  below : v < n
  other : (k : ℕ) → k < length targets → member targets k ≡ v → ⊥

still-dimension : (n : ℕ) (targets : List ℕ) (i : ℕ) → IsStill n targets (i / 2) → moved_dimension n targets i ≡ i
unfolding moved_dimension
still-dimension n targets i s = let e = moved-none n targets (i / 2) s.other in omega (arith, e)

-- the place of a target is taken by its added variable
added-dimension : (n : ℕ) (targets : List ℕ) (k i : ℕ) → AreDistinct targets → k < length targets → i / 2 ≡ n + k → moved_dimension n targets (2 * member targets k + i % 2) ≡ i
unfolding moved_dimension
added-dimension n targets k i d p h =
    let z = member targets k in
    let half : (2 * z + i % 2) / 2 ≡ z = omega arith in
    let e : moved_variable n targets ((2 * z + i % 2) / 2) ≡ n + k = ap (moved_variable n targets) half ∙ moved-found n targets z k p (λ j q. d j k q p) refl in
    omega (arith, e, h)

length-moved : (n : ℕ) (targets : List ℕ) (m : Matrix) → length (moved n targets m) ≡ 2 * n
unfolding moved
length-moved n targets m = length-table (2 * n) (moved_entry n targets m)

at-moved : (n : ℕ) (targets : List ℕ) (m : Matrix) (i j k l : ℕ) → i < 2 * n → j < 2 * n → moved_dimension n targets i ≡ k → moved_dimension n targets j ≡ l → at (moved n targets m) i j ≡ at m k l
unfolding moved moved_entry
at-moved n targets m i j k l p q e f = at-table (2 * n) (moved_entry n targets m) i j p q ∙ ap (λ x. at m x (moved_dimension n targets j)) e ∙ ap (at m k) f

at-still : (n : ℕ) (targets : List ℕ) (m : Matrix) (i j : ℕ) → IsStill n targets (i / 2) → IsStill n targets (j / 2) → at (moved n targets m) i j ≡ at m i j
at-still n targets m i j s t =
    let p = s.below in
    let q = t.below in
    at-moved n targets m i j i j (omega arith) (omega arith) (still-dimension n targets i s) (still-dimension n targets j t)

-- a part over variables that stay
restrict-still : (n : ℕ) (targets vs : List ℕ) (m : Matrix) → ((v : ℕ) → IsIn vs v → IsStill n targets v) → restrict vs (moved n targets m) ≡ restrict vs m
unfolding restrict restrict_entry
restrict-still n targets vs m still = table-same (2 * length vs) _ _ (λ i j p q. at-still n targets m (outer vs i) (outer vs j) (still _ (outer_in vs i p)) (still _ (outer_in vs j q)))

-- ---- joints between variables that stay

joins-old : (n : ℕ) (targets : List ℕ) (m : Matrix) (u w : ℕ) → length m ≡ 2 * (n + length targets) → IsStill n targets u → IsStill n targets w → Joins (moved n targets m) u w → Joins m u w
joins-old n targets m u w rows s t h =
    let p = s.below in
    let q = t.below in
    let e = h.row_is in
    let f = h.column_is in
    record {
      row = h.row;
      column = h.column;
      row_in = omega arith;
      column_in = omega arith;
      row_is = e;
      column_is = f;
      apart = h.apart;
      finite = λ g. h.finite (at-still n targets m h.row h.column (subst (IsStill n targets) (sym e) s) (subst (IsStill n targets) (sym f) t) ∙ g);
    }

joins-new : (n : ℕ) (targets : List ℕ) (m : Matrix) (u w : ℕ) → IsStill n targets u → IsStill n targets w → Joins m u w → Joins (moved n targets m) u w
joins-new n targets m u w s t h =
    let p = s.below in
    let q = t.below in
    let e = h.row_is in
    let f = h.column_is in
    let rows = length-moved n targets m in
    record {
      row = h.row;
      column = h.column;
      row_in = omega arith;
      column_in = omega arith;
      row_is = e;
      column_is = f;
      apart = h.apart;
      finite = λ g. h.finite (sym (at-still n targets m h.row h.column (subst (IsStill n targets) (sym e) s) (subst (IsStill n targets) (sym f) t)) ∙ g);
    }

-- what joins an added variable joins the target in whose place it comes
joins-added : (n : ℕ) (targets : List ℕ) (m : Matrix) (u k : ℕ) → AreDistinct targets → k < length targets → member targets k < n → IsStill n targets u → Joins m u (n + k) → Joins (moved n targets m) u (member targets k)
joins-added n targets m u k d p below s h =
    let q = s.below in
    let e = h.row_is in
    let f = h.column_is in
    let rows = length-moved n targets m in
    let j = 2 * member targets k + h.column % 2 in
    record {
      row = h.row;
      column = j;
      row_in = omega arith;
      column_in = omega arith;
      row_is = e;
      column_is = omega arith;
      apart = λ (g : h.row ≡ j). s.other k p (omega arith);
      finite = λ g. h.finite (sym (at-moved n targets m h.row j h.row h.column (omega arith) (omega arith) (still-dimension n targets h.row (subst (IsStill n targets) (sym e) s)) (added-dimension n targets k h.column d p f)) ∙ g);
    }

-- ---- the block before

-- a value over n variables and added ones, and the one with these in the places of targets
pub record IsMove (n : ℕ) (targets : List ℕ) (a r : Blocks) : Type 0 where
  pub distinct : AreDistinct targets
  pub inside : All (λ x. x < n) targets
  pub old : IsDecomposition (n + length targets) a
  pub new : IsDecomposition n r
  pub same : whole n r ≡ moved n targets (whole (n + length targets) a)

-- no target is in a block
abbrev IsFree : List ℕ → List ℕ → Type 0
IsFree targets vs = (k : ℕ) → k < length targets → IsIn vs (member targets k) → ⊥

in_home : (bs : List (List ℕ)) (b v : ℕ) → b < length bs → home bs v ≡ b → IsIn (block bs b) v
in_home bs b v p e = subst (λ t. IsIn (block bs t) v) e (home_in bs v (omega (arith, e)))

still-in : (n : ℕ) (targets vs : List ℕ) → IsBlock n vs → IsFree targets vs → (v : ℕ) → IsIn vs v → IsStill n targets v
still-in n targets vs b free v i = record {
  below = subst (λ t. t < n) (member-place vs v i) (b.below _ i);
  other = λ k p e. free k p (subst (IsIn vs) (sym e) i);
}

-- blocks without a target that share a variable are equal
block-before : (n : ℕ) (targets : List ℕ) (a r : Blocks) (p c u : ℕ) → IsMove n targets a r → p < length a.partition → c < length r.partition → IsFree targets (block a.partition p) → IsFree targets (block r.partition c) → home a.partition u ≡ p → home r.partition u ≡ c → block a.partition p ≡ block r.partition c
block-before n targets a r p c u h pin cin before after at_p at_c = rising-unique ws vs (record { rising = old_block.rising }) (record { rising = new_block.rising })
    (record { within = λ i q. in_home r.partition c _ cin (to u _ (at_p, at_c) (linked_old _ (h.old.parts.partition.homes p i pin q) (old_block.below i q))).1 })
    (record { within = λ i q. in_home a.partition p _ pin (from u _ (at_p, at_c) (linked_new _ (h.new.parts.partition.homes c i cin q) (new_block.below i q))).0 })
  where
    ws : List ℕ
    ws = block a.partition p

    vs : List ℕ
    vs = block r.partition c

    m : Matrix
    m = whole (n + length targets) a

    rows : length m ≡ 2 * (n + length targets)
    rows = length-assembly (n + length targets) a.partition a.matrices

    old_block : IsBlock (n + length targets) ws
    old_block = h.old.parts.partition.blocks p pin

    new_block : IsBlock n vs
    new_block = h.new.parts.partition.blocks c cin

    still : (v : ℕ) → home r.partition v ≡ c → IsStill n targets v
    still v e = still-in n targets vs new_block after v (in_home r.partition c v cin e)

    Both : ℕ → Type 0
    Both v = (home a.partition v ≡ p) × (home r.partition v ≡ c)

    -- a variable that a joint of the new matrix reaches
    reached : (x y : ℕ) → home r.partition x ≡ c → x < n → y < n → Joins (moved n targets m) x y → home r.partition y ≡ c
    reached x y e q s k = sym ((h.new.components.exact x y q s).1 (subst (λ t. Linked t x y) (sym h.same) (One x y k))).0 ∙ e

    to_one : (x y : ℕ) → Both x → Joins m x y → Both y
    to_one x y b k = (same_p, by (cases_lt y n))
      where
        s : IsStill n targets x
        s = still x b.1

        q : y < n + length targets
        q = let e = k.column_in in let f = k.column_is in omega (arith, rows)

        same_p : home a.partition y ≡ p
        same_p = sym ((h.old.components.exact x y (omega (arith, s.below)) q).1 (One x y k)).0 ∙ b.0

        other : (i : ℕ) → i < length targets → member targets i ≡ y → ⊥
        other i z e = before i z (subst (IsIn ws) (sym e) (in_home a.partition p y pin same_p))

        by : (y < n) ⊎ (n ≤ y) → home r.partition y ≡ c
        by (inl z) = reached x y b.1 s.below z (joins-new n targets m x y s (record { below = z; other = other }) k)
        by (inr z) =
            let i = y - n in
            let e : y ≡ n + i = omega arith in
            let f : i < length targets = omega (arith, q) in
            let g = h.inside i 0 f in
            let t = reached x (member targets i) b.1 s.below g (joins-added n targets m x i h.distinct f g s (subst (Joins m x) e k)) in
            absurd (after i f (in_home r.partition c (member targets i) cin t))

    to : (x y : ℕ) → Both x → Linked m x y → Both y
    to x y b (One _ _ k) = to_one x y b k
    to x y b (More _ v _ k l) = to v y (to x v b k) l

    from : (x y : ℕ) → Both x → Linked (whole n r) x y → Both y
    from x y b (One _ _ k) =
        let s = still x b.1 in
        let rows_new = length-assembly n r.partition r.matrices in
        let e = k.column_in in
        let f = k.column_is in
        let q : y < n = omega (arith, rows_new) in
        let g : home r.partition y ≡ c = sym ((h.new.components.exact x y s.below q).1 (One x y k)).0 ∙ b.1 in
        let z : Joins m x y = joins-old n targets m x y rows s (still y g) (subst (λ t. Joins t x y) h.same k) in
        (sym ((h.old.components.exact x y (omega (arith, s.below)) (omega arith)).1 (One x y z)).0 ∙ b.0, g)
    from x y b (More _ v _ k l) = from v y (from x v b k) l

    linked_old : (v : ℕ) → home a.partition v ≡ p → v < n + length targets → Linked m u v
    linked_old v e q = (h.old.components.exact u v (omega (arith, (still u at_c).below)) q).0 (at_p ∙ sym e, omega (arith, at_p))

    linked_new : (v : ℕ) → home r.partition v ≡ c → v < n → Linked (whole n r) u v
    linked_new v e q = (h.new.components.exact u v (still u at_c).below q).0 (at_c ∙ sym e, omega (arith, at_c))

-- ---- the law

holds-target : (targets vs : List ℕ) → HoldsTarget targets vs ⊎ IsFree targets vs
holds-target [] vs = inr (λ k p. absurd (omega arith))
holds-target (x ∷ targets) vs = by (cases_in vs x) (holds-target targets vs)
  where
    none : (IsIn vs x → ⊥) → IsFree targets vs → IsFree (x ∷ targets) vs
    none d f zero p = d
    none d f (suc k) p = f k (omega arith)

    by : IsIn vs x ⊎ (IsIn vs x → ⊥) → HoldsTarget targets vs ⊎ IsFree targets vs → HoldsTarget (x ∷ targets) vs ⊎ IsFree (x ∷ targets) vs
    by (inl i) _ = inl (0, omega arith, i)
    by (inr d) (inl h) = inl (suc h.0, omega (arith, h.1), h.2)
    by (inr d) (inr f) = inr (none d f)

first-joint : (m : Matrix) (u w : ℕ) → Linked m u w → (v : ℕ) × Joins m u v
first-joint m u w (One _ _ h) = (w, h)
first-joint m u w (More _ v _ h _) = first-joint m u v h

-- a variable that stays and is in a block is in one of the old blocks
old-home : (n : ℕ) (targets : List ℕ) (a r : Blocks) (c u : ℕ) → IsMove n targets a r → c < length r.partition → IsFree targets (block r.partition c) → IsIn (block r.partition c) u → home a.partition u < length a.partition
old-home n targets a r c u h cin free i = by (first-joint (whole n r) u u ((h.new.components.exact u u below below).0 (refl, omega (arith, at_c))))
  where
    new_block : IsBlock n (block r.partition c)
    new_block = h.new.parts.partition.blocks c cin

    below : u < n
    below = (still-in n targets (block r.partition c) new_block free u i).below

    at_c : home r.partition u ≡ c
    at_c = home-in n r.partition c u h.new.parts.partition cin i

    by : (v : ℕ) × Joins (whole n r) u v → home a.partition u < length a.partition
    by (v, k) =
        let rows_new = length-assembly n r.partition r.matrices in
        let rows = length-assembly (n + length targets) a.partition a.matrices in
        let e = k.column_in in
        let f = k.column_is in
        let q : v < n = omega (arith, rows_new) in
        let g : home r.partition v ≡ c = sym ((h.new.components.exact u v below q).1 (One u v k)).0 ∙ at_c in
        let still = still-in n targets (block r.partition c) new_block free in
        let z : Joins (whole (n + length targets) a) u v = joins-old n targets (whole (n + length targets) a) u v rows (still u i) (still v (in_home r.partition c v cin g)) (subst (λ t. Joins t u v) h.same k) in
        ((h.old.components.exact u v (omega (arith, below)) (omega arith)).1 (One u v z)).1

missing-marks : (n : ℕ) (targets : List ℕ) (a r : Blocks) → IsMove n targets a r → TellsAgain a.matrices a.marks → KeepsOtherMarks targets a r
    → (c : ℕ) → c < length r.partition → marked r.marks c ≡ false → IsChanged (matrix r.matrices c) ⊎ (HoldsTarget targets (block r.partition c) ⊎ WasBesideTarget targets a.partition (block r.partition c))
missing-marks n targets a r h tells kept c cin unmarked = by (holds-target targets vs)
  where
    vs : List ℕ
    vs = block r.partition c

    m : Matrix
    m = whole (n + length targets) a

    filled : 0 < length vs
    filled = h.new.ordered.filled c cin

    u : ℕ
    u = member vs 0

    shared : IsIn vs u
    shared = in-member vs 0 filled

    p : ℕ
    p = home a.partition u

    words : p < length a.partition → IsFree targets vs → block a.partition p ≡ vs → matrix a.matrices p ≡ matrix r.matrices c
    words pin free same =
        sym (restrict-assembly (n + length targets) a.partition a.matrices p h.old.parts pin) ∙ ap (λ t. restrict t m) same
        ∙ sym (restrict-still n targets vs m (still-in n targets vs (h.new.parts.partition.blocks c cin) free))
        ∙ ap (restrict vs) (sym h.same) ∙ restrict-assembly n r.partition r.matrices c h.new.parts cin

    changed : p < length a.partition → IsFree targets vs → IsFree targets (block a.partition p) → IsChanged (matrix r.matrices c)
    changed pin free before again =
        let same = block-before n targets a r p c u h pin cin before free refl (h.new.parts.partition.homes c 0 cin filled) in
        let w = words pin free same in
        let mark = (tells.exact p (omega (arith, h.old.parts.count))).1 (ap tight w ∙ again ∙ ap Some (sym w)) in
        both_ways _ unmarked (kept.kept p c pin cin same free mark)

    beside : p < length a.partition → IsFree targets vs → HoldsTarget targets (block a.partition p) ⊎ IsFree targets (block a.partition p) → IsChanged (matrix r.matrices c) ⊎ (HoldsTarget targets vs ⊎ WasBesideTarget targets a.partition vs)
    beside pin free (inl t) = inr (inr (record {
      number = p;
      within = pin;
      target = t;
      shared = u;
      before = home_in a.partition u pin;
      after = shared;
    }))
    beside pin free (inr before) = inl (changed pin free before)

    by : HoldsTarget targets vs ⊎ IsFree targets vs → IsChanged (matrix r.matrices c) ⊎ (HoldsTarget targets vs ⊎ WasBesideTarget targets a.partition vs)
    by (inl t) = inr (inl t)
    by (inr free) = beside (old-home n targets a r c u h cin free shared) free (holds-target targets (block a.partition p))

-- a value whose blocks are marked exactly where the tight closure gives their matrix again, and the value with added variables
-- in the places of targets
pub marks-all_but : (n : ℕ) (targets : List ℕ) (v r : Decomposed) → AreDistinct targets → All (λ x. x < n) targets → v.dims ≡ n + length targets → IsKept v → IsKept r → TellsAgainOf v.blocks
    → octagon r ≡ moved_value n targets (octagon v) → KeepsOtherMarksOf targets v.blocks r.blocks → MarksAllButTargetsOf n targets (octagon v) r.blocks
unfolding moved_value
marks-all_but n targets v r distinct inside d kv kr tells e kept = by v.dims r.dims v.blocks r.blocks d (ap (λ z. z.dims) e) kv.blocks kr.blocks tells (ap (λ z. z.matrix) e) kept
  where
    by : (s t : ℕ) (x y : Option Blocks) → s ≡ n + length targets → t ≡ n → IsKeptBlocks s x → IsKeptBlocks t y → TellsAgainOf x → option_map (whole t) y ≡ option_map (moved n targets) (option_map (whole s) x) → KeepsOtherMarksOf targets x y
        → MarksAllButTargetsOf n targets (octagon (decomposed s x)) y
    by s t x None f g i j k l m = tt
    by s t None (Some b) f g i j k l m = absurd (cc)
    by s t (Some a) (Some b) f g i j k l m =
        let old : IsDecomposition (n + length targets) a = subst (λ z. IsDecomposition z a) f i in
        let new : IsDecomposition n b = subst (λ z. IsDecomposition z b) g j in
        let whole_same : whole t b ≡ moved n targets (whole s a) = cc in
        let same : whole n b ≡ moved n targets (whole (n + length targets) a) = sym (ap (λ z. whole z b) g) ∙ whole_same ∙ ap (λ z. moved n targets (whole z a)) f in
        record {
          before = a;
          kept = old;
          value = ap (λ z. octagon (decomposed z (Some a))) (sym f);
          missing = missing-marks n targets a b (record { distinct = distinct; inside = inside; old = old; new = new; same = same }) k m;
        }
