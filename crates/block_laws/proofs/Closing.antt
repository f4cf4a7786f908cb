-- The tight closure of an assembly.
use Rattle.std.proofs.Common.{◌≡◌, ℕ, ◌*◌, ◌/◌, ◌<◌, ◌≤◌, ◌⊎◌, inl, inr, Bool, true, false, cond, List, length, Option, Some, None, refl, sym, ap, ◌∙◌, subst, arith}
use Rattle.std.proofs.lemmas.Bool.{cases_lt, both_ways}
use Rattle.oct_def.specs.Bound.{Bound, plus, least, half}
use Rattle.oct_def.specs.Table.{Matrix, table, at, some_index}
use Rattle.oct_def.specs.Matrix.{opposite}
use Rattle.oct_def.specs.Octagon.{top_entry}
use Rattle.oct_def.specs.Tight.{path, long_path, pivot_entry, pair_entry, pair_step, pair_steps, closure, negative_cycle, has_negative_cycle, even_entry, evening, crossing, has_crossing, strong_entry, strengthening, tight_even, tight_closed, tight}
use Rattle.oct_def.proofs.Tables.{length-table, at-table, table-same}
use Rattle.oct_def.proofs.Orders.{least_assoc}
use Rattle.oct_def.proofs.Bounds.{least_self}
use Rattle.oct_def.proofs.Indices.{opposite_twice, opposite_below}
use Rattle.oct_def.proofs.Sound.{length-pair_steps}
use Rattle.oct_def.proofs.Values.{EvenUnary, even_unary-evening, strong_unary}
use Rattle.block_partition.specs.Partition.{IsIn, block, home, IsBlock, IsPartition}
use Rattle.block_laws.specs.Assembly.{outer, inner, restrict, matrix, is_joint, assembly_entry, assembly, IsParts, IsCutOff, IsSeparated}
use Rattle.block_laws.proofs.Places.{inner_below, outer-inner}
use Rattle.block_laws.proofs.Restrict.{at-restrict, restrict-closure, restrict-evening, restrict-strengthening, cut_off-pair_steps, cut_off-evening, cases_in, IsClear, loops-restrict, loops-clear, crossing-restrict, crossing-clear}
use Rattle.block_partition.proofs.Places.{home_in, home-in}
use Rattle.block_laws.proofs.Assembly.{joint-from, joint-gives, joint-not, top_entry-off, length-assembly, assembly_entry-joint, assembly_entry-apart, separated-assembly, restrict-assembly, cut_off-block, cut_off-single, single, block-single, in-single, top_two, restrict-single, half_apart, at-assembly}

-- ---- the tight closure by its two tests

unfoldable pub evened_closure : Matrix → Matrix
evened_closure m = evening (closure m)

data Ends (m : Matrix) (r : Option Matrix) : Type 0 where
  loops : has_negative_cycle (closure m) ≡ true → r ≡ None → Ends m r
  crosses : has_crossing (evened_closure m) ≡ true → r ≡ None → Ends m r
  closes : has_negative_cycle (closure m) ≡ false → has_crossing (evened_closure m) ≡ false → r ≡ Some (strengthening (evened_closure m)) → Ends m r

ends : (m : Matrix) → Ends m (tight m)
unfolding tight tight_closed tight_even evened_closure
ends m = by (has_negative_cycle (closure m)) (has_crossing (evening (closure m))) refl refl
  where
    by : (a b : Bool) → has_negative_cycle (closure m) ≡ a → has_crossing (evening (closure m)) ≡ b → Ends m (cond a None (cond b None (Some (strengthening (evening (closure m))))))
    by true b e f = loops e refl
    by false true e f = crosses f refl
    by false false e f = closes e f refl

-- what a result tells of the tests
pub record IsClosed (m x : Matrix) : Type 0 where
  pub loopless : has_negative_cycle (closure m) ≡ false
  pub uncrossed : has_crossing (evened_closure m) ≡ false
  pub result : x ≡ strengthening (evened_closure m)

pub closed-from : (m x : Matrix) → tight m ≡ Some x → IsClosed m x
closed-from m x h = by (tight m) (ends m) h
  where
    by : (r : Option Matrix) → Ends m r → r ≡ Some x → IsClosed m x
    by r (loops e f) g = absurd (let t : None ≡ Some x = sym f ∙ g in cc)
    by r (crosses e f) g = absurd (let t : None ≡ Some x = sym f ∙ g in cc)
    by r (closes e f k) g = record { loopless = e; uncrossed = f; result = (let t : Some x ≡ Some (strengthening (evened_closure m)) = sym g ∙ k in cc) }

pub length-evening : (m : Matrix) → length (evening m) ≡ length m
unfolding evening
length-evening m = length-table (length m) (even_entry m)

pub length-strengthening : (m : Matrix) → length (strengthening m) ≡ length m
unfolding strengthening
length-strengthening m = length-table (length m) (strong_entry m)

pub length-closure : (m : Matrix) → length (closure m) ≡ length m
unfolding closure
length-closure m = length-pair_steps (length m / 2) m

pub length-evened : (m : Matrix) → length (evened_closure m) ≡ length m
unfolding evened_closure
length-evened m = length-evening (closure m) ∙ length-closure m

pub at-strengthening : (m : Matrix) (i j : ℕ) → i < length m → j < length m → at (strengthening m) i j ≡ strong_entry m i j
unfolding strengthening
at-strengthening m i j p q = at-table (length m) (strong_entry m) i j p q

pub even_unary-evened : (n : ℕ) (m : Matrix) → length m ≡ 2 * n → EvenUnary (evened_closure m)
unfolding evened_closure
even_unary-evened n m e = even_unary-evening n (closure m) (length-closure m ∙ e)

-- ---- strengthening of a matrix that is already strengthened in places

halves_same : (n : ℕ) (x m : Matrix) → length m ≡ 2 * n → EvenUnary m → ((i j : ℕ) → i < length m → j < length m → (at x i j ≡ at m i j) ⊎ (at x i j ≡ strong_entry m i j)) → (i : ℕ) → i < length m → at x i (opposite i) ≡ at m i (opposite i)
halves_same n x m e even some i p =
    let q : opposite i < length m = let b = opposite_below n i (omega arith) in omega arith in
    by (some i (opposite i) p q)
  where
    by : (at x i (opposite i) ≡ at m i (opposite i)) ⊎ (at x i (opposite i) ≡ strong_entry m i (opposite i)) → at x i (opposite i) ≡ at m i (opposite i)
    by (inl f) = f
    by (inr f) = f ∙ strong_unary m even i

pub strengthening-between : (n : ℕ) (x m : Matrix) → length m ≡ 2 * n → length x ≡ length m → EvenUnary m → ((i j : ℕ) → i < length m → j < length m → (at x i j ≡ at m i j) ⊎ (at x i j ≡ strong_entry m i j)) → strengthening x ≡ strengthening m
unfolding strengthening strong_entry
strengthening-between n x m e f even some =
    ap (λ t. table t (strong_entry x)) f ∙ table-same (length m) (strong_entry x) (strong_entry m) (λ i j p q. same i j p q)
  where
    half_back : (j : ℕ) → j < length m → at x (opposite j) j ≡ at m (opposite j) j
    half_back j q =
        let b = opposite_below n j (omega arith) in
        subst (λ t. at x (opposite j) t ≡ at m (opposite j) t) (opposite_twice j) (halves_same n x m e even some (opposite j) (omega arith))

    by : (a b h : Bound) → (b ≡ a) ⊎ (b ≡ least a h) → least b h ≡ least a h
    by a b h (inl g) = ap (λ t. least t h) g
    by a b h (inr g) = ap (λ t. least t h) g ∙ least_assoc a h h ∙ ap (least a) (least_self h)

    same : (i j : ℕ) → i < length m → j < length m → strong_entry x i j ≡ strong_entry m i j
    same i j p q =
        ap (λ t. least (at x i j) (plus (half t) (half (at x (opposite j) j)))) (halves_same n x m e even some i p)
        ∙ ap (λ t. least (at x i j) (plus (half (at m i (opposite i))) (half t))) (half_back j q)
        ∙ by (at m i j) (at x i j) (plus (half (at m i (opposite i))) (half (at m (opposite j) j))) (some i j p q)

-- a matrix that the closure gives stays at a further strengthening
pub strengthening-closed : (n : ℕ) (m x : Matrix) → length m ≡ 2 * n → tight m ≡ Some x → strengthening x ≡ x
strengthening-closed n m x e h =
    let c = closed-from m x h in
    let f : length (evened_closure m) ≡ 2 * n = length-evened m ∙ e in
    ap strengthening c.result
    ∙ strengthening-between n (strengthening (evened_closure m)) (evened_closure m) f (length-strengthening (evened_closure m)) (even_unary-evened n m e)
    (λ i j p q. inr (at-strengthening (evened_closure m) i j p q))
    ∙ sym c.result

-- ---- the steps 1 to 4 of a separated matrix, block by block

pub restrict-evened : (n : ℕ) (vs : List ℕ) (m : Matrix) → length m ≡ 2 * n → IsBlock n vs → IsCutOff vs m → restrict vs (evened_closure m) ≡ evened_closure (restrict vs m)
unfolding evened_closure
restrict-evened n vs m e bl cut =
    restrict-evening n vs (closure m) (length-closure m ∙ e) bl ∙ ap evening (restrict-closure n vs m e bl cut)

pub cut_off-evened : (n : ℕ) (vs : List ℕ) (m : Matrix) → length m ≡ 2 * n → IsCutOff vs m → IsCutOff vs (evened_closure m)
unfolding evened_closure closure
cut_off-evened n vs m e cut =
    cut_off-evening n vs (pair_steps (length m / 2) m) (length-pair_steps (length m / 2) m ∙ e)
    (cut_off-pair_steps n (length m / 2) vs m e (omega arith) cut)

-- top over one variable is closed
top_two-loops : has_negative_cycle (closure top_two) ≡ false
unfolding top_two top_entry table at closure pair_steps pair_step pair_entry pivot_entry path long_path has_negative_cycle negative_cycle some_index
top_two-loops = refl

top_two-evened : evened_closure top_two ≡ top_two
unfolding top_two top_entry table at closure pair_steps pair_step pair_entry pivot_entry path long_path evened_closure evening even_entry
top_two-evened = refl

top_two-crossing : has_crossing (evened_closure top_two) ≡ false
unfolding top_two top_entry table at closure pair_steps pair_step pair_entry pivot_entry path long_path evened_closure evening even_entry has_crossing crossing some_index
top_two-crossing = refl

-- a variable is in a block or in none
cases_label : (bs : List (List ℕ)) (v : ℕ) → (home bs v < length bs) ⊎ (length bs ≤ home bs v)
cases_label bs v = cases_lt (home bs v) (length bs)

-- the closure of a separated matrix has no negative loop where no part's has one
clear_loops : (n : ℕ) (bs : List (List ℕ)) (m : Matrix) → length m ≡ 2 * n → IsPartition n bs → IsSeparated n bs m → ((b : ℕ) → b < length bs → has_negative_cycle (closure (restrict (block bs b) m)) ≡ false) → has_negative_cycle (closure m) ≡ false
clear_loops n bs m e pt sep each = loops-clear n (closure m) (length-closure m ∙ e) (λ v h. by v h (cases_label bs v))
  where
    by : (v : ℕ) → v < n → (home bs v < length bs) ⊎ (length bs ≤ home bs v) → IsClear n v (closure m) has_negative_cycle
    by v h (inl p) = record {
      home = block bs (home bs v);
      home_block = pt.blocks (home bs v) p;
      home_in = home_in bs v p;
      clear = ap has_negative_cycle (restrict-closure n (block bs (home bs v)) m e (pt.blocks (home bs v) p) (cut_off-block n bs m (home bs v) e pt sep p)) ∙ each (home bs v) p;
    }
    by v h (inr p) = record {
      home = single v;
      home_block = block-single n v h;
      home_in = in-single v;
      clear = ap has_negative_cycle (restrict-closure n (single v) m e (block-single n v h) (cut_off-single n bs m v e sep h p) ∙ ap closure (restrict-single n bs m v e sep h p)) ∙ top_two-loops;
    }

clear_crossing : (n : ℕ) (bs : List (List ℕ)) (m : Matrix) → length m ≡ 2 * n → IsPartition n bs → IsSeparated n bs m → ((b : ℕ) → b < length bs → has_crossing (evened_closure (restrict (block bs b) m)) ≡ false) → has_crossing (evened_closure m) ≡ false
clear_crossing n bs m e pt sep each = crossing-clear n (evened_closure m) (length-evened m ∙ e) (λ v h. by v h (cases_label bs v))
  where
    by : (v : ℕ) → v < n → (home bs v < length bs) ⊎ (length bs ≤ home bs v) → IsClear n v (evened_closure m) has_crossing
    by v h (inl p) = record {
      home = block bs (home bs v);
      home_block = pt.blocks (home bs v) p;
      home_in = home_in bs v p;
      clear = ap has_crossing (restrict-evened n (block bs (home bs v)) m e (pt.blocks (home bs v) p) (cut_off-block n bs m (home bs v) e pt sep p)) ∙ each (home bs v) p;
    }
    by v h (inr p) = record {
      home = single v;
      home_block = block-single n v h;
      home_in = in-single v;
      clear = ap has_crossing (restrict-evened n (single v) m e (block-single n v h) (cut_off-single n bs m v e sep h p) ∙ ap evened_closure (restrict-single n bs m v e sep h p)) ∙ top_two-crossing;
    }

-- after the steps 1 to 4 the matrix is separated as before
pub separated-evened : (n : ℕ) (bs : List (List ℕ)) (m : Matrix) → length m ≡ 2 * n → IsPartition n bs → IsSeparated n bs m → IsSeparated n bs (evened_closure m)
separated-evened n bs m e pt sep = record { apart = λ i j p q h. by i j p q h (cases_label bs (i / 2)) }
  where
    rows : length (evened_closure m) ≡ 2 * n
    rows = length-evened m ∙ e

    alone : (i j : ℕ) → i < 2 * n → j < 2 * n → length bs ≤ home bs (i / 2) → i / 2 < n → IsIn (single (i / 2)) (j / 2) → at (evened_closure m) i j ≡ top_entry i j
    alone i j p q f hv hj =
        let v = i / 2 in
        let hi = in-single v in
        let c : restrict (single v) (evened_closure m) ≡ top_two =
        restrict-evened n (single v) m e (block-single n v hv) (cut_off-single n bs m v e sep hv f) ∙ ap evened_closure (restrict-single n bs m v e sep hv f) ∙ top_two-evened in
        let g : at (restrict (single v) (evened_closure m)) (inner (single v) i) (inner (single v) j) ≡ at (evened_closure m) i j =
        at-restrict (single v) (evened_closure m) _ _ (inner_below (single v) i hi) (inner_below (single v) j hj)
        ∙ ap (λ t. at (evened_closure m) t (outer (single v) (inner (single v) j))) (outer-inner (single v) i hi)
        ∙ ap (at (evened_closure m) i) (outer-inner (single v) j hj) in
        let g0 : at (restrict (single v) m) (inner (single v) i) (inner (single v) j) ≡ at m i j =
        at-restrict (single v) m _ _ (inner_below (single v) i hi) (inner_below (single v) j hj)
        ∙ ap (λ t. at m t (outer (single v) (inner (single v) j))) (outer-inner (single v) i hi)
        ∙ ap (at m i) (outer-inner (single v) j hj) in
        sym g ∙ ap (λ x. at x (inner (single v) i) (inner (single v) j)) (c ∙ sym (restrict-single n bs m v e sep hv f)) ∙ g0
        ∙ sep.apart i j p q (joint-not bs i j (λ _ k. omega arith))

    by : (i j : ℕ) → i < 2 * n → j < 2 * n → is_joint bs i j ≡ false → (home bs (i / 2) < length bs) ⊎ (length bs ≤ home bs (i / 2)) → at (evened_closure m) i j ≡ top_entry i j
    by i j p q h (inl f) =
        let cut = cut_off-evened n (block bs (home bs (i / 2))) m e (cut_off-block n bs m (home bs (i / 2)) e pt sep f) in
        let out : IsIn (block bs (home bs (i / 2))) (j / 2) → ⊥ = λ g. both_ways (is_joint bs i j) h (joint-from bs i j (sym (home-in n bs _ (j / 2) pt f g)) f) in
        cut.out i j (omega (arith, rows)) (omega (arith, rows)) (home_in bs (i / 2) f) out
        ∙ sym (top_entry-off i j (half_apart (block bs (home bs (i / 2))) i j (home_in bs (i / 2) f) out))
    by i j p q h (inr f) = by_place i j p q f (cases_in (single (i / 2)) (j / 2))
      where
        by_place : (i j : ℕ) → i < 2 * n → j < 2 * n → length bs ≤ home bs (i / 2) → IsIn (single (i / 2)) (j / 2) ⊎ (IsIn (single (i / 2)) (j / 2) → ⊥) → at (evened_closure m) i j ≡ top_entry i j
        by_place i j p q f (inl g) = alone i j p q f (omega arith) g
        by_place i j p q f (inr g) =
            let cut = cut_off-evened n (single (i / 2)) m e (cut_off-single n bs m (i / 2) e sep (omega arith) f) in
            cut.out i j (omega (arith, rows)) (omega (arith, rows)) (in-single (i / 2)) g
            ∙ sym (top_entry-off i j (half_apart (single (i / 2)) i j (in-single (i / 2)) g))

-- ---- the tight closure of an assembly

pub tight-assembly : (n : ℕ) (bs : List (List ℕ)) (ms ns : List Matrix) → IsParts n bs ms → ((b : ℕ) → b < length bs → tight (matrix ms b) ≡ Some (matrix ns b)) → tight (assembly n bs ms) ≡ Some (strengthening (assembly n bs ns))
tight-assembly n bs ms ns ps each = by (tight a) (ends a)
  where
    a : Matrix
    a = assembly n bs ms

    rows : length a ≡ 2 * n
    rows = length-assembly n bs ms

    pt : IsPartition n bs
    pt = ps.partition

    sep : IsSeparated n bs a
    sep = separated-assembly n bs ms

    loopless : has_negative_cycle (closure a) ≡ false
    loopless = clear_loops n bs a rows pt sep (λ b h. ap (λ x. has_negative_cycle (closure x)) (restrict-assembly n bs ms b ps h) ∙ (closed-from _ _ (each b h)).loopless)

    uncrossed : has_crossing (evened_closure a) ≡ false
    uncrossed = clear_crossing n bs a rows pt sep (λ b h. ap (λ x. has_crossing (evened_closure x)) (restrict-assembly n bs ms b ps h) ∙ (closed-from _ _ (each b h)).uncrossed)

    c : Matrix
    c = evened_closure a

    crows : length c ≡ 2 * n
    crows = length-evened a ∙ rows

    part_is : (b : ℕ) → b < length bs → matrix ns b ≡ restrict (block bs b) (strengthening c)
    part_is b h = (closed-from _ _ (each b h)).result
        ∙ ap (λ x. strengthening (evened_closure x)) (sym (restrict-assembly n bs ms b ps h))
        ∙ ap strengthening (sym (restrict-evened n (block bs b) a rows (pt.blocks b h) (cut_off-block n bs a b rows pt sep h)))
        ∙ sym (restrict-strengthening n (block bs b) c crows (pt.blocks b h))

    joint : (i j b : ℕ) → i < 2 * n → j < 2 * n → b < length bs → home bs (i / 2) ≡ b → home bs (j / 2) ≡ b → assembly_entry bs ns i j ≡ strong_entry c i j
    joint i j b p q h ei ej =
        let hi : IsIn (block bs b) (i / 2) = subst (λ t. IsIn (block bs t) (i / 2)) ei (home_in bs (i / 2) (omega arith)) in
        let hj : IsIn (block bs b) (j / 2) = subst (λ t. IsIn (block bs t) (j / 2)) ej (home_in bs (j / 2) (omega arith)) in
        assembly_entry-joint bs ns b i j h ei ej
        ∙ ap (λ x. at x (inner (block bs b) i) (inner (block bs b) j)) (part_is b h)
        ∙ at-restrict (block bs b) (strengthening c) _ _ (inner_below (block bs b) i hi) (inner_below (block bs b) j hj)
        ∙ ap (λ t. at (strengthening c) t (outer (block bs b) (inner (block bs b) j))) (outer-inner (block bs b) i hi)
        ∙ ap (at (strengthening c) i) (outer-inner (block bs b) j hj)
        ∙ at-strengthening c i j (omega (arith, crows)) (omega (arith, crows))

    some : (i j : ℕ) → i < 2 * n → j < 2 * n → (t : Bool) → is_joint bs i j ≡ t → (at (assembly n bs ns) i j ≡ at c i j) ⊎ (at (assembly n bs ns) i j ≡ strong_entry c i j)
    some i j p q true t = let r = joint-gives bs i j t in inr (at-assembly n bs ns i j p q ∙ joint i j (home bs (i / 2)) p q r.1 refl (sym r.0))
    some i j p q false t = inl (at-assembly n bs ns i j p q ∙ assembly_entry-apart bs ns i j t ∙ sym ((separated-evened n bs a rows pt sep).apart i j p q t))

    same : strengthening (assembly n bs ns) ≡ strengthening c
    same = strengthening-between n (assembly n bs ns) c crows (length-assembly n bs ns ∙ sym crows) (even_unary-evened n a rows)
        (λ i j p q. some i j (omega (arith, crows)) (omega (arith, crows)) (is_joint bs i j) refl)

    by : (r : Option Matrix) → Ends a r → r ≡ Some (strengthening (assembly n bs ns))
    by r (loops e f) = absurd (both_ways _ loopless e)
    by r (crosses e f) = absurd (both_ways _ uncrossed e)
    by r (closes e f k) = k ∙ ap Some (sym same)

pub tight-assembly_empty : (n : ℕ) (bs : List (List ℕ)) (ms : List Matrix) (b : ℕ) → IsParts n bs ms → b < length bs → tight (matrix ms b) ≡ None → tight (assembly n bs ms) ≡ None
tight-assembly_empty n bs ms b ps h none = by (tight a) (ends a)
  where
    a : Matrix
    a = assembly n bs ms

    rows : length a ≡ 2 * n
    rows = length-assembly n bs ms

    bl : IsBlock n (block bs b)
    bl = ps.partition.blocks b h

    cut : IsCutOff (block bs b) a
    cut = cut_off-block n bs a b rows ps.partition (separated-assembly n bs ms) h

    is_part : restrict (block bs b) a ≡ matrix ms b
    is_part = restrict-assembly n bs ms b ps h

    here : (r : Option Matrix) → Ends (matrix ms b) r → r ≡ None → has_negative_cycle (closure a) ≡ false → has_crossing (evened_closure a) ≡ false → ⊥
    here r (loops e f) g p q = both_ways _ (ap (λ x. has_negative_cycle (closure x)) (sym is_part) ∙ ap has_negative_cycle (sym (restrict-closure n (block bs b) a rows bl cut)) ∙ loops-restrict n (block bs b) (closure a) (length-closure a ∙ rows) bl p) e
    here r (crosses e f) g p q = both_ways _ (ap (λ x. has_crossing (evened_closure x)) (sym is_part) ∙ ap has_crossing (sym (restrict-evened n (block bs b) a rows bl cut)) ∙ crossing-restrict n (block bs b) (evened_closure a) (length-evened a ∙ rows) bl q) e
    here r (closes e f k) g p q = let t : None ≡ Some (strengthening (evened_closure (matrix ms b))) = sym g ∙ k in cc

    by : (r : Option Matrix) → Ends a r → r ≡ None
    by r (loops e f) = f
    by r (crosses e f) = f
    by r (closes e f k) = absurd (here (tight (matrix ms b)) (ends (matrix ms b)) none e f)
