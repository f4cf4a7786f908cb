-- Entries of the assembly, as the code reads them.
use Rattle.std.proofs.Common.{◌≡◌, ℕ, ◌+◌, ◌*◌, ◌/◌, ◌%◌, ◌<◌, ◌≤◌, false, List, [], length, sym, ap, ◌∙◌, subst, arith, get_or}
use Rattle.std.proofs.lemmas.List.{get_or_default}
use Rattle.oct_def.specs.Bound.{Bound}
use Rattle.oct_def.specs.Table.{Matrix, at}
use Rattle.oct_def.specs.Octagon.{top_entry}
use Rattle.block_partition.specs.Partition.{place, IsIn, block, home, IsPartition}
use Rattle.block_laws.specs.Assembly.{inner, assembly, matrix, is_joint, assembly_entry}
use Rattle.block_laws.proofs.Places.{inner_below}
use Rattle.block_partition.proofs.Places.{home_in, block_size}
use Rattle.block_laws.proofs.Assembly.{joint-not, assembly_entry-joint, assembly_entry-apart, at-assembly}

pub inner-is : (vs : List ℕ) (i p : ℕ) → p ≡ place vs (i / 2) → 2 * p + i % 2 ≡ inner vs i
unfolding inner
inner-is vs i p e = omega arith

pub apart-homes : (bs : List (List ℕ)) (i j b c : ℕ) → (b ≡ home bs (i / 2)) × (b < length bs) → (c ≡ home bs (j / 2)) × (c < length bs) → (b ≡ c → ⊥) → is_joint bs i j ≡ false
apart-homes bs i j b c h k d = joint-not bs i j (λ e p. d (h.0 ∙ e ∙ sym k.0))

pub apart-first : (bs : List (List ℕ)) (i j : ℕ) → length bs ≤ home bs (i / 2) → is_joint bs i j ≡ false
apart-first bs i j h = joint-not bs i j (λ e p. omega arith)

pub apart-second : (bs : List (List ℕ)) (i j : ℕ) → length bs ≤ home bs (j / 2) → is_joint bs i j ≡ false
apart-second bs i j h = joint-not bs i j (λ e p. omega arith)

pub in-block : (bs : List (List ℕ)) (i b : ℕ) → home bs (i / 2) ≡ b → b < length bs → IsIn (block bs b) (i / 2)
in-block bs i b e h = subst (λ t. IsIn (block bs t) (i / 2)) e (home_in bs (i / 2) (omega arith))

pub inner-small : (bs : List (List ℕ)) (ms : List Matrix) (i b : ℕ) → home bs (i / 2) ≡ b → b < length bs → length (matrix ms b) ≡ 2 * length (block bs b) → inner (block bs b) i < length (matrix ms b)
inner-small bs ms i b e h size = let r = inner_below (block bs b) i (in-block bs i b e h) in omega arith

pub member-of : (bs : List (List ℕ)) (vs : List ℕ) (i b : ℕ) → vs ≡ block bs b → home bs (i / 2) ≡ b → b < length bs → place vs (i / 2) < length vs
member-of bs vs i b e f h = subst (λ t. IsIn t (i / 2)) (sym e) (in-block bs i b f h)

pub read-at : (ms : List Matrix) (b : ℕ) (x : Matrix) → x ≡ get_or ms b x → b < length ms → x ≡ matrix ms b
read-at ms b x e h = e ∙ get_or_default ms b x [] h

pub inner-fits : (bs : List (List ℕ)) (ms : List Matrix) (vs : List ℕ) (x : Matrix) (i p b : ℕ) → vs ≡ block bs b → p ≡ inner vs i → x ≡ get_or ms b x → length ms ≡ length bs → home bs (i / 2) ≡ b → b < length bs → length (matrix ms b) ≡ 2 * length (block bs b) → p < length x
inner-fits bs ms vs x i p b ev ep ex count f h size =
    let y : x ≡ matrix ms b = read-at ms b x ex (omega arith) in
    let r = inner-small bs ms i b f h size in
    let q : p ≡ inner (block bs b) i = ep ∙ ap (λ t. inner t i) ev in
    subst (λ t. p < length t) (sym y) (omega arith)

pub entry-joint : (bs : List (List ℕ)) (ms : List Matrix) (vs : List ℕ) (x : Matrix) (i j p q b : ℕ) (a : Bound) → a ≡ at x p q → vs ≡ block bs b → p ≡ inner vs i → q ≡ inner vs j → x ≡ get_or ms b x → length ms ≡ length bs → (home bs (i / 2) ≡ b) × (home bs (j / 2) ≡ b) × (b < length bs) → a ≡ assembly_entry bs ms i j
entry-joint bs ms vs x i j p q b a ea ev ep eq ex count h =
    let l = h.2 in
    let y : x ≡ matrix ms b = read-at ms b x ex (omega arith) in
    ea ∙ ap (λ t. at t p q) y ∙ ap (λ t. at (matrix ms b) t q) (ep ∙ ap (λ t. inner t i) ev) ∙ ap (at (matrix ms b) (inner (block bs b) i)) (eq ∙ ap (λ t. inner t j) ev)
    ∙ sym (assembly_entry-joint bs ms b i j h.2 h.0 h.1)

pub entry-apart : (bs : List (List ℕ)) (ms : List Matrix) (i j : ℕ) (a : Bound) → a ≡ top_entry i j → is_joint bs i j ≡ false → a ≡ assembly_entry bs ms i j
entry-apart bs ms i j a e h = e ∙ sym (assembly_entry-apart bs ms i j h)

pub link-entry : (n : ℕ) (bs : List (List ℕ)) (ms : List Matrix) (i j : ℕ) (a : Bound) → i < 2 * n → j < 2 * n → a ≡ assembly_entry bs ms i j → a ≡ at (assembly n bs ms) i j
link-entry n bs ms i j a p q e = e ∙ sym (at-assembly n bs ms i j p q)

pub few-members : (bs : List (List ℕ)) (vs : List ℕ) (b : ℕ) → IsPartition 512 bs → b < length bs → vs ≡ block bs b → length vs ≤ 512
few-members bs vs b p h e = let r = block_size 512 bs b p h in let f = ap length e in omega arith
