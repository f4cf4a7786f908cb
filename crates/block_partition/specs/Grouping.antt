-- The partition that labels make: variables with one label are a block, and those without a label are in none.
use Rattle.std.specs.Prelude.{◌≡◌, ℕ, zero, suc, ◌+◌, ◌<◌, ◌≤◌, ◌&&◌, max, nat_eq, nat_lt, not, Bool, true, false, Option, Some, None, List, [], ◌∷◌, ◌++◌, map, length, slice_index_or, unwrap_or, if◌then◌else◌}
use Rattle.std.specs.List.{position_or_len}
use Rattle.std.specs.declared.cmp.Ordering.{Ordering}
use Rattle.block_partition.specs.Partition.{block, home}
use Rattle.block_partition.specs.contracts.relabelling.LabelOrd.TheImpl as label_ord
-- what tells the blocks of a changed partition apart
pub use Rattle.block_partition.specs.declared.relabelling.Label.{Label}
pub use Rattle.block_partition.specs.declared.relabelling.Label.TheVariants.{Merged, Whole, Part}

-- the numbers below n that pass a test, rising
unfoldable pub kept : (ℕ → Bool) → ℕ → List ℕ
kept test zero = []
kept test (suc n) = kept test n ++ (if test n then n ∷ [] else [])

-- the label of a variable, if it has one
abbrev pub label : List (Option Label) → ℕ → Option Label
label labels v = slice_index_or labels v None

-- the order of labels that the code has
abbrev pub label_cmp : Label → Label → Ordering
label_cmp = (label_ord.ghosts).cmp

unfoldable pub is_same_label : Label → Label → Bool
is_same_label Merged Merged = true
is_same_label (Whole a) (Whole b) = nat_eq a b
is_same_label (Part a l) (Part b m) = nat_eq a b && nat_eq l m
is_same_label _ _ = false

-- two labels that may be missing are equal
unfoldable pub is_same : Option Label → Option Label → Bool
is_same None None = true
is_same (Some l) (Some m) = is_same_label l m
is_same _ _ = false

-- the first variable with a label; the number of labels where none has it
unfoldable pub first_with : List (Option Label) → Option Label → ℕ
first_with labels l = position_or_len (λ m. is_same m l) labels

-- two variables have one label
unfoldable pub has_label_of : List (Option Label) → ℕ → ℕ → Bool
has_label_of labels v w = is_same (label labels w) (label labels v)

-- a variable that has a label and is the first with it
unfoldable pub is_leader : List (Option Label) → ℕ → Bool
is_leader labels v = not (is_same (label labels v) None) && nat_eq (first_with labels (label labels v)) v

-- the variables with the label of v
unfoldable pub group : List (Option Label) → ℕ → List ℕ
group labels v = kept (has_label_of labels v) (length labels)

unfoldable pub grouped : List (Option Label) → List (List ℕ)
grouped labels = map (group labels) (kept (is_leader labels) (length labels))

-- the number of a variable's block, if it is in one
unfoldable pub home_of : List (List ℕ) → ℕ → Option ℕ
home_of bs v = if nat_lt (home bs v) (length bs) then Some (home bs v) else None

-- the number that stands for a variable
abbrev pub home_at : List (Option ℕ) → ℕ → Option ℕ
home_at homes v = slice_index_or homes v None

-- the numbers of the blocks of all variables up to the last that is in one, or further
pub record IsHomes (bs : List (List ℕ)) (homes : List (Option ℕ)) : Type 0 where
  pub few : length homes ≤ 512
  pub own : (v : ℕ) → v < length homes → home_at homes v ≡ home_of bs v
  pub rest : (v : ℕ) → length homes ≤ v → length bs ≤ home bs v

-- a variable became the last member of a block, or of a new one
pub record IsPutIn (bs : List (List ℕ)) (b v : ℕ) (cs : List (List ℕ)) : Type 0 where
  pub count : length cs ≡ max (length bs) (b + 1)
  pub here : block cs b ≡ block bs b ++ v ∷ []
  pub others : (k : ℕ) → (k ≡ b → ⊥) → block cs k ≡ block bs k

-- a label's number: the one that it had, or else a fresh one, which it has from now on
pub record IsNumbered (old : Label → Option ℕ) (label : Label) (fresh s : ℕ) (new : Label → Option ℕ) : Type 0 where
  pub number : s ≡ unwrap_or (old label) fresh
  pub here : new label ≡ Some s
  pub others : (q : Label) → (label ≡ q → ⊥) → new q ≡ old q
