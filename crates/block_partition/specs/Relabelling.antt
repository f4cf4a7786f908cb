-- Labels that merge, split and meet: two variables get one label exactly where they share a block afterwards.
use Rattle.std.specs.Prelude.{◌≡◌, ℕ, ◌+◌, ◌<◌, ◌≤◌, nat_eq, nat_lt, Bool, true, false, Option, Some, None, List, length, slice_index_or, if◌then◌else◌}
use Rattle.block_partition.specs.Partition.{member, home}
use Rattle.block_partition.specs.Changes.{label_of, leaving}
use Rattle.block_partition.specs.Grouping.{Label, Merged, Whole, Part, label}

-- the label that keeps blocks as they are
unfoldable pub plain_label : List (List ℕ) → ℕ → Option Label
plain_label bs v = if nat_lt (home bs v) (length bs) then Some (Whole (home bs v)) else None

-- the number of a variable's block; a variable in no block counts as a block of its own
unfoldable pub key : List (List ℕ) → ℕ → ℕ
key bs v = if nat_lt (home bs v) (length bs) then home bs v else 512 + v

abbrev pub mark : List Bool → ℕ → Bool
mark marks k = slice_index_or marks k false

-- the keys of the first n of some variables are marked
pub record IsMarked (bs : List (List ℕ)) (vs : List ℕ) (n : ℕ) (marks : List Bool) : Type 0 where
  pub size : length marks ≡ 1024
  pub known : (i : ℕ) → i < n → mark marks (key bs (member vs i)) ≡ true
  pub only : (k : ℕ) → mark marks k ≡ true → (i : ℕ) × (i < n) × (key bs (member vs i) ≡ k)

unfoldable pub merged_label : List (List ℕ) → List Bool → ℕ → Option Label
merged_label bs marks v = if mark marks (key bs v) then Some Merged else plain_label bs v

-- the label of a member of block b that has its label of a split
abbrev pub part_label : ℕ → ℕ → Option Label
part_label b l = if nat_eq l leaving then None else Some (Part b l)

-- the label that stands for a number that a variable is given
abbrev pub own_label : Option ℕ → Option Label
own_label None = None
own_label (Some k) = Some (Whole k)

unfoldable pub split_label : List (List ℕ) → ℕ → List ℕ → ℕ → Option Label
split_label bs b labels v = if nat_eq (home bs v) b then part_label b (label_of bs b labels v) else plain_label bs v

unfoldable pub meet_label : List (List ℕ) → List (List ℕ) → ℕ → Option Label
meet_label xs ys v = if nat_lt (home xs v) (length xs) then (if nat_lt (home ys v) (length ys) then Some (Part (home xs v) (home ys v)) else None) else None

-- the labels of all variables up to the last that has one, or further
pub record IsLabelled (f : ℕ → Option Label) (labels : List (Option Label)) : Type 0 where
  pub few : length labels ≤ 512
  pub own : (v : ℕ) → v < length labels → label labels v ≡ f v
  pub rest : (v : ℕ) → length labels ≤ v → f v ≡ None

-- at least all variables of a partition and all given ones are below n
pub record IsSpan (bs : List (List ℕ)) (vs : List ℕ) (n : ℕ) : Type 0 where
  pub few : n ≤ 512
  pub given : (i : ℕ) → i < length vs → member vs i < n
  pub rest : (v : ℕ) → n ≤ v → length bs ≤ home bs v
