-- The text of what is said at a point determines what is said.
use Rattle.std.specs.Prelude.{◌≡◌, ℕ, ◌≤◌, ◌^◌, Bool, ◌||◌, ◌==◌, List, [], ◌∷◌, length, None, Some, pos, neg_ℤ, ◌≤ℤ◌, IsTrue}
use Rattle.std.specs.List.{All, IsDistinct}
use Rattle.std.specs.Str.{bytes_eq}
use Rattle.oct_def.specs.Octagon.{Octagon, IsOctagon}
use Rattle.spl_text.specs.Bytes.{is_letter, is_name_byte}
use Rattle.spl_tree.specs.Program.{Program}
use Rattle.spl_types.specs.Checks.{broken_rule}
use Rattle.spl_types.specs.Dimensions.{dimensions}
use Rattle.report.specs.Listed.{Note, note_of}
use Rattle.report.specs.ConstraintText.{constraint_text, note_text}
use Rattle.report.specs.Names.{IsNamed}
use Rattle.report.specs.ReadsBack.{IsSourceOf}
use Rattle.report.specs.declared.constraint.Constraint.{Constraint}

-- bytes of a dimension's name: those of names, and the `@` of an input's value at the entry
abbrev pub is_dimension_byte : ℕ → Bool
is_dimension_byte b = is_name_byte b || b == 64

-- a letter or `_` first, then only such bytes
abbrev pub IsDimensionName : List ℕ → Type 0
IsDimensionName [] = ⊥
IsDimensionName (b ∷ bs) = IsTrue (is_letter b) × All (λ c. IsTrue (is_dimension_byte c)) bs

-- Each text is a name of a dimension, and no two are the same.
pub record AreDistinctNames (names : List (List ℕ)) : Type 0 where
  pub each : All IsDimensionName names
  pub distinct : IsDistinct bytes_eq names

-- A constraint over n names: each variable is one of them, and the constant is between -2^63 and 2^63.
pub record IsPlain (n : ℕ) (c : Constraint) : Type 0 where
  pub named : IsNamed n c
  pub low : neg_ℤ (pos (2 ^ 63)) ≤ℤ c.constant
  pub high : c.constant ≤ℤ pos (2 ^ 63)

-- what is said at a point has plain constraints alone
abbrev pub IsPlainNote : ℕ → Note → Type 0
IsPlainNote n None = Unit {0}
IsPlainNote n (Some constraints) = All (IsPlain n) constraints

-- two constraints with one text are one constraint
abbrev pub ConstraintTextsAreReadable : Type 0
ConstraintTextsAreReadable = (names : List (List ℕ)) (a b : Constraint) → AreDistinctNames names
    → IsPlain (length names) a → IsPlain (length names) b → constraint_text names a ≡ constraint_text names b → a ≡ b

-- two notes with one text are one note
abbrev pub NoteTextsAreReadable : Type 0
NoteTextsAreReadable = (names : List (List ℕ)) (a b : Note) → AreDistinctNames names
    → IsPlainNote (length names) a → IsPlainNote (length names) b → note_text names a ≡ note_text names b → a ≡ b

-- what is listed of a value is plain
abbrev pub NotesArePlain : Type 0
NotesArePlain = (full : Bool) (v : Octagon) → IsOctagon v → IsPlainNote v.dims (note_of full v)

-- in a program that was read and keeps all checks, the dimensions of each procedure, main last, have names, and these differ
abbrev pub DimensionsAreNamed : Type 0
DimensionsAreNamed = (bytes : List ℕ) (p : Program) (k : ℕ) → IsSourceOf bytes p → broken_rule p ≡ None → k ≤ length p.procs → AreDistinctNames (dimensions p k)
