-- A sink in memory, and what each write does to it.
use Rattle.std.specs.Prelude.{ℕ, ◌-◌, List, [], ◌∷◌, ◌++◌, ◌==◌, ◌||◌, Bool, true, false, length, min, take, Result, Ok, Err}
use Rattle.std.specs.List.{list_any}
use Rattle.spl_io.specs.Counts.{next}
use Rattle.spl_io.specs.declared.files.Failed.{Failed}

-- a sink in memory: the bytes so far, how many it takes at once and at all, and the counts of writes and faults
pub record MemSinkState : Type 0 where
  pub bytes : List ℕ
  pub piece : ℕ
  pub room : ℕ
  pub failing : List ℕ
  pub writes : ℕ
  pub faults : ℕ

-- no bytes, no write yet
abbrev pub no_bytes : ℕ → ℕ → MemSinkState
no_bytes piece room = record { bytes = []; piece = piece; room = room; failing = []; writes = 0; faults = 0 }

-- the sink with one more write that is to fail
abbrev pub with_failing_write : MemSinkState → ℕ → MemSinkState
with_failing_write s call = record s { failing = s.failing ++ call ∷ [] }

-- whether the next write fails: its number is listed, or the room is used up
abbrev pub fails : MemSinkState → Bool
fails s = list_any (λ x. x == s.writes) s.failing || length s.bytes == s.room

-- how many bytes of a piece a write takes
abbrev pub write_count : MemSinkState → ℕ → ℕ
write_count s given = min s.piece (min given (s.room - length s.bytes))

-- the answer of a write, by whether it fails
abbrev pub write_answer : Bool → MemSinkState → ℕ → Result ℕ Failed
write_answer true s given = Err (record {})
write_answer false s given = Ok (write_count s given)

-- the sink after a write, by the same
abbrev pub after_write : Bool → MemSinkState → List ℕ → MemSinkState
after_write true s piece = record s { writes = next s.writes; faults = next s.faults }
after_write false s piece = record s { bytes = s.bytes ++ take (write_count s (length piece)) piece; writes = next s.writes }
