-- Files in memory, and what each call does to them.
use Rattle.std.specs.Prelude.{ℕ, List, [], ◌∷◌, ◌++◌, ◌==◌, Bool, true, false, length, min, take, drop, Option, None, Some, Result, Ok, Err, refl}
use Rattle.std.specs.List.{list_any}
use Rattle.std.specs.FinMap as map
use Rattle.std.specs.Coded.{Coded, code_by, coded×, coded_ℕ, coded_bool, coded_list}
use Rattle.spl_io.specs.Counts.{next}
use Rattle.spl_io.specs.Store.{Store}
use Rattle.spl_io.specs.declared.files.Failed.{Failed}
use Rattle.spl_io.specs.declared.files.OpenFault.{OpenFault}
use Rattle.spl_io.specs.declared.files.OpenFault.TheVariants as fault

-- files in memory: what they hold, what is left of the one in hand, how they are read, and the counts of calls and faults
pub record MemFilesState : Type 0 where
  pub store : Store
  pub in_hand : Bool
  pub left : List ℕ
  pub piece : ℕ
  pub failing : List ℕ
  pub calls : ℕ
  pub open_faults : ℕ
  pub read_faults : ℕ

-- the state is stored as the tuple of its fields
abbrev pub mem_files_code : Coded MemFilesState
mem_files_code =
    code_by (Store × (Bool × (List ℕ × (ℕ × (List ℕ × (ℕ × (ℕ × ℕ)))))))
    (coded× (map.code (coded_list coded_ℕ) (coded_list coded_ℕ)) (coded× coded_bool (coded× (coded_list coded_ℕ) (coded× coded_ℕ (coded× (coded_list coded_ℕ) (coded× coded_ℕ (coded× coded_ℕ coded_ℕ)))))))
    (λ s. (s.store, (s.in_hand, (s.left, (s.piece, (s.failing, (s.calls, (s.open_faults, s.read_faults))))))))
    (λ p. record { store = p.0; in_hand = p.1.0; left = p.1.1.0; piece = p.1.1.1.0; failing = p.1.1.1.1.0; calls = p.1.1.1.1.1.0; open_faults = p.1.1.1.1.1.1.0; read_faults = p.1.1.1.1.1.1.1 })
    (λ _. refl)

-- whether the call of this number is listed
abbrev pub is_listed : List ℕ → ℕ → Bool
is_listed failing call = list_any (λ x. x == call) failing

-- no files, none in hand, no call yet
abbrev pub no_files : ℕ → MemFilesState
no_files piece = record { store = map.empty; in_hand = false; left = []; piece = piece; failing = []; calls = 0; open_faults = 0; read_faults = 0 }

-- the files with these bytes under this name; the file in hand stays as it is
abbrev pub with_file : MemFilesState → List ℕ → List ℕ → MemFilesState
with_file s name bytes = record s { store = map.insert s.store name bytes }

-- the files with one more call that is to fail
abbrev pub with_failing : MemFilesState → ℕ → MemFilesState
with_failing s call = record s { failing = s.failing ++ call ∷ [] }

-- the answer of an opening, by whether its number is listed and what the name has
abbrev pub open_answer : Bool → Option (List ℕ) → Result (Unit {0}) OpenFault
open_answer true found = Err fault.Failed
open_answer false None = Err fault.Missing
open_answer false (Some bytes) = Ok tt

-- the files after an opening, by the same
abbrev pub after_open : Bool → Option (List ℕ) → MemFilesState → MemFilesState
after_open true found s = record s { in_hand = false; left = []; calls = next s.calls; open_faults = next s.open_faults }
after_open false None s = record s { in_hand = false; left = []; calls = next s.calls }
after_open false (Some bytes) s = record s { in_hand = true; left = bytes; calls = next s.calls }

-- how many bytes a read takes into a buffer with this room
abbrev pub read_count : MemFilesState → ℕ → ℕ
read_count s room = min s.piece (min room (length s.left))

-- the answer of a read, by whether its number is listed
abbrev pub read_answer : Bool → MemFilesState → ℕ → Result ℕ Failed
read_answer true s room = Err (record {})
read_answer false s room = Ok (read_count s room)

-- the buffer after a read, by the same: what was read, and then what stood there
abbrev pub after_read_buffer : Bool → MemFilesState → List ℕ → List ℕ
after_read_buffer true s buf = buf
after_read_buffer false s buf = take (read_count s (length buf)) s.left ++ drop (read_count s (length buf)) buf

-- the files after a read, by the same
abbrev pub after_read : Bool → MemFilesState → ℕ → MemFilesState
after_read true s room = record s { calls = next s.calls; read_faults = next s.read_faults }
after_read false s room = record s { left = drop (read_count s room) s.left; calls = next s.calls }
