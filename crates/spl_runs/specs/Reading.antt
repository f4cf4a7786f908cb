-- What reading a text of choices holds after some bytes, and what each byte does to it.
use Rattle.std.specs.Prelude.{◌≡◌, ℕ, ◌-◌, Bool, true, false, nat_eq, if◌then◌else◌, List, [], ◌∷◌, ◌++◌, Option, None, Some, Result, Ok, Err, ℤ, pos, ◌+ℤ◌, ◌-ℤ◌, ◌*ℤ◌, ◌≤ℤ◌}
use Rattle.std.specs.declared.alloc.AllocError.{AllocError}
use Rattle.spl_runs.specs.declared.choices.Choices.{Choices}
use Rattle.spl_runs.specs.declared.reader.Mode.{Mode}
use Rattle.spl_runs.specs.declared.reader.Mode.TheVariants as mode
use Rattle.spl_runs.specs.declared.reader.ByteFault.{ByteFault}
use Rattle.spl_runs.specs.declared.reader.ByteFault.TheVariants as fault
use Rattle.spl_runs.specs.declared.reader.Reader.{Reader}
use Rattle.spl_runs.specs.Choices.{Given, given_of}
use Rattle.spl_runs.specs.ChoicesText.{is_digit, with_step}
use Rattle.spl_runs.specs.Word.{fits}

pub record Reading : Type 0 where
  -- the lines that ended
  pub given : Given
  pub first_line : Bool
  -- the numbers of this line that ended, and the one that is being read
  pub line : List ℤ
  pub mode : Mode
  pub minus : Bool
  pub number : ℤ

abbrev pub reading_of : Reader → Reading
reading_of r = record { given = given_of r.choices; first_line = r.first_line; line = r.line.items; mode = r.mode; minus = r.minus; number = r.number }

abbrev pub begun_reading : Reading
begun_reading = record { given = record { start = []; steps = [] }; first_line = true; line = []; mode = mode.LineStart; minus = false; number = pos 0 }

-- ---- what ends

abbrev pub number_ended : Mode → Reading → Reading
number_ended mode r = record { given = r.given; first_line = r.first_line; line = r.line ++ r.number ∷ []; mode = mode; minus = false; number = pos 0 }

abbrev pub with_line : Bool → Given → List ℤ → Given
with_line true g line = record { start = line; steps = g.steps }
with_line false g line = with_step g line

abbrev pub line_ended : Reading → Reading
line_ended r = record { given = with_line r.first_line r.given r.line; first_line = false; line = []; mode = mode.LineStart; minus = r.minus; number = r.number }

-- ---- what a byte does

abbrev pub more_digits : Bool → ℤ → ℕ → ℤ
more_digits true number digit = (number *ℤ pos 10) -ℤ pos digit
more_digits false number digit = (number *ℤ pos 10) +ℤ pos digit

abbrev pub with_digit : Reading → ℕ → Reading
with_digit r b = record { given = r.given; first_line = r.first_line; line = r.line; mode = mode.Digits; minus = r.minus; number = more_digits r.minus r.number (b - 48) }

abbrev pub with_minus : Mode → Reading → Option Reading
with_minus mode.LineStart r = Some (record { given = r.given; first_line = r.first_line; line = r.line; mode = mode.Sign; minus = true; number = r.number })
with_minus mode.Gap r = Some (record { given = r.given; first_line = r.first_line; line = r.line; mode = mode.Sign; minus = true; number = r.number })
with_minus mode.Sign r = None
with_minus mode.Digits r = None

abbrev pub with_space : Mode → Reading → Option Reading
with_space mode.LineStart r = None
with_space mode.Gap r = Some r
with_space mode.Sign r = None
with_space mode.Digits r = Some (number_ended mode.Gap r)

abbrev pub with_line_feed : Mode → Reading → Option Reading
with_line_feed mode.LineStart r = if r.first_line then Some (line_ended r) else None
with_line_feed mode.Gap r = None
with_line_feed mode.Sign r = None
with_line_feed mode.Digits r = Some (line_ended (number_ended mode.Digits r))

-- the classes of bytes
pub data Kind : Type 0 where
  a_digit : Kind
  a_minus : Kind
  a_space : Kind
  a_line_feed : Kind
  another : Kind

abbrev pub kind_of : ℕ → Kind
kind_of b = if is_digit b then a_digit else (if nat_eq b 45 then a_minus else (if nat_eq b 32 then a_space else (if nat_eq b 10 then a_line_feed else another)))

abbrev pub next_by : Kind → Reading → ℕ → Option Reading
next_by a_digit r b = Some (with_digit r b)
next_by a_minus r b = with_minus r.mode r
next_by a_space r b = with_space r.mode r
next_by a_line_feed r b = with_line_feed r.mode r
next_by another r b = None

-- what is held after one byte more; none if the byte can't stand there
abbrev pub next : Reading → ℕ → Option Reading
next r b = next_by (kind_of b) r b

-- the choices, if the text can end here
abbrev pub ended_by : Mode → Reading → Option Given
ended_by mode.LineStart r = Some r.given
ended_by mode.Gap r = None
ended_by mode.Sign r = None
ended_by mode.Digits r = Some (line_ended (number_ended mode.Digits r)).given

abbrev pub ended : Reading → Option Given
ended r = ended_by r.mode r

-- ---- contracts of the reader

-- the number that is being read passes 128 bits
abbrev pub IsPast : Option Reading → Type 0
IsPast None = ⊥
IsPast (Some r) = fits r.number ≡ false

-- a byte is taken; or it can't stand there; or its number is past 128 bits
abbrev pub Takes : Option Reading → Result (Unit {0}) ByteFault → Reading → Type 0
Takes o (Ok done) new = o ≡ Some new
Takes o (Err fault.Bad) new = o ≡ None
Takes o (Err fault.Wide) new = IsPast o
Takes o (Err fault.NoMemory) new = Unit {0}

-- the text ends, and these are its choices; or it can't end
abbrev pub Gives : Option Given → Result (Option Choices) AllocError → Type 0
Gives o (Ok (Some choices)) = o ≡ Some (given_of choices)
Gives o (Ok None) = o ≡ None
Gives o (Err no_memory) = Unit {0}

-- a number has the sign that was read, or is 0
abbrev pub Agrees : Bool → ℤ → Type 0
Agrees true number = number ≤ℤ pos 0
Agrees false number = pos 0 ≤ℤ number

-- the number with a digit more, if it's within 128 bits
abbrev pub NextNumber : Bool → ℤ → ℕ → Option ℤ → Type 0
NextNumber negative number digit None = fits (more_digits negative number digit) ≡ false
NextNumber negative number digit (Some x) = x ≡ more_digits negative number digit

abbrev pub is_in_number : Mode → Bool
is_in_number mode.LineStart = false
is_in_number mode.Gap = false
is_in_number mode.Sign = true
is_in_number mode.Digits = true
