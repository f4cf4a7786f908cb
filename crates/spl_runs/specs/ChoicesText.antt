-- The text of choices: lines of numbers. The first line has main's values at its entry; each later line is a step.
use Rattle.std.specs.Prelude.{◌≡◌, ℕ, suc, zero, ◌+◌, ◌-◌, ◌*◌, ◌<◌, ◌≤◌, ◌⊎◌, Bool, true, false, ◌&&◌, ◌||◌, not, nat_eq, nat_le, if◌then◌else◌, List, [], ◌∷◌, ◌++◌, length, take, drop, slice_index, ℤ, pos, neg_ℤ}
use Rattle.std.specs.List.{fold}
use Rattle.spl_runs.specs.Choices.{Choice, Given}
use Rattle.spl_runs.specs.Word.{fits}

-- ---- numbers

abbrev pub is_digit : ℕ → Bool
is_digit b = nat_le 48 b && nat_le b 57

-- the number that decimal digits spell
abbrev pub decimal : List ℕ → ℕ
decimal digits = fold (λ value digit. value * 10 + (digit - 48)) 0 digits

-- a number with its sign
abbrev pub signed : Bool → ℕ → ℤ
signed true n = neg_ℤ (pos n)
signed false n = pos n

-- an optional minus and digits, at least one
pub record Numeral : Type 0 where
  pub minus : Bool
  pub first : ℕ
  pub others : List ℕ

abbrev pub digits_of : Numeral → List ℕ
digits_of n = n.first ∷ n.others

abbrev pub sign_bytes : Bool → List ℕ
sign_bytes true = 45 ∷ []
sign_bytes false = []

abbrev pub numeral_bytes : Numeral → List ℕ
numeral_bytes n = sign_bytes n.minus ++ digits_of n

abbrev pub number_of : Numeral → ℤ
number_of n = signed n.minus (decimal (digits_of n))

abbrev pub AllDigits : List ℕ → Type 0
AllDigits [] = Unit {0}
AllDigits (b ∷ bytes) = (is_digit b ≡ true) × AllDigits bytes

-- ---- lines

-- numbers, separated by one or more spaces: `spaces` is how many there are besides one
pub data Line : Type 0 where
  lone : Numeral → Line
  after : (front : Line) → (spaces : ℕ) → Numeral → Line

abbrev pub blanks : ℕ → List ℕ
blanks zero = []
blanks (suc n) = 32 ∷ blanks n

abbrev pub line_bytes : Line → List ℕ
line_bytes (lone n) = numeral_bytes n
line_bytes (after front spaces n) = line_bytes front ++ ((32 ∷ blanks spaces) ++ numeral_bytes n)

abbrev pub line_numbers : Line → List ℤ
line_numbers (lone n) = number_of n ∷ []
line_numbers (after front spaces n) = line_numbers front ++ number_of n ∷ []

abbrev pub IsLine : Line → Type 0
IsLine (lone n) = AllDigits (digits_of n)
IsLine (after front spaces n) = IsLine front × AllDigits (digits_of n)

-- ---- texts

-- a first line, which may be empty, and later lines, each after an LF
pub data Lines : Type 0 where
  nothing : Lines
  only : Line → Lines
  more : (front : Lines) → Line → Lines

abbrev pub lines_bytes : Lines → List ℕ
lines_bytes nothing = []
lines_bytes (only line) = line_bytes line
lines_bytes (more front line) = lines_bytes front ++ 10 ∷ line_bytes line

abbrev pub AreLines : Lines → Type 0
AreLines nothing = Unit {0}
AreLines (only line) = IsLine line
AreLines (more front line) = AreLines front × IsLine line

-- a later line is a step: it begins with the number of the edge
abbrev pub with_step : Given → List ℤ → Given
with_step g [] = g
with_step g (edge ∷ values) = record { start = g.start; steps = g.steps ++ record { edge = edge; values = values } ∷ [] }

abbrev pub lines_given : Lines → Given
lines_given nothing = record { start = []; steps = [] }
lines_given (only line) = record { start = line_numbers line; steps = [] }
lines_given (more front line) = with_step (lines_given front) (line_numbers line)

-- a last LF is allowed
abbrev pub last_bytes : Bool → List ℕ
last_bytes true = 10 ∷ []
last_bytes false = []

-- a text spells choices, of whatever size its numbers are
pub record Spells (bytes : List ℕ) (g : Given) : Type 0 where
  pub lines : Lines
  pub last : Bool
  pub well : AreLines lines
  pub text : bytes ≡ lines_bytes lines ++ last_bytes last
  pub means : g ≡ lines_given lines

-- ---- the limit of numbers

abbrev pub AllFit : List ℤ → Type 0
AllFit [] = Unit {0}
AllFit (x ∷ xs) = (fits x ≡ true) × AllFit xs

abbrev pub ChoicesFit : List Choice → Type 0
ChoicesFit [] = Unit {0}
ChoicesFit (s ∷ steps) = (fits s.edge ≡ true) × AllFit s.values × ChoicesFit steps

-- each number is within 128 bits
abbrev pub GivenFits : Given → Type 0
GivenFits g = AllFit g.start × ChoicesFit g.steps

-- a text is the text of these choices
pub record IsChoices (bytes : List ℕ) (g : Given) : Type 0 where
  pub spells : Spells bytes g
  pub within : GivenFits g

-- ---- faults

-- some continuation of these bytes is a text of choices, when numbers know no limit
pub record Begins (bytes : List ℕ) : Type 0 where
  pub rest : List ℕ
  pub given : Given
  pub spells : Spells (bytes ++ rest) given

-- the byte at this place can't stand where it stands; the end of the file counts as a byte
pub record StopsAt (bytes : List ℕ) (at : ℕ) : Type 0 where
  pub within : at ≤ length bytes
  pub before : Begins (take at bytes)
  pub stops : at < length bytes → Begins (take (suc at) bytes) → ⊥
  pub ends : at ≡ length bytes → (g : Given) → Spells bytes g → ⊥

-- a number can begin at this place: it's the first one, or a space or an LF stands before it
abbrev pub opens : List ℕ → ℕ → Bool
opens bytes zero = true
opens bytes (suc at) = nat_eq (slice_index bytes at) 32 || nat_eq (slice_index bytes at) 10

-- the digits at the front of a text
abbrev pub front_digits : List ℕ → List ℕ
front_digits [] = []
front_digits (b ∷ bytes) = if is_digit b then b ∷ front_digits bytes else []

-- the number at the front of a text; 0 if there are no digits
abbrev pub front_number : List ℕ → ℤ
front_number [] = pos 0
front_number (b ∷ bytes) = if nat_eq b 45 then signed true (decimal (front_digits bytes)) else signed false (decimal (front_digits (b ∷ bytes)))

-- a number past 128 bits begins at this place
abbrev pub wide_at : List ℕ → ℕ → Bool
wide_at bytes at = opens bytes at && not (fits (front_number (drop at bytes)))

-- a place of a fault: a byte that can't stand where it stands, or the start of a number past 128 bits. A later line
-- without a number has no case of its own: the byte at its start can't stand there.
abbrev pub FaultsAt : List ℕ → ℕ → Type 0
FaultsAt bytes at = StopsAt bytes at ⊎ (wide_at bytes at ≡ true)

-- the first of them
pub record FaultAt (bytes : List ℕ) (at : ℕ) : Type 0 where
  pub here : FaultsAt bytes at
  pub first : (m : ℕ) → m < at → FaultsAt bytes m → ⊥
