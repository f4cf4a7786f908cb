-- What a sink holds after a part of a text.
use Rattle.std.specs.Prelude.{ℕ, List, take, Option}
use Rattle.std.specs.Io.KnownBytes.{Appends}

-- known bytes grew by the first `gone` bytes of the text
abbrev pub GrewByFront : Option (List ℕ) → Option (List ℕ) → List ℕ → ℕ → Type 0
GrewByFront before now text gone = Appends before now (take gone text)
