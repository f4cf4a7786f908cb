-- Words that are text.
use Rattle.std.specs.Prelude.{◌≡◌, List, ℕ, [], ◌∷◌, Option, Some, None, Vec, map}
use Rattle.std.specs.Borrow.{Bor}
use Rattle.std.specs.Str.{IsUtf8}

-- the bytes of a word
abbrev pub Text : Type 0
Text = List ℕ

abbrev pub AreText : List Text → Type 0
AreText [] = Unit {0}
AreText (word ∷ rest) = IsUtf8 word × AreText rest

-- the words as text, where they are
abbrev pub TextsOf : {Z : Type 0} → List Text → Option (Vec (Bor Text) Z) → Type 0
TextsOf words None = AreText words → ⊥
TextsOf words (Some texts) = (map (λ s. s.now) texts.items ≡ words) × AreText words
