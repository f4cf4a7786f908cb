-- What is true of the words' meaning.
use Rattle.std.specs.Prelude.{◌≡◌, ◌↔◌, ◌≤◌, List, Some, None}
use Rattle.command_words.specs.Texts.{Text}
use Rattle.command_words.specs.Command.{Asked, Analyse, Bench, Replay, asked_of}
use Rattle.command_words.specs.Items.{Item, items_of}
use Rattle.command_words.specs.Spelling.{Spells}

-- the function gives the items that the words spell, and no others
abbrev pub ReadsWhatIsSpelled : Type 0
ReadsWhatIsSpelled = (words : List Text) (items : List Item) → Spells words items ↔ (items_of words None ≡ Some items)

-- numbers that are asked for lie within their limits
abbrev pub IsWithinLimits : Asked → Type 0
IsWithinLimits (Analyse delay descend full domain file) = (delay ≤ 1000) × (descend ≤ 1000)
IsWithinLimits (Bench number) = (1 ≤ number) × (number ≤ 42)
IsWithinLimits (Replay file choices) = Unit {0}

abbrev pub AsksWithinLimits : Type 0
AsksWithinLimits = (words : List Text) (asked : Asked) → asked_of words ≡ Some asked → IsWithinLimits asked
