-- The code's values, seen as texts and numbers.
use Rattle.std.specs.Prelude.{◌≡◌, List, Some, None, option_map, Result, Ok, Err}
use Rattle.std.specs.String.{string_bytes}
use Rattle.command_words.specs.Texts.{Text}
use Rattle.command_words.specs.Items.{Given}
use Rattle.command_words.specs.Command.{Asked, asked_of}
use Rattle.command_words.specs.Command as asked
use Rattle.command_words.specs.declared.cli.GivenWords.{GivenWords}
use Rattle.command_words.specs.declared.command.Command.{Command}
use Rattle.command_words.specs.declared.command.Command.TheVariants.{Analyse, Bench, Replay}
use Rattle.command_words.specs.declared.command.WordsFault.{WordsFault}
use Rattle.command_words.specs.declared.command.WordsFault.TheVariants.{Usage, NoMemory}

abbrev pub given_view : GivenWords → Given
given_view g = record {
  delay = option_map (λ s. s.now) g.delay;
  descend = option_map (λ s. s.now) g.descend;
  full = g.full;
  domain = option_map (λ s. s.now) g.domain;
  file = g.file.now;
}

-- what a command of the code asks for
abbrev pub asked_by : Command → Asked
asked_by (Analyse delay descend full domain file) = asked.Analyse delay descend full domain (string_bytes file)
asked_by (Bench number) = asked.Bench number
asked_by (Replay file choices) = asked.Replay (string_bytes file) (string_bytes choices)

-- the answer is what the words ask for; `Usage` where they ask for nothing
abbrev pub Reads : List Text → Result Command WordsFault → Type 0
Reads words (Ok command) = asked_of words ≡ Some (asked_by command)
Reads words (Err Usage) = asked_of words ≡ None
Reads words (Err NoMemory) = Unit {0}
