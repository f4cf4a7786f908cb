-- What the words of a command line ask for.
use Rattle.std.specs.Prelude.{ℕ, ◌==◌, ◌&&◌, ◌||◌, Bool, not, List, [], ◌∷◌, Option, Some, None, option_map, option_and_then, if◌then◌else◌, codes, slice_index}
use Rattle.std.specs.List.{list_all}
use Rattle.std.specs.Str.{bytes_eq, is_utf8}
use Rattle.command_words.specs.Texts.{Text}
use Rattle.command_words.specs.Items.{Given, given_of}
use Rattle.command_words.specs.Domains.{domain_or}
use Rattle.command_words.specs.declared.domain_name.DomainName.{DomainName}
use Rattle.command_words.specs.Number.{program_of, rounds_of}

pub data Asked : Type 0 where
  Analyse : (delay descend : ℕ) → (full : Bool) → (domain : DomainName) → (file : Text) → Asked
  Bench : (number : ℕ) → Asked
  Replay : (file choices : Text) → Asked

-- ---- [--delay N] [--descend N] [--full] [--domain dec|full] FILE

-- an option's number, or its default where it isn't given
abbrev pub rounds_or : ℕ → Option Text → Option ℕ
rounds_or default None = Some default
rounds_or default (Some word) = rounds_of word

abbrev pub analyse_with : Given → Option ℕ → Option ℕ → Option DomainName → Option Asked
analyse_with given (Some delay) (Some descend) (Some domain) = Some (Analyse delay descend given.full domain given.file)
analyse_with given (Some delay) (Some descend) None = None
analyse_with given (Some delay) None domain = None
analyse_with given None descend domain = None

abbrev pub analyse_given : Given → Option Asked
analyse_given given = analyse_with given (rounds_or 1 given.delay) (rounds_or 2 given.descend) (domain_or given.domain)

unfoldable pub analyse_of : List Text → Option Asked
analyse_of words = option_and_then analyse_given (given_of words)

-- ---- bench N

unfoldable pub bench_of : List Text → Option Asked
bench_of (word ∷ []) = option_map Bench (program_of word)
bench_of _ = None

-- ---- replay FILE CHOICES

-- it is `-` or doesn't begin with `-`
abbrev pub is_file_word : Text → Bool
is_file_word word = bytes_eq word (codes "-") || not (slice_index word 0 == 45)

unfoldable pub replay_of : List Text → Option Asked
replay_of (file ∷ choices ∷ []) = if is_file_word file && is_file_word choices then Some (Replay file choices) else None
replay_of _ = None

-- ---- any words

-- a first word that names a command chooses it; all other words are an analysis
unfoldable pub asked_of_texts : List Text → Option Asked
asked_of_texts [] = analyse_of []
asked_of_texts (word ∷ rest) =
    if bytes_eq word (codes "bench") then bench_of rest
    else (if bytes_eq word (codes "replay") then replay_of rest else analyse_of (word ∷ rest))

-- what words ask for; nothing where they are of no form, or one isn't UTF-8
unfoldable pub asked_of : List Text → Option Asked
asked_of words = if list_all is_utf8 words then asked_of_texts words else None
