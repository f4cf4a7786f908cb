-- Which words spell which items.
use Rattle.std.specs.Prelude.{◌≡◌, ◌≢◌, ◌⊎◌, true, false, List, [], ◌∷◌, ◌++◌, map, codes, slice_index}
use Rattle.command_words.specs.Texts.{Text}
use Rattle.command_words.specs.Items.{Item, Kind, file, is_flag, item, name_of, same}

-- a word that is no option: it is `-` or doesn't begin with `-`
abbrev pub IsPlainWord : Text → Type 0
IsPlainWord word = (word ≡ codes "-") ⊎ (slice_index word 0 ≢ 45)

pub record TakesText (kind : Kind) : Type 0 where
  pub no_flag : is_flag kind ≡ false
  pub no_file : same kind file ≡ false

pub data Spells : List Text → List Item → Type 0 where
  nothing : Spells [] []
  -- after `--` every word is a FILE
  files : (words : List Text) → Spells (codes "--" ∷ words) (map (item file) words)
  file_word : (word : Text) (rest : List Text) (items : List Item) → IsPlainWord word → Spells rest items
      → Spells (word ∷ rest) (item file word ∷ items)
  flag : (kind : Kind) (rest : List Text) (items : List Item) → is_flag kind ≡ true → Spells rest items
      → Spells ((codes "--" ++ name_of kind) ∷ rest) (item kind (codes "true") ∷ items)
  joined : (kind : Kind) (text : Text) (rest : List Text) (items : List Item) → TakesText kind → Spells rest items
      → Spells ((codes "--" ++ (name_of kind ++ (codes "=" ++ text))) ∷ rest) (item kind text ∷ items)
  apart : (kind : Kind) (text : Text) (rest : List Text) (items : List Item) → TakesText kind → IsPlainWord text → Spells rest items
      → Spells ((codes "--" ++ name_of kind) ∷ text ∷ rest) (item kind text ∷ items)
