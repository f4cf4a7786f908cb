-- The words of the first form: which options and files they give.
use Rattle.std.specs.Prelude.{◌==◌, ◌&&◌, ℕ, Bool, true, false, not, List, [], ◌∷◌, ◌++◌, map, Option, Some, None, option_map, option_and_then, if◌then◌else◌, codes, find}
use Rattle.std.specs.List.{list_any, before_first, after_first}
use Rattle.std.specs.Str.{bytes_eq}
use Rattle.command_words.specs.Texts.{Text}

-- what can be given
pub data Kind : Type 0 where
  delay : Kind
  descend : Kind
  full : Kind
  domain : Kind
  file : Kind

-- an option's name, and FILE's among the values
abbrev pub name_of : Kind → Text
name_of delay = codes "delay"
name_of descend = codes "descend"
name_of full = codes "full"
name_of domain = codes "domain"
name_of file = codes "file"

abbrev pub options : List Kind
options = delay ∷ descend ∷ full ∷ domain ∷ []

-- an option that takes no value
abbrev pub is_flag : Kind → Bool
is_flag full = true
is_flag _ = false

-- one thing that is given, with its text; a flag's is `true`
pub record Item : Type 0 where
  pub kind : Kind
  pub text : Text

abbrev pub item : Kind → Text → Item
item kind text = record { kind = kind; text = text }

-- what a word looks like: `--`, `--NAME` or `--NAME=TEXT`, another word that begins with `-` and isn't just `-`, or any other
pub data Form : Type 0 where
  ends : Form
  named : Text → Option Text → Form
  unknown : Form
  plain : Form

abbrev pub is_equals : ℕ → Bool
is_equals byte = byte == 61

abbrev pub form_of_long : Text → Form
form_of_long [] = ends
form_of_long (x ∷ xs) = named (before_first is_equals (x ∷ xs)) (if list_any is_equals (x ∷ xs) then Some (after_first is_equals (x ∷ xs)) else None)

abbrev pub form_of_two : ℕ → ℕ → Text → Form
form_of_two x y rest = if x == 45 then (if y == 45 then form_of_long rest else unknown) else plain

abbrev pub form_of : Text → Form
form_of [] = plain
form_of (x ∷ []) = plain
form_of (x ∷ y ∷ rest) = form_of_two x y rest

-- the option that has this name
abbrev pub option_named : Text → Option Kind
option_named name = find (λ kind. bytes_eq (name_of kind) name) options

abbrev pub with_item : Kind → Text → Option (List Item) → Option (List Item)
with_item kind text = option_map (λ items. item kind text ∷ items)

-- an option with what stands after its `=`; where nothing does, its value is the next word
abbrev pub read_valued : Kind → Option Text → (Option Kind → Option (List Item)) → Option (List Item)
read_valued kind None next = next (Some kind)
read_valued kind (Some text) next = with_item kind text (next None)

abbrev pub read_flag : Kind → Option Text → (Option Kind → Option (List Item)) → Option (List Item)
read_flag kind None next = with_item kind (codes "true") (next None)
read_flag kind (Some text) next = None

abbrev pub read_option : Kind → Option Text → (Option Kind → Option (List Item)) → Option (List Item)
read_option kind text next = if is_flag kind then read_flag kind text next else read_valued kind text next

abbrev pub read_named : Option Kind → Option Text → (Option Kind → Option (List Item)) → Option (List Item)
read_named None text next = None
read_named (Some kind) text next = read_option kind text next

-- a plain word is the value of the option that waits, or a FILE; after `--` every word is a FILE
abbrev pub read_word : Form → Option Kind → Text → List Text → (Option Kind → Option (List Item)) → Option (List Item)
read_word plain None word rest next = with_item file word (next None)
read_word plain (Some kind) word rest next = with_item kind word (next None)
read_word ends None word rest next = Some (map (item file) rest)
read_word (named name text) None word rest next = read_named (option_named name) text next
read_word _ _ word rest next = None

-- the items of the words, where an option may wait for the next word as its value
unfoldable pub items_of : List Text → Option Kind → Option (List Item)
items_of [] None = Some []
items_of [] (Some kind) = None
items_of (word ∷ rest) waiting = read_word (form_of word) waiting word rest (items_of rest)

abbrev pub same : Kind → Kind → Bool
same a b = bytes_eq (name_of a) (name_of b)

abbrev pub has : Kind → List Item → Bool
has kind items = list_any (λ x. same x.kind kind) items

-- each item is of a kind that none before it has
abbrev pub are_new : List Item → List Item → Bool
are_new before [] = true
are_new before (x ∷ rest) = not (has x.kind before) && are_new (before ++ x ∷ []) rest

-- the text that was given
abbrev pub text_of : Kind → List Item → Option Text
text_of kind items = option_map (λ x. x.text) (find (λ x. same x.kind kind) items)

-- what is given, as text
pub record Given : Type 0 where
  pub delay : Option Text
  pub descend : Option Text
  pub full : Bool
  pub domain : Option Text
  pub file : Text

-- each item comes at most once, and FILE does
abbrev pub given_of_items : List Item → Option Given
given_of_items items = if are_new [] items
    then option_map (λ name. record {
      delay = text_of delay items;
      descend = text_of descend items;
      full = has full items;
      domain = text_of domain items;
      file = name;
    }) (text_of file items) else None

-- what the words give, where they are of the form
abbrev pub given_of : List Text → Option Given
given_of words = option_and_then given_of_items (items_of words None)
