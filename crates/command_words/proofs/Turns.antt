-- A word's turn, by what the word looks like.
use Rattle.std.proofs.Common.{◌≡◌, refl, ℕ, List, [], ◌∷◌, Bool, true, false, codes, Option, Some, None, option_map, ◌∙◌, ap, fold, ◌&&◌, ◌||◌}
use Rattle.std.specs.Str.{bytes_eq}
use Rattle.clap.specs.Kinds.{Kinds, or_else}
use Rattle.clap.specs.Walk.{Held, Waiting, Walk, Row, idle, option, settled, reacted, subcommand_met, walk_from, walked, finished, nothing_held, is_pending, positional_held, arg_by_index, arg_by_long, to_positional}
use Rattle.clap.specs.Faults.{check_fault, defaults_fault, level_fault, settle_fault, turn_fault, use_fault, walk_fault, positional_fault, flags_fault}
use Rattle.command_words.specs.Texts.{Text}
use Rattle.command_words.specs.Items.{Kind, delay, descend, full, domain, file, is_flag, name_of, option_named}
use Rattle.command_words.proofs.Shape.{by-id, by-long, by-short, id-is, rule, rules, shape, takes-is, most-is, file-once, first-place, second-place}
use Rattle.command_words.proofs.Looks.{IsNamed, IsPlain, IsUnknown, dashes}

abbrev pub is_nil : Kinds → Bool
is_nil [] = true
is_nil (k ∷ ks) = false

pub nil-or : (a b : Kinds) → is_nil (or_else a b) ≡ (is_nil a && is_nil b)
nil-or [] b = refl
nil-or (k ∷ ks) b = refl

or-or : (a b c : Kinds) → or_else (or_else a b) c ≡ or_else a (or_else b c)
or-or [] b c = refl
or-or (k ∷ ks) b c = refl

-- ---- the whole parse, as a test

abbrev pub end_fault : Held → Kinds
end_fault h = or_else (settle_fault rules false h) (or_else (defaults_fault (settled rules h).rows rules) (check_fault shape (finished rules h) false))

unfoldable pub passes : Walk → List Text → Bool
passes w [] = is_nil (end_fault w.held)
passes w (word ∷ rest) = is_nil (turn_fault shape [] w word) && passes (walked rules [] w word) rest

passes-is : (words : List Text) (w : Walk) → is_nil (or_else (walk_fault shape [] w words) (end_fault (fold (walked rules []) w words).held)) ≡ passes w words
unfolding passes walk_fault
passes-is [] w = refl
passes-is (word ∷ rest) w =
    let end = end_fault (fold (walked rules []) (walked rules [] w word) rest).held in
    let more = walk_fault shape [] (walked rules [] w word) rest in
    let turn = turn_fault shape [] w word in
    ap is_nil (or-or turn more end) ∙ nil-or turn (or_else more end) ∙ ap (λ b. is_nil turn && b) (passes-is rest (walked rules [] w word))

pub level-passes : (words : List Text) → is_nil (level_fault shape [] nothing_held words false []) ≡ passes (walk_from nothing_held) words
level-passes words = passes-is words (walk_from nothing_held)

-- ---- a word's turn

abbrev pub walk_at : Held → Waiting → ℕ → Bool → Walk
walk_at h waiting position trailing = record { held = h; waiting = waiting; position = position; is_trailing = trailing; stopped = None }

-- past `--`, and a plain word: the first place is FILE's, and there is no second
abbrev pub with_file : Text → Held → Held
with_file word h = record (settled rules h) { pending = Some (codes "file", word ∷ []) }

and-false : (b : Bool) → (b && false) ≡ false
and-false true = refl
and-false false = refl

or-false : (b : Bool) → (b || false) ≡ b
or-false true = refl
or-false false = refl

or-nil : (a : Kinds) → or_else a [] ≡ a
or-nil [] = refl
or-nil (k ∷ ks) = refl

-- FILE takes one word, so a word that goes to it ends what was before
to-file : (h : Held) → positional_fault rules false (rule file) h ≡ settle_fault rules false h
to-file h = rw (file-once.1, and-false (is_pending (rule file) h.pending)) refl

file-held : (word : Text) (h : Held) → positional_held rules (rule file) word h ≡ with_file word h
file-held word h = rw (file-once.1, and-false (is_pending (rule file) h.pending), id-is file) refl

pub trailing-fault : (word : Text) (h : Held) (waiting : Waiting) → turn_fault shape [] (walk_at h waiting 1 true) word ≡ settle_fault rules false h
trailing-fault word h waiting = rw first-place (to-file h)

pub plain-fault : (word : Text) (h : Held) → IsPlain word → turn_fault shape [] (walk_at h idle 1 false) word ≡ settle_fault rules false h
plain-fault word h p = rw (p.other, p.long, p.short, first-place) (to-file h)

placed : (word : Text) (h : Held) (trailing : Bool) (waiting : Waiting) → to_positional rules (arg_by_index rules 1) word (walk_at h waiting 1 trailing) h ≡ walk_at (with_file word h) idle 2 trailing
placed word h trailing waiting = rw (first-place, file-once.0, file-once.2, or-false trailing) (ap (λ x. walk_at x idle 2 trailing) (file-held word h))

pub trailing-walk : (word : Text) (h : Held) (waiting : Waiting) → walked rules [] (walk_at h waiting 1 true) word ≡ walk_at (with_file word h) idle 2 true
unfolding walked
trailing-walk word h waiting = placed word h true waiting

pub plain-walk : (word : Text) (h : Held) → IsPlain word → walked rules [] (walk_at h idle 1 false) word ≡ walk_at (with_file word h) idle 2 false
unfolding walked
plain-walk word h p = rw (p.other, p.long, p.short) (placed word h false idle)

-- a second FILE
pub trailing-second : (word : Text) (h : Held) (waiting : Waiting) → is_nil (turn_fault shape [] (walk_at h waiting 2 true) word) ≡ false
trailing-second word h waiting = rw second-place refl

pub plain-second : (word : Text) (h : Held) → IsPlain word → is_nil (turn_fault shape [] (walk_at h idle 2 false) word) ≡ false
plain-second word h p = rw (p.other, p.long, p.short, second-place) refl

-- `--`
pub ends-fault : (word : Text) (h : Held) (position : ℕ) → bytes_eq word dashes ≡ true → turn_fault shape [] (walk_at h idle position false) word ≡ []
ends-fault word h position e = rw e refl

pub ends-walk : (word : Text) (h : Held) (position : ℕ) → bytes_eq word dashes ≡ true → walked rules [] (walk_at h idle position false) word ≡ walk_at h idle position true
unfolding walked
ends-walk word h position e = rw e refl

-- another word that begins with `-`
pub unknown-fault : (word : Text) (h : Held) (waiting : Waiting) (position : ℕ) → h.skip ≡ 0 → subcommand_met [] waiting word ≡ None → IsUnknown word
    → is_nil (turn_fault shape [] (walk_at h waiting position false) word) ≡ false
unfolding flags_fault
unknown-fault word h waiting position none m u = rw (m, u.other, u.long, u.short, none, u.letter_is, by-short u.letter) refl

-- a name that no option has
pub stranger-fault : (word name : Text) (text : Option Text) (h : Held) (waiting : Waiting) (position : ℕ) → subcommand_met [] waiting word ≡ None → IsNamed name text word
    → option_named name ≡ None → is_nil (turn_fault shape [] (walk_at h waiting position false) word) ≡ false
stranger-fault word name text h waiting position m n e =
    let none : arg_by_long rules name ≡ None = by-long name ∙ ap (option_map rule) e in
    rw (m, n.other, n.long, none) refl

-- `--NAME=TEXT`
module _ (word name text : Text) (k : Kind) (h : Held) (waiting : Waiting) (position : ℕ) (m : subcommand_met [] waiting word ≡ None) (n : IsNamed name (Some text) word) (e : option_named name ≡ Some k) where
  found-text : arg_by_long rules name ≡ Some (rule k)
  found-text = by-long name ∙ ap (option_map rule) e

  pub value-fault : is_flag k ≡ false
      → turn_fault shape [] (walk_at h waiting position false) word ≡ or_else (settle_fault rules false h) (use_fault false (rule k) (text ∷ []) (settled rules h).rows)
  value-fault v = rw (m, n.other, n.long, found-text, takes-is k, v) (or-nil _)

  pub value-walk : is_flag k ≡ false → walked rules [] (walk_at h waiting position false) word ≡ walk_at (reacted rules (rule k) (text ∷ []) h) idle position false
  unfolding walked
  value-walk v = rw (m, n.other, n.long, found-text, takes-is k, v) refl

  pub flag-text : is_flag k ≡ true → is_nil (turn_fault shape [] (walk_at h waiting position false) word) ≡ false
  flag-text v = rw (m, n.other, n.long, found-text, takes-is k, v) refl

-- `--NAME`
module _ (word name : Text) (k : Kind) (h : Held) (waiting : Waiting) (position : ℕ) (m : subcommand_met [] waiting word ≡ None) (n : IsNamed name None word) (e : option_named name ≡ Some k) where
  found : arg_by_long rules name ≡ Some (rule k)
  found = by-long name ∙ ap (option_map rule) e

  pub wait-fault : is_flag k ≡ false → turn_fault shape [] (walk_at h waiting position false) word ≡ settle_fault rules false h
  wait-fault v = rw (m, n.other, n.long, found, takes-is k, v) (or-nil _)

  pub wait-walk : is_flag k ≡ false
      → walked rules [] (walk_at h waiting position false) word ≡ walk_at (record (settled rules h) { pending = Some (name_of k, []) }) (option (name_of k)) position false
  unfolding walked
  wait-walk v = rw (m, n.other, n.long, found, takes-is k, v, id-is k) refl

  pub flag-fault : is_flag k ≡ true
      → turn_fault shape [] (walk_at h waiting position false) word ≡ or_else (settle_fault rules false h) (use_fault false (rule k) [] (settled rules h).rows)
  flag-fault v = rw (m, n.other, n.long, found, takes-is k, v) (or-nil _)

  pub flag-walk : is_flag k ≡ true → walked rules [] (walk_at h waiting position false) word ≡ walk_at (reacted rules (rule k) [] h) idle position false
  unfolding walked
  flag-walk v = rw (m, n.other, n.long, found, takes-is k, v) refl

-- ---- a word's turn where an option waits for its value

abbrev pub awaits : List Row → Kind → Held
awaits rows k = record { rows = rows; pending = Some (name_of k, []); skip = 0 }

abbrev pub has_value : List Row → Kind → Text → Held
has_value rows k text = record { rows = rows; pending = Some (name_of k, text ∷ []); skip = 0 }

pub taken-fault : (word : Text) (rows : List Row) (k : Kind) (position : ℕ) → IsPlain word → turn_fault shape [] (walk_at (awaits rows k) (option (name_of k)) position false) word ≡ []
taken-fault word rows k position p = rw (p.other, p.long, p.short) refl

same-name : (k : Kind) → bytes_eq (name_of k) (name_of k) ≡ true
same-name delay = refl
same-name descend = refl
same-name full = refl
same-name domain = refl
same-name file = refl

pub taken-walk : (word : Text) (rows : List Row) (k : Kind) (position : ℕ) → IsPlain word → is_flag k ≡ false
    → walked rules [] (walk_at (awaits rows k) (option (name_of k)) position false) word ≡ walk_at (has_value rows k word) idle position false
unfolding walked
taken-walk word rows k position p v = rw (p.other, p.long, p.short, by-id k, most-is k v, id-is k, same-name k) refl

pub unended-fault : (word : Text) (h : Held) (k : Kind) (position : ℕ) → bytes_eq word dashes ≡ true → turn_fault shape [] (walk_at h (option (name_of k)) position false) word ≡ []
unended-fault word h k position e = rw e refl

pub unended-walk : (word : Text) (h : Held) (k : Kind) (position : ℕ) → bytes_eq word dashes ≡ true
    → walked rules [] (walk_at h (option (name_of k)) position false) word ≡ walk_at h (option (name_of k)) position true
unfolding walked
unended-walk word h k position e = rw e refl
