-- The command as it is built.
use Rattle.std.proofs.Common.{◌≡◌, refl, ℕ, List, [], ◌∷◌, ◌++◌, Bool, true, false, codes, Some, None, option_map, map, cond, ◌∙◌, ap, not, ◌&&◌, ◌||◌, true≢false, sym}
use Rattle.std.specs.Str.{bytes_eq}
use Rattle.clap.specs.Kinds.{Kinds, or_else}
use Rattle.clap.specs.Walk.{Rule, Row, arg_by_id, arg_by_long, arg_by_short, arg_by_index, takes_values, takes_several, is_multiple, most_values, used, nothing_held, has_row, at_row, rows_after, without, with_values, more_values}
use Rattle.clap.specs.Simple.{App, Shape, built, is_simple, new_shape, filled, with_index, matches_of, names_of}
use Rattle.clap.specs.Faults.{built_fault, fault_of, is_simple_and_free, level_fault, use_fault}
use Rattle.clap.specs.declared.error.kind.ErrorKind.TheVariants as kind
use Rattle.clap.specs.declared.builder.value_parser.Reading.TheVariants as reading
use Rattle.clap.specs.declared.parser.matches.ValueSource.TheVariants.{CommandLine}
use Rattle.clap.proofs.FaultLemmas.{leaf_fault}
use Rattle.command_words.specs.Texts.{Text}
use Rattle.command_words.specs.Items.{Kind, delay, descend, full, domain, file, is_flag, name_of, option_named}
use Rattle.command_words.specs.Cli.{cli, declared}

unfoldable pub rule : Kind → Rule
rule file = with_index 1 (filled (declared file))
rule kind = filled (declared kind)

unfoldable pub rules : List Rule
rules = map rule (delay ∷ descend ∷ full ∷ domain ∷ file ∷ [])

abbrev pub shape : Shape
shape = record (new_shape (codes "interproc")) { rules = rules; no_binary_name = true; disable_help_flag = true; disable_help_subcommand = true; is_built = true }

pub built-is : built cli ≡ record { top = shape; subs = [] }
unfolding cli rules rule
built-is = refl

pub is-simple : is_simple_and_free cli ≡ true
unfolding cli
is-simple = refl

pub only-simple : is_simple cli ≡ true
unfolding cli
only-simple = refl

pub level-is : (words : List (List ℕ)) → fault_of cli words ≡ level_fault shape [] nothing_held words false []
unfolding cli
level-is words = ap (λ b. built_fault b nothing_held words) built-is ∙ leaf_fault (record { top = shape; subs = [] }) nothing_held words refl

pub matches-are : (words : List (List ℕ)) → matches_of cli words ≡ rows_after rules [] words
unfolding cli
matches-are words = ap (λ (b : App). rows_after b.top.rules (names_of b) words) built-is

-- ---- the arguments that a word can name

pub by-long : (name : List ℕ) → arg_by_long rules name ≡ option_map rule (option_named name)
unfolding rules rule
by-long name = go (same_as delay) (same_as descend) (same_as full) (same_as domain)
  where
    same_as : Kind → Bool
    same_as k = bytes_eq (name_of k) name

    go : (a b c d : Bool)
        → cond (a || false) (Some (rule delay)) (cond (b || false) (Some (rule descend)) (cond (c || false) (Some (rule full)) (cond (d || false) (Some (rule domain)) None)))
        ≡ option_map rule (cond a (Some delay) (cond b (Some descend) (cond c (Some full) (cond d (Some domain) None))))
    go true b c d = refl
    go false true c d = refl
    go false false true d = refl
    go false false false true = refl
    go false false false false = refl

pub by-short : (c : ℕ) → arg_by_short rules c ≡ None
unfolding rules rule
by-short c = refl

pub by-id : (k : Kind) → arg_by_id rules (name_of k) ≡ Some (rule k)
unfolding rules rule
by-id delay = refl
by-id descend = refl
by-id full = refl
by-id domain = refl
by-id file = refl

pub first-place : arg_by_index rules 1 ≡ Some (rule file)
unfolding rules rule
first-place = refl

pub second-place : arg_by_index rules 2 ≡ None
unfolding rules rule
second-place = refl

pub id-is : (k : Kind) → (rule k).id ≡ name_of k
unfolding rule
id-is delay = refl
id-is descend = refl
id-is full = refl
id-is domain = refl
id-is file = refl

pub takes-is : (k : Kind) → takes_values (rule k) ≡ not (is_flag k)
unfolding rule
takes-is delay = refl
takes-is descend = refl
takes-is full = refl
takes-is domain = refl
takes-is file = refl

pub most-is : (k : Kind) → is_flag k ≡ false → most_values (rule k) ≡ 1
unfolding rule
most-is delay e = refl
most-is descend e = refl
most-is full e = absurd (true≢false e)
most-is domain e = refl
most-is file e = refl

pub file-once : (is_multiple (rule file) ≡ false) × (takes_several (rule file) ≡ false) × ((rule file).trailing_var_arg ≡ false)
unfolding rule
file-once = (refl, refl, refl)

-- ---- one use

-- the row of a thing that was given
abbrev pub row_of : Kind → Text → Row
row_of k text = record { id = name_of k; values = text ∷ []; count = None; source = Some CommandLine; reading = reading.AsWritten }

abbrev pub repeated : Bool → Kinds
repeated b = cond b (kind.ArgumentConflict ∷ []) []

-- rows that have none of an id
pub at-new : (id : Text) (change : Row → List Row) (missing : List Row) (rows : List Row) → has_row id rows ≡ false → at_row id change missing rows ≡ rows ++ missing
at-new id change missing [] new = refl
at-new id change missing (r ∷ rs) new = go (bytes_eq r.id id) new (at-new id change missing rs)
  where
    go : (b : Bool) → (b || has_row id rs) ≡ false → (has_row id rs ≡ false → at_row id change missing rs ≡ rs ++ missing) → cond b (change r ++ rs) (r ∷ at_row id change missing rs) ≡ r ∷ (rs ++ missing)
    go true e more = absurd (true≢false e)
    go false e more = ap (λ xs. r ∷ xs) (more e)

pub without-new : (id : Text) (rows : List Row) → has_row id rows ≡ false → without id rows ≡ rows
without-new id [] new = refl
without-new id (r ∷ rs) new = go (bytes_eq r.id id) new (without-new id rs)
  where
    go : (b : Bool) → (b || has_row id rs) ≡ false → (has_row id rs ≡ false → without id rs ≡ rs) → cond b rs (r ∷ without id rs) ≡ r ∷ rs
    go true e more = absurd (true≢false e)
    go false e more = ap (λ xs. r ∷ xs) (more e)

pub set-new : (id : Text) (values : List Text) (rows : List Row) → has_row id rows ≡ false
    → with_values id reading.AsWritten CommandLine values (without id rows) ≡ rows ++ record { id = id; values = values; count = None; source = Some CommandLine; reading = reading.AsWritten } ∷ []
set-new id values rows new = rw (without-new id rows new) (at-new id (more_values CommandLine values) _ rows new)

once : (b : Bool) → or_else (cond (b && true) (kind.ArgumentConflict ∷ []) []) [] ≡ repeated b
once true = refl
once false = refl

pub valued-use : (k : Kind) (text : Text) (rows : List Row) → is_flag k ≡ false → use_fault false (rule k) (text ∷ []) rows ≡ repeated (has_row (name_of k) rows)
unfolding rule
valued-use delay text rows e = once (has_row (name_of delay) rows)
valued-use descend text rows e = once (has_row (name_of descend) rows)
valued-use full text rows e = absurd (true≢false e)
valued-use domain text rows e = once (has_row (name_of domain) rows)
valued-use file text rows e = once (has_row (name_of file) rows)

pub empty-use : (k : Kind) (rows : List Row) → is_flag k ≡ false → use_fault false (rule k) [] rows ≡ kind.InvalidValue ∷ []
unfolding rule
empty-use delay rows e = refl
empty-use descend rows e = refl
empty-use full rows e = absurd (true≢false e)
empty-use domain rows e = refl
empty-use file rows e = refl

pub flag-use : (k : Kind) (rows : List Row) → is_flag k ≡ true → use_fault false (rule k) [] rows ≡ repeated (has_row (name_of k) rows)
unfolding rule
flag-use full rows e = once (has_row (name_of full) rows)
flag-use delay rows e = absurd (true≢false (sym e))
flag-use descend rows e = absurd (true≢false (sym e))
flag-use domain rows e = absurd (true≢false (sym e))
flag-use file rows e = absurd (true≢false (sym e))

pub valued-row : (k : Kind) (text : Text) (rows : List Row) → is_flag k ≡ false → has_row (name_of k) rows ≡ false → used (rule k) (text ∷ []) rows ≡ rows ++ row_of k text ∷ []
unfolding rule
valued-row delay text rows e new = set-new (name_of delay) (text ∷ []) rows new
valued-row descend text rows e new = set-new (name_of descend) (text ∷ []) rows new
valued-row full text rows e new = absurd (true≢false e)
valued-row domain text rows e new = set-new (name_of domain) (text ∷ []) rows new
valued-row file text rows e new = set-new (name_of file) (text ∷ []) rows new

pub flag-row : (k : Kind) (rows : List Row) → is_flag k ≡ true → has_row (name_of k) rows ≡ false → used (rule k) [] rows ≡ rows ++ row_of k (codes "true") ∷ []
unfolding rule
flag-row full rows e new = set-new (name_of full) (codes "true" ∷ []) rows new
flag-row delay rows e new = absurd (true≢false (sym e))
flag-row descend rows e new = absurd (true≢false (sym e))
flag-row domain rows e new = absurd (true≢false (sym e))
flag-row file rows e new = absurd (true≢false (sym e))
