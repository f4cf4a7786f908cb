-- What was given so far, as `clap` holds it.
use Rattle.std.proofs.Common.{◌≡◌, refl, List, [], ◌∷◌, ◌++◌, Bool, true, false, codes, Option, Some, None, option_map, cond, ◌∙◌, ap, ap₂, map, fold, not, ◌&&◌, ◌||◌, true≢false, sym}
use Rattle.std.specs.List.{find}
use Rattle.std.specs.Option.{option_map_or}
use Rattle.clap.specs.Facts.{explicit_source}
use Rattle.std.specs.Str.{bytes_eq}
use Rattle.std.proofs.lemmas.List.{append-nil, append_assoc, map-append}
use Rattle.clap.specs.Kinds.{Kinds, check_kinds, or_else}
use Rattle.clap.specs.Takes.{is_given}
use Rattle.clap.specs.Walk.{Held, Row, settled, has_row, used, used_by_id, with_default, finished, with_values, more_values}
use Rattle.clap.specs.Faults.{check_fault, default_fault, defaults_fault, settle_fault, use_fault}
use Rattle.clap.specs.declared.builder.value_parser.Reading.TheVariants as reading
use Rattle.clap.specs.declared.parser.matches.ValueSource.TheVariants.{DefaultValue}
use Rattle.command_words.specs.Texts.{Text}
use Rattle.command_words.specs.Items.{Item, Kind, are_new, delay, descend, full, domain, file, is_flag, has, item, name_of, same}
use Rattle.command_words.proofs.Shape.{at-new, by-id, empty-use, flag-row, flag-use, repeated, row_of, rule, rules, shape, valued-row, valued-use}
use Rattle.command_words.proofs.Turns.{awaits, end_fault, is_nil, nil-or}

-- the text that `clap` has of an item: a flag's is always the same
abbrev pub shown : Kind → Text → Text
shown k text = cond (is_flag k) (codes "true") text

abbrev pub row : Item → Row
row x = row_of x.kind (shown x.kind x.text)

abbrev pub rows : List Item → List Row
rows items = map row items

-- the item that `clap` still holds open
abbrev pub listed : Option Item → List Item
listed None = []
listed (Some x) = x ∷ []

abbrev pub held : List Item → Option Item → Held
held done last = record { rows = rows done; pending = option_map (λ x. (name_of x.kind, x.text ∷ [])) last; skip = 0 }

abbrev pub HasText : Option Item → Type 0
HasText None = Unit {0}
HasText (Some x) = is_flag x.kind ≡ false

pub has-rows : (k : Kind) (items : List Item) → has_row (name_of k) (rows items) ≡ has k items
has-rows k [] = refl
has-rows k (x ∷ rest) = ap (λ b. same x.kind k || b) (has-rows k rest)

nil-repeated : (b : Bool) → is_nil (repeated b) ≡ not b
nil-repeated true = refl
nil-repeated false = refl

and-true : (b : Bool) → (b && true) ≡ b
and-true true = refl
and-true false = refl

pub not-true : (b : Bool) → not b ≡ true → b ≡ false
not-true true e = absurd (true≢false (sym e))
not-true false e = refl

-- `k` with this text is what a use with these values gives
pub record Uses (k : Kind) (text : Text) (values : List Text) : Type 0 where
  pub fault : (all : List Row) → use_fault false (rule k) values all ≡ repeated (has_row (name_of k) all)
  pub same_text : shown k text ≡ text
  pub adds : (all : List Row) → has_row (name_of k) all ≡ false → used (rule k) values all ≡ all ++ row_of k text ∷ []

pub valued-shown : (k : Kind) (text : Text) → is_flag k ≡ false → shown k text ≡ text
valued-shown k text v = rw v refl

pub valued-uses : (k : Kind) (text : Text) → is_flag k ≡ false → Uses k text (text ∷ [])
valued-uses k text v = record { fault = λ all. valued-use k text all v; same_text = valued-shown k text v; adds = λ all new. valued-row k text all v new }

pub flag-uses : (k : Kind) → is_flag k ≡ true → Uses k (codes "true") []
flag-uses k v = record { fault = λ all. flag-use k all v; same_text = rw v refl; adds = λ all new. flag-row k all v new }

pub use-is : (k : Kind) (text : Text) (values : List Text) (done : List Item) → Uses k text values → is_nil (use_fault false (rule k) values (rows done)) ≡ not (has k done)
use-is k text values done u = ap is_nil (u.fault (rows done)) ∙ nil-repeated (has_row (name_of k) (rows done)) ∙ ap not (has-rows k done)

pub used-is : (k : Kind) (text : Text) (values : List Text) (done : List Item) → Uses k text values → has k done ≡ false → used (rule k) values (rows done) ≡ rows (done ++ item k text ∷ [])
used-is k text values done u new = u.adds (rows done) (has-rows k done ∙ new) ∙ ap (λ t. rows done ++ row_of k t ∷ []) (sym u.same_text) ∙ sym (map-append row done (item k text ∷ []))

pub settle-is : (done : List Item) (last : Option Item) → HasText last → is_nil (settle_fault rules false (held done last)) ≡ are_new done (listed last)
settle-is done None v = refl
settle-is done (Some x) v = rw (by-id x.kind) (use-is x.kind x.text (x.text ∷ []) done (valued-uses x.kind x.text v) ∙ sym (and-true (not (has x.kind done))))

pub settled-is : (done : List Item) (last : Option Item) → HasText last → are_new done (listed last) ≡ true → settled rules (held done last) ≡ held (done ++ listed last) None
settled-is done None v new = ap (λ xs. held xs None) (sym (append-nil done))
settled-is done (Some x) v new =
    let fresh = not-true (has x.kind done) (sym (and-true (not (has x.kind done))) ∙ new) in
    ap (λ all. record { rows = all; pending = None; skip = 0 }) (ap (λ r. used_by_id r (x.text ∷ []) (rows done)) (by-id x.kind) ∙ used-is x.kind x.text (x.text ∷ []) done (valued-uses x.kind x.text v) fresh)

pub and-assoc : (a b c : Bool) → ((a && b) && c) ≡ (a && (b && c))
and-assoc true b c = refl
and-assoc false b c = refl

pub are_new-append : (before xs ys : List Item) → are_new before (xs ++ ys) ≡ (are_new before xs && are_new (before ++ xs) ys)
are_new-append before [] ys = ap (λ b. are_new b ys) (sym (append-nil before))
are_new-append before (x ∷ xs) ys =
    let new = not (has x.kind before) in
    let left = before ++ x ∷ [] in
    ap (λ b. new && b) (are_new-append left xs ys ∙ ap (λ all. are_new left xs && are_new all ys) (append_assoc before (x ∷ []) xs))
    ∙ sym (and-assoc new (are_new left xs) (are_new (before ++ x ∷ xs) ys))

-- an option that still waits for its value
pub awaits-fault : (all : List Row) (k : Kind) → is_flag k ≡ false → is_nil (settle_fault rules false (awaits all k)) ≡ false
awaits-fault all k v = rw (by-id k, empty-use k all v) refl

-- ---- the end

abbrev pub default_row : Kind → Row
default_row k = record { id = name_of k; values = codes "false" ∷ []; count = None; source = Some DefaultValue; reading = reading.AsWritten }

abbrev pub lacks : Kind → List Item → List Row
lacks k items = cond (has k items) [] (default_row k ∷ [])

-- with the defaults of the flags that were not given
abbrev pub defaults : List Item → List Row
defaults items = lacks full items

abbrev pub defaulted : List Item → List Row
defaulted items = rows items ++ defaults items

no-matter : (b : Bool) (x : Kinds) → cond (b || true) [] x ≡ []
no-matter true x = refl
no-matter false x = refl

nothing : (b : Bool) → cond {A = Kinds} (b || false) [] [] ≡ []
nothing true = refl
nothing false = refl

default-none : (k : Kind) (all : List Row) → default_fault all (rule k) ≡ []
unfolding rule
default-none delay all = no-matter (has_row (name_of delay) all) _
default-none descend all = no-matter (has_row (name_of descend) all) _
default-none full all = nothing (has_row (name_of full) all)
default-none domain all = no-matter (has_row (name_of domain) all) _
default-none file all = no-matter (has_row (name_of file) all) _

defaults-none : (kinds : List Kind) (all : List Row) → defaults_fault all (map rule kinds) ≡ []
unfolding defaults_fault
defaults-none [] all = refl
defaults-none (k ∷ ks) all = ap₂ or_else (default-none k all) (defaults-none ks (with_default all (rule k)))

pub no-default-fault : (all : List Row) → defaults_fault all rules ≡ []
unfolding rules
no-default-fault all = defaults-none (delay ∷ descend ∷ full ∷ domain ∷ file ∷ []) all

either : {X : Type 0} (b : Bool) (x : X) → cond b x x ≡ x
either true x = refl
either false x = refl

keeps : (k : Kind) (all : List Row) → is_flag k ≡ false → with_default all (rule k) ≡ all
unfolding rule
keeps delay all v = either (has_row (name_of delay) all) all
keeps descend all v = either (has_row (name_of descend) all) all
keeps full all v = absurd (true≢false v)
keeps domain all v = either (has_row (name_of domain) all) all
keeps file all v = either (has_row (name_of file) all) all

or-false : (b : Bool) → (b || false) ≡ b
or-false true = refl
or-false false = refl

add-default : (k : Kind) (all : List Row) (items : List Item) → has_row (name_of k) all ≡ has k items
    → cond (has_row (name_of k) all) all (with_values (name_of k) reading.AsWritten DefaultValue (codes "false" ∷ []) all) ≡ all ++ lacks k items
add-default k all items same_test = go (has_row (name_of k) all) (has k items) refl same_test
  where
    go : (a b : Bool) → has_row (name_of k) all ≡ a → a ≡ b → cond a all (with_values (name_of k) reading.AsWritten DefaultValue (codes "false" ∷ []) all) ≡ all ++ cond b [] (default_row k ∷ [])
    go true true e f = sym (append-nil all)
    go true false e f = absurd (true≢false f)
    go false true e f = absurd (true≢false (sym f))
    go false false e f = at-new (name_of k) (more_values DefaultValue (codes "false" ∷ [])) (default_row k ∷ []) all e

with-flag : (k : Kind) (all : List Row) (items : List Item) → is_flag k ≡ true → has_row (name_of k) all ≡ has k items → with_default all (rule k) ≡ all ++ lacks k items
unfolding rule
with-flag full all items v same_test = add-default full all items same_test
with-flag delay all items v same_test = absurd (true≢false (sym v))
with-flag descend all items v same_test = absurd (true≢false (sym v))
with-flag domain all items v same_test = absurd (true≢false (sym v))
with-flag file all items v same_test = absurd (true≢false (sym v))

pub finished-is : (items : List Item) → fold with_default (rows items) rules ≡ defaulted items
unfolding rules
finished-is items =
    let all = rows items in
    rw (keeps delay all refl, keeps descend all refl, with-flag full all items refl (has-rows full items), keeps domain (all ++ lacks full items) refl, keeps file (all ++ lacks full items) refl) refl

pub check-is : (all : List Row) → is_nil (check_fault shape all false) ≡ is_given (codes "file") all
unfolding rules rule
check-is all = go (is_given (codes "file") all)
  where
    go : (g : Bool) → is_nil (check_kinds false false (not g || false)) ≡ g
    go true = refl
    go false = refl

given-more : (items : List Item) (more : List Row) → is_given (codes "file") more ≡ false → is_given (codes "file") (rows items ++ more) ≡ has file items
given-more [] more e = e
given-more (x ∷ rest) more e = go (same x.kind file) (given-more rest more e)
  where
    go : (b : Bool) → is_given (codes "file") (rows rest ++ more) ≡ has file rest
        → option_map_or (λ r. explicit_source r.source) (cond b (Some (row x)) (find (λ r. bytes_eq r.id (codes "file")) (rows rest ++ more))) false ≡ (b || has file rest)
    go true m = refl
    go false m = m

pub given-is : (items : List Item) → is_given (codes "file") (defaulted items) ≡ has file items
given-is items = given-more items (defaults items) (go (has full items))
  where
    go : (b : Bool) → is_given (codes "file") (cond b [] (default_row full ∷ [])) ≡ false
    go true = refl
    go false = refl

-- ---- the whole end

abbrev pub if_so : Bool → Option (List Row) → Option (List Row)
if_so b o = cond b o None

pub so-both : (a b : Bool) (o : Option (List Row)) → if_so (a && b) o ≡ if_so a (if_so b o)
so-both true b o = refl
so-both false b o = refl

-- a test, and what comes where it holds
pub so-as : (a b : Bool) (o p : Option (List Row)) → a ≡ b → (b ≡ true → o ≡ p) → if_so a o ≡ if_so b p
so-as true true o p e f = f refl
so-as true false o p e f = absurd (true≢false e)
so-as false true o p e f = absurd (true≢false (sym e))
so-as false false o p e f = refl

-- the rows that `clap` ends with
abbrev pub ended : Held → Option (List Row)
ended h = if_so (is_nil (end_fault h)) (Some (finished rules h))

-- the rows of a call with these items, where some came before
abbrev pub call : List Item → Option (List Item) → Option (List Row)
call before None = None
call before (Some more) = if_so (are_new before more && has file (before ++ more)) (Some (defaulted (before ++ more)))

abbrev after_settling : List Row → Option (List Row)
after_settling all = if_so (is_nil (or_else (defaults_fault all rules) (check_fault shape (fold with_default all rules) false))) (Some (fold with_default all rules))

settled-end : (done : List Item) → after_settling (rows done) ≡ call done (Some [])
settled-end done =
    let test : is_nil (or_else (defaults_fault (rows done) rules) (check_fault shape (fold with_default (rows done) rules) false)) ≡ has file done =
    ap (λ f. is_nil (or_else f (check_fault shape (fold with_default (rows done) rules) false))) (no-default-fault (rows done))
    ∙ check-is (fold with_default (rows done) rules) ∙ ap (is_given (codes "file")) (finished-is done) ∙ given-is done in
    ap₂ (λ b all. if_so b (Some all)) test (finished-is done) ∙ ap (λ all. if_so (has file all) (Some (defaulted all))) (sym (append-nil done))

pub end-is : (done : List Item) (last : Option Item) → HasText last → ended (held done last) ≡ if_so (are_new done (listed last)) (call (done ++ listed last) (Some []))
end-is done last v =
    let h = held done last in
    let fault = settle_fault rules false h in
    let rest = or_else (defaults_fault (settled rules h).rows rules) (check_fault shape (finished rules h) false) in
    ap (λ b. if_so b (Some (finished rules h))) (nil-or fault rest) ∙ so-both (is_nil fault) (is_nil rest) (Some (finished rules h))
    ∙ so-as (is_nil fault) (are_new done (listed last)) _ _ (settle-is done last v) (λ new. ap (λ (x : Held). after_settling x.rows) (settled-is done last v new) ∙ settled-end (done ++ listed last))
