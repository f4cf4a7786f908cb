-- `clap` takes exactly the words that are a form, and finds what they give.
use Rattle.std.proofs.Common.{◌≡◌, refl, ℕ, List, [], ◌∷◌, ◌++◌, Bool, true, false, codes, Option, Some, None, option_map, cond, ◌∙◌, ap, subst, map, fold, not, ◌&&◌, ◌||◌, true≢false, sym, is_some}
use Rattle.std.specs.Str.{bytes_eq}
use Rattle.std.proofs.lemmas.List.{append-nil, append_assoc}
use Rattle.std.proofs.lemmas.List.Folds.{list_any-append}
use Rattle.clap.specs.Simple.{matches_of}
use Rattle.clap.specs.Kinds.{Kinds, or_else}
use Rattle.clap.specs.Walk.{Held, Row, Waiting, Walk, idle, option, finished, nothing_held, rows_after, walk_from, walked, reacted, settled, used}
use Rattle.clap.specs.Faults.{fault_of, settle_fault, turn_fault, use_fault}
use Rattle.command_words.specs.Items.{Form, Item, Kind, are_new, delay, descend, domain, ends, file, form_of, full, is_flag, has, item, items_of, name_of, named, option_named, plain, read_named, read_option, read_word, same, unknown, with_item}
use Rattle.command_words.specs.Texts.{AreText, Text}
use Rattle.command_words.specs.Cli.{cli}
use Rattle.command_words.proofs.Shape.{level-is, matches-are, rules, rule, shape}
use Rattle.command_words.proofs.Looks.{IsNamed, Looks, looks}
use Rattle.command_words.proofs.Turns.{awaits, has_value, level-passes, passes, end_fault, is_nil, nil-or, walk_at, with_file}
use Rattle.command_words.proofs.Turns as turns
use Rattle.command_words.proofs.Given.{HasText, are_new-append, awaits-fault, call, defaulted, end-is, ended, held, if_so, listed, rows, settle-is, settled-is, so-as, so-both, and-assoc, Uses, flag-uses, not-true, use-is, used-is, valued-uses}

-- the items are all new, and FILE is among them
abbrev pub is_call : Option (List Item) → Bool
is_call None = false
is_call (Some items) = are_new [] items && has file items

abbrev pub is_form : List Text → Bool
is_form words = is_call (items_of words None)

-- what `clap` makes of the words, from where it stands
unfoldable pub outcome : Walk → List Text → Option (List Row)
outcome w [] = ended w.held
outcome w (word ∷ rest) = if_so (is_nil (turn_fault shape [] w word)) (outcome (walked rules [] w word) rest)

abbrev pub prefix : List Item → Option (List Item) → Option (List Item)
prefix xs = option_map (λ more. xs ++ more)

pub split : (before xs : List Item) (o : Option (List Item)) → call before (prefix xs o) ≡ if_so (are_new before xs) (call (before ++ xs) o)
split before xs None = go (are_new before xs)
  where
    go : (b : Bool) → None ≡ if_so b None
    go true = refl
    go false = refl
split before xs (Some more) =
    let all = before ++ (xs ++ more) in
    ap (λ b. if_so (b && has file all) (Some (defaulted all))) (are_new-append before xs more)
    ∙ ap (λ b. if_so b (Some (defaulted all))) (and-assoc (are_new before xs) (are_new (before ++ xs) more) (has file all))
    ∙ so-both (are_new before xs) (are_new (before ++ xs) more && has file all) (Some (defaulted all))
    ∙ ap (λ t. if_so (are_new before xs) (if_so (are_new (before ++ xs) more && has file t) (Some (defaulted t)))) (sym (append_assoc before xs more))

-- where FILE's place is
abbrev pub place : List Item → ℕ
place items = cond (has file items) 2 1

has-more : (items : List Item) (x : Item) → has file (items ++ x ∷ []) ≡ (has file items || (same x.kind file || false))
has-more items x = list_any-append (λ y. same y.kind file) items (x ∷ [])

or-true : (b : Bool) → (b || true) ≡ true
or-true true = refl
or-true false = refl

or-false : (b : Bool) → (b || false) ≡ b
or-false true = refl
or-false false = refl

with-file-place : (items : List Item) (word : Text) → place (items ++ item file word ∷ []) ≡ 2
with-file-place items word = ap (λ b. cond b 2 1) (has-more items (item file word) ∙ or-true (has file items))

other-place : (items : List Item) (k : Kind) (text : Text) → same k file ≡ false → place (items ++ item k text ∷ []) ≡ place items
other-place items k text e = ap (λ b. cond b 2 1) (has-more items (item k text) ∙ ap (λ b. has file items || (b || false)) e ∙ or-false (has file items))

-- a second FILE gives nothing
second : (before : List Item) (word : Text) (o : Option (List Item)) → has file before ≡ true → call before (with_item file word o) ≡ None
second before word None e = refl
second before word (Some more) e = rw e refl

-- ---- one word

refused : (w : Walk) (word : Text) (rest : List Text) → is_nil (turn_fault shape [] w word) ≡ false → outcome w (word ∷ rest) ≡ None
unfolding outcome
refused w word rest e = rw e refl

turned : (w after : Walk) (word : Text) (rest : List Text) (b : Bool) (target : Option (List Row)) → is_nil (turn_fault shape [] w word) ≡ b
    → (b ≡ true → walked rules [] w word ≡ after) → outcome after rest ≡ target → outcome w (word ∷ rest) ≡ if_so b target
unfolding outcome
turned w after word rest b target e f more = so-as (is_nil (turn_fault shape [] w word)) b _ _ e (λ t. ap (λ x. outcome x rest) (f t) ∙ more)

none-so : (b : Bool) → if_so b None ≡ None
none-so true = refl
none-so false = refl

prefix-prefix : (xs ys : List Item) (o : Option (List Item)) → prefix xs (prefix ys o) ≡ prefix (xs ++ ys) o
prefix-prefix xs ys None = refl
prefix-prefix xs ys (Some more) = ap (λ t. Some t) (sym (append_assoc xs ys more))

prefix-nil : (o : Option (List Item)) → prefix [] o ≡ o
prefix-nil None = refl
prefix-nil (Some more) = refl

-- a word for FILE: t says whether `--` came, and o what the words after it give
to-file : (word : Text) (rest : List Text) (done : List Item) (last : Option Item) (waiting : Waiting) (p : ℕ) (t : Bool) (o : Option (List Item)) → HasText last → p ≡ place (done ++ listed last)
    → (p ≡ 1 → turn_fault shape [] (walk_at (held done last) waiting p t) word ≡ settle_fault rules false (held done last))
    → (p ≡ 1 → walked rules [] (walk_at (held done last) waiting p t) word ≡ walk_at (with_file word (held done last)) idle 2 t)
    → (p ≡ 2 → is_nil (turn_fault shape [] (walk_at (held done last) waiting p t) word) ≡ false)
    → outcome (walk_at (held (done ++ listed last) (Some (item file word))) idle 2 t) rest ≡ call (done ++ listed last) (prefix (item file word ∷ []) o)
    → outcome (walk_at (held done last) waiting p t) (word ∷ rest) ≡ call done (prefix (listed last) (with_item file word o))
to-file word rest done last waiting p t o v at fault walks twice more = go (has file (done ++ listed last)) refl
  where
    go : (b : Bool) → has file (done ++ listed last) ≡ b → outcome (walk_at (held done last) waiting p t) (word ∷ rest) ≡ call done (prefix (listed last) (with_item file word o))
    go true e =
        let here : p ≡ 2 = at ∙ ap (λ b. cond b 2 1) e in
        refused (walk_at (held done last) waiting p t) word rest (twice here)
        ∙ sym (split done (listed last) (with_item file word o) ∙ ap (if_so (are_new done (listed last))) (second (done ++ listed last) word o e) ∙ none-so (are_new done (listed last)))
    go false e =
        let here : p ≡ 1 = at ∙ ap (λ b. cond b 2 1) e in
        turned (walk_at (held done last) waiting p t) (walk_at (held (done ++ listed last) (Some (item file word))) idle 2 t) word rest (are_new done (listed last)) _
        (ap is_nil (fault here) ∙ settle-is done last v)
        (λ new. walks here ∙ ap (λ (h : Held). walk_at (record h { pending = Some (codes "file", word ∷ []) }) idle 2 t) (settled-is done last v new))
        more
        ∙ sym (split done (listed last) (with_item file word o))

-- ---- past `--`

abbrev pub files : List Text → Option (List Item)
files words = Some (map (item file) words)

trailing : (words : List Text) (done : List Item) (last : Option Item) (waiting : Waiting) (p : ℕ) → HasText last → p ≡ place (done ++ listed last)
    → outcome (walk_at (held done last) waiting p true) words ≡ call done (prefix (listed last) (files words))
unfolding outcome
trailing [] done last waiting p v at = end-is done last v ∙ sym (split done (listed last) (Some []))
trailing (word ∷ rest) done last waiting p v at =
    to-file word rest done last waiting p true (files rest) v at
    (λ e. rw e (turns.trailing-fault word (held done last) waiting))
    (λ e. rw e (turns.trailing-walk word (held done last) waiting))
    (λ e. rw e (turns.trailing-second word (held done last) waiting))
    (trailing rest (done ++ listed last) (Some (item file word)) idle 2 refl (sym (with-file-place (done ++ listed last) word)))

-- an option whose value never comes
or-fails : (a b : Kinds) → is_nil a ≡ false → is_nil (or_else a b) ≡ false
or-fails a b e = nil-or a b ∙ ap (λ x. x && is_nil b) e

not-ended : (h : Held) → is_nil (settle_fault rules false h) ≡ false → ended h ≡ None
not-ended h e = ap (λ b. if_so b (Some (finished rules h))) (or-fails (settle_fault rules false h) _ e)

lost : (words : List Text) (done : List Item) (k : Kind) (waiting : Waiting) (p : ℕ) → is_flag k ≡ false → p ≡ place done → outcome (walk_at (awaits (rows done) k) waiting p true) words ≡ None
unfolding outcome
lost [] done k waiting p v at = not-ended (awaits (rows done) k) (awaits-fault (rows done) k v)
lost (word ∷ rest) done k waiting p v at = refused (walk_at (awaits (rows done) k) waiting p true) word rest (go (has file done) at)
  where
    go : (b : Bool) → p ≡ cond b 2 1 → is_nil (turn_fault shape [] (walk_at (awaits (rows done) k) waiting p true) word) ≡ false
    go true e = rw e (turns.trailing-second word (awaits (rows done) k) waiting)
    go false e = rw e (ap is_nil (turns.trailing-fault word (awaits (rows done) k) waiting) ∙ awaits-fault (rows done) k v)

-- ---- before `--`

pub record Reads (words : List Text) : Type 0 where
  pub free : (done : List Item) (last : Option Item) (p : ℕ) → HasText last → p ≡ place (done ++ listed last)
      → outcome (walk_at (held done last) idle p false) words ≡ call done (prefix (listed last) (items_of words None))
  pub waits : (done : List Item) (k : Kind) (p : ℕ) → is_flag k ≡ false → same k file ≡ false → p ≡ place done
      → outcome (walk_at (awaits (rows done) k) (option (name_of k)) p false) words ≡ call done (items_of words (Some k))

never-file : (name : Text) (k : Kind) → option_named name ≡ Some k → same k file ≡ false
never-file name k e = go (bytes_eq (name_of delay) name) (bytes_eq (name_of descend) name) (bytes_eq (name_of full) name) (bytes_eq (name_of domain) name) e
  where
    is : (j : Kind) → same j file ≡ false → Some j ≡ Some k → same k file ≡ false
    is j other e = let d : j ≡ k = cc in subst (λ x. same x file ≡ false) d other

    go : (a b c d : Bool) → cond a (Some delay) (cond b (Some descend) (cond c (Some full) (cond d (Some domain) None))) ≡ Some k → same k file ≡ false
    go true b c d e = is delay refl e
    go false true c d e = is descend refl e
    go false false true d e = is full refl e
    go false false false true e = is domain refl e
    go false false false false e = absurd (cc)

and-as : (a b c d : Bool) → a ≡ c → (c ≡ true → b ≡ d) → (a && b) ≡ (c && d)
and-as true b true d e f = f refl
and-as true b false d e f = absurd (true≢false e)
and-as false b true d e f = absurd (true≢false (sym e))
and-as false b false d e f = refl

and-true : (b : Bool) → (b && true) ≡ b
and-true true = refl
and-true false = refl

both : (a b : Bool) → (a && b) ≡ true → (a ≡ true) × (b ≡ true)
both true true e = (refl, refl)
both true false e = absurd (true≢false (sym e))
both false b e = absurd (true≢false (sym e))

module _ (done : List Item) (last : Option Item) (v : HasText last) (k : Kind) (text : Text) (values : List Text) (u : Uses k text values) where
  abbrev h : Held
  h = held done last

  abbrev all : List Item
  all = done ++ listed last

  abbrev one : List Item
  one = item k text ∷ []

  new-item : are_new done (listed last ++ one) ≡ (are_new done (listed last) && not (has k all))
  new-item = are_new-append done (listed last) one ∙ ap (λ b. are_new done (listed last) && b) (and-true (not (has k all)))

  use-after : is_nil (or_else (settle_fault rules false h) (use_fault false (rule k) values (settled rules h).rows)) ≡ are_new done (listed last ++ one)
  use-after =
      nil-or (settle_fault rules false h) (use_fault false (rule k) values (settled rules h).rows)
      ∙ and-as _ _ (are_new done (listed last)) (not (has k all)) (settle-is done last v) (λ new. ap (λ (x : Held). is_nil (use_fault false (rule k) values x.rows)) (settled-is done last v new) ∙ use-is k text values all u)
      ∙ sym new-item

  used-after : are_new done (listed last ++ one) ≡ true → reacted rules (rule k) values h ≡ held (all ++ one) None
  used-after new =
      let parts = both (are_new done (listed last)) (not (has k all)) (sym new-item ∙ new) in
      ap (λ (x : Held). record { rows = used (rule k) values x.rows; pending = None; skip = 0 }) (settled-is done last v parts.0)
      ∙ ap (λ r. record { rows = r; pending = None; skip = 0 }) (used-is k text values all u (not-true (has k all) parts.1))

  -- an option that is whole
  pub whole : (word : Text) (rest : List Text) (p : ℕ) → same k file ≡ false → p ≡ place all → Reads rest
      → turn_fault shape [] (walk_at h idle p false) word ≡ or_else (settle_fault rules false h) (use_fault false (rule k) values (settled rules h).rows)
      → walked rules [] (walk_at h idle p false) word ≡ walk_at (reacted rules (rule k) values h) idle p false
      → outcome (walk_at h idle p false) (word ∷ rest) ≡ call done (prefix (listed last) (with_item k text (items_of rest None)))
  whole word rest p other at reads fault walks =
      let o = items_of rest None in
      turned (walk_at h idle p false) (walk_at (held (all ++ one) None) idle p false) word rest (are_new done (listed last ++ one)) (call (all ++ one) o)
      (ap is_nil fault ∙ use-after)
      (λ new. walks ∙ ap (λ x. walk_at x idle p false) (used-after new))
      (reads.free (all ++ one) None p tt (at ∙ sym (other-place all k text other) ∙ ap place (sym (append-nil (all ++ one)))) ∙ ap (call (all ++ one)) (prefix-nil o))
      ∙ ap (λ t. if_so (are_new done (listed last ++ one)) (call t o)) (append_assoc done (listed last) one)
      ∙ sym (split done (listed last ++ one) o)
      ∙ ap (call done) (sym (prefix-prefix (listed last) one o))

-- ---- a word with nothing waiting

module _ (word : Text) (rest : List Text) (reads : Reads rest) (done : List Item) (last : Option Item) (p : ℕ) (v : HasText last) (at : p ≡ place (done ++ listed last)) where
  abbrev here : Walk
  here = walk_at (held done last) idle p false

  abbrev Says : Option (List Item) → Type 0
  Says o = outcome here (word ∷ rest) ≡ call done (prefix (listed last) o)

  no-form : is_nil (turn_fault shape [] here word) ≡ false → Says None
  no-form e = refused here word rest e

  -- an option whose value is to come
  waiting-option : (name : Text) (k : Kind) → IsNamed name None word → option_named name ≡ Some k → is_flag k ≡ false → same k file ≡ false → Says (items_of rest (Some k))
  waiting-option name k n e val other =
      turned here (walk_at (awaits (rows (done ++ listed last)) k) (option (name_of k)) p false) word rest (are_new done (listed last)) _
      (ap is_nil (turns.wait-fault word name k (held done last) idle p refl n e val) ∙ settle-is done last v)
      (λ new. turns.wait-walk word name k (held done last) idle p refl n e val
      ∙ ap (λ (x : Held). walk_at (record x { pending = Some (name_of k, []) }) (option (name_of k)) p false) (settled-is done last v new))
      (reads.waits (done ++ listed last) k p val other at)
      ∙ sym (split done (listed last) (items_of rest (Some k)))

  whole-option : (name text : Text) (k : Kind) → IsNamed name (Some text) word → option_named name ≡ Some k → is_flag k ≡ false → same k file ≡ false → Says (with_item k text (items_of rest None))
  whole-option name text k n e val other =
      whole done last v k text (text ∷ []) (valued-uses k text val) word rest p other at reads
      (turns.value-fault word name text k (held done last) idle p refl n e val) (turns.value-walk word name text k (held done last) idle p refl n e val)

  flag-option : (name : Text) (k : Kind) → IsNamed name None word → option_named name ≡ Some k → is_flag k ≡ true → same k file ≡ false → Says (with_item k (codes "true") (items_of rest None))
  flag-option name k n e flag other =
      whole done last v k (codes "true") [] (flag-uses k flag) word rest p other at reads
      (turns.flag-fault word name k (held done last) idle p refl n e flag) (turns.flag-walk word name k (held done last) idle p refl n e flag)

  named-option : (name : Text) (text : Option Text) (k : Kind) (b : Bool) → IsNamed name text word → option_named name ≡ Some k → is_flag k ≡ b → Says (read_option k text (items_of rest))
  named-option name None k true n e b = rw b (flag-option name k n e b (never-file name k e))
  named-option name (Some text) k true n e b = rw b (no-form (turns.flag-text word name text k (held done last) idle p refl n e b))
  named-option name None k false n e b = rw b (waiting-option name k n e b (never-file name k e))
  named-option name (Some text) k false n e b = rw b (whole-option name text k n e b (never-file name k e))

  named-word : (name : Text) (text : Option Text) (o : Option Kind) → IsNamed name text word → option_named name ≡ o → Says (read_named o text (items_of rest))
  named-word name text None n e = no-form (turns.stranger-fault word name text (held done last) idle p refl n e)
  named-word name text (Some k) n e = named-option name text k (is_flag k) n e refl

  free-word : (f : Form) → Looks f word → Says (read_word f None word rest (items_of rest))
  free-word plain l =
      to-file word rest done last idle p false (items_of rest None) v at
      (λ e. rw e (turns.plain-fault word (held done last) l))
      (λ e. rw e (turns.plain-walk word (held done last) l))
      (λ e. rw e (turns.plain-second word (held done last) l))
      (reads.free (done ++ listed last) (Some (item file word)) 2 refl (sym (with-file-place (done ++ listed last) word)))
  free-word ends l =
      turned here (walk_at (held done last) idle p true) word rest true _
      (ap is_nil (turns.ends-fault word (held done last) p l)) (λ t. turns.ends-walk word (held done last) p l) (trailing rest done last idle p v at)
  free-word unknown l = no-form (turns.unknown-fault word (held done last) idle p refl refl l)
  free-word (named name text) l = named-word name text (option_named name) l refl

-- ---- a word where an option waits

module _ (word : Text) (rest : List Text) (reads : Reads rest) (done : List Item) (k : Kind) (p : ℕ) (val : is_flag k ≡ false) (other : same k file ≡ false) (at : p ≡ place done) where
  abbrev waiting : Waiting
  waiting = option (name_of k)

  abbrev hung : Held
  hung = awaits (rows done) k

  fails : is_nil (settle_fault rules false hung) ≡ false
  fails = awaits-fault (rows done) k val

  -- an option in the place of the value
  no-value : (name : Text) (text : Option Text) (j : Kind) (b : Bool) → IsNamed name text word → option_named name ≡ Some j → is_flag j ≡ b
      → is_nil (turn_fault shape [] (walk_at hung waiting p false) word) ≡ false
  no-value name None j false n e b = ap is_nil (turns.wait-fault word name j hung waiting p refl n e b) ∙ fails
  no-value name None j true n e b = ap is_nil (turns.flag-fault word name j hung waiting p refl n e b) ∙ or-fails (settle_fault rules false hung) _ fails
  no-value name (Some text) j false n e b = ap is_nil (turns.value-fault word name text j hung waiting p refl n e b) ∙ or-fails (settle_fault rules false hung) _ fails
  no-value name (Some text) j true n e b = turns.flag-text word name text j hung waiting p refl n e b

  no-named : (name : Text) (text : Option Text) (o : Option Kind) → IsNamed name text word → option_named name ≡ o → is_nil (turn_fault shape [] (walk_at hung waiting p false) word) ≡ false
  no-named name text None n e = turns.stranger-fault word name text hung waiting p refl n e
  no-named name text (Some j) n e = no-value name text j (is_flag j) n e refl

  waits-word : (f : Form) → Looks f word → outcome (walk_at hung waiting p false) (word ∷ rest) ≡ call done (read_word f (Some k) word rest (items_of rest))
  waits-word plain l =
      turned (walk_at hung waiting p false) (walk_at (has_value (rows done) k word) idle p false) word rest true _
      (ap is_nil (turns.taken-fault word (rows done) k p l)) (λ t. turns.taken-walk word (rows done) k p l val)
      (reads.free done (Some (item k word)) p val (at ∙ sym (other-place done k word other)))
  waits-word ends l =
      turned (walk_at hung waiting p false) (walk_at hung waiting p true) word rest true None
      (ap is_nil (turns.unended-fault word hung k p l)) (λ t. turns.unended-walk word hung k p l) (lost rest done k waiting p val at)
  waits-word unknown l = refused (walk_at hung waiting p false) word rest (turns.unknown-fault word hung waiting p refl refl l)
  waits-word (named name text) l = refused (walk_at hung waiting p false) word rest (no-named name text (option_named name) l refl)

-- ---- all the words

pub reads-all : (words : List Text) → AreText words → Reads words
unfolding outcome items_of
reads-all [] u = record {
  free = λ done last p v at. end-is done last v ∙ sym (split done (listed last) (Some []));
  waits = λ done k p val other at. not-ended (awaits (rows done) k) (awaits-fault (rows done) k val);
}
reads-all (word ∷ rest) u =
    let reads = reads-all rest u.1 in
    let l = looks word u.0 in
    record {
      free = λ done last p v at. free-word word rest reads done last p v at (form_of word) l;
      waits = λ done k p val other at. waits-word word rest reads done k p val other at (form_of word) l;
    }

pub outcome-is : (words : List Text) (w : Walk) → outcome w words ≡ if_so (passes w words) (Some (finished rules (fold (walked rules []) w words).held))
unfolding outcome passes
outcome-is [] w = refl
outcome-is (word ∷ rest) w =
    let fault = is_nil (turn_fault shape [] w word) in
    let after = walked rules [] w word in
    ap (if_so fault) (outcome-is rest after) ∙ sym (so-both fault (passes after rest) _)

-- the walk of the whole, as a call
walk-is : (words : List Text) → AreText words
    → if_so (passes (walk_from nothing_held) words) (Some (rows_after rules [] words)) ≡ call [] (items_of words None)
walk-is words u =
    sym (outcome-is words (walk_from nothing_held)) ∙ (reads-all words u).free [] None 1 tt refl ∙ ap (call []) (prefix-nil (items_of words None))

some-if : (b : Bool) (rs : List Row) → is_some (if_so b (Some rs)) ≡ b
some-if true rs = refl
some-if false rs = refl

some-call : (o : Option (List Item)) → is_some (call [] o) ≡ is_call o
some-call None = refl
some-call (Some items) = some-if (are_new [] items && has file items) (defaulted items)

-- `clap` finds no fault exactly in the words that are a form
pub exact : (words : List Text) → AreText words → is_nil (fault_of cli words) ≡ is_form words
exact words u =
    ap is_nil (level-is words) ∙ level-passes words
    ∙ sym (some-if (passes (walk_from nothing_held) words) (rows_after rules [] words)) ∙ ap is_some (walk-is words u) ∙ some-call (items_of words None)

only-call : (o : Option (List Item)) (b : Bool) (rs : List Row) → if_so b (Some rs) ≡ call [] o → is_call o ≡ true → (items : List Item) × ((o ≡ Some items) × (rs ≡ defaulted items))
only-call None b rs e t = absurd (true≢false (sym t))
only-call (Some items) true rs e t = (items, (refl, (let f : Some rs ≡ Some (defaulted items) = e ∙ ap (λ c. if_so c (Some (defaulted items))) t in cc)))
only-call (Some items) false rs e t = let f : None ≡ Some (defaulted items) = e ∙ ap (λ c. if_so c (Some (defaulted items))) t in absurd (cc)

-- what `clap` finds in words that are a form
pub found : (words : List Text) → AreText words → is_form words ≡ true → (items : List Item) × ((items_of words None ≡ Some items) × (matches_of cli words ≡ defaulted items))
found words u t =
    let r = only-call (items_of words None) (passes (walk_from nothing_held) words) (rows_after rules [] words) (walk-is words u) t in
    (r.0, (r.1.0, matches-are words ∙ r.1.1))
