-- What the getters give.
use Rattle.std.proofs.Common.{◌≡◌, refl, List, [], ◌∷◌, ◌++◌, Bool, true, false, codes, Some, None, option_map, option_and_then, cond, ◌∙◌, ap, ◌||◌, true≢false, sym, slice_get, is_some}
use Rattle.std.specs.List.{find}
use Rattle.std.specs.Str.{bytes_eq}
use Rattle.std.proofs.lemmas.Slice.Eq.{bytes_eq-Decides}
use Rattle.clap.specs.Walk.{Row, first_of, one_of, row_text}
use Rattle.command_words.specs.Texts.{Text}
use Rattle.command_words.specs.Items.{Item, Kind, delay, descend, domain, file, full, is_flag, has, name_of, same, text_of}
use Rattle.command_words.proofs.Given.{default_row, defaulted, defaults, valued-shown, row, rows, shown}

-- a name is one kind's alone
abbrev kinds : List Kind
kinds = delay ∷ descend ∷ full ∷ domain ∷ file ∷ []

back : (k : Kind) → find (λ j. bytes_eq (name_of j) (name_of k)) kinds ≡ Some k
back delay = refl
back descend = refl
back full = refl
back domain = refl
back file = refl

pub same-is : (a b : Kind) → same a b ≡ true → a ≡ b
same-is a b e =
    let names : name_of a ≡ name_of b = (bytes_eq-Decides (name_of a) (name_of b)).0 e in
    let kinds_are : Some a ≡ Some b = sym (back a) ∙ ap (λ t. find (λ j. bytes_eq (name_of j) t) kinds) names ∙ back b in
    cc

apart : (f k : Kind) → is_flag f ≡ true → is_flag k ≡ false → same f k ≡ false
apart f k u v = go (same f k) refl
  where
    go : (b : Bool) → same f k ≡ b → b ≡ false
    go true e = absurd (true≢false (sym u ∙ ap is_flag (same-is f k e) ∙ v))
    go false e = refl

text-more : (k : Kind) (items : List Item) (more : List Row) → is_flag k ≡ false → first_of (name_of k) more ≡ None → first_of (name_of k) (rows items ++ more) ≡ text_of k items
text-more k [] more v e = e
text-more k (x ∷ rest) more v e = go (same x.kind k) (λ s. valued-shown x.kind x.text (ap is_flag (same-is x.kind k s) ∙ v)) (text-more k rest more v e)
  where
    go : (b : Bool) → (b ≡ true → shown x.kind x.text ≡ x.text) → first_of (name_of k) (rows rest ++ more) ≡ text_of k rest
        → option_and_then (λ r. slice_get r.values 0) (cond b (Some (row x)) (find (λ r. bytes_eq r.id (name_of k)) (rows rest ++ more))) ≡ option_map (λ y. y.text) (cond b (Some x) (find (λ y. same y.kind k) rest))
    go true s m = ap (λ t. Some t) (s refl)
    go false s m = m

no-text : (k : Kind) (b : Bool) → is_flag k ≡ false → first_of (name_of k) (cond b [] (default_row full ∷ [])) ≡ None
no-text k true v = refl
no-text k false v = rw (apart full k refl v) refl

-- the text of an option or of FILE
pub text-is : (k : Kind) (items : List Item) → is_flag k ≡ false → first_of (name_of k) (defaulted items) ≡ text_of k items
text-is k items v = text-more k items (defaults items) v (no-text k (has full items) v)

abbrev pub flag_text : Bool → Text
flag_text b = cond b (codes "true") (codes "false")

flag-more : (k : Kind) (items : List Item) (more : List Row) → is_flag k ≡ true → one_of (name_of k) (rows items ++ more) ≡ cond (has k items) (Some (codes "true")) (one_of (name_of k) more)
flag-more k [] more v = refl
flag-more k (x ∷ rest) more v = go (same x.kind k) (λ s. (let f : is_flag x.kind ≡ true = ap is_flag (same-is x.kind k s) ∙ v in rw f refl)) (flag-more k rest more v)
  where
    go : (b : Bool) → (b ≡ true → shown x.kind x.text ≡ codes "true") → one_of (name_of k) (rows rest ++ more) ≡ cond (has k rest) (Some (codes "true")) (one_of (name_of k) more)
        → option_and_then row_text (cond b (Some (row x)) (find (λ r. bytes_eq r.id (name_of k)) (rows rest ++ more))) ≡ cond (b || has k rest) (Some (codes "true")) (one_of (name_of k) more)
    go true s m = ap (λ t. Some t) (s refl)
    go false s m = m

-- the flag
pub full-is : (items : List Item) → one_of (codes "full") (defaulted items) ≡ Some (flag_text (has full items))
full-is items = flag-more full items (defaults items) refl ∙ go (has full items)
  where
    go : (b : Bool) → cond b (Some (codes "true")) (one_of (codes "full") (cond b [] (default_row full ∷ []))) ≡ Some (flag_text b)
    go true = refl
    go false = refl

-- a kind was given where it has a text
pub has-text : (k : Kind) (items : List Item) → is_some (text_of k items) ≡ has k items
has-text k [] = refl
has-text k (x ∷ rest) = go (same x.kind k) (has-text k rest)
  where
    go : (b : Bool) → is_some (text_of k rest) ≡ has k rest → is_some (option_map (λ y. y.text) (cond b (Some x) (find (λ y. same y.kind k) rest))) ≡ (b || has k rest)
    go true m = refl
    go false m = m
