-- The function reads exactly what is spelled.
use Rattle.std.proofs.Common.{◌≡◌, refl, ℕ, suc, List, [], ◌∷◌, ◌++◌, Bool, true, false, codes, Option, Some, None, map, cond, ◌∙◌, ap, ◌==◌, true≢false, sym, subst, inl, inr, arith, ne_eqb, eqb-true, ◌+◌, ◌||◌}
use Rattle.std.specs.List.{before_first, after_first, list_any, position_or_len}
use Rattle.std.specs.Str.{bytes_eq}
use Rattle.std.proofs.lemmas.Slice.Eq.{bytes_eq-Decides}
use Rattle.command_words.specs.Texts.{Text}
use Rattle.command_words.specs.Items.{Form, Item, Kind, delay, descend, domain, ends, file, form_of, form_of_long, form_of_two, full, is_equals, is_flag, item, items_of, name_of, named, option_named, plain, read_named, read_option, read_word, same, unknown, with_item}
use Rattle.command_words.specs.Spelling.{IsPlainWord, Spells, TakesText, apart, file_word, files, flag, joined, nothing}

plain-form : (word : Text) → IsPlainWord word → form_of word ≡ plain
plain-form [] p = refl
plain-form (x ∷ []) p = refl
plain-form (x ∷ y ∷ rest) (inl e) = absurd (cc)
plain-form (x ∷ y ∷ rest) (inr ne) = let e : (x == 45) ≡ false = ne_eqb x 45 ne in rw e refl

alone-form : (k : Kind) → form_of (codes "--" ++ name_of k) ≡ named (name_of k) None
alone-form delay = refl
alone-form descend = refl
alone-form full = refl
alone-form domain = refl
alone-form file = refl

joined-form : (k : Kind) (text : Text) → form_of (codes "--" ++ (name_of k ++ (codes "=" ++ text))) ≡ named (name_of k) (Some text)
joined-form delay text = refl
joined-form descend text = refl
joined-form full text = refl
joined-form domain text = refl
joined-form file text = refl

own-name : (k : Kind) → same k file ≡ false → option_named (name_of k) ≡ Some k
own-name delay e = refl
own-name descend e = refl
own-name full e = refl
own-name domain e = refl
own-name file e = absurd (true≢false e)

flag-not-file : (k : Kind) → is_flag k ≡ true → same k file ≡ false
flag-not-file full e = refl
flag-not-file delay e = refl
flag-not-file descend e = refl
flag-not-file domain e = refl
flag-not-file file e = absurd (true≢false (sym e))

pub reads-spelled : (words : List Text) (items : List Item) → Spells words items → items_of words None ≡ Some items
unfolding items_of
reads-spelled words items nothing = refl
reads-spelled words items (files rest) = refl
reads-spelled words items (file_word word rest more p s) = rw (plain-form word p, reads-spelled rest more s) refl
reads-spelled words items (flag k rest more f s) = rw (alone-form k, own-name k (flag-not-file k f), f, reads-spelled rest more s) refl
reads-spelled words items (joined k text rest more t s) = rw (joined-form k text, own-name k t.no_file, t.no_flag, reads-spelled rest more s) refl
reads-spelled words items (apart k text rest more t p s) = rw (alone-form k, own-name k t.no_file, t.no_flag, plain-form text p, reads-spelled rest more s) refl

-- ---- what a word is, by its form

cut : (xs : Text) → list_any is_equals xs ≡ true → xs ≡ before_first is_equals xs ++ (61 ∷ after_first is_equals xs)
cut [] e = absurd (true≢false (sym e))
cut (x ∷ xs) e = go (x == 61) refl e (cut xs)
  where
    n : ℕ
    n = position_or_len is_equals xs

    go : (b : Bool) → (x == 61) ≡ b → (b || list_any is_equals xs) ≡ true → (list_any is_equals xs ≡ true → xs ≡ before_first is_equals xs ++ (61 ∷ after_first is_equals xs))
        → x ∷ xs ≡ before_first is_equals (x ∷ xs) ++ (61 ∷ after_first is_equals (x ∷ xs))
    go true f e more = let at : x ≡ 61 = omega (arith, eqb-true x 61 f) in rw f (ap (λ y. y ∷ xs) at)
    go false f e more =
        let s : 1 + n ≡ suc n = omega arith in
        let t : 1 + n + 1 ≡ suc (n + 1) = omega arith in
        rw (f, t, s) (ap (λ ys. x ∷ ys) (more e))

no-cut : (xs : Text) → list_any is_equals xs ≡ false → xs ≡ before_first is_equals xs
no-cut [] e = refl
no-cut (x ∷ xs) e = go (x == 61) refl e (no-cut xs)
  where
    go : (b : Bool) → (x == 61) ≡ b → (b || list_any is_equals xs) ≡ false → (list_any is_equals xs ≡ false → xs ≡ before_first is_equals xs) → x ∷ xs ≡ before_first is_equals (x ∷ xs)
    go true f e more = absurd (true≢false e)
    go false f e more = let s : 1 + position_or_len is_equals xs ≡ suc (position_or_len is_equals xs) = omega arith in rw (f, s) (ap (λ ys. x ∷ ys) (more e))

abbrev View : Form → Text → Type 0
View ends word = word ≡ codes "--"
View (named name None) word = word ≡ codes "--" ++ name
View (named name (Some text)) word = word ≡ codes "--" ++ (name ++ (codes "=" ++ text))
View unknown word = Unit {0}
View plain word = IsPlainWord word

view_long : (rest : Text) → View (form_of_long rest) (45 ∷ 45 ∷ rest)
view_long [] = refl
view_long (z ∷ zs) = go (list_any is_equals (z ∷ zs)) refl
  where
    go : (b : Bool) → list_any is_equals (z ∷ zs) ≡ b → View (named (before_first is_equals (z ∷ zs)) (cond b (Some (after_first is_equals (z ∷ zs))) None)) (45 ∷ 45 ∷ z ∷ zs)
    go true e = ap (λ t. 45 ∷ 45 ∷ t) (cut (z ∷ zs) e)
    go false e = ap (λ t. 45 ∷ 45 ∷ t) (no-cut (z ∷ zs) e)

eqb-self : (x n : ℕ) → x ≡ n → (x == n) ≡ true
eqb-self x n e = grind arith

view : (word : Text) → View (form_of word) word
view [] = inr (λ e. absurd (omega arith))
view (x ∷ []) = go (x == 45) refl
  where
    go : (b : Bool) → (x == 45) ≡ b → IsPlainWord (x ∷ [])
    go true e = let at : x ≡ 45 = omega (arith, eqb-true x 45 e) in inl (ap (λ y. y ∷ []) at)
    go false e = inr (λ at. true≢false (sym (eqb-self x 45 at) ∙ e))
view (x ∷ y ∷ rest) = go (x == 45) (y == 45) refl refl
  where
    go : (a b : Bool) → (x == 45) ≡ a → (y == 45) ≡ b → View (form_of_two x y rest) (x ∷ y ∷ rest)
    go true true e f =
        let at : x ≡ 45 = omega (arith, eqb-true x 45 e) in
        let then : y ≡ 45 = omega (arith, eqb-true y 45 f) in
        rw (e, f) (rw (at, then) (view_long rest))
    go true false e f = rw (e, f) tt
    go false b e f = rw e (inr (λ at. true≢false (sym (eqb-self x 45 at) ∙ e)))

named-is : (name : Text) (k : Kind) → option_named name ≡ Some k → (name ≡ name_of k) × (same k file ≡ false)
named-is name k e = go (is_named delay) (is_named descend) (is_named full) (is_named domain) refl refl refl refl e
  where
    is_named : Kind → Bool
    is_named j = bytes_eq (name_of j) name

    is : (j : Kind) → same j file ≡ false → is_named j ≡ true → Some j ≡ Some k → (name ≡ name_of k) × (same k file ≡ false)
    is j other e f =
        let d : j ≡ k = cc in
        subst (λ x. (name ≡ name_of x) × (same x file ≡ false)) d (sym ((bytes_eq-Decides (name_of j) name).0 e), other)

    go : (a b c d : Bool) → is_named delay ≡ a → is_named descend ≡ b → is_named full ≡ c → is_named domain ≡ d
        → cond a (Some delay) (cond b (Some descend) (cond c (Some full) (cond d (Some domain) None))) ≡ Some k → (name ≡ name_of k) × (same k file ≡ false)
    go true b c d e f g h o = is delay refl e o
    go false true c d e f g h o = is descend refl f o
    go false false true d e f g h o = is full refl g o
    go false false false true e f g h o = is domain refl h o
    go false false false false e f g h o = absurd (cc)

pub record Spelt (words : List Text) : Type 0 where
  pub free : (items : List Item) → items_of words None ≡ Some items → Spells words items
  pub waits : (k : Kind) (items : List Item) → TakesText k → items_of words (Some k) ≡ Some items → Spells ((codes "--" ++ name_of k) ∷ words) items

-- an item before the others
first-item : (k : Kind) (text : Text) (o : Option (List Item)) (items : List Item) → with_item k text o ≡ Some items → (more : List Item) × ((o ≡ Some more) × (items ≡ item k text ∷ more))
first-item k text None items e = absurd (cc)
first-item k text (Some more) items e = (more, (refl, (cc)))

module _ (word : Text) (rest : List Text) (more : Spelt rest) where
  named-spelt : (name : Text) (text : Option Text) (k : Kind) (b : Bool) → View (named name text) word → option_named name ≡ Some k → is_flag k ≡ b → (items : List Item)
      → read_option k text (items_of rest) ≡ Some items → Spells (word ∷ rest) items
  named-spelt name None k true v e f items r =
      let n = named-is name k e in
      let p = first-item k (codes "true") (items_of rest None) items (rw f at r) in
      let at : word ≡ codes "--" ++ name_of k = v ∙ ap (λ t. codes "--" ++ t) n.0 in
      rw (at, p.1.1) (flag k rest p.0 f (more.free p.0 p.1.0))
  named-spelt name (Some text) k true v e f items r = let none : None ≡ Some items = rw f at r in absurd (cc)
  named-spelt name None k false v e f items r =
      let n = named-is name k e in
      let at : word ≡ codes "--" ++ name_of k = v ∙ ap (λ t. codes "--" ++ t) n.0 in
      rw at (more.waits k items (record { no_flag = f; no_file = n.1 }) (rw f at r))
  named-spelt name (Some text) k false v e f items r =
      let n = named-is name k e in
      let p = first-item k text (items_of rest None) items (rw f at r) in
      let at : word ≡ codes "--" ++ (name_of k ++ (codes "=" ++ text)) = v ∙ ap (λ t. codes "--" ++ (t ++ (codes "=" ++ text))) n.0 in
      rw (at, p.1.1) (joined k text rest p.0 (record { no_flag = f; no_file = n.1 }) (more.free p.0 p.1.0))

  option-spelt : (name : Text) (text : Option Text) (o : Option Kind) → View (named name text) word → option_named name ≡ o → (items : List Item)
      → read_named o text (items_of rest) ≡ Some items → Spells (word ∷ rest) items
  option-spelt name text None v e items r = absurd (cc)
  option-spelt name text (Some k) v e items r = named-spelt name text k (is_flag k) v e refl items r

  word-spelt : (f : Form) → View f word → (items : List Item) → read_word f None word rest (items_of rest) ≡ Some items → Spells (word ∷ rest) items
  word-spelt plain v items r =
      let p = first-item file word (items_of rest None) items r in
      rw p.1.1 (file_word word rest p.0 v (more.free p.0 p.1.0))
  word-spelt ends v items r = let is : items ≡ map (item file) rest = cc in rw (v, is) (files rest)
  word-spelt unknown v items r = absurd (cc)
  word-spelt (named name text) v items r = option-spelt name text (option_named name) v refl items r

  value-spelt : (f : Form) → View f word → (k : Kind) (items : List Item) → TakesText k → read_word f (Some k) word rest (items_of rest) ≡ Some items
      → Spells ((codes "--" ++ name_of k) ∷ word ∷ rest) items
  value-spelt plain v k items t r =
      let p = first-item k word (items_of rest None) items r in
      rw p.1.1 (apart k word rest p.0 t v (more.free p.0 p.1.0))
  value-spelt ends v k items t r = absurd (cc)
  value-spelt unknown v k items t r = absurd (cc)
  value-spelt (named name text) v k items t r = absurd (cc)

pub spelt : (words : List Text) → Spelt words
unfolding items_of
spelt [] = record {
  free = λ items e. (let is : items ≡ [] = cc in rw is nothing);
  waits = λ k items t e. absurd (cc);
}
spelt (word ∷ rest) =
    let more = spelt rest in
    record {
      free = λ items e. word-spelt word rest more (form_of word) (view word) items e;
      waits = λ k items t e. value-spelt word rest more (form_of word) (view word) k items t e;
    }
