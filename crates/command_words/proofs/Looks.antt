-- What a word looks like to `clap`, by its form.
use Rattle.std.proofs.Common.{◌≡◌, refl, ℕ, [], ◌∷◌, Bool, true, false, Option, Some, None, ◌∙◌, ap, ◌==◌, sym, arith, IsUtf8, encode_utf8_all, subst, eqb-true}
use Rattle.std.specs.Prelude.{slice_get}
use Rattle.std.specs.Str.{bytes_eq, chars}
use Rattle.std.proofs.lemmas.Str.{chars-encodes, cons_from_encodes}
use Rattle.std.proofs.Math.Utf8.{scalars}
use Rattle.clap.specs.Lexer.{long_of, short_of}
use Rattle.command_words.specs.Texts.{Text}
use Rattle.command_words.specs.Items.{Form, ends, form_of, form_of_two, named, plain, unknown}

abbrev pub dashes : Text
dashes = 45 ∷ 45 ∷ []

pub record IsPlain (word : Text) : Type 0 where
  pub other : bytes_eq word dashes ≡ false
  pub long : long_of word ≡ None
  pub short : short_of word ≡ None

pub record IsNamed (name : Text) (text : Option Text) (word : Text) : Type 0 where
  pub other : bytes_eq word dashes ≡ false
  pub long : long_of word ≡ Some (name, text)

pub record IsUnknown (word : Text) : Type 0 where
  pub other : bytes_eq word dashes ≡ false
  pub long : long_of word ≡ None
  pub first : ℕ
  pub more : Text
  pub short : short_of word ≡ Some (first ∷ more)
  pub letter : ℕ
  pub letter_is : slice_get (chars (first ∷ more)) 0 ≡ Some letter

abbrev pub Looks : Form → Text → Type 0
Looks ends word = bytes_eq word dashes ≡ true
Looks (named name text) word = IsNamed name text word
Looks unknown word = IsUnknown word
Looks plain word = IsPlain word

-- text has a first character where it has a byte
first_of_text : (y : ℕ) (rest cs : Text) → scalars cs ≡ true → encode_utf8_all cs ≡ y ∷ rest → (c : ℕ) × (slice_get (chars (y ∷ rest)) 0 ≡ Some c)
first_of_text y rest [] s e = absurd (cc)
first_of_text y rest (c ∷ cs) s e = (c, ap (λ t. slice_get (chars t) 0) (sym e) ∙ ap (λ t. slice_get t 0) (chars-encodes (c ∷ cs) s))

first_letter : (y : ℕ) (rest : Text) → IsUtf8 (45 ∷ y ∷ rest) → (c : ℕ) × (slice_get (chars (y ∷ rest)) 0 ≡ Some c)
unfolding lib.Utf8.encode
first_letter y rest u =
    let cut = cons_from_encodes u.0 (y ∷ rest) 45 u.1.1 in
    let spelt : scalars (45 ∷ cut.0) ≡ true = subst (λ cs. scalars cs ≡ true) cut.1 u.1.0 in
    first_of_text y rest cut.0 spelt cut.2

looks_two : (x y : ℕ) (rest : Text) (a b : Bool) → (x == 45) ≡ a → (y == 45) ≡ b → IsUtf8 (x ∷ y ∷ rest) → Looks (form_of_two x y rest) (x ∷ y ∷ rest)
looks_two x y rest false b e f u = rw e (record { other = rw e refl; long = rw e refl; short = rw e refl })
looks_two x y [] true true e f u = rw (e, f) (rw (e, f) refl)
looks_two x y (z ∷ zs) true true e f u = rw (e, f) (record { other = rw (e, f) refl; long = rw (e, f) refl })
looks_two x y rest true false e f u =
    let at : x ≡ 45 = omega (arith, eqb-true x 45 e) in
    let letter = first_letter y rest (subst (λ n. IsUtf8 (n ∷ y ∷ rest)) at u) in
    rw (e, f) (record { other = rw (e, f) refl; long = rw (e, f) refl; first = y; more = rest; short = rw (e, f) refl; letter = letter.0; letter_is = letter.1 })

pub looks : (word : Text) → IsUtf8 word → Looks (form_of word) word
looks [] u = record { other = refl; long = refl; short = refl }
looks (x ∷ []) u = go (x == 45) refl
  where
    go : (b : Bool) → (x == 45) ≡ b → IsPlain (x ∷ [])
    go true e = record { other = rw e refl; long = rw e refl; short = rw e refl }
    go false e = record { other = rw e refl; long = rw e refl; short = rw e refl }
looks (x ∷ y ∷ rest) u = looks_two x y rest (x == 45) (y == 45) refl refl u
