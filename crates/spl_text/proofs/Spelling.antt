-- What stands at an offset goes on from it, within the text, and is spelled as its kind says.
use Rattle.std.proofs.Common.{◌≡◌, ℕ, suc, ◌+◌, ◌-◌, ◌<◌, ◌≤◌, ◌⊎◌, ◌==◌, not, Bool, true, false, cond, List, [], ◌∷◌, length, take, drop, slice_index, Option, None, Some, unwrap_or, arith, ap, sym, ◌∙◌, refl, subst, inl, inr}
use Rattle.std.specs.List.{find, list_all, prefix_len, slice_range, range_with_len}
use Rattle.std.specs.Option.{option_map, option_map_or}
use Rattle.std.specs.Str.{bytes_eq}
use Rattle.std.proofs.lemmas.Bool.{cases_lt, or_left, and_parts, eqb-true}
use Rattle.std.proofs.lemmas.List.{length-drop, get_or_past, get_or-take, get_or-drop}
use Rattle.std.proofs.lemmas.List.Sums.{prefix_len-drop_yes, prefix_len-le-length}
use Rattle.spl_text.specs.Bytes.{is_blank, is_letter, is_digit, is_name_byte}
use Rattle.spl_text.specs.Gaps.{stand_at, past_line}
use Rattle.spl_text.specs.Words.{past_name, value_of_digits}
use Rattle.spl_text.specs.Keyword.{keyword_kind, keywords}
use Rattle.spl_text.specs.Signs.{short_sign, long_sign, short_signs, long_signs}
use Rattle.spl_text.specs.Pieces.{piece_at, block_at, word_at, number_at, sign_at, longest, taken}
use Rattle.spl_text.specs.declared.text_rule.TextRule.TheVariants.{BadByte, OpenComment}
use Rattle.spl_text.specs.declared.piece.Piece.{Piece}
use Rattle.spl_text.specs.declared.piece.Piece.TheVariants.{Gap, Taken, Broken}
use Rattle.spl_text.specs.declared.token.Token.{Token}
use Rattle.spl_text.specs.declared.token.TokenKind.{TokenKind}
use Rattle.spl_text.specs.declared.token.TokenKind.TheVariants.{Name, Number}
use Rattle.spl_text.proofs.Searches.{find-range_found}

-- a name of any length
pub record IsLongName (text : List ℕ) : Type 0 where
  pub first : is_letter (slice_index text 0) ≡ true
  pub rest : list_all is_name_byte text ≡ true
  pub free : keyword_kind text ≡ None

-- the token that stands at an offset
pub record IsSpelled (bytes : List ℕ) (at : ℕ) (t : Token) : Type 0 where
  pub start : t.start ≡ at
  pub filled : at < t.end
  pub within : t.end ≤ length bytes
  pub name : t.kind ≡ Name → IsLongName (slice_range bytes at t.end)
  pub number : (value : ℕ) → t.kind ≡ Number value → (list_all is_digit (slice_range bytes at t.end) ≡ true) × (value ≡ value_of_digits (slice_range bytes at t.end))

abbrev pub Stands : List ℕ → ℕ → Piece → Type 0
Stands bytes at (Gap end) = (at < end) × (end ≤ length bytes)
Stands bytes at (Taken t) = IsSpelled bytes at t
Stands bytes at (Broken rule) = Unit {0}

some_is : {X : Type 0} {x y : X} → Some x ≡ Some y → x ≡ y
some_is h = cc

-- ---- kinds that are neither a name nor a number

abbrev is_plain : TokenKind → Bool
is_plain Name = false
is_plain (Number value) = false
is_plain _ = true

not_name : (kind : TokenKind) → is_plain kind ≡ true → kind ≡ Name → ⊥
not_name kind plain h = let e : is_plain Name ≡ true = rw h at plain in cc

not_number : (kind : TokenKind) (value : ℕ) → is_plain kind ≡ true → kind ≡ Number value → ⊥
not_number kind value plain h = let e : is_plain (Number value) ≡ true = rw h at plain in cc

find_passes : {X : Type 0} (test good : X → Bool) (xs : List X) (x : X) → list_all good xs ≡ true → find test xs ≡ Some x → good x ≡ true
find_passes test good [] x all found = absurd cc
find_passes test good (y ∷ ys) x all found =
    let p = and_parts (good y) (list_all good ys) all in
    by (test y) (λ e. find_passes test good ys x p.1 e) p.0 found
  where
    by : (b : Bool) → (find test ys ≡ Some x → good x ≡ true) → good y ≡ true → cond b (Some y) (find test ys) ≡ Some x → good x ≡ true
    by true later here e = subst (λ z. good z ≡ true) (some_is e) here
    by false later here e = later e

-- the kind that a table gives is plain, if each one in it is
table_plain : {X : Type 0} (test : (X × TokenKind) → Bool) (table : List (X × TokenKind)) (kind : TokenKind)
    → list_all (λ e. is_plain e.1) table ≡ true → option_map (λ e. e.1) (find test table) ≡ Some kind → is_plain kind ≡ true
table_plain {X} test table kind all h = by (find test table) refl h
  where
    by : (found : Option (X × TokenKind)) → find test table ≡ found → option_map (λ e. e.1) found ≡ Some kind → is_plain kind ≡ true
    by None e g = absurd cc
    by (Some k) e g = subst (λ x. is_plain x ≡ true) (some_is g) (find_passes test (λ e. is_plain e.1) table k all e)

pub keyword_plain : (text : List ℕ) (kind : TokenKind) → keyword_kind text ≡ Some kind → is_plain kind ≡ true
keyword_plain text kind h = table_plain (λ k. bytes_eq text k.0) keywords kind refl h

short_plain : (byte : ℕ) (kind : TokenKind) → short_sign byte ≡ Some kind → is_plain kind ≡ true
short_plain byte kind h = table_plain (λ s. byte == s.0) short_signs kind refl h

long_plain : (byte next : ℕ) (kind : TokenKind) → long_sign byte next ≡ Some kind → (next ≡ 61) × (is_plain kind ≡ true)
long_plain byte next kind h = by (next == 61) refl h
  where
    by : (b : Bool) → (next == 61) ≡ b → cond b (option_map (λ s. s.1) (find (λ s. byte == s.0) long_signs)) None ≡ Some kind → (next ≡ 61) × (is_plain kind ≡ true)
    by true e g = (eqb-true next 61 e, table_plain (λ s. byte == s.0) long_signs kind refl g)
    by false e g = absurd cc

-- ---- spans

-- from a first byte of the class on, at least one byte is taken, and none past the end
past_class : (class : ℕ → Bool) (bytes : List ℕ) (at : ℕ) → at < length bytes → class (slice_index bytes at) ≡ true
    → (at < at + prefix_len class (drop at bytes)) × (at + prefix_len class (drop at bytes) ≤ length bytes)
past_class class bytes at within first =
    let e = prefix_len-drop_yes class bytes at 0 within first in
    (omega (arith, e), omega (arith, prefix_len-le-length class (drop at bytes), length-drop at bytes))

list_all-prefix : (class : ℕ → Bool) (xs : List ℕ) → list_all class (take (prefix_len class xs) xs) ≡ true
list_all-prefix class [] = refl
list_all-prefix class (x ∷ xs) = by (list_all-prefix class xs) (class x) refl
  where
    by : list_all class (take (prefix_len class xs) xs) ≡ true → (b : Bool) → class x ≡ b → list_all class (take (cond b (1 + prefix_len class xs) 0) (x ∷ xs)) ≡ true
    by rest true e =
        let more : 1 + prefix_len class xs ≡ suc (prefix_len class xs) = omega arith in
        rw more (rw e rest)
    by rest false e = refl

-- what is taken of a class is of the class
class_range : (class : ℕ → Bool) (bytes : List ℕ) (at : ℕ) → list_all class (slice_range bytes at (at + prefix_len class (drop at bytes))) ≡ true
class_range class bytes at =
    let e : (at + prefix_len class (drop at bytes)) - at ≡ prefix_len class (drop at bytes) = omega arith in
    rw e (list_all-prefix class (drop at bytes))

first_range : (bytes : List ℕ) (at end : ℕ) → at < end → slice_index (slice_range bytes at end) 0 ≡ slice_index bytes at
first_range bytes at end h =
    let some : 0 < end - at = omega arith in
    get_or-take (end - at) (drop at bytes) 0 0 some ∙ get_or-drop at bytes 0 0 ∙ ap (slice_index bytes) (omega arith)

taken_plain : (bytes : List ℕ) (at end : ℕ) (kind : TokenKind) → at < end → end ≤ length bytes → is_plain kind ≡ true → Stands bytes at (taken at end kind)
taken_plain bytes at end kind filled within plain = record {
  start = refl;
  filled = filled;
  within = within;
  name = λ h. absurd (not_name kind plain h);
  number = λ value h. absurd (not_number kind value plain h);
}

stands_block : (bytes : List ℕ) (at : ℕ) → Stands bytes at (block_at bytes at)
stands_block bytes at = by (find (stand_at 42 47 bytes) (range_with_len (at + 2) (length bytes - (at + 2)))) refl
  where
    by : (found : Option ℕ) → find (stand_at 42 47 bytes) (range_with_len (at + 2) (length bytes - (at + 2))) ≡ found
        → Stands bytes at (option_map_or Gap (option_map (λ close. close + 2) found) (Broken OpenComment))
    by None e = tt
    by (Some close) e =
        let f = find-range_found (stand_at 42 47 bytes) (at + 2) (length bytes - (at + 2)) close e in
        let slash : slice_index bytes (close + 1) ≡ 47 = eqb-true (slice_index bytes (close + 1)) 47 (and_parts (slice_index bytes close == 42) (slice_index bytes (close + 1) == 47) f.2).1 in
        (omega arith, ends (cases_lt (close + 1) (length bytes)) slash)
      where
        ends : ((close + 1 < length bytes) ⊎ (length bytes ≤ close + 1)) → slice_index bytes (close + 1) ≡ 47 → close + 2 ≤ length bytes
        ends (inl h) slash = omega arith
        ends (inr h) slash = absurd (omega (arith, get_or_past bytes (close + 1) 0 h))

stands_word : (bytes : List ℕ) (at : ℕ) → at < length bytes → is_letter (slice_index bytes at) ≡ true → Stands bytes at (word_at bytes at)
stands_word bytes at within letter =
    let p = past_class is_name_byte bytes at within (or_left (is_letter (slice_index bytes at)) (is_digit (slice_index bytes at)) letter) in
    by p.0 p.1 (keyword_kind (slice_range bytes at (past_name bytes at))) refl
  where
    by : at < past_name bytes at → past_name bytes at ≤ length bytes → (k : Option TokenKind) → keyword_kind (slice_range bytes at (past_name bytes at)) ≡ k
        → Stands bytes at (taken at (past_name bytes at) (unwrap_or k Name))
    by filled inside (Some kind) e = taken_plain bytes at (past_name bytes at) kind filled inside (keyword_plain (slice_range bytes at (past_name bytes at)) kind e)
    by filled inside None e = record {
      start = refl;
      filled = filled;
      within = inside;
      name = λ h. record {
        first = ap is_letter (first_range bytes at (past_name bytes at) filled) ∙ letter;
        rest = class_range is_name_byte bytes at;
        free = e;
      };
      number = λ value h. absurd cc;
    }

stands_number : (bytes : List ℕ) (at : ℕ) → at < length bytes → is_digit (slice_index bytes at) ≡ true → Stands bytes at (number_at bytes at)
stands_number bytes at within digit =
    let p = past_class is_digit bytes at within digit in
    record {
      start = refl;
      filled = p.0;
      within = p.1;
      name = λ h. absurd cc;
      number = λ value h. (class_range is_digit bytes at, cc);
    }

stands_sign : (bytes : List ℕ) (at : ℕ) → at < length bytes → Stands bytes at (sign_at bytes at)
stands_sign bytes at within = by (long_sign (slice_index bytes at) (slice_index bytes (at + 1))) (short_sign (slice_index bytes at)) refl refl
  where
    by : (long short : Option TokenKind) → long_sign (slice_index bytes at) (slice_index bytes (at + 1)) ≡ long → short_sign (slice_index bytes at) ≡ short
        → Stands bytes at (longest at long short)
    by (Some kind) short e f =
        let l = long_plain (slice_index bytes at) (slice_index bytes (at + 1)) kind e in
        taken_plain bytes at (at + 2) kind (omega arith) (ends (cases_lt (at + 1) (length bytes)) l.0) l.1
      where
        ends : ((at + 1 < length bytes) ⊎ (length bytes ≤ at + 1)) → slice_index bytes (at + 1) ≡ 61 → at + 2 ≤ length bytes
        ends (inl h) is = omega arith
        ends (inr h) is = absurd (omega (arith, get_or_past bytes (at + 1) 0 h))
    by None (Some kind) e f = taken_plain bytes at (at + 1) kind (omega arith) (omega arith) (short_plain (slice_index bytes at) kind f)
    by None None e f = tt

stands_inside : (bytes : List ℕ) (at : ℕ) → at < length bytes → Stands bytes at (piece_at bytes at)
unfolding piece_at
stands_inside bytes at within =
    by (is_blank (slice_index bytes at)) (stand_at 47 47 bytes at) (stand_at 47 42 bytes at) (is_letter (slice_index bytes at)) (is_digit (slice_index bytes at)) refl refl refl
  where
    by : (blank line block letter digit : Bool) → stand_at 47 47 bytes at ≡ line → is_letter (slice_index bytes at) ≡ letter → is_digit (slice_index bytes at) ≡ digit
        → Stands bytes at (cond blank (Gap (at + 1)) (cond line (Gap (past_line bytes at)) (cond block (block_at bytes at)
        (cond letter (word_at bytes at) (cond digit (number_at bytes at) (sign_at bytes at))))))
    by true line block letter digit e f g = (omega arith, omega arith)
    by false true block letter digit e f g =
        let slash : slice_index bytes at ≡ 47 = eqb-true (slice_index bytes at) 47 (and_parts (slice_index bytes at == 47) (slice_index bytes (at + 1) == 47) e).0 in
        past_class (λ b. not (b == 10)) bytes at within (rw slash refl)
    by false false true letter digit e f g = stands_block bytes at
    by false false false true digit e f g = stands_word bytes at within f
    by false false false false true e f g = stands_number bytes at within g
    by false false false false false e f g = stands_sign bytes at within

-- past the end of a text nothing begins
pub piece_at-end : (bytes : List ℕ) (at : ℕ) → length bytes ≤ at → piece_at bytes at ≡ Broken BadByte
unfolding piece_at
piece_at-end bytes at past =
    let e : slice_index bytes at ≡ 0 = get_or_past bytes at 0 past in
    let next : slice_index bytes (at + 1) ≡ 0 = get_or_past bytes (at + 1) 0 (omega arith) in
    rw (e, next) refl

pub stands : (bytes : List ℕ) (at : ℕ) → Stands bytes at (piece_at bytes at)
stands bytes at = by (cases_lt at (length bytes))
  where
    by : ((at < length bytes) ⊎ (length bytes ≤ at)) → Stands bytes at (piece_at bytes at)
    by (inl within) = stands_inside bytes at within
    by (inr past) = subst (Stands bytes at) (sym (piece_at-end bytes at past)) tt

pub stands_gap : (bytes : List ℕ) (at end : ℕ) → piece_at bytes at ≡ Gap end → (at < end) × (end ≤ length bytes)
stands_gap bytes at end h = subst (Stands bytes at) h (stands bytes at)

pub stands_token : (bytes : List ℕ) (at : ℕ) (t : Token) → piece_at bytes at ≡ Taken t → IsSpelled bytes at t
stands_token bytes at t h = subst (Stands bytes at) h (stands bytes at)
