-- A text that reads as a list of lexemes, word by word: its tokens say these.
use Rattle.std.proofs.Common.{◌≡◌, ℕ, zero, suc, ◌&&◌, ◌+◌, ◌-◌, ◌<◌, ◌≤◌, nat_le, ◌==◌, Bool, true, false, cond, List, [], ◌∷◌, ◌++◌, map, length, take, drop, replicate, slice_index, find, None, Some, unwrap_or, option_map, arith, ap, sym, ◌∙◌, refl, subst}
use Rattle.std.specs.List.{list_all, prefix_len}
use Rattle.std.proofs.lemmas.Bool.{and_parts, or_parts, eqb-true, leb-true, agree_below_at}
use Rattle.std.proofs.lemmas.List.{length-drop, length-append, drop-drop, drop_at, take_at}
use Rattle.spl_text.specs.Bytes.{is_blank, is_letter, is_digit, is_name_byte}
use Rattle.spl_text.specs.Words.{value_of_digits}
use Rattle.spl_text.specs.Keyword.{keyword_kind}
use Rattle.spl_text.specs.Signs.{short_sign, long_sign, long_signs}
use Rattle.spl_text.specs.Pieces.{piece_at, word_at, number_at, sign_at, taken, Pieces, longest}
use Rattle.spl_text.specs.Pieces.Pieces.{none, gap, token}
use Rattle.spl_text.specs.Spans.{IsName}
use Rattle.spl_text.specs.declared.piece.Piece.TheVariants.{Gap}
use Rattle.spl_text.specs.declared.token.Token.{Token}
use Rattle.spl_text.specs.declared.token.TokenKind.{TokenKind}
use Rattle.spl_text.specs.declared.token.TokenKind.TheVariants.{Name, Number}
use Rattle.spl_tree.specs.Meaning.{span_of}
use Rattle.read_back.proofs.Lexemes.{Lexeme, lexeme, name, said}
use Rattle.read_back.proofs.Moved.{moved, piece_moved}

-- word by word, with gaps
pub data Reads : List ℕ → List Lexeme → Type 0 where
  ends : Reads [] []
  skips : (w rest : List ℕ) (ls : List Lexeme) → piece_at (w ++ rest) 0 ≡ Gap (length w) → Reads rest ls → Reads (w ++ rest) ls
  takes : (w rest : List ℕ) (kind : TokenKind) (ls : List Lexeme) → piece_at (w ++ rest) 0 ≡ taken 0 (length w) kind → Reads rest ls
      → Reads (w ++ rest) (lexeme kind w ∷ ls)

-- ---- the tokens of such a text

pub record Lexed (bytes : List ℕ) (at : ℕ) (ls : List Lexeme) : Type 0 where
  pub tokens : List Token
  pub pieces : Pieces bytes at tokens (length bytes)
  pub says : map (said bytes) tokens ≡ ls

further : (bytes : List ℕ) (at : ℕ) (w rest : List ℕ) → drop at bytes ≡ w ++ rest → drop (at + length w) bytes ≡ rest
further bytes at w rest e = sym (drop-drop (length w) at bytes) ∙ ap (drop (length w)) e ∙ drop_at w rest (length w) refl

inside : (bytes : List ℕ) (at : ℕ) (w rest : List ℕ) → drop at bytes ≡ w ++ rest → at ≤ length bytes → at + length w ≤ length bytes
inside bytes at w rest e within =
    let a : length bytes - at ≡ length w + length rest = sym (length-drop at bytes) ∙ ap length e ∙ length-append w rest in
    omega arith

span_is : (bytes : List ℕ) (at : ℕ) (w rest : List ℕ) → drop at bytes ≡ w ++ rest → span_of bytes (at + 0) (at + length w - (at + 0)) ≡ w
span_is bytes at w rest e =
    let a : at + length w - (at + 0) ≡ length w = omega arith in
    let b : at + 0 ≡ at = omega arith in
    rw (a, b, e) (take_at w rest (length w) refl)

pub lex : (text : List ℕ) (ls : List Lexeme) → Reads text ls → (bytes : List ℕ) (at : ℕ) → drop at bytes ≡ text → at ≤ length bytes → Lexed bytes at ls
lex _ _ ends bytes at e within =
    let past : at ≡ length bytes = omega (arith, length-drop at bytes, ap length e) in
    record { tokens = []; pieces = subst (λ n. Pieces bytes at [] n) past (none at); says = refl }
lex _ _ (skips w rest ls p r) bytes at e within =
    let next = lex rest ls r bytes (at + length w) (further bytes at w rest e) (inside bytes at w rest e within) in
    record {
      tokens = next.tokens;
      pieces = gap at (at + length w) (length bytes) next.tokens (sym (piece_moved bytes at) ∙ ap (moved at) (ap (λ t. piece_at t 0) e ∙ p)) next.pieces;
      says = next.says;
    }
lex _ _ (takes w rest kind ls p r) bytes at e within =
    let next = lex rest ls r bytes (at + length w) (further bytes at w rest e) (inside bytes at w rest e within) in
    let t : Token = record { kind = kind; start = at + 0; end = at + length w } in
    let one : said bytes t ≡ lexeme kind w = ap (lexeme kind) (span_is bytes at w rest e) in
    record {
      tokens = t ∷ next.tokens;
      pieces = token at (length bytes) t next.tokens (sym (piece_moved bytes at) ∙ ap (moved at) (ap (λ t. piece_at t 0) e ∙ p)) next.pieces;
      says = rw (one, next.says) refl;
    }

-- ---- words

-- a text that goes on with no letter, digit or underscore
abbrev pub Stops : List ℕ → Type 0
Stops rest = is_name_byte (slice_index rest 0) ≡ false

prefix_stops : (p : ℕ → Bool) (w rest : List ℕ) → p 0 ≡ false → list_all p w ≡ true → p (slice_index rest 0) ≡ false → prefix_len p (w ++ rest) ≡ length w
prefix_stops p [] [] z a s = refl
prefix_stops p [] (x ∷ xs) z a s = rw s refl
prefix_stops p (x ∷ w) rest z a s =
    let h = and_parts (p x) (list_all p w) a in
    rw (h.0, prefix_stops p w rest z h.1 s) (omega arith)

pub differs : (class : ℕ → Bool) (c k : ℕ) → class c ≡ true → class k ≡ false → (c == k) ≡ false
differs class c k a b = by (c == k) refl
  where
    by : (t : Bool) → (c == k) ≡ t → t ≡ false
    by true e = let f : true ≡ false = sym a ∙ ap class (eqb-true c k e) ∙ b in f
    by false e = refl

no_blank : (class : ℕ → Bool) (c : ℕ) → class c ≡ true → class 32 ≡ false → class 9 ≡ false → class 10 ≡ false → class 13 ≡ false → is_blank c ≡ false
no_blank class c a b d e f = rw (differs class c 32 a b, differs class c 9 a d, differs class c 10 a e, differs class c 13 a f) refl

-- which piece stands first, by its first byte
choose_word : (text : List ℕ) → is_blank (slice_index text 0) ≡ false → (slice_index text 0 == 47) ≡ false → is_letter (slice_index text 0) ≡ true
    → piece_at text 0 ≡ word_at text 0
unfolding piece_at
choose_word text b s l = rw (b, s, l) refl

choose_number : (text : List ℕ) → is_blank (slice_index text 0) ≡ false → (slice_index text 0 == 47) ≡ false → is_letter (slice_index text 0) ≡ false
    → is_digit (slice_index text 0) ≡ true → piece_at text 0 ≡ number_at text 0
unfolding piece_at
choose_number text b s l d = rw (b, s, l, d) refl

choose_sign : (text : List ℕ) → is_blank (slice_index text 0) ≡ false → (slice_index text 0 == 47) ≡ false → is_letter (slice_index text 0) ≡ false
    → is_digit (slice_index text 0) ≡ false → piece_at text 0 ≡ sign_at text 0
unfolding piece_at
choose_sign text b s l d = rw (b, s, l, d) refl

span_first : (text w : List ℕ) (n p : ℕ) (f : List ℕ → TokenKind) → p ≡ n → take n text ≡ w → taken 0 (0 + p) (f (take (0 + p - 0) (drop 0 text))) ≡ taken 0 n (f w)
span_first text w n p f e t =
    let z : 0 + n ≡ n = omega arith in
    let y : n - 0 ≡ n = omega arith in
    rw (e, z, y, t) refl

pub word_piece : (w rest : List ℕ) → is_letter (slice_index w 0) ≡ true → list_all is_name_byte w ≡ true → Stops rest
    → piece_at (w ++ rest) 0 ≡ taken 0 (length w) (unwrap_or (keyword_kind w) Name)
word_piece [] rest first all stops = absurd cc
word_piece (c ∷ cs) rest first all stops =
    choose_word (c ∷ (cs ++ rest)) (no_blank is_letter c first refl refl refl refl) (differs is_letter c 47 first refl) first
    ∙ span_first (c ∷ (cs ++ rest)) (c ∷ cs) (length (c ∷ cs)) (prefix_len is_name_byte (c ∷ (cs ++ rest))) (λ w. unwrap_or (keyword_kind w) Name)
    (prefix_stops is_name_byte (c ∷ cs) rest refl all stops) (take_at (c ∷ cs) rest (length (c ∷ cs)) refl)

digit_no_letter : (c : ℕ) → is_digit c ≡ true → is_letter c ≡ false
digit_no_letter c d =
    let p = and_parts (nat_le 48 c) (nat_le c 57) d in
    let small : c < 58 = omega (arith, leb-true c 57 p.1) in
    by (is_letter c) refl (agree_below_at (λ b. is_letter b && is_digit b) (λ b. false) 58 c refl small)
  where
    by : (t : Bool) → is_letter c ≡ t → (is_letter c && is_digit c) ≡ false → t ≡ false
    by true e f = let g : true ≡ false = rw (e, d) at f in g
    by false e f = refl

pub number_piece : (w rest : List ℕ) → is_digit (slice_index w 0) ≡ true → list_all is_digit w ≡ true → Stops rest
    → piece_at (w ++ rest) 0 ≡ taken 0 (length w) (Number (value_of_digits w))
number_piece [] rest first all stops = absurd cc
number_piece (c ∷ cs) rest first all stops =
    let d : is_digit (slice_index rest 0) ≡ false = (or_parts (is_letter (slice_index rest 0)) (is_digit (slice_index rest 0)) stops).1 in
    choose_number (c ∷ (cs ++ rest)) (no_blank is_digit c first refl refl refl refl) (differs is_digit c 47 first refl) (digit_no_letter c first) first
    ∙ span_first (c ∷ (cs ++ rest)) (c ∷ cs) (length (c ∷ cs)) (prefix_len is_digit (c ∷ (cs ++ rest))) (λ w. Number (value_of_digits w))
    (prefix_stops is_digit (c ∷ cs) rest refl all d) (take_at (c ∷ cs) rest (length (c ∷ cs)) refl)

no_long_sign : (c next : ℕ) → find (λ (s : ℕ × TokenKind). c == s.0) long_signs ≡ None → long_sign c next ≡ None
no_long_sign c next long = by (next == 61)
  where
    by : (t : Bool) → cond t (option_map (λ (s : ℕ × TokenKind). s.1) (find (λ (s : ℕ × TokenKind). c == s.0) long_signs)) None ≡ None
    by true = ap (option_map (λ (s : ℕ × TokenKind). s.1)) long
    by false = refl

-- a sign of one byte that begins no longer one
sign_piece : (c : ℕ) (kind : TokenKind) (rest : List ℕ) → is_blank c ≡ false → (c == 47) ≡ false → is_letter c ≡ false → is_digit c ≡ false
    → find (λ (s : ℕ × TokenKind). c == s.0) long_signs ≡ None → short_sign c ≡ Some kind → piece_at (c ∷ rest) 0 ≡ taken 0 1 kind
sign_piece c kind rest b s l d long short =
    choose_sign (c ∷ rest) b s l d
    ∙ ap (λ o. longest 0 o (short_sign c)) (no_long_sign c (slice_index (c ∷ rest) 1) long)
    ∙ ap (longest 0 None) short

-- ---- steps of reading

pub read_word : (w rest : List ℕ) (kind : TokenKind) (ls : List Lexeme) → is_letter (slice_index w 0) ≡ true → list_all is_name_byte w ≡ true
    → unwrap_or (keyword_kind w) Name ≡ kind → Stops rest → Reads rest ls → Reads (w ++ rest) (lexeme kind w ∷ ls)
read_word w rest kind ls first all is stops r = takes w rest kind ls (word_piece w rest first all stops ∙ ap (taken 0 (length w)) is) r

pub read_name : (w rest : List ℕ) (ls : List Lexeme) → IsName w → Stops rest → Reads rest ls → Reads (w ++ rest) (name w ∷ ls)
read_name w rest ls n stops r = read_word w rest Name ls n.first n.rest (ap (λ k. unwrap_or k Name) n.free) stops r

pub read_sign : (c : ℕ) (kind : TokenKind) (rest : List ℕ) (ls : List Lexeme) → is_blank c ≡ false → (c == 47) ≡ false → is_letter c ≡ false → is_digit c ≡ false
    → find (λ (s : ℕ × TokenKind). c == s.0) long_signs ≡ None → short_sign c ≡ Some kind → Reads rest ls → Reads (c ∷ rest) (lexeme kind (c ∷ []) ∷ ls)
read_sign c kind rest ls b s l d long short r = takes (c ∷ []) rest kind ls (sign_piece c kind rest b s l d long short) r

pub read_blank : (rest : List ℕ) (ls : List Lexeme) → Reads rest ls → Reads (32 ∷ rest) ls
unfolding piece_at
read_blank rest ls r = skips (32 ∷ []) rest ls refl r

pub read_newline : (rest : List ℕ) (ls : List Lexeme) → Reads rest ls → Reads (10 ∷ rest) ls
unfolding piece_at
read_newline rest ls r = skips (10 ∷ []) rest ls refl r

pub read_blanks : (n : ℕ) (rest : List ℕ) (ls : List Lexeme) → Reads rest ls → Reads (replicate n 32 ++ rest) ls
read_blanks zero rest ls r = r
read_blanks (suc n) rest ls r = read_blank (replicate n 32 ++ rest) ls (read_blanks n rest ls r)
