-- The variables of generated programs are names.
use Rattle.std.proofs.Common.{◌≡◌, refl, ℕ, ◌<◌, ◌&&◌, Bool, true, List, length, nat_le, slice_index, Option, None, Some, codes}
use Rattle.std.specs.List.{list_all}
use Rattle.std.specs.Fmt.{digits}
use Rattle.std.specs.Option.{is_none}
use Rattle.std.proofs.lemmas.Bool.{agree_below_at, and_parts, leb-true}
use Rattle.spl_text.specs.Bytes.{is_letter, is_name_byte}
use Rattle.spl_text.specs.Keyword.{keyword_kind}
use Rattle.spl_text.specs.Spans.{IsName}
use Rattle.spl_text.specs.declared.token.TokenKind.{TokenKind}
use Rattle.spl_gen.specs.Generated.{variable}

abbrev is_free : Option TokenKind → Bool
is_free o = is_none o

abbrev is_name : List ℕ → Bool
is_name w = is_letter (slice_index w 0) && (list_all is_name_byte w && (nat_le (length w) 64 && is_free (keyword_kind w)))

none_from : (o : Option TokenKind) → is_free o ≡ true → o ≡ None
none_from None e = refl
none_from (Some k) e = absurd cc

name_from : (w : List ℕ) → is_name w ≡ true → IsName w
name_from w e =
    let a = and_parts (is_letter (slice_index w 0)) (list_all is_name_byte w && (nat_le (length w) 64 && is_free (keyword_kind w))) e in
    let b = and_parts (list_all is_name_byte w) (nat_le (length w) 64 && is_free (keyword_kind w)) a.1 in
    let d = and_parts (nat_le (length w) 64) (is_free (keyword_kind w)) b.1 in
    record { first = a.0; rest = b.0; short = leb-true (length w) 64 d.0; free = none_from (keyword_kind w) d.1 }

pub a-name : (k : ℕ) → k < 42 → IsName (variable (codes "a") k)
unfolding digits
a-name k small = name_from (variable (codes "a") k) (agree_below_at (λ j. is_name (variable (codes "a") j)) (λ j. true) 42 k refl small)

pub b-name : (k : ℕ) → k < 42 → IsName (variable (codes "b") k)
unfolding digits
b-name k small = name_from (variable (codes "b") k) (agree_below_at (λ j. is_name (variable (codes "b") j)) (λ j. true) 42 k refl small)

pub c-name : (k : ℕ) → k < 42 → IsName (variable (codes "c") k)
unfolding digits
c-name k small = name_from (variable (codes "c") k) (agree_below_at (λ j. is_name (variable (codes "c") j)) (λ j. true) 42 k refl small)
