-- What stands at an offset depends on what follows alone.
use Rattle.std.proofs.Common.{◌≡◌, ℕ, zero, suc, ◌+◌, ◌-◌, ◌==◌, not, Bool, true, false, cond, List, length, take, drop, slice_index, Option, None, Some, unwrap_or, option_map, find, arith, ap, refl}
use Rattle.std.specs.List.{prefix_len, range_with_len}
use Rattle.std.specs.Option.{option_map_or}
use Rattle.std.proofs.lemmas.List.{length-drop, get_or-drop}
use Rattle.spl_text.specs.Bytes.{is_blank, is_letter, is_digit, is_name_byte}
use Rattle.spl_text.specs.Gaps.{stand_at, past_line}
use Rattle.spl_text.specs.Words.{value_of_digits}
use Rattle.spl_text.specs.Keyword.{keyword_kind}
use Rattle.spl_text.specs.Signs.{short_sign, long_sign}
use Rattle.spl_text.specs.Pieces.{piece_at, block_at, sign_at, longest, taken}
use Rattle.spl_text.specs.declared.text_rule.TextRule.TheVariants.{OpenComment}
use Rattle.spl_text.specs.declared.piece.Piece.{Piece}
use Rattle.spl_text.specs.declared.piece.Piece.TheVariants.{Gap, Taken, Broken}
use Rattle.spl_text.specs.declared.token.TokenKind.{TokenKind}
use Rattle.spl_text.specs.declared.token.TokenKind.TheVariants.{Name, Number}

-- a piece, so much further on
abbrev pub moved : ℕ → Piece → Piece
moved at (Gap end) = Gap (at + end)
moved at (Taken t) = Taken (record { kind = t.kind; start = at + t.start; end = at + t.end })
moved at (Broken rule) = Broken rule

moved-cond : (at : ℕ) (b b' : Bool) (x x' y y' : Piece) → b ≡ b' → moved at x ≡ x' → moved at y ≡ y' → moved at (cond b x y) ≡ cond b' x' y'
moved-cond at b b' x x' y y' e f g = rw (← e) (by b)
  where
    by : (b : Bool) → moved at (cond b x y) ≡ cond b x' y'
    by true = f
    by false = g

moved-span : (at n : ℕ) (d : List ℕ) (f : List ℕ → TokenKind) → moved at (taken 0 (0 + n) (f (take (0 + n - 0) d))) ≡ taken at (at + n) (f (take (at + n - at) d))
moved-span at n d f =
    let a : 0 + n ≡ n = omega arith in
    let b : n - 0 ≡ n = omega arith in
    let c : at + n - at ≡ n = omega arith in
    let e : at + 0 ≡ at = omega arith in
    rw (a, b, c, e) refl

byte_moved : (bytes : List ℕ) (at k : ℕ) → slice_index (drop at bytes) k ≡ slice_index bytes (at + k)
byte_moved bytes at k = get_or-drop at bytes k 0

stand_moved : (x y : ℕ) (bytes : List ℕ) (at k : ℕ) → stand_at x y (drop at bytes) k ≡ stand_at x y bytes (at + k)
stand_moved x y bytes at k =
    let a = byte_moved bytes at k in
    let b = byte_moved bytes at (k + 1) in
    let c : at + (k + 1) ≡ at + k + 1 = omega arith in
    rw (a, b, c) refl

find_moved : (at : ℕ) (p q : ℕ → Bool) → ((k : ℕ) → q k ≡ p (at + k)) → (i n : ℕ)
    → option_map (λ k. at + k) (find q (range_with_len i n)) ≡ find p (range_with_len (at + i) n)
find_moved at p q same i zero = refl
find_moved at p q same i (suc n) =
    let c : at + (i + 1) ≡ at + i + 1 = omega arith in
    rw (same i) (by (p (at + i)) (rw c at (find_moved at p q same (i + 1) n)))
  where
    by : (b : Bool) → option_map (λ k. at + k) (find q (range_with_len (i + 1) n)) ≡ find p (range_with_len (at + i + 1) n)
        → option_map (λ k. at + k) (cond b (Some i) (find q (range_with_len (i + 1) n))) ≡ cond b (Some (at + i)) (find p (range_with_len (at + i + 1) n))
    by true e = refl
    by false e = e

block_moved : (bytes : List ℕ) (at : ℕ) → moved at (block_at (drop at bytes) 0) ≡ block_at bytes at
block_moved bytes at =
    let a = find_moved at (stand_at 42 47 bytes) (stand_at 42 47 (drop at bytes)) (λ k. stand_moved 42 47 bytes at k) 2 (length bytes - (at + 2)) in
    let n : length (drop at bytes) - 2 ≡ length bytes - (at + 2) = omega (arith, length-drop at bytes) in
    rw (← a, n) (by (find (stand_at 42 47 (drop at bytes)) (range_with_len 2 (length bytes - (at + 2)))))
  where
    by : (o : Option ℕ) → moved at (option_map_or Gap (option_map (λ close. close + 2) o) (Broken OpenComment))
        ≡ option_map_or Gap (option_map (λ close. close + 2) (option_map (λ k. at + k) o)) (Broken OpenComment)
    by None = refl
    by (Some k) = let e : at + (k + 2) ≡ at + k + 2 = omega arith in ap Gap e

line_moved : (bytes : List ℕ) (at : ℕ) → moved at (Gap (past_line (drop at bytes) 0)) ≡ Gap (past_line bytes at)
line_moved bytes at =
    let e : at + (0 + prefix_len (λ b. not (b == 10)) (drop at bytes)) ≡ at + prefix_len (λ b. not (b == 10)) (drop at bytes) = omega arith in
    ap Gap e

longest_moved : (at : ℕ) (long short : Option TokenKind) → moved at (longest 0 long short) ≡ longest at long short
longest_moved at (Some kind) short = let e : at + 0 ≡ at = omega arith in rw e refl
longest_moved at None (Some kind) = let e : at + 0 ≡ at = omega arith in rw e refl
longest_moved at None None = refl

sign_moved : (bytes : List ℕ) (at : ℕ) → moved at (sign_at (drop at bytes) 0) ≡ sign_at bytes at
sign_moved bytes at =
    let a = byte_moved bytes at 0 in
    let b = byte_moved bytes at 1 in
    let e : at + 0 ≡ at = omega arith in
    rw (a, b, e) (longest_moved at (long_sign (slice_index bytes at) (slice_index bytes (at + 1))) (short_sign (slice_index bytes at)))

pub piece_moved : (bytes : List ℕ) (at : ℕ) → moved at (piece_at (drop at bytes) 0) ≡ piece_at bytes at
unfolding piece_at
piece_moved bytes at =
    let z : at + 0 ≡ at = omega arith in
    let d = drop at bytes in
    let e : slice_index d 0 ≡ slice_index bytes at = rw z at (byte_moved bytes at 0) in
    let s : stand_at 47 47 d 0 ≡ stand_at 47 47 bytes at = rw z at (stand_moved 47 47 bytes at 0) in
    let t : stand_at 47 42 d 0 ≡ stand_at 47 42 bytes at = rw z at (stand_moved 47 42 bytes at 0) in
    moved-cond at (is_blank (slice_index d 0)) (is_blank (slice_index bytes at)) _ _ _ _ (ap is_blank e) refl
    (moved-cond at (stand_at 47 47 d 0) (stand_at 47 47 bytes at) _ _ _ _ s (line_moved bytes at)
    (moved-cond at (stand_at 47 42 d 0) (stand_at 47 42 bytes at) _ _ _ _ t (block_moved bytes at)
    (moved-cond at (is_letter (slice_index d 0)) (is_letter (slice_index bytes at)) _ _ _ _ (ap is_letter e)
    (moved-span at (prefix_len is_name_byte d) d (λ w. unwrap_or (keyword_kind w) Name))
    (moved-cond at (is_digit (slice_index d 0)) (is_digit (slice_index bytes at)) _ _ _ _ (ap is_digit e)
    (moved-span at (prefix_len is_digit d) d (λ w. Number (value_of_digits w)))
    (sign_moved bytes at)))))
