-- A comment around a text without `*/` is one gap.
use Rattle.std.proofs.Common.{◌≡◌, ℕ, zero, suc, ◌+◌, ◌-◌, ◌<◌, ◌==◌, ◌&&◌, not, Bool, true, false, List, [], ◌∷◌, ◌++◌, length, slice_index, find, Some, option_map, arith, ap, sym, ◌∙◌, refl, append_assoc}
use Rattle.std.specs.List.{list_all, range_with_len}
use Rattle.std.specs.Option.{option_map_or}
use Rattle.std.proofs.lemmas.Bool.{and_parts, and_left, and_right, not-true}
use Rattle.std.proofs.lemmas.List.{length-append, length_push, get_or_append_left, get_or_at}
use Rattle.spl_text.specs.Gaps.{stand_at}
use Rattle.spl_text.specs.Pieces.{piece_at, block_at}
use Rattle.spl_text.specs.declared.text_rule.TextRule.TheVariants.{OpenComment}
use Rattle.spl_text.specs.declared.piece.Piece.TheVariants.{Gap, Broken}
use Rattle.read_back.specs.ReadsBack.{HasNoClose}
use Rattle.read_back.proofs.Lexemes.{Lexeme}
use Rattle.read_back.proofs.Words.{Reads, skips}

NoClose-head : (x : ℕ) (xs : List ℕ) → HasNoClose (x ∷ xs) → (x == 42 && slice_index xs 0 == 47) ≡ false
NoClose-head x xs h = h 0

NoClose-tail : (x : ℕ) (xs : List ℕ) → HasNoClose (x ∷ xs) → HasNoClose xs
NoClose-tail x xs h k = let e : suc k + 1 ≡ suc (k + 1) = omega arith in rw e at (h (suc k))

pub NoClose-cons : (x : ℕ) (xs : List ℕ) → (x == 42 && slice_index xs 0 == 47) ≡ false → HasNoClose xs → HasNoClose (x ∷ xs)
NoClose-cons x xs e h zero = e
NoClose-cons x xs e h (suc k) = let f : suc k + 1 ≡ suc (k + 1) = omega arith in rw f (h k)

pub NoClose-nil : HasNoClose []
NoClose-nil k = refl

-- what has no star before it
pub calm_then : (a b : List ℕ) → list_all (λ x. not (x == 42)) a ≡ true → HasNoClose b → HasNoClose (a ++ b)
calm_then [] b calm h = h
calm_then (x ∷ a) b calm h =
    let p = and_parts (not (x == 42)) (list_all (λ x. not (x == 42)) a) calm in
    NoClose-cons x (a ++ b) (and_left (x == 42) (slice_index (a ++ b) 0 == 47) (not-true (x == 42) p.0)) (calm_then a b p.1 h)

-- what no slash comes right after
pub then_other : (a b : List ℕ) → HasNoClose a → (slice_index b 0 == 47) ≡ false → HasNoClose b → HasNoClose (a ++ b)
then_other [] b ha e hb = hb
then_other (x ∷ []) b ha e hb = NoClose-cons x b (and_right (x == 42) (slice_index b 0 == 47) e) hb
then_other (x ∷ y ∷ a) b ha e hb = NoClose-cons x (y ∷ (a ++ b)) (NoClose-head x (y ∷ a) ha) (then_other (y ∷ a) b (NoClose-tail x (y ∷ a) ha) e hb)

find_first : (p : ℕ → Bool) (a m n : ℕ) → m < n → ((i : ℕ) → i < m → p (a + i) ≡ false) → p (a + m) ≡ true → find p (range_with_len a n) ≡ Some (a + m)
find_first p a m zero h before here = absurd (omega arith)
find_first p a zero (suc n) h before here =
    let z : a + 0 ≡ a = omega arith in
    let e : p a ≡ true = rw z at here in
    rw (z, e) refl
find_first p a (suc m) (suc n) h before here =
    let z : a + 0 ≡ a = omega arith in
    let e : p a ≡ false = rw z at (before 0 (omega arith)) in
    let s : a + 1 + m ≡ a + suc m = omega arith in
    let later = find_first p (a + 1) m n (omega arith) (λ i l. let t : a + 1 + i ≡ a + suc i = omega arith in rw t (before (suc i) (omega arith))) (rw s here) in
    rw e (later ∙ ap Some s)

behind : (u : List ℕ) (i : ℕ) → stand_at 42 47 (47 ∷ 42 ∷ u) (2 + i) ≡ stand_at 42 47 u i
behind u i =
    let a : 2 + i ≡ suc (suc i) = omega arith in
    let b : suc (suc i) + 1 ≡ suc (suc (i + 1)) = omega arith in
    rw (a, b) refl

inside_body : (body rest : List ℕ) → HasNoClose (body ++ 42 ∷ []) → (i : ℕ) → i < length body → stand_at 42 47 (body ++ 42 ∷ 47 ∷ rest) i ≡ false
inside_body body rest h i l =
    let e : body ++ 42 ∷ 47 ∷ rest ≡ (body ++ 42 ∷ []) ++ (47 ∷ rest) = sym (append_assoc body (42 ∷ []) (47 ∷ rest)) in
    let n = length_push body 42 in
    let a = get_or_append_left (body ++ 42 ∷ []) (47 ∷ rest) 0 i (omega arith) in
    let b = get_or_append_left (body ++ 42 ∷ []) (47 ∷ rest) 0 (i + 1) (omega arith) in
    rw (e, a, b) (h i)

at_close : (body rest : List ℕ) → stand_at 42 47 (body ++ 42 ∷ 47 ∷ rest) (length body) ≡ true
at_close body rest =
    let e : body ++ 42 ∷ 47 ∷ rest ≡ (body ++ 42 ∷ []) ++ 47 ∷ rest = sym (append_assoc body (42 ∷ []) (47 ∷ rest)) in
    let a : slice_index (body ++ 42 ∷ 47 ∷ rest) (length body) ≡ 42 = get_or_at body 42 (47 ∷ rest) 0 (length body) refl in
    let b : slice_index (body ++ 42 ∷ 47 ∷ rest) (length body + 1) ≡ 47 = rw e (get_or_at (body ++ 42 ∷ []) 47 rest 0 (length body + 1) (length_push body 42)) in
    rw (a, b) refl

choose_block : (t : List ℕ) → piece_at (47 ∷ 42 ∷ t) 0 ≡ block_at (47 ∷ 42 ∷ t) 0
unfolding piece_at
choose_block t = refl

comment_piece : (body rest : List ℕ) → HasNoClose (body ++ 42 ∷ []) → piece_at (47 ∷ 42 ∷ (body ++ 42 ∷ 47 ∷ rest)) 0 ≡ Gap (length body + 4)
comment_piece body rest h =
    let u = body ++ 42 ∷ 47 ∷ rest in
    let n = length (47 ∷ 42 ∷ u) - 2 in
    let l : length u ≡ length body + suc (suc (length rest)) = length-append body (42 ∷ 47 ∷ rest) in
    let found : find (stand_at 42 47 (47 ∷ 42 ∷ u)) (range_with_len 2 n) ≡ Some (2 + length body) =
    find_first (stand_at 42 47 (47 ∷ 42 ∷ u)) 2 (length body) n (omega arith) (λ i k. behind u i ∙ inside_body body rest h i k) (behind u (length body) ∙ at_close body rest) in
    let e : 2 + length body + 2 ≡ length body + 4 = omega arith in
    choose_block u ∙ ap (λ o. option_map_or Gap (option_map (λ close. close + 2) o) (Broken OpenComment)) found ∙ ap Gap e

pub read_comment : (w body rest : List ℕ) (ls : List Lexeme) → w ≡ 47 ∷ 42 ∷ (body ++ 42 ∷ 47 ∷ []) → HasNoClose (body ++ 42 ∷ []) → Reads rest ls → Reads (w ++ rest) ls
read_comment w body rest ls e h r =
    let n : length w ≡ length body + 4 = omega (arith, ap length e, length-append body (42 ∷ 47 ∷ [])) in
    let t : w ++ rest ≡ 47 ∷ 42 ∷ (body ++ 42 ∷ 47 ∷ rest) = ap (λ x. x ++ rest) e ∙ ap (λ x. 47 ∷ 42 ∷ x) (append_assoc body (42 ∷ 47 ∷ []) rest) in
    skips w rest ls (ap (λ x. piece_at x 0) t ∙ comment_piece body rest h ∙ ap Gap (sym n)) r
