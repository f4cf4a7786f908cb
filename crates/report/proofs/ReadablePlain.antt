-- What is listed of a value is plain.
use Rattle.std.proofs.Common.{ℕ, zero, suc, ◌+◌, ◌*◌, ◌<◌, Bool, true, false, cond, List, [], ◌∷◌, Option, None, Some, ℤ, pos, ◌+ℤ◌, if◌then◌else◌, arith}
use Rattle.std.proofs.lemmas.Int.{ints}
use Rattle.std.specs.Option.{option_map}
use Rattle.std.specs.List.{All, flat_map, range_with_len}
use Rattle.std.specs.Ordering.{int_eq}
use Rattle.std.proofs.lemmas.List.Elements.{All-nil, All-cons, All-append}
use Rattle.oct_def.specs.Bound.{Bound, half, InRange}
use Rattle.oct_def.specs.Table.{Matrix, at}
use Rattle.oct_def.specs.Octagon.{IsValueOver}
use Rattle.oct_def.proofs.Bounds.{half_low, half_high}
use Rattle.oct_def.specs.Tight.{implied_entry}
use Rattle.report.specs.Constraint.{opposite_term}
use Rattle.report.specs.Listed.{at_least, at_most_of, equal_to, between, plain, minus, same_bound, pair_bound, listed_pair, listed_alone, listed_variable, listed}
use Rattle.report.specs.Names.{IsSecondNamed}
use Rattle.report.specs.Readable.{IsPlain, IsPlainNote, NotesArePlain}
use Rattle.report.specs.declared.constraint.Term.{Term}
use Rattle.report.specs.declared.constraint.Constraint.{Constraint}
use Rattle.report.specs.declared.constraint.Sum.{Sum}

abbrev ArePlain : ℕ → List Constraint → Type 0
ArePlain n cs = All (IsPlain n) cs

-- ---- what is listed of a sum

-- each variable of a sum is below n
abbrev IsSumOver : ℕ → Sum → Type 0
IsSumOver n s = (s.first.variable < n) × IsSecondNamed n s.second

second-opposite : (n : ℕ) (t : Option Term) → IsSecondNamed n t → IsSecondNamed n (option_map opposite_term t)
second-opposite n None h = h
second-opposite n (Some t) h = h

plain_with : (n : ℕ) (c : Constraint) → c.first.variable < n → IsSecondNamed n c.second → InRange (Some c.constant) → IsPlain n c
plain_with n c first second range = record { named = (first, second); low = omega (arith, ints, range.0); high = omega (arith, ints, range.1) }

plain-at_least : (n : ℕ) (s : Sum) (b : ℤ) → IsSumOver n s → InRange (Some b) → IsPlain n (at_least s b)
plain-at_least n s b over range = plain_with n (at_least s b) over.0 over.1 range

plain-at_most : (n : ℕ) (s : Sum) (a : ℤ) → IsSumOver n s → InRange (Some a) → IsPlain n (at_most_of s a)
plain-at_most n s a over range = plain_with n (at_most_of s a) over.0 (second-opposite n s.second over.1) range

one : (n : ℕ) (c : Constraint) → IsPlain n c → ArePlain n (c ∷ [])
one n c h = All-cons (IsPlain n) c [] h (All-nil (IsPlain n))

plain-between : (n : ℕ) (s : Sum) (b a : Bound) → IsSumOver n s → InRange b → InRange a → ArePlain n (between s b a)
plain-between n s None None over p q = All-nil (IsPlain n)
plain-between n s (Some b) None over p q = one n (at_least s b) (plain-at_least n s b over p)
plain-between n s None (Some a) over p q = one n (at_most_of s a) (plain-at_most n s a over q)
plain-between n s (Some b) (Some a) over p q = by (int_eq (a +ℤ b) (pos 0))
  where
    by : (t : Bool) → ArePlain n (if t then equal_to s b ∷ [] else at_least s b ∷ (at_most_of s a ∷ []))
    by true = one n (equal_to s b) (plain_with n (equal_to s b) over.0 over.1 p)
    by false = All-cons (IsPlain n) (at_least s b) (at_most_of s a ∷ []) (plain-at_least n s b over p) (one n (at_most_of s a) (plain-at_most n s a over q))

-- ---- what is listed of a matrix

in_range-half : (a : Bound) → InRange a → InRange (half a)
in_range-half None h = h
in_range-half (Some x) h =
    let low = half_low x in
    let high = half_high x in
    (omega (arith, ints, h.0), omega (arith, ints, h.1))

in_range-pair : (full : Bool) (m : Matrix) (i j : ℕ) → InRange (at m i j) → InRange (pair_bound full m i j)
in_range-pair true m i j h = h
in_range-pair false m i j h = by (same_bound (at m i j) (implied_entry m i j))
  where
    by : (t : Bool) → InRange (cond t None (at m i j))
    by true = tt
    by false = h

plain-range : (n : ℕ) (f : ℕ → List Constraint) (a len : ℕ) → ((k : ℕ) → k < a + len → ArePlain n (f k)) → ArePlain n (flat_map f (range_with_len a len))
plain-range n f a zero h = All-nil (IsPlain n)
plain-range n f a (suc len) h =
    All-append (IsPlain n) (f a) (flat_map f (range_with_len (a + 1) len)) (h a (omega arith)) (plain-range n f (a + 1) len (λ k lt. h k (omega arith)))

plain-pair : (full : Bool) (n : ℕ) (m : Matrix) (v u : ℕ) → ((i j : ℕ) → InRange (at m i j)) → v < n → u < n → ArePlain n (listed_pair full m v u)
unfolding listed_pair
plain-pair full n m v u range p q =
    let pair = λ (i j : ℕ). in_range-pair full m i j (range i j) in
    All-append (IsPlain n) _ _
    (plain-between n (record { first = minus u; second = Some (plain v) }) (pair_bound full m (2 * v) (2 * u)) (pair_bound full m (2 * u) (2 * v)) (q, p) (pair (2 * v) (2 * u)) (pair (2 * u) (2 * v)))
    (plain-between n (record { first = plain u; second = Some (plain v) }) (pair_bound full m (2 * u) (2 * v + 1)) (pair_bound full m (2 * u + 1) (2 * v)) (q, p) (pair (2 * u) (2 * v + 1)) (pair (2 * u + 1) (2 * v)))

plain-alone : (n : ℕ) (m : Matrix) (v : ℕ) → ((i j : ℕ) → InRange (at m i j)) → v < n → ArePlain n (listed_alone m v)
unfolding listed_alone
plain-alone n m v range p =
    plain-between n (record { first = plain v; second = None }) (half (at m (2 * v) (2 * v + 1))) (half (at m (2 * v + 1) (2 * v))) (p, tt)
    (in_range-half (at m (2 * v) (2 * v + 1)) (range (2 * v) (2 * v + 1))) (in_range-half (at m (2 * v + 1) (2 * v)) (range (2 * v + 1) (2 * v)))

plain-variable : (full : Bool) (n : ℕ) (m : Matrix) (v : ℕ) → ((i j : ℕ) → InRange (at m i j)) → v < n → ArePlain n (listed_variable full m v)
unfolding listed_variable
plain-variable full n m v range p =
    All-append (IsPlain n) (flat_map (listed_pair full m v) (range_with_len 0 v)) (listed_alone m v)
    (plain-range n (listed_pair full m v) 0 v (λ u lt. plain-pair full n m v u range p (omega arith))) (plain-alone n m v range p)

plain-listed : (full : Bool) (n : ℕ) (m : Matrix) → ((i j : ℕ) → InRange (at m i j)) → ArePlain n (listed full n m)
unfolding listed
plain-listed full n m range = plain-range n (listed_variable full m) 0 n (λ v lt. plain-variable full n m v range (omega arith))

-- ---- what is said of a value

plain-note : (full : Bool) (n : ℕ) (m : Option Matrix) → IsValueOver n m → IsPlainNote n (option_map (listed full n) m)
plain-note full n None h = tt
plain-note full n (Some m) h = plain-listed full n m h.matrix.in_range

pub plain_notes : NotesArePlain
plain_notes full v h = plain-note full v.dims v.matrix h
