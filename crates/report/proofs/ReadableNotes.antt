-- Two notes with one text are one note.
use Rattle.std.proofs.Common.{◌≡◌, ℕ, zero, suc, ◌<◌, ◌≤◌, ◌^◌, ◌==◌, ◌||◌, Bool, true, false, nat_le, ◌&&◌, List, [], ◌∷◌, ◌++◌, length, Option, None, Some, ℤ, pos, negsuc, neg_ℤ, ◌≤ℤ◌, decimal, codes, refl, sym, ap, ◌∙◌, subst, arith, append_assoc, inl, inr, ◌⊎◌}
use Rattle.std.specs.List.{All, flat_map}
use Rattle.std.proofs.lemmas.Int.{ints}
use Rattle.std.proofs.lemmas.List.Elements.{All-head, All-tail}
use Rattle.std.proofs.lemmas.Bool.{both_ways, true≢false, cases_Bool, or_cases, or_from, or_left, and_left, and_right, and_parts, leb-true, lt-leb, ne_eqb, eqb-true}
use Rattle.std.proofs.lemmas.Fmt.{decimal_injective}
use Rattle.spl_text.specs.Bytes.{is_letter, is_digit, is_name_byte}
use Rattle.report.specs.ConstraintText.{name_of, first_sign, next_sign, second_text, constant_text, relation_text, constraint_text, next_constraint_text, constraints_text}
use Rattle.report.specs.Names.{IsSecondNamed}
use Rattle.report.specs.Readable.{is_dimension_byte, IsDimensionName, AreDistinctNames, IsPlain, ConstraintTextsAreReadable, NoteTextsAreReadable}
use Rattle.report.specs.declared.constraint.Term.{Term}
use Rattle.report.specs.declared.constraint.Relation.{Relation}
use Rattle.report.specs.declared.constraint.Relation.TheVariants.{AtLeastZero, Zero}
use Rattle.report.specs.declared.constraint.Constraint.{Constraint}
use Rattle.report.proofs.ReadableNames.{variable_is}
use Rattle.report.proofs.ReadablePieces.{Passes, Stops, Begins, Begins-passes, Passes-from_All, head_is, tail_is, cons_is, cancel, decimal_digits}

-- ---- bytes of different classes

abbrev is_sign : ℕ → Bool
is_sign b = b == 43 || b == 45

letter_is_no_sign : (b : ℕ) → is_letter b ≡ true → is_sign b ≡ false
letter_is_no_sign b h = by (cases_Bool (is_sign b))
  where
    no : (is_sign b ≡ true) → ((b == 43) ≡ true) ⊎ ((b == 45) ≡ true) → ⊥
    no e (inl f) = true≢false (sym h ∙ ap is_letter (eqb-true b 43 f))
    no e (inr f) = true≢false (sym h ∙ ap is_letter (eqb-true b 45 f))

    by : (is_sign b ≡ true) ⊎ (is_sign b ≡ false) → is_sign b ≡ false
    by (inl e) = absurd (no e (or_cases (b == 43) (b == 45) e))
    by (inr e) = e

digit_is_no_letter : (b : ℕ) → is_digit b ≡ true → is_letter b ≡ false
digit_is_no_letter b h =
    let high : b ≤ 57 = leb-true b 57 (and_parts (nat_le 48 b) (nat_le b 57) h).1 in
    or_from ((nat_le 65 b && nat_le b 90) || (nat_le 97 b && nat_le b 122)) (b == 95)
    (or_from (nat_le 65 b && nat_le b 90) (nat_le 97 b && nat_le b 122)
    (and_left (nat_le 65 b) (nat_le b 90) (lt-leb 65 b (omega arith)))
    (and_left (nat_le 97 b) (nat_le b 122) (lt-leb 97 b (omega arith))))
    (ne_eqb b 95 (λ e. omega (arith, e, high)))

pub name_passes : (name : List ℕ) → IsDimensionName name → Passes is_dimension_byte name
name_passes [] h = absurd h
name_passes (b ∷ bs) h = (or_left (is_name_byte b) (b == 64) (or_left (is_letter b) (is_digit b) h.0), Passes-from_All is_dimension_byte bs h.1)

-- a name doesn't begin with a sign
name_is_unsigned : (name xs : List ℕ) → IsDimensionName name → Stops is_sign (name ++ xs)
name_is_unsigned [] xs h = absurd h
name_is_unsigned (b ∷ bs) xs h = letter_is_no_sign b h.0

-- ---- what may stand behind a name

-- a test that fails at each byte that may follow a name or a number
record FailsAtMarks (p : ℕ → Bool) : Type 0 where
  plus : p 43 ≡ false
  minus : p 45 ≡ false
  equals : p 61 ≡ false
  above : p 62 ≡ false

name_marks : FailsAtMarks is_dimension_byte
name_marks = record { plus = refl; minus = refl; equals = refl; above = refl }

relation_stops : (p : ℕ → Bool) → p 61 ≡ false → p 62 ≡ false → (a : Relation) (r : List ℕ) → Stops p (relation_text a ++ r)
relation_stops p equals above AtLeastZero r = above
relation_stops p equals above Zero r = equals

-- the constant, the relation and what follows
abbrev from_constant : ℤ → Relation → List ℕ → List ℕ
from_constant z a r = constant_text z ++ (relation_text a ++ r)

constant_stops : (p : ℕ → Bool) → FailsAtMarks p → (z : ℤ) (a : Relation) (r : List ℕ) → Stops p (from_constant z a r)
constant_stops p marks (pos zero) a r = relation_stops p marks.equals marks.above a r
constant_stops p marks (pos (suc n)) a r = marks.plus
constant_stops p marks (negsuc n) a r = marks.minus

sign_stops : (p : ℕ → Bool) → FailsAtMarks p → (b : Bool) (x r : List ℕ) → Stops p ((next_sign b ++ x) ++ r)
sign_stops p marks true x r = marks.minus
sign_stops p marks false x r = marks.plus

second_stops : (p : ℕ → Bool) → FailsAtMarks p → (names : List (List ℕ)) (t : Option Term) (z : ℤ) (a : Relation) (r : List ℕ)
    → Stops p (second_text names t ++ from_constant z a r)
second_stops p marks names None z a r = constant_stops p marks z a r
second_stops p marks names (Some t) z a r = sign_stops p marks t.negative (name_of names t.variable) (from_constant z a r)

-- ---- the relation

relation_apart : (a b : Relation) (r s : List ℕ) → relation_text a ++ r ≡ relation_text b ++ s → (a ≡ b) × (r ≡ s)
relation_apart AtLeastZero AtLeastZero r s e = (refl, tail_is (tail_is (tail_is e)))
relation_apart AtLeastZero Zero r s e = absurd (omega (arith, head_is e))
relation_apart Zero AtLeastZero r s e = absurd (omega (arith, head_is e))
relation_apart Zero Zero r s e = (refl, tail_is (tail_is e))

-- ---- the constant

-- a constant of a plain constraint
abbrev Fits : ℤ → Type 0
Fits z = (neg_ℤ (pos (2 ^ 63)) ≤ℤ z) × (z ≤ℤ pos (2 ^ 63))

-- a relation begins with no sign
unsigned : (a : Relation) (r xs : List ℕ) (x : ℕ) → is_sign x ≡ true → relation_text a ++ r ≡ x ∷ xs → ⊥
unsigned a r xs x sign e = both_ways (is_sign x) (subst (Stops is_sign) e (relation_stops is_sign refl refl a r)) sign

decimal_apart : (m n : ℕ) (a b : Relation) (r s : List ℕ) → m < 2 ^ 64 → n < 2 ^ 64
    → decimal m ++ (relation_text a ++ r) ≡ decimal n ++ (relation_text b ++ s) → (m ≡ n) × (relation_text a ++ r ≡ relation_text b ++ s)
decimal_apart m n a b r s p q e =
    let c = cancel is_digit (decimal m) (decimal n) (relation_text a ++ r) (relation_text b ++ s)
    (Begins-passes is_digit (decimal m) (decimal_digits m p)) (Begins-passes is_digit (decimal n) (decimal_digits n q))
    (relation_stops is_digit refl refl a r) (relation_stops is_digit refl refl b s) e in
    (decimal_injective m n p q c.0, c.1)

constant_apart : (y z : ℤ) (a b : Relation) (r s : List ℕ) → Fits y → Fits z → from_constant y a r ≡ from_constant z b s → (y ≡ z) × (relation_text a ++ r ≡ relation_text b ++ s)
constant_apart (pos zero) (pos zero) a b r s p q e = (refl, e)
constant_apart (pos zero) (pos (suc n)) a b r s p q e = absurd (unsigned a r _ 43 refl e)
constant_apart (pos zero) (negsuc n) a b r s p q e = absurd (unsigned a r _ 45 refl e)
constant_apart (pos (suc m)) (pos zero) a b r s p q e = absurd (unsigned b s _ 43 refl (sym e))
constant_apart (pos (suc m)) (pos (suc n)) a b r s p q e =
    let c = decimal_apart (suc m) (suc n) a b r s (omega (arith, ints, p.1)) (omega (arith, ints, q.1)) (tail_is e) in
    (ap pos c.0, c.1)
constant_apart (pos (suc m)) (negsuc n) a b r s p q e = absurd (omega (arith, head_is e))
constant_apart (negsuc m) (pos zero) a b r s p q e = absurd (unsigned b s _ 45 refl (sym e))
constant_apart (negsuc m) (pos (suc n)) a b r s p q e = absurd (omega (arith, head_is e))
constant_apart (negsuc m) (negsuc n) a b r s p q e =
    let c = decimal_apart (suc m) (suc n) a b r s (omega (arith, ints, p.0)) (omega (arith, ints, q.0)) (tail_is e) in
    let same : m ≡ n = omega (arith, c.0) in
    (ap negsuc same, c.1)

-- ---- the second term

-- a sign, and a letter behind it
starts_term : List ℕ → Bool
starts_term [] = false
starts_term (a ∷ []) = false
starts_term (a ∷ (b ∷ xs)) = is_sign a && is_letter b

number_is_no_term : (x : ℕ) (ds xs : List ℕ) → Begins is_digit is_digit ds → starts_term (x ∷ (ds ++ xs)) ≡ false
unfolding starts_term
number_is_no_term x [] xs h = absurd h
number_is_no_term x (d ∷ ds) xs h = and_right (is_sign x) (is_letter d) (digit_is_no_letter d h.0)

relation_is_no_term : (a : Relation) (r : List ℕ) → starts_term (relation_text a ++ r) ≡ false
unfolding starts_term
relation_is_no_term AtLeastZero r = refl
relation_is_no_term Zero r = refl

constant_is_no_term : (z : ℤ) (a : Relation) (r : List ℕ) → Fits z → starts_term (from_constant z a r) ≡ false
constant_is_no_term (pos zero) a r p = relation_is_no_term a r
constant_is_no_term (pos (suc n)) a r p = number_is_no_term 43 (decimal (suc n)) (relation_text a ++ r) (decimal_digits (suc n) (omega (arith, ints, p.1)))
constant_is_no_term (negsuc n) a r p = number_is_no_term 45 (decimal (suc n)) (relation_text a ++ r) (decimal_digits (suc n) (omega (arith, ints, p.0)))

term_starts : (b : Bool) (name xs : List ℕ) → IsDimensionName name → starts_term ((next_sign b ++ name) ++ xs) ≡ true
unfolding starts_term
term_starts b [] xs h = absurd h
term_starts true (x ∷ name) xs h = h.0
term_starts false (x ∷ name) xs h = h.0

sign_apart : (b c : Bool) (x y r s : List ℕ) → (next_sign b ++ x) ++ r ≡ (next_sign c ++ y) ++ s → (b ≡ c) × (x ++ r ≡ y ++ s)
sign_apart true true x y r s e = (refl, tail_is e)
sign_apart true false x y r s e = absurd (omega (arith, head_is e))
sign_apart false true x y r s e = absurd (omega (arith, head_is e))
sign_apart false false x y r s e = (refl, tail_is e)

name_at : (names : List (List ℕ)) (v : ℕ) → AreDistinctNames names → v < length names → IsDimensionName (name_of names v)
name_at names v ok within = ok.each v [] within

-- a name and what follows it
name_apart : (names : List (List ℕ)) (v w : ℕ) (r s : List ℕ) → AreDistinctNames names → v < length names → w < length names
    → Stops is_dimension_byte r → Stops is_dimension_byte s → name_of names v ++ r ≡ name_of names w ++ s → (v ≡ w) × (r ≡ s)
name_apart names v w r s ok p q f g e =
    let c = cancel is_dimension_byte (name_of names v) (name_of names w) r s
    (name_passes (name_of names v) (name_at names v ok p)) (name_passes (name_of names w) (name_at names w ok q)) f g e in
    (variable_is names v w ok.distinct p q c.0, c.1)

term_is : (b c : Bool) (v w : ℕ) → b ≡ c → v ≡ w → let t : Term = record { negative = b; variable = v } in t ≡ record { negative = c; variable = w }
term_is b c v w e f = cc

second_apart : (names : List (List ℕ)) (t u : Option Term) (y z : ℤ) (a b : Relation) (r s : List ℕ) → AreDistinctNames names
    → IsSecondNamed (length names) t → IsSecondNamed (length names) u → Fits y → Fits z
    → second_text names t ++ from_constant y a r ≡ second_text names u ++ from_constant z b s → (t ≡ u) × (from_constant y a r ≡ from_constant z b s)
second_apart names None None y z a b r s ok h k p q e = (refl, e)
second_apart names None (Some u) y z a b r s ok h k p q e =
    absurd (both_ways (starts_term (from_constant y a r)) (constant_is_no_term y a r p)
    (ap starts_term e ∙ term_starts u.negative (name_of names u.variable) (from_constant z b s) (name_at names u.variable ok k)))
second_apart names (Some t) None y z a b r s ok h k p q e =
    absurd (both_ways (starts_term (from_constant z b s)) (constant_is_no_term z b s q)
    (ap starts_term (sym e) ∙ term_starts t.negative (name_of names t.variable) (from_constant y a r) (name_at names t.variable ok h)))
second_apart names (Some t) (Some u) y z a b r s ok h k p q e =
    let sign = sign_apart t.negative u.negative (name_of names t.variable) (name_of names u.variable) (from_constant y a r) (from_constant z b s) e in
    let name = name_apart names t.variable u.variable (from_constant y a r) (from_constant z b s) ok h k
    (constant_stops is_dimension_byte name_marks y a r) (constant_stops is_dimension_byte name_marks z b s) sign.1 in
    (ap Some (term_is t.negative u.negative t.variable u.variable sign.0 name.0), name.1)

-- ---- a constraint

first_apart : (b c : Bool) (x y : List ℕ) → Stops is_sign x → Stops is_sign y → first_sign b ++ x ≡ first_sign c ++ y → (b ≡ c) × (x ≡ y)
first_apart true true x y h k e = (refl, tail_is e)
first_apart true false x y h k e = absurd (true≢false (subst (Stops is_sign) (sym e) k))
first_apart false true x y h k e = absurd (true≢false (subst (Stops is_sign) e h))
first_apart false false x y h k e = (refl, e)

regroup : (a b c d e r : List ℕ) → (a ++ (b ++ (c ++ (d ++ e)))) ++ r ≡ a ++ (b ++ (c ++ (d ++ (e ++ r))))
regroup a b c d e r = simp append_assoc refl

-- a constraint's text, and what follows
spelled : (names : List (List ℕ)) (c : Constraint) (r : List ℕ) → constraint_text names c ++ r
    ≡ first_sign c.first.negative ++ (name_of names c.first.variable ++ (second_text names c.second ++ from_constant c.constant c.relation r))
spelled names c r = regroup (first_sign c.first.negative) (name_of names c.first.variable) (second_text names c.second) (constant_text c.constant) (relation_text c.relation) r

constraint_is : (f g : Term) (t u : Option Term) (y z : ℤ) (a b : Relation) → f ≡ g → t ≡ u → y ≡ z → a ≡ b
    → let c : Constraint = record { first = f; second = t; constant = y; relation = a } in c ≡ record { first = g; second = u; constant = z; relation = b }
constraint_is f g t u y z a b d e h k = cc

constraint_apart : (names : List (List ℕ)) (c d : Constraint) (r s : List ℕ) → AreDistinctNames names → IsPlain (length names) c → IsPlain (length names) d
    → constraint_text names c ++ r ≡ constraint_text names d ++ s → (c ≡ d) × (r ≡ s)
constraint_apart names c d r s ok p q e =
    let rest_c = second_text names c.second ++ from_constant c.constant c.relation r in
    let rest_d = second_text names d.second ++ from_constant d.constant d.relation s in
    let fits_c : Fits c.constant = (p.low, p.high) in
    let fits_d : Fits d.constant = (q.low, q.high) in
    let sign = first_apart c.first.negative d.first.negative (name_of names c.first.variable ++ rest_c) (name_of names d.first.variable ++ rest_d)
    (name_is_unsigned (name_of names c.first.variable) rest_c (name_at names c.first.variable ok p.named.0))
    (name_is_unsigned (name_of names d.first.variable) rest_d (name_at names d.first.variable ok q.named.0))
    (sym (spelled names c r) ∙ e ∙ spelled names d s) in
    let name = name_apart names c.first.variable d.first.variable rest_c rest_d ok p.named.0 q.named.0
    (second_stops is_dimension_byte name_marks names c.second c.constant c.relation r)
    (second_stops is_dimension_byte name_marks names d.second d.constant d.relation s) sign.1 in
    let second = second_apart names c.second d.second c.constant d.constant c.relation d.relation r s ok p.named.1 q.named.1 fits_c fits_d name.1 in
    let constant = constant_apart c.constant d.constant c.relation d.relation r s fits_c fits_d second.1 in
    let relation = relation_apart c.relation d.relation r s constant.1 in (
      constraint_is c.first d.first c.second d.second c.constant d.constant c.relation d.relation
          (term_is c.first.negative d.first.negative c.first.variable d.first.variable sign.0 name.0) second.0 constant.0 relation.0,
      relation.1,
    )

pub readable_constraints : ConstraintTextsAreReadable
readable_constraints names a b ok p q e = (constraint_apart names a b [] [] ok p q (ap (λ x. x ++ []) e)).0

-- ---- a note

abbrev others : List (List ℕ) → List Constraint → List ℕ
others names cs = flat_map (next_constraint_text names) cs ++ codes "|]"

others_apart : (names : List (List ℕ)) (cs ds : List Constraint) → AreDistinctNames names → All (IsPlain (length names)) cs → All (IsPlain (length names)) ds
    → others names cs ≡ others names ds → cs ≡ ds
others_apart names [] [] ok p q e = refl
others_apart names [] (d ∷ ds) ok p q e = absurd (omega (arith, head_is e))
others_apart names (c ∷ cs) [] ok p q e = absurd (omega (arith, head_is e))
others_apart names (c ∷ cs) (d ∷ ds) ok p q e =
    let f = sym (append_assoc (constraint_text names c) (flat_map (next_constraint_text names) cs) (codes "|]")) ∙ tail_is (tail_is e)
    ∙ append_assoc (constraint_text names d) (flat_map (next_constraint_text names) ds) (codes "|]") in
    let here = constraint_apart names c d (others names cs) (others names ds) ok
    (All-head (IsPlain (length names)) c cs p) (All-head (IsPlain (length names)) d ds q) f in
    cons_is here.0 (others_apart names cs ds ok (All-tail (IsPlain (length names)) c cs p) (All-tail (IsPlain (length names)) d ds q) here.1)

listed_apart : (names : List (List ℕ)) (cs ds : List Constraint) → AreDistinctNames names → All (IsPlain (length names)) cs → All (IsPlain (length names)) ds
    → constraints_text names cs ≡ constraints_text names ds → cs ≡ ds
listed_apart names [] [] ok p q e = refl
listed_apart names [] (d ∷ ds) ok p q e = absurd (omega (arith, head_is e))
listed_apart names (c ∷ cs) [] ok p q e = absurd (omega (arith, head_is e))
listed_apart names (c ∷ cs) (d ∷ ds) ok p q e =
    let here = constraint_apart names c d (others names cs) (others names ds) ok
    (All-head (IsPlain (length names)) c cs p) (All-head (IsPlain (length names)) d ds q) (tail_is (tail_is e)) in
    cons_is here.0 (others_apart names cs ds ok (All-tail (IsPlain (length names)) c cs p) (All-tail (IsPlain (length names)) d ds q) here.1)

-- `bottom` is no list
bottom_is_no_list : (names : List (List ℕ)) (cs : List Constraint) → codes "bottom" ≡ constraints_text names cs → ⊥
bottom_is_no_list names [] e = omega (arith, head_is e)
bottom_is_no_list names (c ∷ cs) e = omega (arith, head_is e)

pub readable_notes : NoteTextsAreReadable
readable_notes names None None ok p q e = refl
readable_notes names None (Some ds) ok p q e = absurd (bottom_is_no_list names ds e)
readable_notes names (Some cs) None ok p q e = absurd (bottom_is_no_list names cs (sym e))
readable_notes names (Some cs) (Some ds) ok p q e = ap Some (listed_apart names cs ds ok p q e)
