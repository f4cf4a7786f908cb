-- No text of a report holds a star, so none ends its comment.
use Rattle.std.proofs.Common.{◌≡◌, ℕ, zero, suc, ◌==◌, not, Bool, true, false, List, [], ◌∷◌, ◌++◌, length, map, get_or, codes, decimal, Option, None, Some, ℤ, pos, negsuc, if◌then◌else◌, refl, ap, ◌∙◌, subst, append-nil}
use Rattle.std.specs.List.{All, list_all, flat_map, range_with_len}
use Rattle.std.proofs.lemmas.Bool.{and_from, both_ways, eqb-true}
use Rattle.std.proofs.lemmas.List.Elements.{All-nil, All-cons, All-head, All-tail, All-push}
use Rattle.oct_def.specs.Octagon.{Octagon}
use Rattle.spl_text.specs.Spans.{TokensAreSpelled}
use Rattle.spl_tree.specs.Program.{Program}
use Rattle.spl_types.specs.Checks.{Procedure, procedure_of, main_procedure}
use Rattle.spl_types.specs.Dimensions.{procedures, dimensions}
use Rattle.spl_core.specs.Graph.{Graph}
use Rattle.spl_print.specs.Canonical.{place_text}
use Rattle.control_points.specs.declared.built.Fail.{Fail}
use Rattle.control_points.specs.CoreOf.{core_of, fails_of}
use Rattle.read_back.specs.ReadsBack.{HasNoClose, CanonicalTextReadsBack}
use Rattle.read_back.proofs.Comments.{calm_then, NoClose-nil}
use Rattle.read_back.proofs.Numerals.{decimal_digits, digits_calm}
use Rattle.read_back.proofs.Written.{IsCalm, calm_append, place_calm}
use Rattle.report.specs.Listed.{Note, note_of}
use Rattle.report.specs.ConstraintText.{name_of, first_sign, next_sign, second_text, constant_text, relation_text, constraint_text, next_constraint_text, constraints_text, note_text}
use Rattle.call_graph.specs.Order.{is_entry}
use Rattle.report.specs.Points.{for_line, for_lines, names_at}
use Rattle.report.specs.Report.{is_bottom, point_text, verdict_text, fail_text, rounds_text, noted, report}
use Rattle.report.specs.ReadsBack.{IsSourceOf, ReportsReadBack}
use Rattle.report.specs.Readable.{is_dimension_byte, IsDimensionName}
use Rattle.report.specs.declared.constraint.Term.{Term}
use Rattle.report.specs.declared.constraint.Relation.{Relation}
use Rattle.report.specs.declared.constraint.Relation.TheVariants.{AtLeastZero, Zero}
use Rattle.report.specs.declared.constraint.Constraint.{Constraint}
use Rattle.report.proofs.ReadablePieces.{Passes}
use Rattle.report.proofs.ReadableNotes.{name_passes}
use Rattle.report.proofs.ReadableNames.{procedure_names}
use Rattle.report.proofs.Declared.{DeclaresNames, all_named}

-- ---- names

passes_calm : (p : ℕ → Bool) (xs : List ℕ) → p 42 ≡ false → Passes p xs → IsCalm xs
passes_calm p [] f h = refl
passes_calm p (x ∷ xs) f h = and_from (not (x == 42)) (list_all (λ y. not (y == 42)) xs) (by (x == 42) refl) (passes_calm p xs f h.1)
  where
    by : (b : Bool) → (x == 42) ≡ b → not (x == 42) ≡ true
    by true e = absurd (both_ways (p x) (ap p (eqb-true x 42 e) ∙ f) h.0)
    by false e = ap not e

name_calm : (names : List (List ℕ)) (v : ℕ) → All IsDimensionName names → IsCalm (name_of names v)
name_calm [] v h = refl
name_calm (x ∷ xs) zero h = passes_calm is_dimension_byte x refl (name_passes x (All-head IsDimensionName x xs h))
name_calm (x ∷ xs) (suc v) h = name_calm xs v (All-tail IsDimensionName x xs h)

-- ---- constraints

first_calm : (b : Bool) → IsCalm (first_sign b)
first_calm true = refl
first_calm false = refl

sign_calm : (b : Bool) → IsCalm (next_sign b)
sign_calm true = refl
sign_calm false = refl

second_calm : (names : List (List ℕ)) (t : Option Term) → All IsDimensionName names → IsCalm (second_text names t)
second_calm names None h = refl
second_calm names (Some t) h = calm_append (next_sign t.negative) (name_of names t.variable) (sign_calm t.negative) (name_calm names t.variable h)

number_calm : (n : ℕ) → IsCalm (decimal n)
number_calm n = digits_calm (decimal n) (decimal_digits n)

constant_calm : (z : ℤ) → IsCalm (constant_text z)
constant_calm (pos zero) = refl
constant_calm (pos (suc n)) = calm_append (codes "+") (decimal (suc n)) refl (number_calm (suc n))
constant_calm (negsuc n) = calm_append (codes "-") (decimal (suc n)) refl (number_calm (suc n))

relation_calm : (r : Relation) → IsCalm (relation_text r)
relation_calm AtLeastZero = refl
relation_calm Zero = refl

constraint_calm : (names : List (List ℕ)) (c : Constraint) → All IsDimensionName names → IsCalm (constraint_text names c)
constraint_calm names c h =
    let end = calm_append (constant_text c.constant) (relation_text c.relation) (constant_calm c.constant) (relation_calm c.relation) in
    let second = calm_append (second_text names c.second) (constant_text c.constant ++ relation_text c.relation) (second_calm names c.second h) end in
    let first = calm_append (name_of names c.first.variable) (second_text names c.second ++ (constant_text c.constant ++ relation_text c.relation)) (name_calm names c.first.variable h) second in
    calm_append (first_sign c.first.negative) (name_of names c.first.variable ++ (second_text names c.second ++ (constant_text c.constant ++ relation_text c.relation)))
    (first_calm c.first.negative) first

others_calm : (names : List (List ℕ)) (cs : List Constraint) → All IsDimensionName names → IsCalm (flat_map (next_constraint_text names) cs)
others_calm names [] h = refl
others_calm names (c ∷ cs) h =
    calm_append (next_constraint_text names c) (flat_map (next_constraint_text names) cs)
    (calm_append (codes "; ") (constraint_text names c) refl (constraint_calm names c h)) (others_calm names cs h)

constraints_calm : (names : List (List ℕ)) (cs : List Constraint) → All IsDimensionName names → IsCalm (constraints_text names cs)
constraints_calm names [] h = refl
constraints_calm names (c ∷ cs) h =
    let others = flat_map (next_constraint_text names) cs in
    calm_append (codes "[|") (constraint_text names c ++ (others ++ codes "|]")) refl
    (calm_append (constraint_text names c) (others ++ codes "|]") (constraint_calm names c h)
    (calm_append others (codes "|]") (others_calm names cs h) refl))

note_calm : (names : List (List ℕ)) (note : Note) → All IsDimensionName names → IsCalm (note_text names note)
note_calm names None h = refl
note_calm names (Some cs) h = constraints_calm names cs h

-- ---- the closing lines

verdict_calm : (b : Bool) → IsCalm (verdict_text b)
verdict_calm true = refl
verdict_calm false = refl

fail_calm : (bytes : List ℕ) (read : ℕ → Octagon) (f : Fail) → IsCalm (fail_text bytes read f)
fail_calm bytes read f =
    let verdict = verdict_text (is_bottom (read f.point)) in
    calm_append (codes "fail ") (place_text bytes f.offset ++ (codes ": " ++ verdict)) refl
    (calm_append (place_text bytes f.offset) (codes ": " ++ verdict) (place_calm bytes f.offset)
    (calm_append (codes ": ") verdict refl (verdict_calm (is_bottom (read f.point)))))

-- ---- the whole report

calm_closes_not : (text : List ℕ) → IsCalm text → HasNoClose text
calm_closes_not text h = subst HasNoClose (append-nil text) (calm_then text [] h NoClose-nil)

for_all_lines : (g : Graph) (f : ℕ → List ℕ) (ks : List ℕ) → ((k : ℕ) → HasNoClose (f k)) → All HasNoClose (flat_map (for_line g f) ks)
for_all_lines g f [] h = All-nil HasNoClose
for_all_lines g f (k ∷ ks) h = by (is_entry g k) (for_all_lines g f ks h)
  where
    by : (b : Bool) → All HasNoClose (flat_map (for_line g f) ks) → All HasNoClose ((if b then [] else f k ∷ []) ++ flat_map (for_line g f) ks)
    by true later = later
    by false later = All-cons HasNoClose (f k) (flat_map (for_line g f) ks) (h k) later

all_fails : (bytes : List ℕ) (read : ℕ → Octagon) (fails : List Fail) → All HasNoClose (map (fail_text bytes read) fails)
all_fails bytes read [] = All-nil HasNoClose
all_fails bytes read (f ∷ fails) =
    All-cons HasNoClose (fail_text bytes read f) (map (fail_text bytes read) fails) (calm_closes_not (fail_text bytes read f) (fail_calm bytes read f)) (all_fails bytes read fails)

last_of : (us : List Procedure) (u : Procedure) → All DeclaresNames (us ++ u ∷ []) → DeclaresNames u
last_of [] u h = All-head DeclaresNames u [] h
last_of (x ∷ us) u h = last_of us u (All-tail DeclaresNames x (us ++ u ∷ []) h)

any_procedure : (d : Procedure) (us : List Procedure) (i : ℕ) → DeclaresNames d → All DeclaresNames us → DeclaresNames (get_or us i d)
any_procedure d [] i main h = main
any_procedure d (u ∷ us) zero main h = All-head DeclaresNames u us h
any_procedure d (u ∷ us) (suc i) main h = any_procedure d us i main (All-tail DeclaresNames u us h)

-- the dimensions of any procedure have names; where there is none with the number, they are main's
any_dimensions : TokensAreSpelled → (bytes : List ℕ) (p : Program) (k : ℕ) → IsSourceOf bytes p → All IsDimensionName (dimensions p k)
unfolding dimensions
any_dimensions spells bytes p k is =
    let all = all_named spells bytes p is in
    let main : DeclaresNames (main_procedure p) = last_of (map procedure_of p.procs) (main_procedure p) all in
    procedure_names (get_or (procedures p) k (main_procedure p)) (any_procedure (main_procedure p) (procedures p) k main all)

pub reports_read_back : TokensAreSpelled → CanonicalTextReadsBack → ReportsReadBack
unfolding report for_lines
reports_read_back spells reads bytes full read rounds p is =
    let points = for_all_lines (core_of p) (point_text full read p) (range_with_len 0 (length (core_of p).owners))
    (λ k. calm_closes_not (point_text full read p k) (note_calm (names_at p k) (note_of full (read k)) (any_dimensions spells bytes p _ is))) in
    let last = calm_closes_not (rounds_text rounds) (calm_append (codes "rounds: ") (decimal rounds) refl (number_calm rounds)) in
    reads bytes bytes is.tokens p (noted bytes full read rounds p) is.cut is.unbroken is.derives points
    (All-push HasNoClose (map (fail_text bytes read) (fails_of p)) (rounds_text rounds) (all_fails bytes read (fails_of p)) last)
