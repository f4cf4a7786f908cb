-- The dimensions of each procedure have names, and these differ.
use Rattle.std.proofs.Common.{◌≡◌, ℕ, zero, suc, ◌+◌, ◌<◌, ◌==◌, Bool, true, false, cond, if◌then◌else◌, List, [], ◌∷◌, ◌++◌, length, map, filter, get_or, codes, IsTrue, refl, sym, ap, ◌∙◌, subst, arith, append_assoc, length-append}
use Rattle.std.specs.List.{All, AllByRecursion, IsDistinct}
use Rattle.std.specs.Str.{bytes_eq}
use Rattle.std.proofs.lemmas.List.{length-map, map-append}
use Rattle.std.proofs.lemmas.List.Elements.{All-nil, All-cons, All-head, All-tail, All-append}
use Rattle.std.proofs.lemmas.Bool.{both_ways, or_left}
use Rattle.std.proofs.lemmas.Slice.Eq.{bytes_eq-Decides}
use Rattle.spl_text.specs.Bytes.{is_letter, is_digit, is_name_byte}
use Rattle.spl_text.specs.Spans.{TokensAreSpelled}
use Rattle.spl_tree.specs.Program.{Declared, Program}
use Rattle.spl_types.specs.Checks.{is_among, declared_names, Procedure, procedure_of, main_procedure, all_decls}
use Rattle.spl_types.specs.Dimensions.{targets_in, input_name, copied, dimensions_of, procedures, dimensions}
use Rattle.report.specs.Readable.{is_dimension_byte, IsDimensionName, DimensionsAreNamed}
use Rattle.report.proofs.ReadablePieces.{Passes, Passes-from_All, cancel}
use Rattle.report.proofs.Declared.{IsPlainName, DeclaresNames, all_named}
use Rattle.report.proofs.Kept.{DeclaresDistinct, all_distinct}

-- ---- names that differ

differs : (x : List ℕ) (names : List (List ℕ)) (v : ℕ) → v < length names → AllByRecursion (λ y. bytes_eq x y ≡ false) names → x ≡ get_or names v [] → ⊥
differs x [] v within h e = absurd (omega arith)
differs x (y ∷ ys) zero within h e = both_ways (bytes_eq x y) h.0 ((bytes_eq-Decides x y).1 e)
differs x (y ∷ ys) (suc v) within h e = differs x ys v (omega arith) h.1 e

-- variables of one name are one variable
pub variable_is : (names : List (List ℕ)) (v w : ℕ) → IsDistinct bytes_eq names → v < length names → w < length names → get_or names v [] ≡ get_or names w [] → v ≡ w
unfolding IsDistinct
variable_is [] v w h p q e = absurd (omega arith)
variable_is (x ∷ xs) zero zero h p q e = refl
variable_is (x ∷ xs) zero (suc w) h p q e = absurd (differs x xs w (omega arith) h.0 e)
variable_is (x ∷ xs) (suc v) zero h p q e = absurd (differs x xs v (omega arith) h.0 (sym e))
variable_is (x ∷ xs) (suc v) (suc w) h p q e = ap suc (variable_is xs v w h.1 (omega arith) (omega arith) e)

-- a name differs from each of some
abbrev Apart : List ℕ → List (List ℕ) → Type 0
Apart x ys = AllByRecursion (λ y. bytes_eq x y ≡ false) ys

abbrev AllApart : List (List ℕ) → List (List ℕ) → Type 0
AllApart [] ys = Unit {0}
AllApart (x ∷ xs) ys = Apart x ys × AllApart xs ys

other : (x y : List ℕ) → (x ≡ y → ⊥) → bytes_eq x y ≡ false
other x y h = by (bytes_eq x y) refl
  where
    by : (b : Bool) → bytes_eq x y ≡ b → bytes_eq x y ≡ false
    by true e = absurd (h ((bytes_eq-Decides x y).0 e))
    by false e = e

not_same : (x y : List ℕ) → bytes_eq x y ≡ false → x ≡ y → ⊥
not_same x y h e = both_ways (bytes_eq x y) h ((bytes_eq-Decides x y).1 e)

apart_append : (x : List ℕ) (ys zs : List (List ℕ)) → Apart x ys → Apart x zs → Apart x (ys ++ zs)
apart_append x [] zs h k = k
apart_append x (y ∷ ys) zs h k = (h.0, apart_append x ys zs h.1 k)

all_apart_append : (xs ys zs : List (List ℕ)) → AllApart xs ys → AllApart xs zs → AllApart xs (ys ++ zs)
all_apart_append [] ys zs h k = tt
all_apart_append (x ∷ xs) ys zs h k = (apart_append x ys zs h.0 k.0, all_apart_append xs ys zs h.1 k.1)

apart_filter : (t : List ℕ → Bool) (x : List ℕ) (ys : List (List ℕ)) → Apart x ys → Apart x (filter t ys)
apart_filter t x [] h = tt
apart_filter t x (y ∷ ys) h = by (t y) (apart_filter t x ys h.1)
  where
    by : (b : Bool) → Apart x (filter t ys) → Apart x (cond b (y ∷ filter t ys) (filter t ys))
    by true later = (h.0, later)
    by false later = later

all_apart_filter : (t : List ℕ → Bool) (xs ys : List (List ℕ)) → AllApart xs ys → AllApart xs (filter t ys)
all_apart_filter t [] ys h = tt
all_apart_filter t (x ∷ xs) ys h = (apart_filter t x ys h.0, all_apart_filter t xs ys h.1)

nothing_apart : (ys : List (List ℕ)) → AllApart ys []
nothing_apart [] = tt
nothing_apart (y ∷ ys) = (tt, nothing_apart ys)

apart_one : (x : List ℕ) (ys : List (List ℕ)) (xs : List (List ℕ)) → Apart x ys → AllApart ys xs → AllApart ys (x ∷ xs)
apart_one x [] xs h k = tt
apart_one x (y ∷ ys) xs h k = ((other y x (λ e. not_same x y h.0 (sym e)), k.0), apart_one x ys xs h.1 k.1)

apart_flip : (xs ys : List (List ℕ)) → AllApart xs ys → AllApart ys xs
apart_flip [] ys h = nothing_apart ys
apart_flip (x ∷ xs) ys h = apart_one x ys xs h.0 (apart_flip xs ys h.1)

apart_parts : (x : List ℕ) (ys zs : List (List ℕ)) → Apart x (ys ++ zs) → Apart x ys × Apart x zs
apart_parts x [] zs h = (tt, h)
apart_parts x (y ∷ ys) zs h = let r = apart_parts x ys zs h.1 in ((h.0, r.0), r.1)

distinct_parts : (xs ys : List (List ℕ)) → IsDistinct bytes_eq (xs ++ ys) → IsDistinct bytes_eq xs × IsDistinct bytes_eq ys × AllApart xs ys
unfolding IsDistinct
distinct_parts [] ys h = (tt, h, tt)
distinct_parts (x ∷ xs) ys h =
    let r = distinct_parts xs ys h.1 in
    let a = apart_parts x xs ys h.0 in
    ((a.0, r.0), r.1, (a.1, r.2))

distinct_append : (xs ys : List (List ℕ)) → IsDistinct bytes_eq xs → IsDistinct bytes_eq ys → AllApart xs ys → IsDistinct bytes_eq (xs ++ ys)
unfolding IsDistinct
distinct_append [] ys p q h = q
distinct_append (x ∷ xs) ys p q h = (apart_append x xs ys p.0 h.0, distinct_append xs ys p.1 q h.1)

distinct_filter : (t : List ℕ → Bool) (xs : List (List ℕ)) → IsDistinct bytes_eq xs → IsDistinct bytes_eq (filter t xs)
unfolding IsDistinct
distinct_filter t [] h = tt
distinct_filter t (x ∷ xs) h = by (t x) (distinct_filter t xs h.1)
  where
    by : (b : Bool) → IsDistinct bytes_eq (filter t xs) → IsDistinct bytes_eq (cond b (x ∷ filter t xs) (filter t xs))
    by true later = (apart_filter t x xs h.0, later)
    by false later = later

-- ---- the mark of an input that is a target

passes_name : (name : List ℕ) → IsPlainName name → Passes is_name_byte name
passes_name [] h = absurd h
passes_name (b ∷ bs) h = (or_left (is_letter b) (is_digit b) h.0, Passes-from_All is_name_byte bs h.1)

marked_fails : (x : List ℕ) → Passes is_name_byte (x ++ 64 ∷ []) → ⊥
marked_fails [] h = cc h.0
marked_fails (b ∷ x) h = marked_fails x h.1

-- a marked name is no plain one, and marked names differ where the names do
not_plain : (x y : List ℕ) → IsPlainName y → x ++ codes "@" ≡ y → ⊥
not_plain x y h e = marked_fails x (subst (Passes is_name_byte) (sym e) (passes_name y h))

unmarked : (x y : List ℕ) → IsPlainName x → IsPlainName y → x ++ codes "@" ≡ y ++ codes "@" → x ≡ y
unmarked x y h k e = (cancel is_name_byte x y (64 ∷ []) (64 ∷ []) (passes_name x h) (passes_name y k) refl refl e).0

same_input : (ts : List (List ℕ)) (x y : List ℕ) → IsPlainName x → IsPlainName y → input_name ts x ≡ input_name ts y → x ≡ y
same_input ts x y h k e = by (is_among x ts) (is_among y ts) e
  where
    by : (a b : Bool) → (if a then x ++ codes "@" else x) ≡ (if b then y ++ codes "@" else y) → x ≡ y
    by true true e = unmarked x y h k e
    by true false e = absurd (not_plain x y k e)
    by false true e = absurd (not_plain y x h (sym e))
    by false false e = e

-- a marked or unmarked input differs from a name from which the input differs
input_apart : (ts : List (List ℕ)) (x y : List ℕ) → IsPlainName y → bytes_eq x y ≡ false → bytes_eq (input_name ts x) y ≡ false
input_apart ts x y k h = by (is_among x ts) refl
  where
    by : (a : Bool) → is_among x ts ≡ a → bytes_eq (if a then x ++ codes "@" else x) y ≡ false
    by true e = other (x ++ codes "@") y (not_plain x y k)
    by false e = h

-- and from each name that is a target
target_apart : (ts : List (List ℕ)) (x y : List ℕ) → IsPlainName y → is_among y ts ≡ true → bytes_eq (input_name ts x) y ≡ false
target_apart ts x y k t = by (is_among x ts) refl
  where
    by : (a : Bool) → is_among x ts ≡ a → bytes_eq (if a then x ++ codes "@" else x) y ≡ false
    by true e = other (x ++ codes "@") y (not_plain x y k)
    by false e = other x y (λ same. both_ways (is_among x ts) e (ap (λ z. is_among z ts) same ∙ t))

abbrev AreNames : List (List ℕ) → Type 0
AreNames xs = All IsPlainName xs

map_apart : (ts : List (List ℕ)) (x : List ℕ) (ys : List (List ℕ)) → IsPlainName x → AreNames ys → Apart x ys → Apart (input_name ts x) (map (input_name ts) ys)
map_apart ts x [] h k a = tt
map_apart ts x (y ∷ ys) h k a =
    let y' = All-head IsPlainName y ys k in (
      other (input_name ts x) (input_name ts y) (λ e. not_same x y a.0 (same_input ts x y h y' e)),
      map_apart ts x ys h (All-tail IsPlainName y ys k) a.1,
    )

distinct_inputs : (ts xs : List (List ℕ)) → AreNames xs → IsDistinct bytes_eq xs → IsDistinct bytes_eq (map (input_name ts) xs)
unfolding IsDistinct
distinct_inputs ts [] k h = tt
distinct_inputs ts (x ∷ xs) k h =
    let rest = All-tail IsPlainName x xs k in
    (map_apart ts x xs (All-head IsPlainName x xs k) rest h.0, distinct_inputs ts xs rest h.1)

input_apart_all : (ts : List (List ℕ)) (x : List ℕ) (ys : List (List ℕ)) → AreNames ys → Apart x ys → Apart (input_name ts x) ys
input_apart_all ts x [] k a = tt
input_apart_all ts x (y ∷ ys) k a = (input_apart ts x y (All-head IsPlainName y ys k) a.0, input_apart_all ts x ys (All-tail IsPlainName y ys k) a.1)

inputs_apart : (ts xs ys : List (List ℕ)) → AreNames ys → AllApart xs ys → AllApart (map (input_name ts) xs) ys
inputs_apart ts [] ys k a = tt
inputs_apart ts (x ∷ xs) ys k a = (input_apart_all ts x ys k a.0, inputs_apart ts xs ys k a.1)

copy_apart : (ts : List (List ℕ)) (x : List ℕ) (ys : List (List ℕ)) → AreNames ys → Apart (input_name ts x) (filter (λ y. is_among y ts) ys)
copy_apart ts x [] k = tt
copy_apart ts x (y ∷ ys) k = by (is_among y ts) refl (copy_apart ts x ys (All-tail IsPlainName y ys k))
  where
    by : (b : Bool) → is_among y ts ≡ b → Apart (input_name ts x) (filter (λ z. is_among z ts) ys)
        → Apart (input_name ts x) (cond b (y ∷ filter (λ z. is_among z ts) ys) (filter (λ z. is_among z ts) ys))
    by true e later = (target_apart ts x y (All-head IsPlainName y ys k) e, later)
    by false e later = later

copies_apart : (ts xs ys : List (List ℕ)) → AreNames ys → AllApart (map (input_name ts) xs) (filter (λ y. is_among y ts) ys)
copies_apart ts [] ys k = tt
copies_apart ts (x ∷ xs) ys k = (copy_apart ts x ys k, copies_apart ts xs ys k)

-- inputs, then other names, then the copies
distinct_all : (ts ins outs locals : List (List ℕ)) → AreNames ins → AreNames outs → AreNames locals → IsDistinct bytes_eq (ins ++ (outs ++ locals))
    → IsDistinct bytes_eq (map (input_name ts) ins ++ (outs ++ (locals ++ filter (λ y. is_among y ts) ins)))
distinct_all ts ins outs locals i o l h =
    let copies = filter (λ y. is_among y ts) ins in
    let parts = distinct_parts ins (outs ++ locals) h in
    let names : AreNames (outs ++ locals) = All-append IsPlainName outs locals o l in
    let later : IsDistinct bytes_eq ((outs ++ locals) ++ copies) =
    distinct_append (outs ++ locals) copies parts.1 (distinct_filter (λ y. is_among y ts) ins parts.0)
    (all_apart_filter (λ y. is_among y ts) (outs ++ locals) ins (apart_flip ins (outs ++ locals) parts.2)) in
    let all : IsDistinct bytes_eq (map (input_name ts) ins ++ ((outs ++ locals) ++ copies)) =
    distinct_append (map (input_name ts) ins) ((outs ++ locals) ++ copies) (distinct_inputs ts ins i parts.0) later
    (all_apart_append (map (input_name ts) ins) (outs ++ locals) copies (inputs_apart ts ins (outs ++ locals) names parts.2) (copies_apart ts ins ins i)) in
    subst (λ xs. IsDistinct bytes_eq (map (input_name ts) ins ++ xs)) (append_assoc outs locals copies) all

-- ---- names of dimensions

weaker : (bs : List ℕ) → All (λ c. IsTrue (is_name_byte c)) bs → All (λ c. IsTrue (is_dimension_byte c)) bs
weaker [] h = All-nil (λ c. IsTrue (is_dimension_byte c))
weaker (b ∷ bs) h =
    All-cons (λ c. IsTrue (is_dimension_byte c)) b bs (or_left (is_name_byte b) (b == 64) (All-head (λ c. IsTrue (is_name_byte c)) b bs h))
    (weaker bs (All-tail (λ c. IsTrue (is_name_byte c)) b bs h))

plain_dimension : (x : List ℕ) → IsPlainName x → IsDimensionName x
plain_dimension [] h = absurd h
plain_dimension (b ∷ bs) h = (h.0, weaker bs h.1)

marked_dimension : (x : List ℕ) → IsPlainName x → IsDimensionName (x ++ codes "@")
marked_dimension [] h = absurd h
marked_dimension (b ∷ bs) h =
    let at : All (λ c. IsTrue (is_dimension_byte c)) (64 ∷ []) = All-cons (λ c. IsTrue (is_dimension_byte c)) 64 [] refl (All-nil (λ c. IsTrue (is_dimension_byte c))) in
    (h.0, All-append (λ c. IsTrue (is_dimension_byte c)) bs (64 ∷ []) (weaker bs h.1) at)

input_dimension : (ts : List (List ℕ)) (x : List ℕ) → IsPlainName x → IsDimensionName (input_name ts x)
input_dimension ts x h = by (is_among x ts)
  where
    by : (b : Bool) → IsDimensionName (if b then x ++ codes "@" else x)
    by true = marked_dimension x h
    by false = plain_dimension x h

inputs_named : (ts xs : List (List ℕ)) → AreNames xs → All IsDimensionName (map (input_name ts) xs)
inputs_named ts [] h = All-nil IsDimensionName
inputs_named ts (x ∷ xs) h =
    All-cons IsDimensionName (input_name ts x) (map (input_name ts) xs) (input_dimension ts x (All-head IsPlainName x xs h)) (inputs_named ts xs (All-tail IsPlainName x xs h))

all_plain : (xs : List (List ℕ)) → AreNames xs → All IsDimensionName xs
all_plain [] h = All-nil IsDimensionName
all_plain (x ∷ xs) h = All-cons IsDimensionName x xs (plain_dimension x (All-head IsPlainName x xs h)) (all_plain xs (All-tail IsPlainName x xs h))

filtered : (t : List ℕ → Bool) (xs : List (List ℕ)) → All IsDimensionName xs → All IsDimensionName (filter t xs)
filtered t [] h = h
filtered t (x ∷ xs) h = by (t x) (filtered t xs (All-tail IsDimensionName x xs h))
  where
    by : (b : Bool) → All IsDimensionName (filter t xs) → All IsDimensionName (cond b (x ∷ filter t xs) (filter t xs))
    by true later = All-cons IsDimensionName x (filter t xs) (All-head IsDimensionName x xs h) later
    by false later = later

pub procedure_names : (u : Procedure) → DeclaresNames u → All IsDimensionName (dimensions_of u)
unfolding dimensions_of
procedure_names u h =
    let copies = filtered (λ x. is_among x (targets_in u)) (declared_names u.inputs) (all_plain (declared_names u.inputs) h.inputs) in
    let locals = all_plain (declared_names u.locals) h.locals in
    let outputs = all_plain (declared_names u.outputs) h.outputs in
    All-append IsDimensionName (map (input_name (targets_in u)) (declared_names u.inputs)) (declared_names u.outputs ++ (declared_names u.locals ++ copied u))
    (inputs_named (targets_in u) (declared_names u.inputs) h.inputs)
    (All-append IsDimensionName (declared_names u.outputs) (declared_names u.locals ++ copied u) outputs
    (All-append IsDimensionName (declared_names u.locals) (copied u) locals copies))

procedure_distinct : (u : Procedure) → DeclaresNames u → DeclaresDistinct u → IsDistinct bytes_eq (dimensions_of u)
unfolding dimensions_of
procedure_distinct u h d =
    let name : Declared → List ℕ = λ (x : Declared). x.name.name in
    let e : declared_names (all_decls u) ≡ declared_names u.inputs ++ (declared_names u.outputs ++ declared_names u.locals) =
    map-append name u.inputs (u.outputs ++ u.locals) ∙ ap (λ xs. declared_names u.inputs ++ xs) (map-append name u.outputs u.locals) in
    distinct_all (targets_in u) (declared_names u.inputs) (declared_names u.outputs) (declared_names u.locals) h.inputs h.outputs h.locals (subst (IsDistinct bytes_eq) e d)

count : (p : Program) → length (procedures p) ≡ length p.procs + 1
count p = omega (arith, length-append (map procedure_of p.procs) (main_procedure p ∷ []), length-map p.procs procedure_of)

pub dimensions_named : TokensAreSpelled → DimensionsAreNamed
unfolding dimensions
dimensions_named spells bytes p k is kept l =
    let within : k < length (procedures p) = omega (arith, count p, l) in
    let named : DeclaresNames (get_or (procedures p) k (main_procedure p)) = all_named spells bytes p is k (main_procedure p) within in
    let distinct : DeclaresDistinct (get_or (procedures p) k (main_procedure p)) = all_distinct p kept k (main_procedure p) within in
    record { each = procedure_names (get_or (procedures p) k (main_procedure p)) named; distinct = procedure_distinct (get_or (procedures p) k (main_procedure p)) named distinct }
