-- Inputs that become targets.
use Rattle.std.proofs.Common.{◌≡◌, ℕ, suc, zero, ◌+◌, ◌<◌, ◌≤◌, Bool, true, false, not, ◌||◌, cond, nat_lt, List, [], ◌∷◌, ◌++◌, length, take, map, get_or, count_by, position, Some, refl, sym, ap, ◌∙◌, subst, arith, length-append, Bor, if◌then◌else◌, replicate, ◌⊎◌, inl, inr}
use Rattle.std.proofs.Math.ListN.{set}
use Rattle.std.specs.List.{list_any}
use Rattle.std.specs.Str.{bytes_eq}
use Rattle.std.specs.Cmp.Lexicographic.{bytes_decides}
use Rattle.std.proofs.lemmas.List.{length-map, length-take, map-append, get_or-map, get_or-take, get_or_push}
use Rattle.std.proofs.Math.ListN.{get_or-append}
use Rattle.std.proofs.lemmas.Simd.{splat_is_map}
use Rattle.std.proofs.lemmas.List.Sums.{sum_by-append}
use Rattle.indexmap.specs.IndexSet.{insert_key}
use Rattle.spl_types.specs.declared.scope.Walk.{Walk}
use Rattle.spl_types.specs.Walking.{HasMet}
use Rattle.spl_types.specs.Checks.{Scope, Met, with_targets, is_among, dimension_count, has_room, most_dimensions}
use Rattle.spl_types.specs.Tables.{Distinct}
use Rattle.spl_types.proofs.Places.{FirstAt, place_found, any_along}

no_true : true ≡ false → ⊥
no_true q = cc

or_right : (a b : Bool) → (a || b) ≡ false → (a ≡ false) × (b ≡ false)
or_right true b h = absurd (no_true h)
or_right false b h = (refl, h)

or_assoc : (a b c : Bool) → (a || (b || c)) ≡ ((a || b) || c)
or_assoc true b c = refl
or_assoc false b c = refl

or_false : (a : Bool) → (a || false) ≡ a
or_false true = refl
or_false false = refl

or_true : (a : Bool) → (a || true) ≡ true
or_true true = refl
or_true false = refl

-- names that are the same, or not
pub eq_same : (x y : List ℕ) → bytes_eq x y ≡ true → x ≡ y
eq_same x y h = (bytes_decides x y).0 h

pub eq_refl : (x : List ℕ) → bytes_eq x x ≡ true
eq_refl x = (bytes_decides x x).1 refl

pub eq_swap : (x y : List ℕ) → bytes_eq x y ≡ false → bytes_eq y x ≡ false
eq_swap x y h = by (bytes_eq y x) refl
  where
    by : (b : Bool) → bytes_eq y x ≡ b → bytes_eq y x ≡ false
    by false e = e
    by true e = absurd (no_true (sym (ap (λ z. bytes_eq x z) (eq_same y x e) ∙ eq_refl x) ∙ h))

pub among_push : (y : List ℕ) (ts : List (List ℕ)) (x : List ℕ) → is_among y (ts ++ x ∷ []) ≡ (is_among y ts || bytes_eq y x)
among_push y [] x = or_false (bytes_eq y x)
among_push y (t ∷ ts) x = ap (λ b. bytes_eq y t || b) (among_push y ts x) ∙ or_assoc (bytes_eq y t) (is_among y ts) (bytes_eq y x)

-- which names are among targets, and how many
abbrev pub flags : List (List ℕ) → List (List ℕ) → List Bool
flags targets inputs = map (λ x. is_among x targets) inputs

abbrev pub copy_count : List (List ℕ) → List (List ℕ) → ℕ
copy_count targets inputs = count_by (λ x. is_among x targets) inputs

-- a name that isn't among these changes nothing
flags_elsewhere : (ts : List (List ℕ)) (x : List ℕ) (ys : List (List ℕ)) → is_among x ys ≡ false → flags (ts ++ x ∷ []) ys ≡ flags ts ys
flags_elsewhere ts x [] h = refl
flags_elsewhere ts x (y ∷ ys) h =
    let p = or_right (bytes_eq x y) (is_among x ys) h in
    let e : is_among y (ts ++ x ∷ []) ≡ is_among y ts = among_push y ts x ∙ (ap (λ b. is_among y ts || b) (eq_swap x y p.0) ∙ or_false (is_among y ts)) in
    ap (λ b. b ∷ flags (ts ++ x ∷ []) ys) e ∙ ap (λ l. is_among y ts ∷ l) (flags_elsewhere ts x ys p.1)

-- nor does one that is among the targets
flags_again : (ts : List (List ℕ)) (x : List ℕ) (ys : List (List ℕ)) → is_among x ts ≡ true → flags (ts ++ x ∷ []) ys ≡ flags ts ys
flags_again ts x [] h = refl
flags_again ts x (y ∷ ys) h = ap (λ b. b ∷ flags (ts ++ x ∷ []) ys) (among_push y ts x ∙ by (bytes_eq y x) refl) ∙ ap (λ l. is_among y ts ∷ l) (flags_again ts x ys h)
  where
    by : (b : Bool) → bytes_eq y x ≡ b → (is_among y ts || bytes_eq y x) ≡ is_among y ts
    by false e = ap (λ b. is_among y ts || b) e ∙ or_false (is_among y ts)
    by true e =
        let q : is_among y ts ≡ true = ap (λ z. is_among z ts) (eq_same y x e) ∙ h in
        ap (λ b. b || bytes_eq y x) q ∙ sym q

-- the count is that of the flags
abbrev pub trues : List Bool → ℕ
trues [] = 0
trues (b ∷ bs) = cond b 1 0 + trues bs

pub count_flags : (ts ys : List (List ℕ)) → copy_count ts ys ≡ trues (flags ts ys)
count_flags ts [] = refl
count_flags ts (y ∷ ys) =
    let p : List ℕ → Bool = λ x. is_among x ts in
    let e = sum_by-append (λ x. cond (p x) 1 0) (y ∷ []) ys in
    let f : copy_count ts (y ∷ []) ≡ cond (p y) 1 0 = omega arith in
    e ∙ (ap (λ n. n + copy_count ts ys) f ∙ ap (λ n. cond (p y) 1 0 + n) (count_flags ts ys))

-- a name that isn't among these is none of them
among_none : (x : List ℕ) (ys : List (List ℕ)) (j : ℕ) → is_among x ys ≡ false → j < length ys → bytes_eq x (get_or ys j []) ≡ false
among_none x [] j h lt = absurd (omega arith)
among_none x (y ∷ ys) zero h lt = (or_right (bytes_eq x y) (is_among x ys) h).0
among_none x (y ∷ ys) (suc j) h lt = among_none x ys j (or_right (bytes_eq x y) (is_among x ys) h).1 (omega arith)

-- a list without a name
none_among : (x : List ℕ) (ys : List (List ℕ)) → ((j : ℕ) → j < length ys → bytes_eq x (get_or ys j []) ≡ false) → is_among x ys ≡ false
none_among x [] h = refl
none_among x (y ∷ ys) h =
    ap (λ b. b || is_among x ys) (h 0 (omega arith))
    ∙ none_among x ys (λ j lt. h (suc j) (omega arith))

distinct_tail : (y : List ℕ) (ys : List (List ℕ)) → Distinct (y ∷ ys) → Distinct ys
distinct_tail y ys d = λ i j lt l. d (suc i) (suc j) (omega arith) (omega arith)

distinct_head : (y : List ℕ) (ys : List (List ℕ)) (j : ℕ) → Distinct (y ∷ ys) → j < length ys → bytes_eq y (get_or ys j []) ≡ false
distinct_head y ys j d lt = d 0 (suc j) (omega arith) (omega arith)

-- one that is there and wasn't a target
pub new_flag : (ts : List (List ℕ)) (x : List ℕ) (ys : List (List ℕ)) (k : ℕ) → k < length ys → get_or ys k [] ≡ x → Distinct ys → is_among x ts ≡ false → (flags (ts ++ x ∷ []) ys ≡ set (flags ts ys) k true) × (trues (flags (ts ++ x ∷ []) ys) ≡ trues (flags ts ys) + 1)
new_flag ts x [] k lt e d h = absurd (omega arith)
new_flag ts x (y ∷ ys) zero lt e d h =
    let none : is_among y ys ≡ false = none_among y ys (λ j l. distinct_head y ys j d l) in
    let old : is_among y ts ≡ false = ap (λ z. is_among z ts) e ∙ h in
    let now : is_among y (ts ++ x ∷ []) ≡ true = among_push y ts x ∙ (ap (λ b. is_among y ts || b) ((bytes_decides y x).1 e) ∙ or_true (is_among y ts)) in
    let rest : flags (ts ++ x ∷ []) ys ≡ flags ts ys = flags_elsewhere ts x ys (ap (λ z. is_among z ys) (sym e) ∙ none) in
    let more = ap {B = ℕ} (λ b. cond b 1 0) now in
    let less = ap {B = ℕ} (λ b. cond b 1 0) old in
    (ap (λ b. b ∷ flags (ts ++ x ∷ []) ys) now ∙ ap (λ l. true ∷ l) rest, omega (arith, ap trues rest, more, less))
new_flag ts x (y ∷ ys) (suc k) lt e d h =
    let l : k < length ys = omega (arith, lt) in
    let rest = new_flag ts x ys k l e (distinct_tail y ys d) h in
    let other : bytes_eq y x ≡ false = ap (λ z. bytes_eq y z) (sym e) ∙ distinct_head y ys k d l in
    let same : is_among y (ts ++ x ∷ []) ≡ is_among y ts = among_push y ts x ∙ (ap (λ b. is_among y ts || b) other ∙ or_false (is_among y ts)) in
    (ap (λ b. b ∷ flags (ts ++ x ∷ []) ys) same ∙ ap (λ m. is_among y ts ∷ m) rest.0, omega (arith, rest.1, ap {B = ℕ} (λ b. cond b 1 0) same))

-- the inputs among a procedure's variables
pub distinct_take : (n : ℕ) (ys : List (List ℕ)) → Distinct ys → Distinct (take n ys)
distinct_take n ys d = λ i j lt l.
    let few : j < n = omega (arith, length-take n ys) in
    let there : j < length ys = omega (arith, length-take n ys) in
    ap (λ z. bytes_eq z (get_or (take n ys) j [])) (get_or-take n ys i [] (omega arith))
    ∙ (ap (λ z. bytes_eq (get_or ys i []) z) (get_or-take n ys j [] few)
    ∙ d i j lt there)

-- what the number of a target says, among variables of which the first n are inputs
first_of : (declared : List (List ℕ)) (x : List ℕ) (k : ℕ) → position (bytes_eq x) declared ≡ Some k → FirstAt (bytes_eq x) declared [] k
first_of declared x k h = place_found (bytes_eq x) declared k [] h

pub is_no_input : (declared : List (List ℕ)) (n : ℕ) (ts : List (List ℕ)) (x : List ℕ) (k : ℕ) → position (bytes_eq x) declared ≡ Some k → length (flags ts (take n declared)) ≤ k → is_among x (take n declared) ≡ false
is_no_input declared n ts x k h le =
    let f = first_of declared x k h in
    f.before n (omega (arith, length-map (take n declared) (λ y. is_among y ts), length-take n declared, f.within))

pub record IsInput (declared : List (List ℕ)) (n : ℕ) (ts : List (List ℕ)) (x : List ℕ) (k : ℕ) : Type 0 where
  pub among : is_among x (take n declared) ≡ true
  pub there : k < length (take n declared)
  pub name : get_or (take n declared) k [] ≡ x
  pub flag : (d : Bool) → get_or (flags ts (take n declared)) k d ≡ is_among x ts

pub is_input : (declared : List (List ℕ)) (n : ℕ) (ts : List (List ℕ)) (x : List ℕ) (k : ℕ) → position (bytes_eq x) declared ≡ Some k → k < length (flags ts (take n declared)) → IsInput declared n ts x k
is_input declared n ts x k h lt =
    let f = first_of declared x k h in
    let l : k < length (take n declared) = omega (arith, length-map (take n declared) (λ y. is_among y ts)) in
    let m : k < n = omega (arith, length-take n declared) in
    let name : get_or (take n declared) k [] ≡ x = get_or-take n declared k [] m ∙ sym (eq_same x (get_or declared k []) f.passes) in
    record {
      among = f.among n m;
      there = l;
      name = name;
      flag = λ d. get_or-map (λ y. is_among y ts) (take n declared) k [] d l ∙ ap (λ y. is_among y ts) name;
    }

-- room
pub roomy_elsewhere : (c : Scope) (ts : List (List ℕ)) (x : List ℕ) → is_among x c.inputs ≡ false → has_room c ts x ≡ true
roomy_elsewhere c ts x h = ap (λ b. not b || is_among x ts || nat_lt (dimension_count c ts) most_dimensions) h

pub roomy_again : (c : Scope) (ts : List (List ℕ)) (x : List ℕ) → is_among x ts ≡ true → has_room c ts x ≡ true
roomy_again c ts x h = ap (λ b. not (is_among x c.inputs) || b || nat_lt (dimension_count c ts) most_dimensions) h ∙ by (not (is_among x c.inputs))
  where
    by : (b : Bool) → (b || true || nat_lt (dimension_count c ts) most_dimensions) ≡ true
    by true = refl
    by false = refl

pub room_of : (c : Scope) (ts : List (List ℕ)) (x : List ℕ) → is_among x c.inputs ≡ true → is_among x ts ≡ false → has_room c ts x ≡ nat_lt (dimension_count c ts) most_dimensions
room_of c ts x h g = ap (λ b. not b || is_among x ts || nat_lt (dimension_count c ts) most_dimensions) h ∙ ap (λ b. false || b || nat_lt (dimension_count c ts) most_dimensions) g

-- what was met, with the target
pub met_elsewhere : (c : Scope) (m : Met) (w : Walk) (x : List ℕ) → is_among x c.inputs ≡ false → HasMet c m w → HasMet c (with_targets m (x ∷ [])) w
met_elsewhere c m w x h g =
    let e = flags_elsewhere m.targets x c.inputs h in
    record { points = g.points; assigned = g.assigned ∙ sym e; dims = omega (arith, g.dims, count_flags m.targets c.inputs, count_flags (m.targets ++ x ∷ []) c.inputs, ap trues e) }

pub met_again : (c : Scope) (m : Met) (w : Walk) (x : List ℕ) → is_among x m.targets ≡ true → HasMet c m w → HasMet c (with_targets m (x ∷ [])) w
met_again c m w x h g =
    let e = flags_again m.targets x c.inputs h in
    record { points = g.points; assigned = g.assigned ∙ sym e; dims = omega (arith, g.dims, count_flags m.targets c.inputs, count_flags (m.targets ++ x ∷ []) c.inputs, ap trues e) }

pub met_first : (c : Scope) (m : Met) (w w' : Walk) (x : List ℕ) (k : ℕ) → k < length c.inputs → get_or c.inputs k [] ≡ x → Distinct c.inputs → is_among x m.targets ≡ false → w'.points ≡ w.points → w'.copies.assigned.items ≡ set w.copies.assigned.items k true → w'.copies.dims ≡ w.copies.dims + 1 → HasMet c m w → HasMet c (with_targets m (x ∷ [])) w'
met_first c m w w' x k lt e d h p a n g =
    let f = new_flag m.targets x c.inputs k lt e d h in
    record {
      points = p ∙ g.points;
      assigned = a ∙ (ap (λ l. set l k true) g.assigned ∙ sym f.0);
      dims = omega (arith, n, g.dims, count_flags m.targets c.inputs, count_flags (m.targets ++ x ∷ []) c.inputs, f.1);
    }

-- before any target
pub no_flags : (ys : List (List ℕ)) (n : ℕ) → length ys ≡ n → replicate n false ≡ flags [] ys
no_flags ys n h = splat_is_map ys n false h

no_trues : (ys : List (List ℕ)) → trues (flags [] ys) ≡ 0
no_trues [] = refl
no_trues (y ∷ ys) = omega (arith, no_trues ys)

pub no_copies : (ys : List (List ℕ)) → copy_count [] ys ≡ 0
no_copies ys = count_flags [] ys ∙ no_trues ys

-- one more name at the end
pub distinct_push : (ys : List (List ℕ)) (x : List ℕ) → Distinct ys → is_among x ys ≡ false → Distinct (ys ++ x ∷ [])
distinct_push ys x d h = λ i j lt l. by i j lt (last j (omega (arith, length-append ys (x ∷ []))))
  where
    last : (j : ℕ) → j < length ys + 1 → (j < length ys) ⊎ (j ≡ length ys)
    last j m = grind arith

    there : (i : ℕ) → i < length ys → get_or (ys ++ x ∷ []) i [] ≡ get_or ys i []
    there i m = get_or-append ys (x ∷ []) [] i m

    by : (i j : ℕ) → i < j → (j < length ys) ⊎ (j ≡ length ys) → bytes_eq (get_or (ys ++ x ∷ []) i []) (get_or (ys ++ x ∷ []) j []) ≡ false
    by i j lt (inl m) =
        ap (λ z. bytes_eq z (get_or (ys ++ x ∷ []) j [])) (there i (omega arith))
        ∙ (ap (λ z. bytes_eq (get_or ys i []) z) (there j m) ∙ d i j lt m)
    by i j lt (inr e) =
        ap (λ z. bytes_eq z (get_or (ys ++ x ∷ []) j [])) (there i (omega arith))
        ∙ (ap (λ z. bytes_eq (get_or ys i []) z) (get_or_push ys x [] j (sym e)) ∙ eq_swap x (get_or ys i []) (among_none x ys i h (omega arith)))

-- keys after one is inserted
pub kept_distinct : (ks ls : List (Bor (List ℕ))) (k : Bor (List ℕ)) → ls ≡ insert_key (λ (a b : Bor (List ℕ)). bytes_eq a.now b.now) ks k → Distinct (map (λ (b : Bor (List ℕ)). b.now) ks) → Distinct (map (λ (b : Bor (List ℕ)). b.now) ls)
kept_distinct ks ls k h d = by (list_any (λ (b : Bor (List ℕ)). bytes_eq k.now b.now) ks) refl
  where
    by : (b : Bool) → list_any (λ (b' : Bor (List ℕ)). bytes_eq k.now b'.now) ks ≡ b → Distinct (map (λ (b' : Bor (List ℕ)). b'.now) ls)
    by true e = let P : List (Bor (List ℕ)) → Type 0 = λ l. Distinct (map (λ (b : Bor (List ℕ)). b.now) l) in subst P (sym (h ∙ ap (λ b. if b then ks else ks ++ k ∷ []) e)) d
    by false e =
        let P : List (Bor (List ℕ)) → Type 0 = λ l. Distinct (map (λ (b : Bor (List ℕ)). b.now) l) in
        let Q : List (List ℕ) → Type 0 = λ l. Distinct l in
        let none = sym (any_along (λ (b : Bor (List ℕ)). bytes_eq k.now b.now) (bytes_eq k.now) (λ (b : Bor (List ℕ)). b.now) ks (λ b. refl)) ∙ e in
        subst P (sym (h ∙ ap (λ b. if b then ks else ks ++ k ∷ []) e)) (subst Q (sym (map-append (λ (b : Bor (List ℕ)). b.now) ks (k ∷ []))) (distinct_push (map (λ (b : Bor (List ℕ)). b.now) ks) k.now d none))
