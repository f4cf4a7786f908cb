-- What names stand for in a procedure of an accepted program.
use Rattle.std.proofs.Common.{◌≡◌, ℕ, ◌+◌, ◌<◌, ◌≤◌, Bool, true, false, ◌&&◌, ◌||◌, ◌==◌, if◌then◌else◌, List, [], ◌∷◌, ◌++◌, length, get_or, filter, Option, Some, None, is_some, refl, sym, ap, ◌∙◌, arith, length-append, position, ◌⊎◌, inl, inr}
use Rattle.std.specs.Str.{bytes_eq}
use Rattle.std.proofs.lemmas.Bool.{eqb-true}
use Rattle.std.proofs.lemmas.List.{length-map, map-append}
use Rattle.std.proofs.Math.ListN.{get_or-append}
use Rattle.std.proofs.lemmas.List.Folds.{list_any_at}
use Rattle.spl_tree.specs.Program.{Declared, ProcMeaning}
use Rattle.spl_types.specs.Checks.{is_among, declared_names, proc_named, has_counts, Procedure, all_decls, scope_of}
use Rattle.spl_types.specs.Dimensions.{targets_in, copied, dimensions_of}
use Rattle.spl_types.specs.Tables.{proc_names}
use Rattle.spl_types.proofs.Accepting.{dims_count}
use Rattle.spl_types.proofs.Numbering.{no_proc as no_meaning}
use Rattle.spl_types.proofs.Copying.{eq_same, eq_refl}
use Rattle.spl_types.proofs.Places.{place_found, place_none, place_along, nothing_found}
use Rattle.spl_core.specs.declared.parts.Proc.{Proc}
use Rattle.control_points.specs.CoreOf.{Spoken, spoken_by, place_in, dimension_in}
use Rattle.spl_core.specs.Graph.{proc_in}
use Rattle.control_points.proofs.Naming.{place_there}
use Rattle.control_points.proofs.Fresh.{true_false}
use Rattle.control_points.proofs.Fitting.{Called, Frame}

-- ---- the place of a name that is there

pub record Place (names : List (List ℕ)) (x : List ℕ) : Type 0 where
  pub within : place_in names x < length names
  pub is : bytes_eq x (get_or names (place_in names x) []) ≡ true

pub placed : (names : List (List ℕ)) (x : List ℕ) → is_among x names ≡ true → Place names x
placed names x h = by (position (bytes_eq x) names) refl
  where
    by : (o : Option ℕ) → position (bytes_eq x) names ≡ o → Place names x
    by None e = absurd (true_false (sym h ∙ place_none (bytes_eq x) names e))
    by (Some k) e =
        let f = place_found (bytes_eq x) names k [] e in
        let at : place_in names x ≡ k = place_there names x k e in
        record { within = omega (arith, at, f.within); is = ap (λ n. bytes_eq x (get_or names n [])) at ∙ f.passes }

same_place : (names : List (List ℕ)) (x y : List ℕ) → is_among x names ≡ true → is_among y names ≡ true → place_in names x ≡ place_in names y → bytes_eq x y ≡ true
same_place names x y h g e =
    let p = placed names x h in
    let q = placed names y g in
    let a : x ≡ get_or names (place_in names x) [] = eq_same x (get_or names (place_in names x) []) p.is in
    let b : y ≡ get_or names (place_in names y) [] = eq_same y (get_or names (place_in names y) []) q.is in
    ap (bytes_eq x) (b ∙ (ap (λ n. get_or names n []) (sym e) ∙ sym a)) ∙ eq_refl x

-- in a list, the first part of which has no such name
past_first : (xs ys : List (List ℕ)) (x : List ℕ) → is_among x xs ≡ false → is_among x (xs ++ ys) ≡ true → length xs ≤ place_in (xs ++ ys) x
past_first xs ys x h g = by (split (place_in (xs ++ ys) x) (length xs))
  where
    split : (a b : ℕ) → (a < b) ⊎ (b ≤ a)
    split a b = grind arith

    by : (place_in (xs ++ ys) x < length xs) ⊎ (length xs ≤ place_in (xs ++ ys) x) → length xs ≤ place_in (xs ++ ys) x
    by (inr l) = l
    by (inl l) =
        let p = placed (xs ++ ys) x g in
        let e : get_or (xs ++ ys) (place_in (xs ++ ys) x) [] ≡ get_or xs (place_in (xs ++ ys) x) [] = get_or-append xs ys [] (place_in (xs ++ ys) x) l in
        absurd (true_false (sym (list_any_at (bytes_eq x) xs (place_in (xs ++ ys) x) [] l (ap (bytes_eq x) (sym e) ∙ p.is)) ∙ h))

-- ---- dimensions

pub copied_dim : (sp : Spoken) (x : List ℕ) → is_among x sp.copies ≡ true → dimension_in sp x ≡ length sp.declared + place_in sp.copies x
copied_dim sp x e = ap (λ b. if b then length sp.declared + place_in sp.copies x else place_in sp.declared x) e

pub plain_dim : (sp : Spoken) (x : List ℕ) → is_among x sp.copies ≡ false → dimension_in sp x ≡ place_in sp.declared x
plain_dim sp x e = ap (λ b. if b then length sp.declared + place_in sp.copies x else place_in sp.declared x) e

pub either : (b : Bool) → (b ≡ true) ⊎ (b ≡ false)
either true = inl refl
either false = inr refl

pub dim_below : (sp : Spoken) (x : List ℕ) → is_among x sp.declared ≡ true → dimension_in sp x < length sp.declared + length sp.copies
dim_below sp x h = by (either (is_among x sp.copies))
  where
    by : (is_among x sp.copies ≡ true) ⊎ (is_among x sp.copies ≡ false) → dimension_in sp x < length sp.declared + length sp.copies
    by (inl e) = omega (arith, copied_dim sp x e, (placed sp.copies x e).within)
    by (inr e) = omega (arith, plain_dim sp x e, (placed sp.declared x h).within)

dims_differ : (sp : Spoken) (x y : List ℕ) → is_among x sp.declared ≡ true → is_among y sp.declared ≡ true → dimension_in sp x ≡ dimension_in sp y → bytes_eq x y ≡ true
dims_differ sp x y h g w = by (either (is_among x sp.copies)) (either (is_among y sp.copies))
  where
    by : (is_among x sp.copies ≡ true) ⊎ (is_among x sp.copies ≡ false) → (is_among y sp.copies ≡ true) ⊎ (is_among y sp.copies ≡ false) → bytes_eq x y ≡ true
    by (inl e) (inl d) = let s : place_in sp.copies x ≡ place_in sp.copies y = omega (arith, w, copied_dim sp x e, copied_dim sp y d) in same_place sp.copies x y e d s
    by (inl e) (inr d) = absurd (omega (arith, w, copied_dim sp x e, plain_dim sp y d, (placed sp.declared y g).within))
    by (inr e) (inl d) = absurd (omega (arith, w, plain_dim sp x e, copied_dim sp y d, (placed sp.declared x h).within))
    by (inr e) (inr d) = same_place sp.declared x y h g (sym (plain_dim sp x e) ∙ (w ∙ plain_dim sp y d))

-- an input that is a target has a copy
filter_among : (p : List ℕ → Bool) (x : List ℕ) (xs : List (List ℕ)) → is_among x xs ≡ true → p x ≡ true → is_among x (filter p xs) ≡ true
filter_among p x [] h g = h
filter_among p x (y ∷ ys) h g = by (either (bytes_eq x y)) (either (p y)) (λ k. filter_among p x ys k g)
  where
    or_last : (a : Bool) → is_among x (filter p ys) ≡ true → (a || is_among x (filter p ys)) ≡ true
    or_last true e = refl
    or_last false e = e

    by : (bytes_eq x y ≡ true) ⊎ (bytes_eq x y ≡ false) → (p y ≡ true) ⊎ (p y ≡ false) → (is_among x ys ≡ true → is_among x (filter p ys) ≡ true) → is_among x (if p y then y ∷ filter p ys else filter p ys) ≡ true
    by (inl e) (inl d) r = ap (λ b. is_among x (if b then y ∷ filter p ys else filter p ys)) d ∙ ap (λ b. b || is_among x (filter p ys)) e
    by (inl e) (inr d) r = absurd (true_false (sym (ap p (sym (eq_same x y e)) ∙ g) ∙ d))
    by (inr e) (inl d) r = ap (λ b. is_among x (if b then y ∷ filter p ys else filter p ys)) d ∙ or_last (bytes_eq x y) (r (sym (ap (λ b. b || is_among x ys) e) ∙ h))
    by (inr e) (inr d) r = ap (λ b. is_among x (if b then y ∷ filter p ys else filter p ys)) d ∙ r (sym (ap (λ b. b || is_among x ys) e) ∙ h)

pub declared_split : (u : Procedure) → declared_names (all_decls u) ≡ declared_names u.inputs ++ declared_names (u.outputs ++ u.locals)
declared_split u = map-append (λ (d : Declared). d.name.name) u.inputs (u.outputs ++ u.locals)

pub dim_written : (u : Procedure) (x : List ℕ) → is_among x (declared_names (all_decls u)) ≡ true → is_among x (targets_in u) ≡ true → length u.inputs ≤ dimension_in (spoken_by u) x
dim_written u x h g = by (either (is_among x (copied u)))
  where
    by : (is_among x (copied u) ≡ true) ⊎ (is_among x (copied u) ≡ false) → length u.inputs ≤ dimension_in (spoken_by u) x
    by (inl e) = omega (arith, copied_dim (spoken_by u) x e, length-map (all_decls u) (λ (d : Declared). d.name.name), length-append u.inputs (u.outputs ++ u.locals))
    by (inr e) = other (either (is_among x (declared_names u.inputs)))
      where
        other : (is_among x (declared_names u.inputs) ≡ true) ⊎ (is_among x (declared_names u.inputs) ≡ false) → length u.inputs ≤ dimension_in (spoken_by u) x
        other (inl d) = absurd (true_false (sym (filter_among (λ y. is_among y (targets_in u)) x (declared_names u.inputs) d g) ∙ e))
        other (inr d) =
            let rest : List (List ℕ) = declared_names (u.outputs ++ u.locals) in
            let s = declared_split u in
            let p : length (declared_names u.inputs) ≤ place_in (declared_names u.inputs ++ rest) x = past_first (declared_names u.inputs) rest x d (sym (ap (is_among x) s) ∙ h) in
            let q : place_in (declared_names (all_decls u)) x ≡ place_in (declared_names u.inputs ++ rest) x = ap (λ l. place_in l x) s in
            omega (arith, plain_dim (spoken_by u) x e, p, q, length-map u.inputs (λ (d : Declared). d.name.name))

-- ---- procedures that are called

-- procedures of a core are those of a program, and main
pub record AreProcs (procs : List ProcMeaning) (cs : List Proc) : Type 0 where
  pub count : length cs ≡ length procs + 1
  pub inputs : (k : ℕ) (d : ProcMeaning) → k < length procs → (proc_in cs k).inputs ≡ length (get_or procs k d).inputs
  pub outputs : (k : ℕ) (d : ProcMeaning) → k < length procs → (proc_in cs k).outputs ≡ length (get_or procs k d).outputs

and_true : (a b : Bool) → (a && b) ≡ true → (a ≡ true) × (b ≡ true)
and_true true b h = (refl, h)
and_true false b h = absurd (true_false (sym h))

call_found : (procs : List ProcMeaning) (cs : List Proc) (x : List ℕ) (t a : ℕ) → AreProcs procs cs → is_some (proc_named procs x) ≡ true → has_counts (proc_named procs x) t a ≡ true → Called (proc_names procs) cs x t a
call_found procs cs x t a w h g = by (position (λ (p : ProcMeaning). bytes_eq x p.name.name) procs) refl
  where
    by : (o : Option ℕ) → position (λ (p : ProcMeaning). bytes_eq x p.name.name) procs ≡ o → Called (proc_names procs) cs x t a
    by None e = absurd (true_false (sym h ∙ ap is_some (nothing_found (λ (p : ProcMeaning). bytes_eq x p.name.name) procs e)))
    by (Some k) e =
        let f = place_found (λ (p : ProcMeaning). bytes_eq x p.name.name) procs k no_meaning e in
        let y : ProcMeaning = get_or procs k no_meaning in
        let at : place_in (proc_names procs) x ≡ k = place_there (proc_names procs) x k (sym (place_along (λ (p : ProcMeaning). bytes_eq x p.name.name) (bytes_eq x) (λ (p : ProcMeaning). p.name.name) procs (λ p. refl)) ∙ e) in
        let c : ((length y.outputs == t) && (length y.inputs == a)) ≡ true = sym (ap (λ o. has_counts o t a) f.found) ∙ g in
        let both = and_true (length y.outputs == t) (length y.inputs == a) c in
        let i : length y.inputs ≡ a = eqb-true (length y.inputs) a both.1 in
        let o : length y.outputs ≡ t = eqb-true (length y.outputs) t both.0 in
        record {
          in_range = omega (arith, at, f.within, w.count);
          args = sym i ∙ (sym (w.inputs k no_meaning f.within) ∙ ap (λ n. (proc_in cs n).inputs) (sym at));
          targets = sym o ∙ (sym (w.outputs k no_meaning f.within) ∙ ap (λ n. (proc_in cs n).outputs) (sym at));
        }

-- the frame of a procedure
pub framed : (procs : List ProcMeaning) (u : Procedure) (cs : List Proc) (q : Proc) → AreProcs procs cs → q.inputs ≡ length u.inputs → q.dims ≡ length (dimensions_of u) → Frame (spoken_by u) (scope_of procs u) (targets_in u) (proc_names procs) cs q
framed procs u cs q w i d = record {
  below = λ x h. omega (arith, d, dims_count u, dim_below (spoken_by u) x h);
  written = λ x h g. omega (arith, i, dim_written u x h g);
  differ = λ x y h g e. dims_differ (spoken_by u) x y h g e;
  called = λ x t a h g. call_found procs cs x t a w h g;
}
