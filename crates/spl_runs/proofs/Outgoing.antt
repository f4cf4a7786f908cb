-- The lists of the edges out of points, as one edge after the other is read.
use Rattle.std.proofs.Common.{◌≡◌, ◌≢◌, ℕ, suc, ◌+◌, ◌<◌, ◌≤◌, ◌⊎◌, inl, inr, Bool, true, false, cond, eqb, ne_eqb, List, [], ◌∷◌, ◌++◌, length, take, get_or, set, map, replicate, refl, sym, ap, ◌∙◌, subst, arith}
use Rattle.std.specs.Prelude.{nat_eq}
use Rattle.std.specs.List.{All, range_with_len}
use Rattle.std.proofs.lemmas.Bool.Decides.{eqb_tells}
use Rattle.std.proofs.lemmas.List.{append-nil, get_or-map, length-map, length-replicate, get_or-replicate, get_or-set_same, get_or-set_other, length-set}
use Rattle.std.proofs.lemmas.List.Elements.{All-filter, filter_more}
use Rattle.std.proofs.lemmas.List.FromFn.{length-map-range_with_len, get_or-map-range_with_len, fill_by_all}
use Rattle.spl_core.specs.declared.parts.Edge.{Edge}
use Rattle.spl_core.specs.Parts.{Parts, edge_at, no_edge}
use Rattle.spl_core.specs.Facts.{IsCore, EdgeFits}
use Rattle.spl_runs.specs.Leaving.{edges_out, leaving}

-- before the first edge
pub none_yet : (n : ℕ) → replicate n [] ≡ map (leaving []) (range_with_len 0 n)
none_yet n = fill_by_all (leaving []) (replicate n []) n [] (length-replicate n []) (λ i h. get_or-replicate n i [] [] h)

-- the next edge, which joins the list of its source
pub one_more : (xs : List Edge) (e n : ℕ) (x : Edge) (old new : List (List Edge)) (longer : List Edge) → e < length xs → x ≡ get_or xs e no_edge → x.source < n
    → old ≡ map (leaving (take e xs)) (range_with_len 0 n) → longer ≡ get_or old x.source [] ++ x ∷ [] → new ≡ set old x.source longer
    → new ≡ map (leaving (take (e + 1) xs)) (range_with_len 0 n)
one_more xs e n x old new longer lt is within before grew now = fill_by_all (leaving (take (e + 1) xs)) new n [] long each
  where
    old_long : length old ≡ n
    old_long = ap length before ∙ length-map-range_with_len (leaving (take e xs)) 0 n

    long : length new ≡ n
    long = ap length now ∙ length-set old x.source longer ∙ old_long

    was : (i : ℕ) → i < n → get_or old i [] ≡ leaving (take e xs) i
    was i h = ap (λ l. get_or l i []) before ∙ get_or-map-range_with_len (leaving (take e xs)) 0 n i i [] h (omega arith)

    by : (i : ℕ) → i < n → ((eqb x.source i ≡ true) × (x.source ≡ i)) ⊎ ((eqb x.source i ≡ false) × (x.source ≢ i)) → get_or new i [] ≡ leaving (take e xs) i ++ cond (eqb x.source i) (x ∷ []) []
    by i h (inl same) =
        ap (λ l. get_or l i []) now
        ∙ subst (λ k. get_or (set old x.source longer) k [] ≡ longer) same.1 (get_or-set_same old x.source longer [] (omega (arith, old_long)))
        ∙ grew ∙ ap (λ k. get_or old k [] ++ x ∷ []) same.1 ∙ ap (λ l. l ++ x ∷ []) (was i h)
        ∙ ap (λ l. leaving (take e xs) i ++ l) (sym (ap (λ (b : Bool). cond b (x ∷ []) []) same.0))
    by i h (inr other) =
        ap (λ l. get_or l i []) now ∙ get_or-set_other old x.source i longer [] (λ k. other.1 (sym k)) ∙ was i h
        ∙ sym (append-nil (leaving (take e xs) i)) ∙ ap (λ l. leaving (take e xs) i ++ l) (sym (ap (λ (b : Bool). cond b (x ∷ []) []) other.0))

    each : (i : ℕ) → i < n → get_or new i [] ≡ leaving (take (e + 1) xs) i
    each i h = by i h (eqb_tells x.source i) ∙ ap (λ (y : Edge). leaving (take e xs) i ++ cond (eqb y.source i) (y ∷ []) []) is ∙ sym (filter_more (λ (y : Edge). nat_eq y.source i) xs e no_edge lt)

-- the source of an edge is a point
pub source_below : (c : Parts) (e : ℕ) (x : Edge) → IsCore c → e < length c.edges → x ≡ edge_at c e → x.source < length c.owners
source_below c e x is lt found = subst (λ (y : Edge). y.source < length c.owners) (sym found) (is.edges e no_edge lt).source

-- there's a list for each point
pub lists_long : {V : Type 0} → (items : V → List Edge) (xs : List Edge) (n : ℕ) (lists : List V) → map items lists ≡ map (leaving xs) (range_with_len 0 n) → length lists ≡ n
lists_long items xs n lists h = sym (length-map lists items) ∙ ap length h ∙ length-map-range_with_len (leaving xs) 0 n

pub list_at : {V : Type 0} → (items : V → List Edge) (c : Parts) (lists : List V) (p : ℕ) (v : V) → map items lists ≡ edges_out c → p < length lists → v ≡ get_or lists p v → items v ≡ leaving c.edges p
unfolding edges_out
list_at items c lists p v h lt is =
    ap items is ∙ sym (get_or-map items lists p v [] lt) ∙ ap (λ l. get_or l p []) h
    ∙ get_or-map-range_with_len (leaving c.edges) 0 (length c.owners) p p [] (omega (arith, lists_long items c.edges (length c.owners) lists h, lt)) (omega arith)

-- each edge out of a point fits
pub leaving_fit : (c : Parts) (p : ℕ) → IsCore c → All (EdgeFits c) (leaving c.edges p)
leaving_fit c p is = All-filter (λ (e : Edge). nat_eq e.source p) (EdgeFits c) c.edges is.edges

-- no edge leaves a number that is no point
none_from : (n p : ℕ) (xs : List Edge) → n ≤ p → All (λ (e : Edge). e.source < n) xs → leaving xs p ≡ []
none_from n p [] l h = refl
none_from n p (x ∷ xs) l h =
    let d : x.source ≢ p = λ e. absurd (omega (arith, e, h 0 x (omega arith))) in
    ap (λ (b : Bool). cond b (x ∷ leaving xs p) (leaving xs p)) (ne_eqb x.source p d) ∙ none_from n p xs l (λ k e lt. h (suc k) e (omega (arith, lt)))

pub list_past : {V : Type 0} → (items : V → List Edge) (c : Parts) (lists : List V) (p : ℕ) → IsCore c → map items lists ≡ edges_out c → length lists ≤ p → leaving c.edges p ≡ []
unfolding edges_out
list_past items c lists p is h l =
    none_from (length c.owners) p c.edges (omega (arith, lists_long items c.edges (length c.owners) lists h, l)) (λ k d lt. (is.edges k d lt).source)
