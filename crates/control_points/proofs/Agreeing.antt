-- The names of dimensions are those that stand for them.
use Rattle.std.proofs.Common.{◌≡◌, ℕ, zero, suc, ◌+◌, ◌<◌, ◌≤◌, true, false, cond, List, [], ◌∷◌, ◌++◌, length, map, get_or, sym, ap, ◌∙◌, subst, arith, append_assoc, length-append, ◌⊎◌, inl, inr}
use Rattle.std.specs.Prelude.{codes}
use Rattle.std.proofs.lemmas.List.{length-map, map-append, get_or-append-add}
use Rattle.std.proofs.Math.ListN.{get_or-append}
use Rattle.spl_tree.specs.Program.{Declared}
use Rattle.spl_types.specs.Checks.{is_among, declared_names, Procedure, all_decls}
use Rattle.spl_types.specs.Dimensions.{targets_in, input_name, copied, dimensions_of, dimensions}
use Rattle.spl_types.proofs.Copying.{eq_same}
use Rattle.control_points.specs.CoreOf.{spoken_by, dimension_in, place_in}
use Rattle.control_points.specs.Laws.{DimensionsAreNamed}
use Rattle.control_points.specs.Routines.{procedure_at}
use Rattle.control_points.proofs.Framing.{placed, copied_dim, plain_dim, either, declared_split, dim_written}
use Rattle.control_points.proofs.Graphing.{Passes, filtered}

-- the item at the place of a name is the name
found : (names : List (List ℕ)) (x : List ℕ) → is_among x names ≡ true → get_or names (place_in names x) [] ≡ x
found names x h = let p = placed names x h in sym (eq_same x (get_or names (place_in names x) []) p.is)

-- a name that is no target, or is past the inputs, stays as it is
kept : (ts : List (List ℕ)) (ins rest : List (List ℕ)) (i : ℕ) (x : List ℕ) → get_or (ins ++ rest) i [] ≡ x → (is_among x ts ≡ false) ⊎ (length ins ≤ i) → get_or (map (input_name ts) ins ++ rest) i [] ≡ x
kept ts [] rest i x h o = h
kept ts (y ∷ ins) rest zero x h (inl n) =
    let e : is_among y ts ≡ false = ap (λ z. is_among z ts) h ∙ n in
    ap (λ b. cond b (y ++ codes "@") y) e ∙ h
kept ts (y ∷ ins) rest zero x h (inr l) = absurd (omega (arith, l))
kept ts (y ∷ ins) rest (suc i) x h (inl n) = kept ts ins rest i x h (inl n)
kept ts (y ∷ ins) rest (suc i) x h (inr l) = kept ts ins rest i x h (inr (omega (arith, l)))

-- an input that is a target has its name with `@`
marked : (ts : List (List ℕ)) (ins rest : List (List ℕ)) (i : ℕ) (x : List ℕ) → i < length ins → get_or ins i [] ≡ x → is_among x ts ≡ true → get_or (map (input_name ts) ins ++ rest) i [] ≡ x ++ codes "@"
marked ts [] rest i x lt h n = absurd (omega (arith, lt))
marked ts (y ∷ ins) rest zero x lt h n =
    let e : is_among y ts ≡ true = ap (λ z. is_among z ts) h ∙ n in
    ap (λ b. cond b (y ++ codes "@") y) e ∙ ap (λ z. z ++ codes "@") h
marked ts (y ∷ ins) rest (suc i) x lt h n = marked ts ins rest i x (omega (arith, lt)) h n

-- the names up to the working copies, and those
abbrev front : Procedure → List (List ℕ)
front u = map (input_name (targets_in u)) (declared_names u.inputs) ++ (declared_names u.outputs ++ declared_names u.locals)

parted : (u : Procedure) → dimensions_of u ≡ front u ++ copied u
unfolding dimensions_of
parted u =
    let named : List (List ℕ) = map (input_name (targets_in u)) (declared_names u.inputs) in
    let outs : List (List ℕ) = declared_names u.outputs in
    let locs : List (List ℕ) = declared_names u.locals in
    ap (λ l. named ++ l) (sym (append_assoc outs locs (copied u))) ∙ sym (append_assoc named (outs ++ locs) (copied u))

declared_parts : (u : Procedure) → declared_names (all_decls u) ≡ declared_names u.inputs ++ (declared_names u.outputs ++ declared_names u.locals)
declared_parts u = declared_split u ∙ ap (λ l. declared_names u.inputs ++ l) (map-append (λ (d : Declared). d.name.name) u.outputs u.locals)

front_length : (u : Procedure) → length (front u) ≡ length (declared_names (all_decls u))
front_length u =
    let ins : List (List ℕ) = declared_names u.inputs in
    let rest : List (List ℕ) = declared_names u.outputs ++ declared_names u.locals in
    omega (arith, ap length (declared_parts u), length-append ins rest, length-append (map (input_name (targets_in u)) ins) rest, length-map ins (input_name (targets_in u)))

-- a working copy is of an input that is a target
copy_passes : (u : Procedure) (x : List ℕ) → is_among x (copied u) ≡ true → Passes (λ y. is_among y (targets_in u)) (declared_names u.inputs) x
copy_passes u x h =
    let p = placed (copied u) x h in
    let P : List ℕ → Type 0 = Passes (λ y. is_among y (targets_in u)) (declared_names u.inputs) in
    subst P (found (copied u) x h) (filtered (λ y. is_among y (targets_in u)) (declared_names u.inputs) (place_in (copied u) x) [] p.within)

spoken : (u : Procedure) (x : List ℕ) → is_among x (declared_names (all_decls u)) ≡ true → get_or (dimensions_of u) (dimension_in (spoken_by u) x) [] ≡ x
spoken u x h = by (either (is_among x (copied u)))
  where
    by : (is_among x (copied u) ≡ true) ⊎ (is_among x (copied u) ≡ false) → get_or (dimensions_of u) (dimension_in (spoken_by u) x) [] ≡ x
    by (inl e) =
        let i : ℕ = place_in (copied u) x in
        let at : dimension_in (spoken_by u) x ≡ length (front u) + i = omega (arith, copied_dim (spoken_by u) x e, front_length u) in
        ap (λ l. get_or l (dimension_in (spoken_by u) x) []) (parted u)
        ∙ (ap (λ n. get_or (front u ++ copied u) n []) at
        ∙ (get_or-append-add (front u) (copied u) i []
        ∙ found (copied u) x e))
    by (inr e) =
        let names : List (List ℕ) = declared_names (all_decls u) in
        let ins : List (List ℕ) = declared_names u.inputs in
        let rest : List (List ℕ) = declared_names u.outputs ++ declared_names u.locals in
        let i : ℕ = place_in names x in
        let p = placed names x h in
        let at : dimension_in (spoken_by u) x ≡ i = plain_dim (spoken_by u) x e in
        let there : get_or (ins ++ rest) i [] ≡ x = ap (λ l. get_or l i []) (sym (declared_parts u)) ∙ found names x h in
        let o : (is_among x (targets_in u) ≡ false) ⊎ (length ins ≤ i) = past at (either (is_among x (targets_in u))) in
        ap (λ l. get_or l (dimension_in (spoken_by u) x) []) (parted u)
        ∙ (ap (λ n. get_or (front u ++ copied u) n []) at
        ∙ (get_or-append (front u) (copied u) [] i (omega (arith, p.within, front_length u))
        ∙ kept (targets_in u) ins rest i x there o))
      where
        past : dimension_in (spoken_by u) x ≡ place_in (declared_names (all_decls u)) x → (is_among x (targets_in u) ≡ true) ⊎ (is_among x (targets_in u) ≡ false) → (is_among x (targets_in u) ≡ false) ⊎ (length (declared_names u.inputs) ≤ place_in (declared_names (all_decls u)) x)
        past at (inl t) = inr (omega (arith, at, dim_written u x h t, length-map u.inputs (λ (d : Declared). d.name.name)))
        past at (inr f) = inl f

entry : (u : Procedure) (x : List ℕ) → is_among x (copied u) ≡ true → get_or (dimensions_of u) (place_in (declared_names u.inputs) x) [] ≡ x ++ codes "@"
entry u x h =
    let w = copy_passes u x h in
    let ins : List (List ℕ) = declared_names u.inputs in
    let rest : List (List ℕ) = declared_names u.outputs ++ declared_names u.locals in
    let p = placed ins x w.among in
    let i : ℕ = place_in ins x in
    ap (λ l. get_or l i []) (parted u)
    ∙ (get_or-append (front u) (copied u) [] i (omega (arith, p.within, length-map ins (input_name (targets_in u)), length-append (map (input_name (targets_in u)) ins) rest))
    ∙ marked (targets_in u) ins rest i x p.within (found ins x w.among) w.passes)

pub named : DimensionsAreNamed
unfolding dimensions
named p k = record { spoken = spoken (procedure_at p k); entry = entry (procedure_at p k) }
