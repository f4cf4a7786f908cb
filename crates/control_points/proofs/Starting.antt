-- The start of a procedure: its pairs, and what is added by it.
use Rattle.std.proofs.Common.{◌≡◌, ℕ, suc, ◌+◌, ◌-◌, ◌%◌, ◌<◌, ◌≤◌, true, false, not, ◌||◌, cond, List, [], ◌∷◌, ◌++◌, length, map, take, drop, get_or, refl, sym, ap, ◌∙◌, subst, arith, append_assoc, ◌⊎◌, inl, inr}
use Rattle.std.specs.List.{All}
use Rattle.std.specs.Str.{bytes_eq}
use Rattle.std.proofs.lemmas.List.{take_more, take_all}
use Rattle.std.proofs.lemmas.List.{map-append}
use Rattle.spl_types.specs.Checks.{is_among, declared_names, Procedure, all_decls, Met, met_by, with_point, met_before}
use Rattle.spl_tree.specs.Program.{Program, BlockTree}
use Rattle.spl_types.specs.Dimensions.{targets_in, copied, dimensions_of, dimensions}
use Rattle.spl_types.proofs.Accepting.{dims_count}
use Rattle.spl_core.specs.declared.parts.Proc.{Proc}
use Rattle.control_points.specs.Routines.{procedure_at}
use Rattle.control_points.proofs.Tabling.{copies_last}
use Rattle.spl_core.specs.Graph.{Copy, pairs_in, starts}
use Rattle.control_points.specs.CoreOf.{copy_of, Spoken, spoken_by, Naming, arc, place_in, dimension_in, start_copies, block_arcs, block_fails, points_by, proc_of}
use Rattle.spl_core.specs.Parts.{Parts}
use Rattle.control_points.specs.declared.built.Fail.{Fail}
use Rattle.control_points.specs.Building.{Building, Adds, arcs_in}
use Rattle.control_points.specs.Emitting.{copy_named, copies_named, EmitsBlock, AddsProcedure}
use Rattle.control_points.proofs.Framing.{either, declared_split}
use Rattle.control_points.proofs.Fresh.{true_false}
use Rattle.control_points.proofs.Graphing.{filtered, two_points}
use Rattle.control_points.proofs.Storing.{adds_then}

-- the dimensions of pairs, one after the other
abbrev pub flat : List Copy → List ℕ
flat [] = []
flat (k ∷ ks) = k.target ∷ k.origin ∷ flat ks

pub flat_pairs : (ks : List Copy) → pairs_in (flat ks) ≡ ks
flat_pairs [] = refl
flat_pairs (k ∷ ks) = ap (λ l. k ∷ l) (flat_pairs ks)

pub flat_even : (ks : List Copy) → length (flat ks) % 2 ≡ 0
flat_even [] = refl
flat_even (k ∷ ks) = omega (arith, flat_even ks)

flat_more : (ks : List Copy) (k : Copy) → flat (ks ++ k ∷ []) ≡ flat ks ++ (k.target ∷ k.origin ∷ [])
flat_more [] k = refl
flat_more (x ∷ ks) k = ap (λ l. x.target ∷ x.origin ∷ l) (flat_more ks k)

-- a pair more
pub pairs_more : (sp : Spoken) (xs : List (List ℕ)) (k v w : ℕ) (x : List ℕ) (ds es fs gs : List ℕ) → k < length xs → get_or xs k [] ≡ x → v ≡ dimension_in sp x → w ≡ place_in sp.declared x
    → es ≡ ds ++ flat (copies_named sp (take k xs)) → fs ≡ es ++ v ∷ [] → gs ≡ fs ++ w ∷ [] → gs ≡ ds ++ flat (copies_named sp (take (k + 1) xs))
pairs_more sp xs k v w x ds es fs gs lt at e f h i j =
    let old : List Copy = copies_named sp (take k xs) in
    let more : flat (copies_named sp (take (k + 1) xs)) ≡ flat old ++ (v ∷ w ∷ []) =
    ap (λ l. flat (copies_named sp l)) (take_more xs k [] lt ∙ ap (λ y. take k xs ++ y ∷ []) at)
    ∙ (ap flat (map-append (copy_named sp) (take k xs) (x ∷ []))
    ∙ (flat_more old (copy_named sp x)
    ∙ (ap (λ n. flat old ++ (n ∷ place_in sp.declared x ∷ [])) (sym e) ∙ ap (λ n. flat old ++ (v ∷ n ∷ [])) (sym f)))) in
    j ∙ (ap (λ l. l ++ w ∷ []) i
    ∙ (append_assoc es (v ∷ []) (w ∷ [])
    ∙ (ap (λ l. l ++ (v ∷ w ∷ [])) h
    ∙ (append_assoc ds (flat old) (v ∷ w ∷ []) ∙ ap (λ l. ds ++ l) (sym more)))))

pub all_pairs : (sp : Spoken) (xs : List (List ℕ)) (k : ℕ) (ds es : List ℕ) → length xs ≤ k → es ≡ ds ++ flat (copies_named sp (take k xs)) → es ≡ ds ++ flat (copies_named sp xs)
all_pairs sp xs k ds es le h = h ∙ ap (λ l. ds ++ flat (copies_named sp l)) (take_all k xs le)

-- the pairs of a procedure: the place of an input among all declarations is that among the inputs
place_first : (xs ys : List (List ℕ)) (x : List ℕ) → is_among x xs ≡ true → place_in (xs ++ ys) x ≡ place_in xs x
place_first [] ys x h = absurd (true_false (sym h))
place_first (z ∷ xs) ys x h = by (either (bytes_eq x z)) (place_first xs ys x)
  where
    by : (bytes_eq x z ≡ true) ⊎ (bytes_eq x z ≡ false) → (is_among x xs ≡ true → place_in (xs ++ ys) x ≡ place_in xs x) → place_in (z ∷ (xs ++ ys)) x ≡ place_in (z ∷ xs) x
    by (inl e) r = ap (λ b. cond (not b) (1 + place_in (xs ++ ys) x) 0) e ∙ sym (ap (λ b. cond (not b) (1 + place_in xs x) 0) e)
    by (inr e) r = ap (λ n. cond (not (bytes_eq x z)) (1 + n) 0) (r (sym (ap (λ b. b || is_among x xs) e) ∙ h))

copies_same : (u : Procedure) (xs : List (List ℕ)) → All (λ x. is_among x (declared_names u.inputs) ≡ true) xs → copies_named (spoken_by u) xs ≡ map (copy_of u) xs
copies_same u [] h = refl
copies_same u (x ∷ xs) h =
    let ins : List (List ℕ) = declared_names u.inputs in
    let e : place_in (declared_names (all_decls u)) x ≡ place_in ins x = ap (λ l. place_in l x) (declared_split u) ∙ place_first ins (declared_names (u.outputs ++ u.locals)) x (h 0 x (omega arith)) in
    ap (λ n. record { target = dimension_in (spoken_by u) x; origin = n } ∷ copies_named (spoken_by u) xs) e
    ∙ ap (λ l. copy_of u x ∷ l) (copies_same u xs (λ k d lt. h (suc k) d (omega (arith, lt))))

pub copies_are : (u : Procedure) → copies_named (spoken_by u) (copied u) ≡ start_copies u
copies_are u =
    let own = filtered (λ x. is_among x (targets_in u)) (declared_names u.inputs) in
    copies_same u (copied u) (λ k d lt. let w = own k d lt in w.among)

-- the start and the body of a procedure
pub procedure_adds : (names : List (List ℕ)) (u : Procedure) (a b c : Building) → Adds (arc a.points (a.points + 1) (starts (start_copies u)) ∷ []) [] (a.points + 1) a b → EmitsBlock (record { dims = spoken_by u; procs = names }) u.body b c → AddsProcedure names u a c
procedure_adds names u a b c f g =
    let m : Met = with_point (met_before a.points) in
    let body = g m (sym f.points) in
    let d : Naming = record { dims = spoken_by u; procs = names } in
    adds_then (arc a.points (a.points + 1) (starts (start_copies u)) ∷ []) (block_arcs d m u.body) [] (block_fails m u.body) (a.points + 1) (met_by m u.body).points a b c f body

-- a procedure of a program, by the names of its dimensions
pub names_long : (p : Program) (k : ℕ) (names : List (List ℕ)) (sp : Spoken) → names ≡ dimensions p k → sp ≡ spoken_by (procedure_at p k) → length sp.declared ≤ length names
unfolding dimensions
names_long p k names sp e f = omega (arith, ap length e, ap (λ (s : Spoken). length s.declared) f, dims_count (procedure_at p k))

start_is : (p : Program) (k : ℕ) (names : List (List ℕ)) (sp : Spoken) → names ≡ dimensions p k → sp ≡ spoken_by (procedure_at p k) → copies_named sp (drop (length sp.declared) names) ≡ start_copies (procedure_at p k)
unfolding dimensions
start_is p k names sp e f =
    let u : Procedure = procedure_at p k in
    let n : ℕ = length (declared_names (all_decls u)) in
    ap (λ (s : Spoken). copies_named s (drop (length s.declared) names)) f
    ∙ (ap (λ l. copies_named (spoken_by u) (drop n l)) e
    ∙ (ap (λ l. copies_named (spoken_by u) l) (copies_last u n refl) ∙ copies_are u))

pub all_added : (p : Program) (k : ℕ) (names : List (List ℕ)) (sp : Spoken) (procs : List (List ℕ)) (body : BlockTree) (a b c : Building) → names ≡ dimensions p k → sp ≡ spoken_by (procedure_at p k) → body ≡ (procedure_at p k).body
    → Adds (arc a.points (a.points + 1) (starts (copies_named sp (drop (length sp.declared) names))) ∷ []) [] (a.points + 1) a b → EmitsBlock (record { dims = sp; procs = procs }) body b c → AddsProcedure procs (procedure_at p k) a c
all_added p k names sp procs body a b c e f g h w =
    let u : Procedure = procedure_at p k in
    let P : List Copy → Type 0 = λ l. Adds (arc a.points (a.points + 1) (starts l) ∷ []) [] (a.points + 1) a b in
    let Q : Spoken → Type 0 = λ s. EmitsBlock (record { dims = s; procs = procs }) body b c in
    let R : BlockTree → Type 0 = λ t. EmitsBlock (record { dims = spoken_by u; procs = procs }) t b c in
    procedure_adds procs u a b c (subst P (start_is p k names sp e f) h) (subst R g (subst Q f w))

pub proc_is : (p : Program) (k points inputs outputs dims entry exit : ℕ) → inputs ≡ length (procedure_at p k).inputs → outputs ≡ length (procedure_at p k).outputs → dims ≡ length (dimensions p k) → entry ≡ points → exit ≡ points_by points (procedure_at p k) - 1
    → record { inputs = inputs; outputs = outputs; dims = dims; entry = entry; exit = exit } ≡ proc_of points (procedure_at p k)
unfolding dimensions
proc_is p k points inputs outputs dims entry exit a b c d e =
    let u : Procedure = procedure_at p k in
    let P : ℕ → ℕ → ℕ → ℕ → ℕ → Proc = λ v w x y z. record { inputs = v; outputs = w; dims = x; entry = y; exit = z } in
    ap (λ v. P v outputs dims entry exit) a
    ∙ (ap (λ v. P (length u.inputs) v dims entry exit) b
    ∙ (ap (λ v. P (length u.inputs) (length u.outputs) v entry exit) c
    ∙ (ap (λ v. P (length u.inputs) (length u.outputs) (length (dimensions_of u)) v exit) d
    ∙ ap (λ v. P (length u.inputs) (length u.outputs) (length (dimensions_of u)) points v) e)))

pub begin_few : (t : Program) (k n : ℕ) → points_by n (procedure_at t k) ≤ 4096 → n < 4096
begin_few t k n le = omega (arith, le, two_points n (procedure_at t k))

-- the start of a procedure, after it was begun
pub start_from : (cs : List Copy) (a b c : Building) → b.parts ≡ a.parts → b.fails ≡ a.fails → b.points ≡ a.points → Adds (arc b.points (b.points + 1) (starts cs) ∷ []) [] (b.points + 1) b c → Adds (arc a.points (a.points + 1) (starts cs) ∷ []) [] (a.points + 1) a c
start_from cs a b c e f g h =
    let P : ℕ → Type 0 = λ n. Adds (arc n (n + 1) (starts cs) ∷ []) [] (n + 1) b c in
    let w = subst P g h in
    record { arcs = w.arcs ∙ ap (λ (x : Parts). arcs_in x ++ arc a.points (a.points + 1) (starts cs) ∷ []) e; fails = w.fails ∙ ap (λ (l : List Fail). l ++ []) f; points = w.points }
