-- The names of dimensions, one by one.
use Rattle.std.proofs.Common.{◌≡◌, ℕ, ◌+◌, ◌<◌, Bool, false, if◌then◌else◌, List, [], ◌∷◌, ◌++◌, length, take, map, filter, get_or, codes, Result, Ok, OnOk, sym, ap, ◌∙◌, subst, arith, append_assoc}
use Rattle.std.proofs.lemmas.List.{take_more, length-map, map-append, get_or-map}
use Rattle.std.proofs.lemmas.List.Elements.{filter-append}
use Rattle.spl_tree.specs.Program.{Declared}
use Rattle.spl_types.specs.Checks.{is_among, declared_names, Procedure}
use Rattle.spl_types.specs.Dimensions.{targets_in, input_name, dimensions_of}
use Rattle.spl_types.proofs.Declaring.{no_decl}

declared_more : (ds : List Declared) (i : ℕ) → i < length ds → declared_names (take (i + 1) ds) ≡ declared_names (take i ds) ++ (get_or ds i no_decl).name.name ∷ []
declared_more ds i lt = ap declared_names (take_more ds i no_decl lt) ∙ map-append (λ (d : Declared). d.name.name) (take i ds) (get_or ds i no_decl ∷ [])

-- plain names
pub plain_so : (old now new : List (List ℕ)) (ds : List Declared) (i : ℕ) (x : List ℕ) → i < length ds → x ≡ (get_or ds i no_decl).name.name → now ≡ old ++ declared_names (take i ds) → new ≡ now ++ x ∷ [] → new ≡ old ++ declared_names (take (i + 1) ds)
plain_so old now new ds i x lt e h g =
    g ∙ (ap (λ l. l ++ x ∷ []) h
    ∙ (append_assoc old (declared_names (take i ds)) (x ∷ [])
    ∙ ap (λ l. old ++ l) (ap (λ y. declared_names (take i ds) ++ y ∷ []) e ∙ sym (declared_more ds i lt))))

-- whether an input is a target, by its flag
flag_at : (flags : List Bool) (targets : List (List ℕ)) (ds : List Declared) (i : ℕ) (x : List ℕ) (b : Bool) → i < length ds → flags ≡ map (λ y. is_among y targets) (declared_names ds) → b ≡ get_or flags i false → x ≡ (get_or ds i no_decl).name.name → b ≡ is_among x targets
flag_at flags targets ds i x b lt f g e =
    let l : i < length (declared_names ds) = omega (arith, length-map ds (λ (d : Declared). d.name.name)) in
    g ∙ (ap (λ l. get_or l i false) f
    ∙ (get_or-map (λ y. is_among y targets) (declared_names ds) i [] false l
    ∙ (ap (λ y. is_among y targets) (get_or-map (λ (d : Declared). d.name.name) ds i no_decl [] lt)
    ∙ ap (λ y. is_among y targets) (sym e))))

-- names of inputs
pub inputs_so : (flags : List Bool) (targets old now new : List (List ℕ)) (ds : List Declared) (i : ℕ) (x : List ℕ) (b : Bool) → i < length ds → flags ≡ map (λ y. is_among y targets) (declared_names ds) → b ≡ get_or flags i false → x ≡ (get_or ds i no_decl).name.name
    → now ≡ old ++ map (input_name targets) (declared_names (take i ds)) → new ≡ now ++ (if b then x ++ codes "@" else x) ∷ [] → new ≡ old ++ map (input_name targets) (declared_names (take (i + 1) ds))
inputs_so flags targets old now new ds i x b lt f g e h k =
    let named : (if b then x ++ codes "@" else x) ≡ input_name targets (get_or ds i no_decl).name.name =
    ap (λ c. if c then x ++ codes "@" else x) (flag_at flags targets ds i x b lt f g e) ∙ ap (input_name targets) e in
    let more : map (input_name targets) (declared_names (take (i + 1) ds)) ≡ map (input_name targets) (declared_names (take i ds)) ++ input_name targets (get_or ds i no_decl).name.name ∷ [] =
    ap (λ l. map (input_name targets) l) (declared_more ds i lt) ∙ map-append (input_name targets) (declared_names (take i ds)) ((get_or ds i no_decl).name.name ∷ []) in
    k ∙ (ap (λ l. l ++ (if b then x ++ codes "@" else x) ∷ []) h
    ∙ (append_assoc old (map (input_name targets) (declared_names (take i ds))) ((if b then x ++ codes "@" else x) ∷ [])
    ∙ ap (λ l. old ++ l) (ap (λ y. map (input_name targets) (declared_names (take i ds)) ++ y ∷ []) named ∙ sym more)))

-- names of copies
pub copies_so : (flags : List Bool) (targets old now new : List (List ℕ)) (ds : List Declared) (i : ℕ) (x : List ℕ) (b : Bool) → i < length ds → flags ≡ map (λ y. is_among y targets) (declared_names ds) → b ≡ get_or flags i false → x ≡ (get_or ds i no_decl).name.name
    → now ≡ old ++ filter (λ y. is_among y targets) (declared_names (take i ds)) → new ≡ now ++ (if b then x ∷ [] else []) → new ≡ old ++ filter (λ y. is_among y targets) (declared_names (take (i + 1) ds))
copies_so flags targets old now new ds i x b lt f g e h k =
    let p : List ℕ → Bool = λ y. is_among y targets in
    let y : List ℕ = (get_or ds i no_decl).name.name in
    let one : (if b then x ∷ [] else []) ≡ filter (λ z. is_among z targets) (y ∷ []) =
    ap (λ c. if c then x ∷ [] else []) (flag_at flags targets ds i x b lt f g e) ∙ ap (λ z. if is_among z targets then z ∷ [] else []) e in
    let more : filter (λ z. is_among z targets) (declared_names (take (i + 1) ds)) ≡ filter (λ z. is_among z targets) (declared_names (take i ds)) ++ filter (λ z. is_among z targets) (y ∷ []) =
    ap (λ l. filter (λ z. is_among z targets) l) (declared_more ds i lt) ∙ filter-append (λ z. is_among z targets) (declared_names (take i ds)) (y ∷ []) in
    k ∙ (ap (λ l. l ++ (if b then x ∷ [] else [])) h
    ∙ (append_assoc old (filter (λ z. is_among z targets) (declared_names (take i ds))) (if b then x ∷ [] else [])
    ∙ ap (λ l. old ++ l) (ap (λ l. filter (λ z. is_among z targets) (declared_names (take i ds)) ++ l) one ∙ sym more)))

-- all names
pub on_ok : {X E : Type 0} (r : Result X E) (P : Type 0) (v : X) → r ≡ Ok v → OnOk r P → P
on_ok {X} {E} r P v e h = let Q : Result X E → Type 0 = λ q. OnOk q P in subst Q e h

pub dimensions_so : (u : Procedure) (n0 n1 n2 n3 n4 : List (List ℕ)) → n0 ≡ []
    → n1 ≡ n0 ++ map (input_name (targets_in u)) (declared_names u.inputs) → n2 ≡ n1 ++ declared_names u.outputs → n3 ≡ n2 ++ declared_names u.locals → n4 ≡ n3 ++ filter (λ x. is_among x (targets_in u)) (declared_names u.inputs)
    → n4 ≡ dimensions_of u
unfolding dimensions_of
dimensions_so u n0 n1 n2 n3 n4 a b d e f =
    let ins : List (List ℕ) = map (input_name (targets_in u)) (declared_names u.inputs) in
    let outs : List (List ℕ) = declared_names u.outputs in
    let locs : List (List ℕ) = declared_names u.locals in
    let more : List (List ℕ) = filter (λ x. is_among x (targets_in u)) (declared_names u.inputs) in
    f ∙ (ap (λ l. l ++ more) (e ∙ ap (λ l. l ++ locs) (d ∙ ap (λ l. l ++ outs) (b ∙ ap (λ l. l ++ ins) a)))
    ∙ (append_assoc (ins ++ outs) locs more ∙ append_assoc ins outs (locs ++ more)))
