-- Lists with commas, one item after the other, and the items of a tree's lists.
use Rattle.std.proofs.Common.{◌≡◌, ℕ, zero, suc, ◌+◌, ◌<◌, ◌≤◌, List, [], ◌∷◌, ◌++◌, map, length, take, get_or, codes, refl, sym, ap, ◌∙◌, arith, add-zero, append_assoc, append-nil}
use Rattle.std.specs.List.{flat_map}
use Rattle.std.proofs.lemmas.Grind.{flat_map-append}
use Rattle.std.proofs.lemmas.List.{take_more, length-map, get_or-map}
use Rattle.spl_tree.specs.declared.parts.NameId.{NameId}
use Rattle.spl_tree.specs.declared.parts.NameList.{NameList}
use Rattle.spl_tree.specs.declared.parts.Decl.{Decl}
use Rattle.spl_tree.specs.declared.parts.DeclAt.{DeclAt}
use Rattle.spl_tree.specs.declared.parts.DeclList.{DeclList}
use Rattle.spl_tree.specs.Lists.{Lists}
use Rattle.spl_tree.specs.Facts.{IsTree, HasNames, HasDecls}
use Rattle.spl_tree.specs.Program.{Named, Declared, int_kind}
use Rattle.spl_tree.specs.Meaning.{name_of, names_in, named_in, names_over, decls_in, decls_over, declared_of}
use Rattle.spl_tree.specs.Laws.{NumbersStandForNodes}
use Rattle.spl_tree.proofs.Nodes.{get_or-span, length-span}
use Rattle.spl_print.specs.Canonical.{listed, names_text, decl_text, targets_text}

-- what stands behind the first item of a list
abbrev behind_comma : List ℕ → List ℕ
behind_comma u = codes ", " ++ u

listed-push : (x : List ℕ) (xs : List (List ℕ)) (y : List ℕ) → listed ((x ∷ xs) ++ y ∷ []) ≡ listed (x ∷ xs) ++ behind_comma y
listed-push x xs y =
    ap (λ rest. x ++ rest) (flat_map-append behind_comma xs (y ∷ []) ∙ ap (λ rest. flat_map behind_comma xs ++ rest) (append-nil (behind_comma y)))
    ∙ sym (append_assoc x (flat_map behind_comma xs) (behind_comma y))

listed-more : (xs : List (List ℕ)) (k : ℕ) → 1 ≤ k → k < length xs → listed (take (k + 1) xs) ≡ listed (take k xs) ++ behind_comma (get_or xs k [])
listed-more [] k low lt = absurd (omega arith)
listed-more (x ∷ xs) zero low lt = absurd (omega arith)
listed-more (x ∷ xs) (suc k) low lt = ap listed (take_more (x ∷ xs) (suc k) [] lt) ∙ listed-push x (take k xs) (get_or xs k [])

listed-one : (xs : List (List ℕ)) → 0 < length xs → listed (take 1 xs) ≡ get_or xs 0 []
listed-one [] lt = absurd (omega arith)
listed-one (x ∷ xs) lt = append-nil x

-- the first item, and one more
pub first_item : (xs : List (List ℕ)) (y start next : List ℕ) → 0 < length xs → get_or xs 0 [] ≡ y → next ≡ start ++ y → next ≡ start ++ listed (take 1 xs)
first_item xs y start next lt item e = e ∙ ap (λ t. start ++ t) (sym item ∙ sym (listed-one xs lt))

pub next_item : (xs : List (List ℕ)) (k : ℕ) (y start so_far comma next : List ℕ) → 1 ≤ k → k < length xs → get_or xs k [] ≡ y
    → so_far ≡ start ++ listed (take k xs) → comma ≡ so_far ++ codes ", " → next ≡ comma ++ y → next ≡ start ++ listed (take (k + 1) xs)
next_item xs k y start so_far comma next low lt item e e' e'' =
    e'' ∙ ap (λ t. t ++ y) e' ∙ append_assoc so_far (codes ", ") y ∙ ap (λ t. t ++ behind_comma y) e
    ∙ append_assoc start (listed (take k xs)) (behind_comma y)
    ∙ ap (λ t. start ++ t) (ap (λ t. listed (take k xs) ++ behind_comma t) (sym item) ∙ sym (listed-more xs k low lt))

-- the names of a list in a call
pub names_count : (t : Lists) → NumbersStandForNodes → IsTree t → (list : NameList) → HasNames t list → length (names_text (names_over (named_in t) list)) ≡ list.count
names_count t law tree list has =
    length-map (names_over (named_in t) list) (λ (x : Named). x.name)
    ∙ length-span (named_in t) list.first list.count (omega (arith, (law t tree).0.named))

pub names_item : (t : Lists) → NumbersStandForNodes → IsTree t → (list : NameList) → HasNames t list → (k : ℕ) → k < list.count → (n : NameId) → n ≡ get_or t.name_items (list.first + k) n
    → get_or (names_text (names_over (named_in t) list)) k [] ≡ name_of (names_in t) n
names_item t law tree list has k lt n e =
    let none : Named = record { name = []; at = 0 } in
    let span : length (names_over (named_in t) list) ≡ list.count = length-span (named_in t) list.first list.count (omega (arith, (law t tree).0.named)) in
    get_or-map (λ (x : Named). x.name) (names_over (named_in t) list) k none [] (omega (arith, span))
    ∙ ap (λ (x : Named). x.name) (get_or-span (named_in t) list.first list.count k none lt ∙ (law t tree).1.named (list.first + k) none n 0 (omega arith))
    ∙ ap (λ x. name_of (names_in t) x) (sym e)

pub names_first : (t : Lists) → NumbersStandForNodes → IsTree t → (list : NameList) → HasNames t list → 0 < list.count → (n : NameId) → n ≡ get_or t.name_items list.first n
    → get_or (names_text (names_over (named_in t) list)) 0 [] ≡ name_of (names_in t) n
names_first t law tree list has lt n e = names_item t law tree list has 0 lt n (e ∙ ap (λ i. get_or t.name_items i n) (sym (add-zero list.first)))

-- the targets of a call
pub one_target : (xs : List (List ℕ)) (start next : List ℕ) → length xs ≡ 1 → next ≡ start ++ listed xs → next ≡ start ++ targets_text xs
one_target [] start next one e = absurd (omega arith)
one_target (x ∷ []) start next one e = e ∙ ap (λ t. start ++ t) (append-nil x)
one_target (x ∷ y ∷ ys) start next one e = absurd (omega arith)

pub other_targets : (xs : List (List ℕ)) (start before names next : List ℕ) → (length xs ≡ 1 → ⊥) → before ≡ start ++ codes "(" → names ≡ before ++ listed xs → next ≡ names ++ codes ")" → next ≡ start ++ targets_text xs
other_targets [] start before names next others e e' e'' = e'' ∙ ap (λ t. t ++ codes ")") (e' ∙ append-nil before ∙ e) ∙ append_assoc start (codes "(") (codes ")")
other_targets (x ∷ []) start before names next others e e' e'' = absurd (others refl)
other_targets (x ∷ y ∷ ys) start before names next others e e' e'' =
    e'' ∙ ap (λ t. t ++ codes ")") (e' ∙ ap (λ t. t ++ listed (x ∷ y ∷ ys)) e) ∙ append_assoc (start ++ codes "(") (listed (x ∷ y ∷ ys)) (codes ")")
    ∙ append_assoc start (codes "(") (listed (x ∷ y ∷ ys) ++ codes ")")

-- the declarations of a list, whose texts stand for no place
abbrev pub unplaced : DeclAt
unplaced = record { name = 0; kind = 0 }

pub decls_count : (t : Lists) → NumbersStandForNodes → IsTree t → (list : DeclList) → HasDecls t list → length (map decl_text (decls_over (decls_in t) list)) ≡ list.count
decls_count t law tree list has =
    length-map (decls_over (decls_in t) list) decl_text ∙ length-span (decls_in t) list.first list.count (omega (arith, (law t tree).0.decls))

pub decls_item : (t : Lists) → NumbersStandForNodes → IsTree t → (list : DeclList) → HasDecls t list → (k : ℕ) → k < list.count → (d : Decl) → d ≡ get_or t.decls (list.first + k) d
    → get_or (map decl_text (decls_over (decls_in t) list)) k [] ≡ decl_text (declared_of (names_in t) d unplaced)
decls_item t law tree list has k lt d e =
    let none : Declared = record { name = record { name = []; at = 0 }; kind = int_kind; kind_at = 0 } in
    let span : length (decls_over (decls_in t) list) ≡ list.count = length-span (decls_in t) list.first list.count (omega (arith, (law t tree).0.decls)) in
    get_or-map decl_text (decls_over (decls_in t) list) k none [] (omega (arith, span))
    ∙ ap decl_text (get_or-span (decls_in t) list.first list.count k none lt ∙ (law t tree).1.decl (list.first + k) none d unplaced (omega arith))
    ∙ ap (λ x. decl_text (declared_of (names_in t) x unplaced)) (sym e)

pub decls_first : (t : Lists) → NumbersStandForNodes → IsTree t → (list : DeclList) → HasDecls t list → 0 < list.count → (d : Decl) → d ≡ get_or t.decls list.first d
    → get_or (map decl_text (decls_over (decls_in t) list)) 0 [] ≡ decl_text (declared_of (names_in t) d unplaced)
decls_first t law tree list has lt d e = decls_item t law tree list has 0 lt d (e ∙ ap (λ i. get_or t.decls i d) (sym (add-zero list.first)))
