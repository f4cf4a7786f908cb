-- The last entry of a name, found from the front on.
use Rattle.std.proofs.Common.{◌≡◌, ◌<◌, ℕ, ◌+◌, Bool, true, false, cond, List, [], ◌∷◌, ◌++◌, Option, None, Some, length, take, get_or, map, ap, sym, subst, ◌∙◌, arith, add-one, length-append, length-take-le, take-suc, nat_eq}
use Rattle.std.proofs.lemmas.List.{map-append, get_or-map, length-map}
use Rattle.std.proofs.Math.ListN.{get_or-append}
use Rattle.std.proofs.Math.Seq.{get_or-append_seam}
use Rattle.std.proofs.lemmas.List.Sums.{fold-append}
use Rattle.std.specs.Cmp.Lexicographic.{texts_ties, nat_list_cmp_total, pointwise}
use Rattle.std.specs.FinMap as finite
use Rattle.spl_io.specs.MemEntries.{put_entry, store_of, bytes_at, Finds}
use Rattle.spl_io.specs.declared.mem_files.Entry.{Entry}

-- what a name has after one more put
get-put : (front : List Entry) (e : Entry) (name : List ℕ) (test : Bool) → pointwise nat_eq name e.name.items ≡ test
    → finite.get (store_of (front ++ e ∷ [])) name ≡ cond test (Some e.bytes.items) (finite.get (store_of front) name)
get-put front e name test is =
    ap (λ files. finite.get files name) (fold-append put_entry finite.empty front (e ∷ []))
    ∙ finite.get-insert nat_list_cmp_total (store_of front) e.name.items e.bytes.items name
    ∙ ap (λ b. cond b (Some e.bytes.items) (finite.get (store_of front) name)) (sym (texts_ties name e.name.items) ∙ is)

-- one more put leaves the earlier entries
bytes_at-before : (front : List Entry) (e : Entry) (place : ℕ) → place < length front → bytes_at (front ++ e ∷ []) place ≡ bytes_at front place
bytes_at-before front e place lt =
    ap (λ l. get_or l place []) (map-append (λ entry. entry.bytes.items) front (e ∷ []))
    ∙ get_or-append (map (λ entry. entry.bytes.items) front) (e.bytes.items ∷ []) [] place (omega (arith, length-map front (λ entry. entry.bytes.items), lt))

-- and stands behind them
bytes_at-last : (front : List Entry) (e : Entry) → bytes_at (front ++ e ∷ []) (length front) ≡ e.bytes.items
bytes_at-last front e =
    get_or-map (λ entry. entry.bytes.items) (front ++ e ∷ []) (length front) e [] (omega (arith, length-append front (e ∷ [])))
    ∙ ap (λ entry. entry.bytes.items) (get_or-append_seam front e [] e)

same-pushed : (front : List Entry) (e : Entry) (name : List ℕ) → pointwise nat_eq name e.name.items ≡ true → Finds (front ++ e ∷ []) name (Some (length front))
same-pushed front e name is = (omega (arith, length-append front (e ∷ [])), get-put front e name true is ∙ ap Some (sym (bytes_at-last front e)))

other-pushed : (front : List Entry) (e : Entry) (name : List ℕ) (found : Option ℕ) → pointwise nat_eq name e.name.items ≡ false → Finds front name found → Finds (front ++ e ∷ []) name found
other-pushed front e name None is finds = get-put front e name false is ∙ finds
other-pushed front e name (Some place) is finds =
    (omega (arith, length-append front (e ∷ []), finds.0), get-put front e name false is ∙ finds.1 ∙ ap Some (sym (bytes_at-before front e place finds.0)))

-- the first entries, with the one that follows
one-more : (entries : List Entry) (place : ℕ) (e : Entry) → place < length entries → e ≡ get_or entries place e → take (place + 1) entries ≡ take place entries ++ e ∷ []
one-more entries place e lt is =
    ap (λ n. take n entries) (add-one place) ∙ take-suc entries place e lt ∙ ap (λ x. take place entries ++ x ∷ []) (sym is)

-- the next entry has the name
pub finds-same : (entries : List Entry) (name : List ℕ) (place : ℕ) (found : Option ℕ) (e : Entry) → place < length entries → e ≡ get_or entries place e
    → pointwise nat_eq name e.name.items ≡ true → found ≡ Some place → Finds (take (place + 1) entries) name found
finds-same entries name place found e lt is same now =
    let size : length (take place entries) ≡ place = omega (arith, length-take-le place entries, lt) in
    let there : Finds (take place entries ++ e ∷ []) name (Some place) =
    subst (λ n. Finds (take place entries ++ e ∷ []) name (Some n)) size (same-pushed (take place entries) e name same) in
    subst (Finds (take (place + 1) entries) name) (sym now) (subst (λ l. Finds l name (Some place)) (sym (one-more entries place e lt is)) there)

-- the next entry has another name
pub finds-other : (entries : List Entry) (name : List ℕ) (place : ℕ) (before found : Option ℕ) (e : Entry) → place < length entries → e ≡ get_or entries place e
    → pointwise nat_eq name e.name.items ≡ false → found ≡ before → Finds (take place entries) name before → Finds (take (place + 1) entries) name found
finds-other entries name place before found e lt is other now finds =
    subst (Finds (take (place + 1) entries) name) (sym now)
    (subst (λ l. Finds l name before) (sym (one-more entries place e lt is)) (other-pushed (take place entries) e name before other finds))
