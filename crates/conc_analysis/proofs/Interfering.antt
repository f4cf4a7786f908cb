-- What the code of the interference makes.
use Rattle.std.proofs.Common.{◌≡◌, ◌≢◌, ℕ, zero, suc, ◌+◌, ◌-◌, ◌<◌, ◌≤◌, Bool, true, false, not, cond, nat_eq, List, [], ◌∷◌, ◌++◌, length, map, get_or, take, Option, Some, None, Vec, refl, sym, ap, subst, arith, ◌∙◌}
use Rattle.std.specs.List.{fold, range_with_len}
use Rattle.std.specs.declared.alloc.Global.{Global}
use Rattle.std.proofs.lemmas.Bool.{ne_eqb, false≢true}
use Rattle.std.proofs.lemmas.List.{same_lists, take_all, get_or-map, length-map, map-append}
use Rattle.std.proofs.lemmas.List.FromFn.{map-range_with_len_more, get_or-map-range_with_len, length-map-range_with_len, fill_by_all}
use Rattle.std.proofs.lemmas.List.Sums.{fold_more}
use Rattle.spl_core.specs.declared.parts.Proc.{Proc}
use Rattle.spl_core.specs.declared.parts.Edge.{Edge}
use Rattle.spl_core.specs.Parts.{Parts, proc_at, edge_at, owner_of as owner_at}
use Rattle.spl_core.specs.Graph.{Move, Graph, graph_of, proc_of, main_of, owner_of, arc_at, no_arc, move_of}
use Rattle.spl_core.proofs.Graphs.{arc_count}
use Rattle.interval_form.specs.declared.interval.Interval.{Interval}
use Rattle.conc_front.specs.Sharing.{Sharing, variable_of}
use Rattle.conc_analysis.specs.declared.write.Write.{Write}
use Rattle.conc_analysis.specs.Environment.{Environment}
use Rattle.conc_analysis.specs.Interleaving.{is_variable}
use Rattle.conc_analysis.specs.Interference.{Interference, interference_at, join_writes, where_variable, writes_of, writes_in}
use Rattle.conc_analysis.specs.Equations.{Stage, read_in, with_writes_of, written_by}
use Rattle.conc_analysis.specs.Plan.{written_to}
use Rattle.conc_analysis.specs.Rounds.{same_range, same_option, same_list, same_writes, widen_writes, writes_at, writes_row, writes_table}
use Rattle.conc_analysis.specs.Tables.{rows_in}
use Rattle.conc_analysis.proofs.Quiet.{exact_list, exact_option, exact_range}
use Rattle.conc_analysis.proofs.Ends.{same_list-itself, same_option-itself, same_range-itself}
use Rattle.conc_analysis.proofs.Planning.{arc_move, arc_source}

-- ---- equal lists

pub list_differs : {X : Type 0} (same : X → X → Bool) (exact : (x y : X) → same x y ≡ true → x ≡ y) (itself : (x : X) → same x x ≡ true) (a b : List X) (v : ℕ) (d : X) → same (get_or a v d) (get_or b v d) ≡ false → false ≡ same_list same a b
list_differs {X} same exact itself a b v d n = by (same_list same a b) refl
  where
    by : (t : Bool) → same_list same a b ≡ t → false ≡ t
    by true e =
        let is : a ≡ b = exact_list same exact a b e in
        absurd (false≢true (sym n ∙ (ap (λ (x : List X). same (get_or a v d) (get_or x v d)) (sym is) ∙ itself (get_or a v d))))
    by false e = refl

pub list_lengths : {X : Type 0} (same : X → X → Bool) (exact : (x y : X) → same x y ≡ true → x ≡ y) (a b : List X) → length a ≢ length b → false ≡ same_list same a b
list_lengths same exact a b n = by (same_list same a b) refl
  where
    by : (t : Bool) → same_list same a b ≡ t → false ≡ t
    by true e = absurd (n (ap length (exact_list same exact a b e)))
    by false e = refl

any_default : {X : Type 0} (xs : List X) (k : ℕ) (d e : X) → k < length xs → get_or xs k d ≡ get_or xs k e
any_default [] k d e l = absurd (omega (arith, l))
any_default (x ∷ xs) zero d e l = refl
any_default (x ∷ xs) (suc k) d e l = any_default xs k d e (omega (arith, l))

pub list_same : {X : Type 0} (same : X → X → Bool) (exact : (x y : X) → same x y ≡ true → x ≡ y) (itself : (x : X) → same x x ≡ true) (a b : List X) (v : ℕ) (d : X) → length a ≡ length b → v ≡ length a
    → ((k : ℕ) → k < v → same (get_or a k d) (get_or b k d) ≡ true) → true ≡ same_list same a b
list_same {X} same exact itself a b v d n e h =
    let is : a ≡ b = same_lists a b n (λ k z l. any_default a k z d l ∙ (exact (get_or a k d) (get_or b k d) (h k (omega (arith, l, e))) ∙ any_default b k d z (omega (arith, l, n)))) in
    sym (subst (λ (x : List X). same_list same a x ≡ true) is (same_list-itself same itself a))

pub exact_one : (a b : Option Interval) → same_option same_range a b ≡ true → a ≡ b
exact_one a b e = exact_option same_range exact_range a b e

pub one_itself : (a : Option Interval) → same_option same_range a a ≡ true
one_itself a = same_option-itself same_range same_range-itself a

pub exact_row : (a b : List (Option Interval)) → same_list (same_option same_range) a b ≡ true → a ≡ b
exact_row a b e = exact_list (same_option same_range) exact_one a b e

pub row_itself : (a : List (Option Interval)) → same_list (same_option same_range) a a ≡ true
row_itself a = same_list-itself (same_option same_range) one_itself a

-- ---- tables in one pass

pub table_more : {X : Type 0} (k : ℕ → X) (items new : List X) (v : ℕ) (i : X) → items ≡ map k (range_with_len 0 v) → new ≡ items ++ i ∷ [] → i ≡ k v → new ≡ map k (range_with_len 0 (v + 1))
table_more {X} k items new v i e a n =
    a ∙ (ap (λ (xs : List X). xs ++ i ∷ []) e ∙ (ap (λ (j : X). map k (range_with_len 0 v) ++ j ∷ []) n
    ∙ sym (map-range_with_len_more k 0 v v (omega arith))))

pub row_at : (rows : List (Vec (Option Interval) Global)) (t : ℕ) (r : Vec (Option Interval) Global) (items : List (Option Interval)) → t < length rows → r ≡ get_or rows t r → items ≡ r.items → get_or (rows_in rows) t [] ≡ items
row_at rows t r items l e h =
    get_or-map (λ (x : Vec (Option Interval) Global). x.items) rows t r [] l ∙ (ap (λ (x : Vec (Option Interval) Global). x.items) (sym e) ∙ sym h)

pub rows_long : (rows : List (Vec (Option Interval) Global)) → length (rows_in rows) ≡ length rows
rows_long rows = length-map rows (λ (x : Vec (Option Interval) Global). x.items)

pub rows_more : (k : ℕ → List (Option Interval)) (rows new : List (Vec (Option Interval) Global)) (r : Vec (Option Interval) Global) (t : ℕ) → rows_in rows ≡ map k (range_with_len 0 t) → new ≡ rows ++ r ∷ [] → r.items ≡ k t
    → rows_in new ≡ map k (range_with_len 0 (t + 1))
rows_more k rows new r t e a n =
    table_more k (rows_in rows) (rows_in new) t r.items e (ap rows_in a ∙ map-append (λ (x : Vec (Option Interval) Global). x.items) rows (r ∷ [])) n

-- ---- what an action writes

pub own_write : (sharing : Sharing) (t v x : ℕ) (i : Interval) → None ≡ variable_of sharing t x → None ≡ where_variable sharing t v x i
own_write sharing t v x i e = ap (λ (o : Option ℕ). cond (is_variable v o) (Some i) None) e

pub shared_write : (sharing : Sharing) (t v x w : ℕ) (i j : Interval) → Some w ≡ variable_of sharing t x → j ≡ i → cond (nat_eq w v) (Some j) None ≡ where_variable sharing t v x i
shared_write sharing t v x w i j e h =
    ap (λ (z : Interval). cond (nat_eq w v) (Some z) None) h ∙ ap (λ (o : Option ℕ). cond (is_variable v o) (Some i) None) e

pub nothing_written : (k c : Parts) (sharing : Sharing) (x : Stage) (e v : ℕ) (edge : Edge) (from : Environment) → k ≡ c → edge ≡ edge_at k e → from ≡ read_in (graph_of c) sharing x edge.source → None ≡ from
    → None ≡ writes_in sharing (owner_of (graph_of c) (arc_at (graph_of c) e).source) v (arc_at (graph_of c) e).move (read_in (graph_of c) sharing x (arc_at (graph_of c) e).source)
nothing_written k c sharing x e v edge from q h read n =
    let g = graph_of c in
    let a : edge ≡ edge_at c e = h ∙ ap (λ (z : Parts). edge_at z e) q in
    ap (writes_in sharing (owner_of g (arc_at g e).source) v (arc_at g e).move) (n ∙ (read ∙ ap (read_in g sharing x) (arc_source c e edge a)))

owner_read : (c : Parts) (p : ℕ) → owner_at c p ≡ owner_of (graph_of c) p
unfolding graph_of
owner_read c p = refl

pub something_written : (k c : Parts) (sharing s : Sharing) (x : Stage) (e v t : ℕ) (edge : Edge) (from : Environment) (ranges : List Interval) (w : Option Write) → k ≡ c → edge ≡ edge_at k e → from ≡ read_in (graph_of c) sharing x edge.source → from ≡ Some ranges
    → t ≡ owner_at k edge.source → s ≡ sharing → written_to w v ≡ writes_of s t v (move_of k edge.action) ranges
    → written_to w v ≡ writes_in sharing (owner_of (graph_of c) (arc_at (graph_of c) e).source) v (arc_at (graph_of c) e).move (read_in (graph_of c) sharing x (arc_at (graph_of c) e).source)
something_written k c sharing s x e v t edge from ranges w q h read n o p d =
    let g = graph_of c in
    let a : edge ≡ edge_at c e = h ∙ ap (λ (z : Parts). edge_at z e) q in
    let source : edge.source ≡ (arc_at g e).source = arc_source c e edge a in
    let owner : t ≡ owner_of g (arc_at g e).source = o ∙ (ap (λ (z : Parts). owner_at z edge.source) q ∙ (ap (owner_at c) source ∙ owner_read c (arc_at g e).source)) in
    let move : move_of k edge.action ≡ (arc_at g e).move = ap (λ (z : Parts). move_of z edge.action) q ∙ arc_move c e edge a in
    d ∙ (ap (λ (z : Sharing). writes_of z t v (move_of k edge.action) ranges) p
    ∙ (ap (λ (z : ℕ). writes_of sharing z v (move_of k edge.action) ranges) owner
    ∙ (ap (λ (z : Move). writes_of sharing (owner_of g (arc_at g e).source) v z ranges) move
    ∙ ap (writes_in sharing (owner_of g (arc_at g e).source) v (arc_at g e).move) (sym n ∙ (read ∙ ap (read_in g sharing x) source)))))

-- ---- the row of a thread

pub edge_of_other : (k c : Parts) (sharing : Sharing) (x : Stage) (t v e : ℕ) (edge : Edge) (owner : ℕ) (i : Option Interval) → k ≡ c → edge ≡ edge_at k e → owner ≡ owner_at k edge.source → owner ≢ t
    → i ≡ with_writes_of (graph_of c) sharing x t v i (arc_at (graph_of c) e)
edge_of_other k c sharing x t v e edge owner i q h o n =
    let g = graph_of c in
    let a : edge ≡ edge_at c e = h ∙ ap (λ (z : Parts). edge_at z e) q in
    let own : owner ≡ owner_of g (arc_at g e).source = o ∙ (ap (λ (z : Parts). owner_at z edge.source) q ∙ (ap (owner_at c) (arc_source c e edge a) ∙ owner_read c (arc_at g e).source)) in
    let b : nat_eq (owner_of g (arc_at g e).source) t ≡ false = ne_eqb (owner_of g (arc_at g e).source) t (λ same. n (own ∙ same)) in
    sym (ap (λ (z : Bool). cond z (join_writes i (writes_in sharing t v (arc_at g e).move (read_in g sharing x (arc_at g e).source))) i) b)

pub edge_of_thread : (k c : Parts) (sharing : Sharing) (x : Stage) (t v e : ℕ) (edge : Edge) (owner : ℕ) (i j : Option Interval) (w : Option Write) → k ≡ c → edge ≡ edge_at k e → owner ≡ owner_at k edge.source → owner ≡ t
    → written_to w v ≡ writes_in sharing (owner_of (graph_of c) (arc_at (graph_of c) e).source) v (arc_at (graph_of c) e).move (read_in (graph_of c) sharing x (arc_at (graph_of c) e).source)
    → j ≡ join_writes i (written_to w v) → j ≡ with_writes_of (graph_of c) sharing x t v i (arc_at (graph_of c) e)
edge_of_thread k c sharing x t v e edge owner i j w q h o n d m =
    let g = graph_of c in
    let a : edge ≡ edge_at c e = h ∙ ap (λ (z : Parts). edge_at z e) q in
    let own : owner_of g (arc_at g e).source ≡ t = sym (o ∙ (ap (λ (z : Parts). owner_at z edge.source) q ∙ (ap (owner_at c) (arc_source c e edge a) ∙ owner_read c (arc_at g e).source))) ∙ n in
    let b : nat_eq (owner_of g (arc_at g e).source) t ≡ true = grind (arith, own) in
    m ∙ (ap (join_writes i) (d ∙ ap (λ (z : ℕ). writes_in sharing z v (arc_at g e).move (read_in g sharing x (arc_at g e).source)) own)
    ∙ sym (ap (λ (z : Bool). cond z (join_writes i (writes_in sharing t v (arc_at g e).move (read_in g sharing x (arc_at g e).source))) i) b))

pub source_more : (c : Parts) (sharing : Sharing) (x : Stage) (t v e : ℕ) (old new : Option Interval) → e < length c.edges → old ≡ fold (with_writes_of (graph_of c) sharing x t v) None (take e (graph_of c).arcs)
    → new ≡ with_writes_of (graph_of c) sharing x t v old (arc_at (graph_of c) e) → new ≡ fold (with_writes_of (graph_of c) sharing x t v) None (take (e + 1) (graph_of c).arcs)
source_more c sharing x t v e old new l h n =
    let g = graph_of c in
    n ∙ (ap (λ (z : Option Interval). with_writes_of g sharing x t v z (arc_at g e)) h ∙ sym (fold_more (with_writes_of g sharing x t v) None g.arcs e no_arc (omega (arith, l, arc_count c))))

pub sources_are : (c : Parts) (sharing : Sharing) (x : Stage) (t n e : ℕ) (row : List (Option Interval)) → length row ≡ n → length c.edges ≤ e
    → ((v : ℕ) → v < n → get_or row v None ≡ fold (with_writes_of (graph_of c) sharing x t v) None (take e (graph_of c).arcs)) → row ≡ map (written_by (graph_of c) sharing x t) (range_with_len 0 n)
unfolding written_by
sources_are c sharing x t n e row size l h =
    let g = graph_of c in
    fill_by_all (written_by g sharing x t) row n None size (λ v k. h v k ∙ ap (fold (with_writes_of g sharing x t v) None) (take_all e g.arcs (omega (arith, l, arc_count c))))

pub widened_at : (g : Graph) (sharing : Sharing) (x : Stage) (t v n : ℕ) (sources : List (Option Interval)) (old w i : Option Interval) → sources ≡ map (written_by g sharing x t) (range_with_len 0 n) → v < n
    → old ≡ interference_at x.writes t v → w ≡ get_or sources v w → i ≡ widen_writes old w → i ≡ writes_at g sharing x t v
unfolding writes_at
widened_at g sharing x t v n sources old w i e l h r q =
    let read : w ≡ written_by g sharing x t v =
    r ∙ (ap (λ (z : List (Option Interval)). get_or z v w) e ∙ get_or-map-range_with_len (written_by g sharing x t) 0 n v v w l (omega arith)) in
    q ∙ (ap (λ (z : Option Interval). widen_writes z w) h ∙ ap (widen_writes (interference_at x.writes t v)) read)

pub row_is : (f : ℕ → ℕ → Option Interval) (t v n : ℕ) (row : List (Option Interval)) → row ≡ map (f t) (range_with_len 0 v) → v ≡ n → row ≡ writes_row f n t
unfolding writes_row
row_is f t v n row e h = e ∙ ap (λ (k : ℕ). map (f t) (range_with_len 0 k)) h

pub sources_long : (g : Graph) (sharing : Sharing) (x : Stage) (t n : ℕ) (sources : List (Option Interval)) → sources ≡ map (written_by g sharing x t) (range_with_len 0 n) → length sources ≡ n
sources_long g sharing x t n sources e = ap length e ∙ length-map-range_with_len (written_by g sharing x t) 0 n

main_read : (c : Parts) → main_of (graph_of c) ≡ length c.procs - 1
unfolding graph_of
main_read c = refl

main_proc : (c : Parts) → proc_at c (length c.procs - 1) ≡ proc_of (graph_of c) (main_of (graph_of c))
unfolding graph_of
main_proc c = refl

pub rows_are : (k c : Parts) (f : ℕ → ℕ → Option Interval) (rows : Interference) (t n : ℕ) (q : Proc) → k ≡ c → n ≡ length k.procs → q ≡ proc_at k (n - 1) → t ≡ n - 1 → rows ≡ map (writes_row f q.dims) (range_with_len 0 t)
    → rows ≡ writes_table (graph_of c) f
unfolding writes_table
rows_are k c f rows t n q e h p l r =
    let g = graph_of c in
    let same : n ≡ length c.procs = h ∙ ap (λ (z : Parts). length z.procs) e in
    let count : t ≡ main_of g = omega (arith, l, same, main_read c) in
    let proc : q ≡ proc_of g (main_of g) = p ∙ (ap (λ (z : Parts). proc_at z (n - 1)) e ∙ (ap (λ (z : ℕ). proc_at c (z - 1)) same ∙ main_proc c)) in
    r ∙ (ap (λ (z : Proc). map (writes_row f z.dims) (range_with_len 0 t)) proc ∙ ap (λ (z : ℕ). map (writes_row f (proc_of g (main_of g)).dims) (range_with_len 0 z)) count)

pub rows_agree : (a b x y : List (Option Interval)) (t w : Bool) → a ≡ x → b ≡ y → t ≡ same_list (same_option same_range) x y → t ≡ w → same_list (same_option same_range) a b ≡ w
rows_agree a b x y t w p q e h = ap (λ (z : List (Option Interval)). same_list (same_option same_range) z b) p ∙ (ap (same_list (same_option same_range) x) q ∙ (sym e ∙ h))
