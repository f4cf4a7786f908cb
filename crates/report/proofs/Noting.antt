-- What is noted, step by step.
use Rattle.std.proofs.Common.{◌≡◌, ℕ, ◌+◌, ◌<◌, Bool, List, [], ◌∷◌, ◌++◌, length, map, get_or, sym, ap, ◌∙◌, subst, arith}
use Rattle.std.specs.List.{flat_map, range_with_len}
use Rattle.std.proofs.lemmas.Bool.{eq-eqb, ne_eqb}
use Rattle.std.proofs.lemmas.List.{append-nil, length-map, get_or-map}
use Rattle.std.proofs.lemmas.List.FromFn.{get_or-map-range_with_len, length-map-range_with_len, map-range_with_len_more}
use Rattle.oct_def.specs.Octagon.{Octagon, bottom_value}
use Rattle.spl_tree.specs.Program.{Program}
use Rattle.spl_types.specs.Dimensions.{dimensions}
use Rattle.spl_core.specs.declared.parts.Proc.{Proc}
use Rattle.spl_core.specs.Parts.{Parts, proc_at, owner_of as owner_in}
use Rattle.spl_core.specs.Facts.{IsCore}
use Rattle.spl_core.specs.Graph.{Graph, graph_of, owner_of, proc_owning}
use Rattle.call_graph.specs.Order.{is_entry}
use Rattle.spl_print.specs.Canonical.{Noted, canonical}
use Rattle.control_points.specs.declared.built.Fail.{Fail}
use Rattle.control_points.specs.CoreOf.{core_of, fails_of}
use Rattle.report.specs.Listed.{note_of}
use Rattle.report.specs.ConstraintText.{note_text}
use Rattle.report.specs.Points.{for_line, for_lines, names_at, DimensionsHaveNames}
use Rattle.report.specs.Report.{is_bottom, point_text, fail_line, fail_text, rounds_text, noted, report}
use Rattle.report.specs.Values.{value_in, AreSized}
use Rattle.report.proofs.Shapes.{procs_count}

-- ---- a point

-- the owner and the entry as the code reads them
pub owner_is : (c : Parts) (g : Graph) (k : ℕ) → graph_of c ≡ g → owner_of g k ≡ owner_in c k
unfolding graph_of
owner_is c g k e = ap (λ (h : Graph). owner_of h k) (sym e)

pub owning_is : (c : Parts) (g : Graph) (k : ℕ) → graph_of c ≡ g → proc_owning g k ≡ proc_at c (owner_in c k)
unfolding graph_of
owning_is c g k e = ap (λ (h : Graph). proc_owning h k) (sym e)

-- an entry has no text
pub skipped : (g : Graph) (f : ℕ → List ℕ) (k : ℕ) (points : List (List ℕ)) → (proc_owning g k).entry ≡ k → points ≡ points ++ for_line g f k
unfolding is_entry
skipped g f k points e = rw (eq-eqb (proc_owning g k).entry k e) (sym (append-nil points))

-- any other point has its text
pub texted : (g : Graph) (f : ℕ → List ℕ) (k : ℕ) (points : List (List ℕ)) (text : List ℕ) → ((proc_owning g k).entry ≡ k → ⊥) → text ≡ f k → points ++ text ∷ [] ≡ points ++ for_line g f k
unfolding is_entry
texted g f k points text e t = rw (ne_eqb (proc_owning g k).entry k e) (ap (λ x. points ++ x ∷ []) t)

-- the entry of the procedure that the code looks at
pub entry_is : (c : Parts) (g : Graph) (k owner : ℕ) (q : Proc) → graph_of c ≡ g → owner ≡ owner_in c k → q ≡ proc_at c owner → (proc_owning g k).entry ≡ q.entry
entry_is c g k owner q e found proc = ap (λ (x : Proc). x.entry) (owning_is c g k e ∙ ap (proc_at c) (sym found) ∙ sym proc)

-- ---- values

-- the value at a point is the one that the code holds there
pub value_held : {V : Type 0} (f : V → Octagon) (vs : List V) (k : ℕ) (v : V) → k < length vs → v ≡ get_or vs k v → value_in (map f vs) k ≡ f v
value_held f vs k v l e = get_or-map f vs k v (bottom_value 0) l ∙ ap f (sym e)

-- there is a value at each point
pub held_within : {V : Type 0} (c : Parts) (p : Program) (f : V → Octagon) (vs : List V) (k : ℕ) → graph_of c ≡ core_of p → AreSized (core_of p) (map f vs) → k < length c.owners → k < length vs
unfolding graph_of
held_within c p f vs k e sized l = omega (arith, l, sized.points, length-map vs f, ap (λ (g : Graph). length g.owners) e)

-- ---- names

-- the names of the dimensions of all procedures, main last
abbrev pub AreAllNames : Program → List (List (List ℕ)) → Type 0
AreAllNames p names = names ≡ map (dimensions p) (range_with_len 0 (length p.procs + 1))

names_count : (p : Program) (names : List (List (List ℕ))) → AreAllNames p names → length names ≡ length p.procs + 1
names_count p names e = ap length e ∙ length-map-range_with_len (dimensions p) 0 (length p.procs + 1)

owner_within : (c : Parts) (p : Program) (k : ℕ) → graph_of c ≡ core_of p → IsCore c → k < length c.owners → owner_of (core_of p) k < length (core_of p).procs
unfolding graph_of
owner_within c p k e core l = subst (λ (g : Graph). owner_of g k < length g.procs) e (core.owners k 0 l)

-- the owner of a point has its names among them
pub owner_named : (c : Parts) (p : Program) (k owner : ℕ) (names : List (List (List ℕ))) → graph_of c ≡ core_of p → IsCore c → k < length c.owners → owner ≡ owner_in c k
    → AreAllNames p names → owner < length names
owner_named c p k owner names e core l found named =
    omega (arith, owner_within c p k e core l, owner_is c (core_of p) k e, found, procs_count p, names_count p names named)

-- and they're the names at the point
pub names_found : (c : Parts) (p : Program) (k owner : ℕ) (names : List (List (List ℕ))) (here : List (List ℕ)) → graph_of c ≡ core_of p → owner ≡ owner_in c k
    → AreAllNames p names → owner < length names → here ≡ get_or names owner [] → here ≡ names_at p k
names_found c p k owner names here e found named l h =
    h ∙ ap (λ (xs : List (List (List ℕ))). get_or xs owner []) named
    ∙ get_or-map-range_with_len (dimensions p) 0 (length p.procs + 1) owner owner [] (omega (arith, l, names_count p names named)) (omega arith)
    ∙ ap (dimensions p) (found ∙ sym (owner_is c (core_of p) k e))

-- there is a name for each dimension of the value at a point
pub as_many_names : (c : Parts) (p : Program) (values : List Octagon) (k : ℕ) (here : List (List ℕ)) (v : Octagon) → graph_of c ≡ core_of p → IsCore c → k < length c.owners
    → DimensionsHaveNames → AreSized (core_of p) values → here ≡ names_at p k → value_in values k ≡ v → length here ≡ v.dims
unfolding graph_of
as_many_names c p values k here v e core l named sized h held =
    let points : k < length (core_of p).owners = omega (arith, l, ap (λ (g : Graph). length g.owners) e) in
    ap length h ∙ sym (sized.dims k points ∙ named p (owner_of (core_of p) k) (owner_within c p k e core l)) ∙ ap (λ (x : Octagon). x.dims) held

-- the text at a point
pub text_is : (full : Bool) (read : ℕ → Octagon) (p : Program) (k : ℕ) (here : List (List ℕ)) (v : Octagon) (text : List ℕ) → here ≡ names_at p k → read k ≡ v
    → text ≡ note_text here (note_of full v) → text ≡ point_text full read p k
text_is full read p k here v text h held t =
    t ∙ ap (λ names. note_text names (note_of full v)) h ∙ ap (λ x. note_text (names_at p k) (note_of full x)) (sym held)

-- ---- fails

-- the line of a fail, by the value that the code holds at its point
pub line_is : {V : Type 0} (bytes : List ℕ) (f : V → Octagon) (vs : List V) (fail : Fail) (v : V) (unreachable : Bool) (text : List ℕ) → fail.point < length vs → v ≡ get_or vs fail.point v
    → unreachable ≡ is_bottom (f v) → text ≡ fail_line bytes fail.offset unreachable → text ≡ fail_text bytes (value_in (map f vs)) fail
line_is bytes f vs fail v unreachable text l is bottom t =
    t ∙ ap (fail_line bytes fail.offset) (bottom ∙ ap is_bottom (sym (value_held f vs fail.point v l is)))

-- ---- the whole

-- the lines of the fails, and the number of rounds
pub closing_is : (bytes : List ℕ) (read : ℕ → Octagon) (p : Program) (fails : List Fail) (rounds : ℕ) (start noted closing : List (List ℕ)) (last : List ℕ)
    → start ≡ [] → noted ≡ start ++ map (fail_text bytes read) fails → fails ≡ fails_of p → closing ≡ noted ++ last ∷ [] → last ≡ rounds_text rounds
    → closing ≡ map (fail_text bytes read) (fails_of p) ++ rounds_text rounds ∷ []
closing_is bytes read p fails rounds start noted closing last empty each built added said =
    let all : noted ≡ map (fail_text bytes read) (fails_of p) = each ∙ ap (λ xs. xs ++ map (fail_text bytes read) fails) empty ∙ ap (map (fail_text bytes read)) built in
    added ∙ ap (λ xs. xs ++ last ∷ []) all ∙ ap (λ x. map (fail_text bytes read) (fails_of p) ++ x ∷ []) said

abbrev both : List (List ℕ) → List (List ℕ) → Noted
both points closing = record { points = points; closing = closing }

pub report_is : (bytes text : List ℕ) (full : Bool) (read : ℕ → Octagon) (rounds : ℕ) (p : Program) (n : Noted)
    → n.points ≡ for_lines (core_of p) (point_text full read p) → n.closing ≡ map (fail_text bytes read) (fails_of p) ++ rounds_text rounds ∷ []
    → text ≡ canonical bytes p n → text ≡ report bytes full read rounds p
unfolding report
report_is bytes text full read rounds p n points closing h =
    h ∙ ap (canonical bytes p) (ap (λ xs. both xs n.closing) points ∙ ap (both (for_lines (core_of p) (point_text full read p))) closing)

-- all points are through
pub all_lines : (c : Parts) (g : Graph) (f : ℕ → List ℕ) (start points : List (List ℕ)) (n : ℕ) → graph_of c ≡ g → n ≡ length c.owners
    → points ≡ start ++ flat_map (for_line g f) (range_with_len 0 n) → points ≡ start ++ for_lines g f
unfolding graph_of for_lines
all_lines c g f start points n e count h =
    let owners : n ≡ length g.owners = count ∙ ap (λ (x : Graph). length x.owners) e in
    h ∙ ap (λ k. start ++ flat_map (for_line g f) (range_with_len 0 k)) owners

-- the names of one more procedure
pub one_more_names : (p : Program) (n : ℕ) (so_far next : List (List (List ℕ))) (names : List (List ℕ)) → so_far ≡ map (dimensions p) (range_with_len 0 n)
    → next ≡ so_far ++ names ∷ [] → names ≡ dimensions p n → next ≡ map (dimensions p) (range_with_len 0 (n + 1))
one_more_names p n so_far next names e h d =
    h ∙ ap (λ xs. xs ++ names ∷ []) e ∙ ap (λ x. map (dimensions p) (range_with_len 0 n) ++ x ∷ []) d
    ∙ sym (map-range_with_len_more (dimensions p) 0 n n (omega arith))
