-- The lines of points in the canonical text are those of the points that are no entries.
use Rattle.std.proofs.Common.{◌≡◌, ℕ, zero, suc, ◌+◌, ◌-◌, ◌<◌, Bool, true, false, cond, List, [], ◌∷◌, ◌++◌, length, map, codes, get_or, replicate, refl, sym, ap, ◌∙◌, subst, arith, length-append, append-nil}
use Rattle.std.specs.List.{flat_map, range_with_len}
use Rattle.std.proofs.lemmas.Bool.{eq-eqb, ne_eqb}
use Rattle.std.proofs.lemmas.Grind.{flat_map-append}
use Rattle.std.proofs.lemmas.List.{length-replicate, get_or_append_left, get_or-append-add, get_or-replicate}
use Rattle.spl_tree.specs.Program.{Declared, StmtTree, skip, halt, fail, assume, assign, call, if_then, if_else, while_do, BlockTree, empty, more, ProcMeaning, Program, places_of}
use Rattle.spl_types.specs.Checks.{Procedure, procedure_of, main_procedure}
use Rattle.spl_types.specs.Dimensions.{procedures}
use Rattle.spl_core.specs.declared.parts.Proc.{Proc}
use Rattle.spl_core.specs.Parts.{no_proc}
use Rattle.spl_core.specs.Graph.{Graph, owner_of, proc_of, proc_owning}
use Rattle.spl_print.specs.Canonical.{Line, words, point, block_lines, stmt_lines, locals_lines, body_lines, proc_lines, program_lines, point_lines}
use Rattle.control_points.specs.CoreOf.{stmt_points, block_points, procedure_points, points_by, proc_of as proc_from, owners_after, procs_after, core_of, offsets_of}
use Rattle.control_points.proofs.Owning.{counted}
use Rattle.call_graph.specs.Order.{is_entry}
use Rattle.report.specs.Points.{for_line, for_lines, line_places, place_at, LinesArePoints}

-- ---- the canonical text

line_places-append : (xs ys : List Line) → line_places (xs ++ ys) ≡ line_places xs ++ line_places ys
line_places-append [] ys = refl
line_places-append (words n text ∷ xs) ys = line_places-append xs ys
line_places-append (point n at ∷ xs) ys = ap (λ l. at ∷ l) (line_places-append xs ys)

-- words after some lines
then_words : (xs : List Line) (n : ℕ) (text : List ℕ) → line_places (xs ++ words n text ∷ []) ≡ line_places xs
then_words xs n text = line_places-append xs (words n text ∷ []) ∙ append-nil (line_places xs)

mutual
  stmt_places : (n : ℕ) (s : StmtTree) → line_places (stmt_lines n s) ≡ stmt_points s
  stmt_places n (skip at) = refl
  stmt_places n (halt at) = refl
  stmt_places n (fail at) = refl
  stmt_places n (assume e at) = refl
  stmt_places n (assign x e at) = refl
  stmt_places n (call targets called args at) = refl
  stmt_places n (if_then e a at) = then_words (block_lines (n + 2) at.first_block a) n (codes "endif;") ∙ block_places (n + 2) at.first_block a
  stmt_places n (if_else e a b at) =
      let second = block_lines (n + 2) at.second_block b ++ words n (codes "endif;") ∷ [] in
      line_places-append (block_lines (n + 2) at.first_block a) (words n (codes "else") ∷ second)
      ∙ ap (λ l. l ++ line_places second) (block_places (n + 2) at.first_block a)
      ∙ ap (λ l. block_points at.first_block a ++ l) (then_words (block_lines (n + 2) at.second_block b) n (codes "endif;") ∙ block_places (n + 2) at.second_block b)
  stmt_places n (while_do e a at) = then_words (block_lines (n + 2) at.first_block a) n (codes "done;") ∙ block_places (n + 2) at.first_block a

  block_places : (n start : ℕ) (b : BlockTree) → line_places (block_lines n start b) ≡ block_points start b
  block_places n start empty = refl
  block_places n start (more b s) =
      let last : List Line = point n (places_of s).end ∷ [] in
      line_places-append (block_lines n start b) (stmt_lines n s ++ last)
      ∙ ap (λ l. l ++ line_places (stmt_lines n s ++ last)) (block_places n start b)
      ∙ ap (λ l. block_points start b ++ l) (line_places-append (stmt_lines n s) last ∙ ap (λ l. l ++ (places_of s).end ∷ []) (stmt_places n s))

-- the places of the points of a procedure's body
abbrev body_points : Procedure → List ℕ
body_points u = block_points (u.begin + 5) u.body

locals_none : (ds : List Declared) → line_places (locals_lines ds) ≡ []
locals_none [] = refl
locals_none (d ∷ ds) = refl

body_places : (ds : List Declared) (begin : ℕ) (b : BlockTree) → line_places (body_lines ds begin b) ≡ block_points (begin + 5) b
body_places ds begin b =
    let body = block_lines 2 (begin + 5) b ++ words 0 (codes "end") ∷ [] in
    line_places-append (locals_lines ds) (words 0 (codes "begin") ∷ body)
    ∙ ap (λ l. l ++ line_places body) (locals_none ds)
    ∙ (then_words (block_lines 2 (begin + 5) b) 0 (codes "end") ∙ block_places 2 (begin + 5) b)

procs_places : (ps : List ProcMeaning) → line_places (flat_map proc_lines ps) ≡ flat_map body_points (map procedure_of ps)
procs_places [] = refl
procs_places (q ∷ qs) =
    line_places-append (proc_lines q) (flat_map proc_lines qs)
    ∙ ap (λ l. l ++ line_places (flat_map proc_lines qs)) (body_places q.locals q.begin q.body)
    ∙ ap (λ l. body_points (procedure_of q) ++ l) (procs_places qs)

program_places : (p : Program) → line_places (program_lines p) ≡ flat_map body_points (procedures p)
unfolding program_lines
program_places p =
    let main = body_lines p.locals p.begin p.body in
    let before = flat_map body_points (map procedure_of p.procs) in
    line_places-append (flat_map proc_lines p.procs) main
    ∙ ap (λ l. l ++ line_places main) (procs_places p.procs)
    ∙ ap (λ l. before ++ l) (body_places p.locals p.begin p.body ∙ sym (append-nil (body_points (main_procedure p))))
    ∙ sym (flat_map-append body_points (map procedure_of p.procs) (main_procedure p ∷ []))

-- ---- the core

nothing-added : (n : ℕ) → 0 + n ≡ n
nothing-added n = omega arith

range-split : (a m n : ℕ) → range_with_len a (m + n) ≡ range_with_len a m ++ range_with_len (a + m) n
range-split a zero n =
    let e : a + 0 ≡ a = omega arith in
    ap (range_with_len a) (nothing-added n) ∙ ap (λ k. range_with_len k n) (sym e)
range-split a (suc m) n =
    let e : a + 1 + m ≡ a + suc m = omega arith in
    let more : suc m + n ≡ suc (m + n) = omega arith in
    ap (range_with_len a) more ∙ ap (λ l. a ∷ l) (range-split (a + 1) m n ∙ ap (λ k. range_with_len (a + 1) m ++ range_with_len k n) e)

-- numbers in a row, each with one item of a list
singles : (f : ℕ → List ℕ) (a : ℕ) (xs : List ℕ) → ((j : ℕ) → j < length xs → f (a + j) ≡ get_or xs j 0 ∷ []) → flat_map f (range_with_len a (length xs)) ≡ xs
singles f a [] h = refl
singles f a (x ∷ xs) h =
    let z : a + 0 ≡ a = omega arith in
    let first : f a ≡ x ∷ [] = subst (λ k. f k ≡ x ∷ []) z (h 0 (omega arith)) in
    let later = singles f (a + 1) xs (λ j l. let e : a + suc j ≡ a + 1 + j = omega arith in subst (λ k. f k ≡ get_or xs j 0 ∷ []) e (h (suc j) (omega arith))) in
    ap (λ l. l ++ flat_map f (range_with_len (a + 1) (length xs))) first ∙ ap (λ l. x ∷ l) later

entry_has_none : (g : Graph) (f : ℕ → ℕ) (k : ℕ) → (proc_owning g k).entry ≡ k → for_line g f k ≡ []
unfolding is_entry
entry_has_none g f k e = rw (eq-eqb (proc_owning g k).entry k e) refl

other_has_one : (g : Graph) (f : ℕ → ℕ) (k : ℕ) → (k ≡ (proc_owning g k).entry → ⊥) → for_line g f k ≡ f k ∷ []
unfolding is_entry
other_has_one g f k e = rw (ne_eqb (proc_owning g k).entry k (λ same. e (sym same))) refl

-- from a point and a procedure on, a graph is made of these procedures, and a list has their places
record Holds (g : Graph) (f : ℕ → ℕ) (p points : ℕ) (us : List Procedure) : Type 0 where
  owners : (j : ℕ) → j < length (owners_after p points us) → owner_of g (points + j) ≡ get_or (owners_after p points us) j 0
  procs : (i : ℕ) → i < length us → proc_of g (p + i) ≡ get_or (procs_after points us) i no_proc
  places : (j : ℕ) → j < length (owners_after p points us) → f (points + j) ≡ get_or (flat_map procedure_points us) j 0

-- the first of the procedures
abbrev own : ℕ → ℕ → Procedure → List ℕ
own p points u = replicate (points_by points u - points) p

abbrev rest : ℕ → ℕ → Procedure → List Procedure → List ℕ
rest p points u us = owners_after (p + 1) (points_by points u) us

own_length : (p points : ℕ) (u : Procedure) → length (own p points u) ≡ length (procedure_points u)
own_length p points u = omega (arith, length-replicate (points_by points u - points) p, counted points u)

first_owner : (g : Graph) (f : ℕ → ℕ) (p points : ℕ) (u : Procedure) (us : List Procedure) → Holds g f p points (u ∷ us)
    → (j : ℕ) → j < length (procedure_points u) → owner_of g (points + j) ≡ p
first_owner g f p points u us h j l =
    let n = own_length p points u in
    let r = length-replicate (points_by points u - points) p in
    let within : j < length (own p points u ++ rest p points u us) = omega (arith, n, length-append (own p points u) (rest p points u us)) in
    h.owners j within ∙ get_or_append_left (own p points u) (rest p points u us) 0 j (omega (arith, n))
    ∙ get_or-replicate (points_by points u - points) j p 0 (omega (arith, n, r))

first_proc : (g : Graph) (f : ℕ → ℕ) (p points : ℕ) (u : Procedure) (us : List Procedure) → Holds g f p points (u ∷ us) → proc_of g p ≡ proc_from points u
first_proc g f p points u us h =
    let z : p + 0 ≡ p = omega arith in
    subst (λ k. proc_of g k ≡ proc_from points u) z (h.procs 0 (omega arith))

first_entry : (g : Graph) (f : ℕ → ℕ) (p points : ℕ) (u : Procedure) (us : List Procedure) → Holds g f p points (u ∷ us)
    → (j : ℕ) → j < length (procedure_points u) → (proc_owning g (points + j)).entry ≡ points
first_entry g f p points u us h j l =
    ap (λ (k : ℕ). (proc_of g k).entry) (first_owner g f p points u us h j l) ∙ ap (λ (q : Proc). q.entry) (first_proc g f p points u us h)

first_place : (g : Graph) (f : ℕ → ℕ) (p points : ℕ) (u : Procedure) (us : List Procedure) → Holds g f p points (u ∷ us)
    → (j : ℕ) → j < length (procedure_points u) → f (points + j) ≡ get_or (procedure_points u) j 0
first_place g f p points u us h j l =
    let within : j < length (own p points u ++ rest p points u us) = omega (arith, own_length p points u, length-append (own p points u) (rest p points u us)) in
    h.places j within ∙ get_or_append_left (procedure_points u) (flat_map procedure_points us) 0 j l

-- the lines of a procedure are those of its body
first_lines : (g : Graph) (f : ℕ → ℕ) (p points : ℕ) (u : Procedure) (us : List Procedure) → Holds g f p points (u ∷ us)
    → flat_map (for_line g f) (range_with_len points (length (procedure_points u))) ≡ body_points u
first_lines g f p points u us h =
    let z : points + 0 ≡ points = omega arith in
    let entry : (proc_owning g points).entry ≡ points = subst (λ k. (proc_owning g k).entry ≡ points) z (first_entry g f p points u us h 0 (omega arith)) in
    let body = singles (for_line g f) (points + 1) (body_points u) (λ j l.
    let e : points + suc j ≡ points + 1 + j = omega arith in
    let l' : suc j < length (procedure_points u) = omega arith in
    let other : (points + suc j ≡ (proc_owning g (points + suc j)).entry → ⊥) = λ same. omega (arith, same, first_entry g f p points u us h (suc j) l') in
    subst (λ k. for_line g f k ≡ get_or (body_points u) j 0 ∷ []) e
    (other_has_one g f (points + suc j) other ∙ ap (λ x. x ∷ []) (first_place g f p points u us h (suc j) l'))) in
    ap (λ l. l ++ flat_map (for_line g f) (range_with_len (points + 1) (length (body_points u)))) (entry_has_none g f points entry) ∙ body

later : (g : Graph) (f : ℕ → ℕ) (p points : ℕ) (u : Procedure) (us : List Procedure) → Holds g f p points (u ∷ us) → Holds g f (p + 1) (points_by points u) us
later g f p points u us h =
    let n = own_length p points u in
    let m = counted points u in
    let all = length-append (own p points u) (rest p points u us) in
    record {
      owners = λ j l.
          let e : points + (length (own p points u) + j) ≡ points_by points u + j = omega (arith, n, m) in
          subst (λ k. owner_of g k ≡ get_or (rest p points u us) j 0) e
          (h.owners (length (own p points u) + j) (omega (arith, all)) ∙ get_or-append-add (own p points u) (rest p points u us) j 0);
      procs = λ i l. let e : p + suc i ≡ p + 1 + i = omega arith in subst (λ k. proc_of g k ≡ get_or (procs_after (points_by points u) us) i no_proc) e (h.procs (suc i) (omega arith));
      places = λ j l.
          let e : points + (length (procedure_points u) + j) ≡ points_by points u + j = omega (arith, m) in
          subst (λ k. f k ≡ get_or (flat_map procedure_points us) j 0) e
          (h.places (length (procedure_points u) + j) (omega (arith, all, n)) ∙ get_or-append-add (procedure_points u) (flat_map procedure_points us) j 0);
    }

lines_after : (g : Graph) (f : ℕ → ℕ) (p points : ℕ) (us : List Procedure) → Holds g f p points us
    → flat_map (for_line g f) (range_with_len points (length (owners_after p points us))) ≡ flat_map body_points us
lines_after g f p points [] h = refl
lines_after g f p points (u ∷ us) h =
    let m = length (procedure_points u) in
    let n = length (rest p points u us) in
    let all : length (own p points u ++ rest p points u us) ≡ m + n = omega (arith, length-append (own p points u) (rest p points u us), own_length p points u) in
    let next : points + m ≡ points_by points u = sym (counted points u) in
    ap (λ k. flat_map (for_line g f) (range_with_len points k)) all
    ∙ ap (flat_map (for_line g f)) (range-split points m n ∙ ap (λ k. range_with_len points m ++ range_with_len k n) next)
    ∙ flat_map-append (for_line g f) (range_with_len points m) (range_with_len (points_by points u) n)
    ∙ ap (λ l. l ++ flat_map (for_line g f) (range_with_len (points_by points u) n)) (first_lines g f p points u us h)
    ∙ ap (λ l. body_points u ++ l) (lines_after g f (p + 1) (points_by points u) us (later g f p points u us h))

pub lines_are_points : LinesArePoints
unfolding for_lines core_of offsets_of
lines_are_points p =
    let held : Holds (core_of p) (place_at p) 0 0 (procedures p) = record {
      owners = λ j l. ap (owner_of (core_of p)) (nothing-added j);
      procs = λ i l. ap (proc_of (core_of p)) (nothing-added i);
      places = λ j l. ap (place_at p) (nothing-added j);
    } in
    program_places p ∙ sym (lines_after (core_of p) (place_at p) 0 0 (procedures p) held)

-- ---- as many lines as points that have one

for_lines-length : {A B : Type 0} (g : Graph) (f : ℕ → A) (h : ℕ → B) (ks : List ℕ) → length (flat_map (for_line g f) ks) ≡ length (flat_map (for_line g h) ks)
for_lines-length g f h [] = refl
for_lines-length g f h (k ∷ ks) = by (is_entry g k) (for_lines-length g f h ks)
  where
    by : (b : Bool) → length (flat_map (for_line g f) ks) ≡ length (flat_map (for_line g h) ks)
        → length (cond b [] (f k ∷ []) ++ flat_map (for_line g f) ks) ≡ length (cond b [] (h k ∷ []) ++ flat_map (for_line g h) ks)
    by true later = later
    by false later = ap suc later

length-line_places : (lines : List Line) → length (line_places lines) ≡ point_lines lines
length-line_places [] = refl
length-line_places (words n text ∷ lines) = length-line_places lines
length-line_places (point n at ∷ lines) = omega (arith, length-line_places lines)

pub as_many_lines : {A : Type 0} (p : Program) (f : ℕ → A) → length (for_lines (core_of p) f) ≡ point_lines (program_lines p)
unfolding for_lines
as_many_lines p f =
    for_lines-length (core_of p) f (place_at p) (range_with_len 0 (length (core_of p).owners))
    ∙ ap length (sym (lines_are_points p))
    ∙ length-line_places (program_lines p)
