-- Edges of a core and of its graph.
use Rattle.std.proofs.Common.{◌≡◌, ℕ, suc, zero, ◌-◌, ◌≤◌, Bool, true, false, List, [], ◌∷◌, ◌++◌, length, None, Some, ℤ, pos, negsuc, ◌≤ℤ◌, refl, sym, ap, ◌∙◌, arith}
use Rattle.std.specs.Prelude.{map, filter, slice_get, nat_eq, reverse, cond}
use Rattle.std.specs.Option.{option_map}
use Rattle.std.proofs.lemmas.Int.{ints}
use Rattle.std.proofs.lemmas.List.{map-append, reverse-append}
use Rattle.spl_core.specs.declared.parts.Edge.{Edge}
use Rattle.spl_core.specs.Parts.{Parts}
use Rattle.spl_core.specs.Graph.{Arc, arc_of, move_of, graph_of, arcs_out}
use Rattle.spl_runs.specs.declared.frame.Frame.{Frame as Held}
use Rattle.spl_runs.specs.Runs.{Frame, Stack}
use Rattle.spl_runs.specs.Choices.{Choice}
use Rattle.spl_runs.specs.Replay.{numbered, Outcome, refused, over, over_some, advanced, if_pop, if_called, if_some_called, return_edge}
use Rattle.spl_runs.specs.Stacks.{frame_of, frames_of}

-- the edges out of a point, in a core and in its graph
out_by : (c : Parts) (p : ℕ) (xs : List Edge) → filter (λ (a : Arc). nat_eq a.source p) (map (arc_of c) xs) ≡ map (arc_of c) (filter (λ e. nat_eq e.source p) xs)
out_by c p [] = refl
out_by c p (x ∷ xs) = by (nat_eq x.source p) (out_by c p xs)
  where
    by : (t : Bool) → filter (λ (a : Arc). nat_eq a.source p) (map (arc_of c) xs) ≡ map (arc_of c) (filter (λ e. nat_eq e.source p) xs)
        → cond t (arc_of c x ∷ filter (λ (a : Arc). nat_eq a.source p) (map (arc_of c) xs)) (filter (λ (a : Arc). nat_eq a.source p) (map (arc_of c) xs)) ≡ map (arc_of c) (cond t (x ∷ filter (λ e. nat_eq e.source p) xs) (filter (λ e. nat_eq e.source p) xs))
    by true h = ap (λ ys. arc_of c x ∷ ys) h
    by false h = h

get_map : {X Y : Type 0} (f : X → Y) (xs : List X) (n : ℕ) → slice_get (map f xs) n ≡ option_map f (slice_get xs n)
get_map f [] n = refl
get_map f (x ∷ xs) zero = refl
get_map f (x ∷ xs) (suc n) = get_map f xs n

pub out_at : (c : Parts) (p n : ℕ) → slice_get (arcs_out (graph_of c) p) n ≡ option_map (arc_of c) (slice_get (filter (λ e. nat_eq e.source p) c.edges) n)
unfolding graph_of
out_at c p n = ap (λ xs. slice_get xs n) (out_by c p c.edges) ∙ get_map (arc_of c) (filter (λ e. nat_eq e.source p) c.edges) n

-- the frames below the top one
pub frames_pushed : (fs : List Held) (f : Held) → frames_of (fs ++ f ∷ []) ≡ frame_of f ∷ frames_of fs
frames_pushed fs f = ap reverse (map-append frame_of fs (f ∷ [])) ∙ reverse-append (map frame_of fs) (frame_of f ∷ [])

get_past : {X : Type 0} (xs : List X) (n : ℕ) → length xs ≤ n → slice_get xs n ≡ None
get_past [] n l = refl
get_past (x ∷ xs) zero l = absurd (omega arith)
get_past (x ∷ xs) (suc n) l = get_past xs n (omega arith)

filter_fewer : (p : Edge → Bool) (xs : List Edge) → length (filter p xs) ≤ length xs
filter_fewer p [] = omega arith
filter_fewer p (x ∷ xs) = by (p x) (filter_fewer p xs)
  where
    by : (t : Bool) → length (filter p xs) ≤ length xs → length (cond t (x ∷ filter p xs) (filter p xs)) ≤ suc (length xs)
    by true h = omega arith
    by false h = omega arith

pub numbered_past : (p : Edge → Bool) (xs : List Edge) (z : ℤ) → pos (length xs) ≤ℤ z → numbered (filter p xs) z ≡ None
numbered_past p xs (pos n) l = get_past (filter p xs) n (omega (arith, ints, filter_fewer p xs))
numbered_past p xs (negsuc n) l = absurd (omega (arith, ints))

-- the edge with a number, in a core and in its graph
pub numbered_at : (c : Parts) (p : ℕ) (z : ℤ) → numbered (arcs_out (graph_of c) p) z ≡ option_map (arc_of c) (numbered (filter (λ e. nat_eq e.source p) c.edges) z)
numbered_at c p (pos n) = out_at c p n
numbered_at c p (negsuc n) = refl

-- the step that pops
pub pops : (ch : Choice) (o : Outcome) → ch.edge ≡ pos 0 → length ch.values ≡ 0 → if_pop ch o ≡ o
pops ch o z n = rw (z, n) refl

pub advance_none : (c : Parts) (top : Frame) (below : Stack) (ch : Choice) → numbered (filter (λ e. nat_eq e.source top.point) c.edges) ch.edge ≡ None → advanced (graph_of c) top below ch ≡ refused
advance_none c top below ch e = ap (over_some (graph_of c) top below ch.values) (numbered_at c top.point ch.edge ∙ ap (option_map (arc_of c)) e)

pub advance_some : (c : Parts) (top : Frame) (below : Stack) (ch : Choice) (e : Edge) → numbered (filter (λ x. nat_eq x.source top.point) c.edges) ch.edge ≡ Some e
    → advanced (graph_of c) top below ch ≡ over (graph_of c) e.target (move_of c e.action) top below ch.values
advance_some c top below ch e h = ap (over_some (graph_of c) top below ch.values) (numbered_at c top.point ch.edge ∙ ap (option_map (arc_of c)) h)

last_is : (xs : List Held) (x : Held) → Some x ≡ slice_get xs (length xs - 1) → (front : List Held) × (xs ≡ front ++ x ∷ [])
last_is [] x e = absurd (cc)
last_is (y ∷ []) x e = let same : x ≡ y = cc in ([], ap (λ z. z ∷ []) (sym same))
last_is (y ∷ z ∷ ys) x e =
    let i : suc (suc (length ys)) - 1 ≡ suc (suc (length ys) - 1) = omega arith in
    let r = last_is (z ∷ ys) x (e ∙ ap (slice_get (y ∷ z ∷ ys)) i) in
    (y ∷ r.0, ap (λ fs. y ∷ fs) r.1)

-- the frame right below the top one is the last of those that the code has
pub below_is : (xs : List Held) (x : Held) → Some x ≡ slice_get xs (length xs - 1) → (below : Stack) × (frames_of xs ≡ frame_of x ∷ below)
below_is xs x e = let r = last_is xs x e in (frames_of r.0, ap frames_of r.1 ∙ frames_pushed r.0 x)

pub return_some : (c : Parts) (top : Frame) (xs : List Held) (x : Held) (e : Edge) → Some x ≡ slice_get xs (length xs - 1) → Some e ≡ slice_get (filter (λ a. nat_eq a.source x.point) c.edges) 0
    → if_called (graph_of c) top.point (arc_of c e) (move_of c e.action) ≡ return_edge (graph_of c) top (frames_of xs)
return_some c top xs x e l f =
    let b = below_is xs x l in
    sym (ap (return_edge (graph_of c) top) b.1 ∙ ap (if_some_called (graph_of c) top.point) (out_at c x.point 0 ∙ ap (option_map (arc_of c)) (sym f)))

pub return_none : (c : Parts) (top : Frame) (xs : List Held) (x : Held) → Some x ≡ slice_get xs (length xs - 1) → None ≡ slice_get (filter (λ a. nat_eq a.source x.point) c.edges) 0
    → None ≡ return_edge (graph_of c) top (frames_of xs)
return_none c top xs x l f =
    let b = below_is xs x l in
    sym (ap (return_edge (graph_of c) top) b.1 ∙ ap (if_some_called (graph_of c) top.point) (out_at c x.point 0 ∙ ap (option_map (arc_of c)) (sym f)))
