-- What is replayed in the graph of a core is a run.
use Rattle.std.proofs.Common.{◌≡◌, ℕ, suc, zero, ◌+◌, ◌<◌, ◌⊎◌, inl, inr, Bool, true, false, List, [], ◌∷◌, ◌++◌, length, take, get_or, Option, None, Some, ℤ, pos, negsuc, refl, sym, ap, subst, ◌∙◌, arith, append_assoc, append-nil, length-append}
use Rattle.std.specs.Prelude.{map, filter, slice_get, nat_eq, ◌&&◌, ◌||◌, not, if◌then◌else◌, cond}
use Rattle.std.specs.List.{fold}
use Rattle.std.proofs.Math.Seq.{take-append_seam}
use Rattle.std.proofs.lemmas.List.{length-map, get_or-map}
use Rattle.std.proofs.lemmas.Bool.{eqb-true}
use Rattle.spl_core.specs.declared.parts.Proc.{Proc}
use Rattle.spl_core.specs.declared.parts.Action.{Action}
use Rattle.spl_core.specs.declared.parts.Action.TheVariants as action
use Rattle.spl_core.specs.Parts.{Parts, proc_at, edge_at, no_edge, span_dims}
use Rattle.spl_core.specs.Facts.{IsCore, EdgeFits, ActionFits}
use Rattle.spl_core.specs.Expression.{Expression, State, value_of, eval}
use Rattle.spl_core.specs.Condition.{Condition, Constant, Random, Not, And, Or, Compare, comparison, May}
use Rattle.spl_core.specs.Graph.{Move, skips, assigns, havocs, tests, calls, starts, Arc, arc_of, move_of, Graph, graph_of, proc_of, main_of, no_arc, arc_at, arcs_out}
use Rattle.spl_runs.specs.Runs.{Flow, values_of, Frame, Stack, frame, outputs_of, with_values, Step, moves, enters, leaves, Joined, last_of}
use Rattle.spl_runs.specs.Choices.{Choice, Given}
use Rattle.spl_runs.specs.Replay.{is_wide, is_wide_condition, same_bool, comes_out, may, assigned_to, Change, now, no_change, past, changed, Outcome, moved, refused, wide, moved_to, over, over_some, advanced, numbered, if_called, if_some_called, left, left_over, is_zero, step_by, step_of, Top, top_of, ran, not_a_run, after, continued, replayed}
use Rattle.spl_runs.specs.Laws.{Chosen, IsReplay}
use Rattle.spl_runs.proofs.Spans.{span_length}
use Rattle.spl_runs.proofs.Following.{stays_no, stays_wide}

-- ---- conditions

same : (a b : Bool) → same_bool a b ≡ true → b ≡ a
same true true e = refl
same true false e = absurd (cc)
same false true e = absurd (cc)
same false false e = refl

both : (a b : Bool) → (a && b) ≡ true → (a ≡ true) × (b ≡ true)
both true true e = (refl, refl)
both true false e = absurd (cc)
both false b e = absurd (cc)

one_of : (a b : Bool) → (a || b) ≡ true → (a ≡ true) ⊎ (b ≡ true)
one_of true b e = inl refl
one_of false true e = inr refl
one_of false false e = absurd (cc)

came_out : (o : Option Bool) (wanted : Bool) → comes_out o wanted ≡ true → o ≡ Some wanted
came_out None wanted e = absurd (cc)
came_out (Some b) wanted e = ap Some (sym (same b wanted e))

pub may_sound : (c : Condition) (s : State) (b : Bool) → may c s b ≡ true → May c s b
may_sound (Constant value) s b e = same value b e
may_sound Random s b e = tt
may_sound (Not c) s b e = may_sound c s (not b) e
may_sound (And c d) s true e = let h = both (may c s true) (may d s true) e in (may_sound c s true h.0, may_sound d s true h.1)
may_sound (And c d) s false e = elim (one_of (may c s false) (may d s false) e) [ inl h ↦ inl (may_sound c s false h) | inr h ↦ inr (may_sound d s false h) ]
may_sound (Or c d) s true e = elim (one_of (may c s true) (may d s true) e) [ inl h ↦ inl (may_sound c s true h) | inr h ↦ inr (may_sound d s true h) ]
may_sound (Or c d) s false e = let h = both (may c s false) (may d s false) e in (may_sound c s false h.0, may_sound d s false h.1)
may_sound (Compare r x y) s wanted e = came_out (comparison r (eval x s) (eval y s)) wanted e

-- ---- a change within a frame is a flow

abbrev Flows : Move → State → Change → Type 0
Flows m s (now t) = Flow m s t
Flows m s no_change = Unit {0}
Flows m s past = Unit {0}

assigned_by : (t : Bool) (x : ℕ) (e : Expression) (s : State) (o : Option ℤ) → eval e s ≡ o → Flows (assigns x e) s (if t then past else assigned_to x s o)
assigned_by true x e s o h = tt
assigned_by false x e s None h = tt
assigned_by false x e s (Some y) h = (y, h, refl)

tested_by : (w t : Bool) (c : Condition) (wanted : Bool) (s : State) → may c s wanted ≡ t → Flows (tests c wanted) s (if w then past else (if t then now s else no_change))
tested_by true t c wanted s e = tt
tested_by false true c wanted s e = (may_sound c s wanted e, refl)
tested_by false false c wanted s e = tt

flows : (m : Move) (s : State) (values : List ℤ) → Flows m s (changed m s values)
flows skips s [] = refl
flows skips s (y ∷ ys) = tt
flows (assigns x e) s [] = assigned_by (is_wide e s) x e s (eval e s) refl
flows (assigns x e) s (y ∷ ys) = tt
flows (havocs x) s [] = tt
flows (havocs x) s (y ∷ []) = (y, refl)
flows (havocs x) s (y ∷ z ∷ ys) = tt
flows (tests c wanted) s [] = tested_by (is_wide_condition c s) (may c s wanted) c wanted s refl
flows (tests c wanted) s (y ∷ ys) = tt
flows (calls callee args targets) s values = tt
flows (starts pairs) s [] = refl
flows (starts pairs) s (y ∷ ys) = tt

-- ---- an edge of the graph

pub record IsArc (g : Graph) (point : ℕ) (a : Arc) : Type 0 where
  pub number : ℕ
  pub within : number < length g.arcs
  pub is : arc_at g number ≡ a
  pub source : a.source ≡ point

abbrev pub ArcsAre : Graph → ℕ → Option Arc → Type 0
ArcsAre g point None = Unit {0}
ArcsAre g point (Some a) = IsArc g point a

pub record Found (p : Arc → Bool) (xs : List Arc) (a : Arc) : Type 0 where
  pub number : ℕ
  pub within : number < length xs
  pub is : get_or xs number no_arc ≡ a
  pub passes : p a ≡ true

abbrev AreFound : (Arc → Bool) → List Arc → Option Arc → Type 0
AreFound p xs None = Unit {0}
AreFound p xs (Some a) = Found p xs a

found_later : (p : Arc → Bool) (x : Arc) (xs : List Arc) (o : Option Arc) → AreFound p xs o → AreFound p (x ∷ xs) o
found_later p x xs None h = tt
found_later p x xs (Some a) h = record { number = suc h.number; within = (let w : h.number < length xs = h.within in omega arith); is = h.is; passes = h.passes }

found_by : (p : Arc → Bool) (x : Arc) (xs : List Arc) (n : ℕ) (t : Bool) → p x ≡ t → ((m : ℕ) → AreFound p xs (slice_get (filter p xs) m)) → AreFound p (x ∷ xs) (slice_get (cond t (x ∷ filter p xs) (filter p xs)) n)
found_by p x xs zero true e h = record { number = 0; within = omega arith; is = refl; passes = e }
found_by p x xs (suc n) true e h = found_later p x xs (slice_get (filter p xs) n) (h n)
found_by p x xs n false e h = found_later p x xs (slice_get (filter p xs) n) (h n)

found : (p : Arc → Bool) (xs : List Arc) (n : ℕ) → AreFound p xs (slice_get (filter p xs) n)
found p [] n = tt
found p (x ∷ xs) n = found_by p x xs n (p x) refl (found p xs)

to_arc : (g : Graph) (point : ℕ) (o : Option Arc) → AreFound (λ a. nat_eq a.source point) g.arcs o → ArcsAre g point o
to_arc g point None h = tt
to_arc g point (Some a) h = record { number = h.number; within = h.within; is = h.is; source = eqb-true a.source point h.passes }

out_arc : (g : Graph) (point n : ℕ) → ArcsAre g point (slice_get (arcs_out g point) n)
out_arc g point n = to_arc g point (slice_get (arcs_out g point) n) (found (λ a. nat_eq a.source point) g.arcs n)

pub numbered_arc : (g : Graph) (point : ℕ) (z : ℤ) → ArcsAre g point (numbered (arcs_out g point) z)
numbered_arc g point (pos n) = out_arc g point n
numbered_arc g point (negsuc n) = tt

-- ---- one step

abbrev Sound : Graph → Stack → Outcome → Type 0
Sound g stack (moved next) = Step g stack next
Sound g stack refused = Unit {0}
Sound g stack wide = Unit {0}

pub step_moves : (g : Graph) (a : Arc) (top : Frame) (below : Stack) (t : State) → IsArc g top.point a → Flow a.move top.state t → Step g (top ∷ below) (frame a.target t ∷ below)
step_moves g a top below t i f =
    let P : Arc → Type 0 = λ x. Step g (frame x.source top.state ∷ below) (frame x.target t ∷ below) in
    let Q : ℕ → Type 0 = λ p. Step g (frame p top.state ∷ below) (frame a.target t ∷ below) in
    let F : Arc → Type 0 = λ x. Flow x.move top.state t in
    subst Q i.source (subst P i.is (moves i.number top.state t below i.within (subst F (sym i.is) f)))

change_sound : (g : Graph) (a : Arc) (top : Frame) (below : Stack) (c : Change) → IsArc g top.point a → Flows a.move top.state c → Sound g (top ∷ below) (moved_to a.target below c)
change_sound g a top below (now t) i f = step_moves g a top below t i f
change_sound g a top below no_change i f = tt
change_sound g a top below past i f = tt

within_frame : (g : Graph) (a : Arc) (top : Frame) (below : Stack) (m : Move) (values : List ℤ) → IsArc g top.point a → a.move ≡ m → Sound g (top ∷ below) (moved_to a.target below (changed m top.state values))
within_frame g a top below m values i e = let F : Move → Type 0 = λ x. Flows x top.state (changed m top.state values) in change_sound g a top below (changed m top.state values) i (subst F (sym e) (flows m top.state values))

call_fits : (c : Parts) (q : Proc) (act : Action) (callee : ℕ) (args targets : List ℕ) → ActionFits c q act → move_of c act ≡ calls callee args targets → length args ≡ (proc_at c callee).inputs
call_fits c q action.Skip callee args targets f e = absurd (cc)
call_fits c q (action.Assign x y) callee args targets f e = absurd (cc)
call_fits c q (action.Havoc x) callee args targets f e = absurd (cc)
call_fits c q (action.Test x w) callee args targets f e = absurd (cc)
call_fits c q (action.Call k sp st) callee args targets f e =
    let same_callee : k ≡ callee = cc in
    let same_args : span_dims c sp ≡ args = cc in
    ap length (sym same_args) ∙ (span_length c sp f.args_fit.0 ∙ (f.arguments ∙ ap (λ n. (proc_at c n).inputs) same_callee))
call_fits c q (action.Start x) callee args targets f e = absurd (cc)

arc_is : (c : Parts) (e : ℕ) → e < length (graph_of c).arcs → (e < length c.edges) × (arc_at (graph_of c) e ≡ arc_of c (edge_at c e))
unfolding graph_of
arc_is c e l =
    let few : e < length c.edges = omega (arith, length-map c.edges (arc_of c)) in
    (few, get_or-map (arc_of c) c.edges e no_edge no_arc few)

args_count : (c : Parts) (point : ℕ) (a : Arc) (callee : ℕ) (args targets : List ℕ) → IsCore c → IsArc (graph_of c) point a → a.move ≡ calls callee args targets → length args ≡ (proc_of (graph_of c) callee).inputs
unfolding graph_of
args_count c point a callee args targets w i e =
    let k = arc_is c i.number i.within in
    let fits : EdgeFits c (edge_at c i.number) = w.edges i.number no_edge k.0 in
    call_fits c _ (edge_at c i.number).action callee args targets fits.acts (ap (λ x. x.move) (sym k.1 ∙ i.is) ∙ e)

entered_by : (c : Parts) (a : Arc) (callee : ℕ) (args targets : List ℕ) (top : Frame) (below : Stack) (values : List ℤ) (t : Bool) → IsCore c → IsArc (graph_of c) top.point a → a.move ≡ calls callee args targets
    → nat_eq (length values + (proc_of (graph_of c) callee).inputs) (proc_of (graph_of c) callee).dims ≡ t
    → Sound (graph_of c) (top ∷ below) (if t then moved (frame (proc_of (graph_of c) callee).entry (values_of top.state args ++ values) ∷ top ∷ below) else refused)
entered_by c a callee args targets top below values false w i e h = tt
entered_by c a callee args targets top below values true w i e h =
    let g : Graph = graph_of c in
    let t : State = values_of top.state args ++ values in
    let n : length args ≡ (proc_of g callee).inputs = args_count c top.point a callee args targets w i e in
    let m : length (values_of top.state args) ≡ (proc_of g callee).inputs = length-map args (value_of top.state) ∙ n in
    let d : length values + (proc_of g callee).inputs ≡ (proc_of g callee).dims = eqb-true _ _ h in
    let P : Arc → Type 0 = λ x. Step g (frame x.source top.state ∷ below) (frame (proc_of g callee).entry t ∷ frame x.source top.state ∷ below) in
    let Q : ℕ → Type 0 = λ p. Step g (frame p top.state ∷ below) (frame (proc_of g callee).entry t ∷ frame p top.state ∷ below) in
    subst Q i.source (subst P i.is (enters i.number callee args targets top.state t below i.within (ap (λ x. x.move) i.is ∙ e)
    (record {
      dims = omega (arith, length-append (values_of top.state args) values, m, d);
      inputs = ap (λ k. take k (values_of top.state args ++ values)) (sym m) ∙ take-append_seam (values_of top.state args) values;
    })))

over_sound : (c : Parts) (a : Arc) (m : Move) (top : Frame) (below : Stack) (values : List ℤ) → IsCore c → IsArc (graph_of c) top.point a → a.move ≡ m → Sound (graph_of c) (top ∷ below) (over (graph_of c) a.target m top below values)
over_sound c a skips top below values w i e = within_frame (graph_of c) a top below skips values i e
over_sound c a (assigns x y) top below values w i e = within_frame (graph_of c) a top below (assigns x y) values i e
over_sound c a (havocs x) top below values w i e = within_frame (graph_of c) a top below (havocs x) values i e
over_sound c a (tests x y) top below values w i e = within_frame (graph_of c) a top below (tests x y) values i e
over_sound c a (calls callee args targets) top below values w i e = entered_by c a callee args targets top below values _ w i e refl
over_sound c a (starts x) top below values w i e = within_frame (graph_of c) a top below (starts x) values i e

some_sound : (c : Parts) (top : Frame) (below : Stack) (values : List ℤ) (o : Option Arc) → IsCore c → ArcsAre (graph_of c) top.point o → Sound (graph_of c) (top ∷ below) (over_some (graph_of c) top below values o)
some_sound c top below values None w i = tt
some_sound c top below values (Some a) w i = over_sound c a a.move top below values w i refl

advanced_sound : (c : Parts) (top : Frame) (below : Stack) (ch : Choice) → IsCore c → Sound (graph_of c) (top ∷ below) (advanced (graph_of c) top below ch)
advanced_sound c top below ch w = some_sound c top below ch.values (numbered (arcs_out (graph_of c) top.point) ch.edge) w (numbered_arc (graph_of c) top.point ch.edge)

pop_sound : (g : Graph) (stack : Stack) (t : Bool) (o : Outcome) → Sound g stack o → Sound g stack (if t then o else refused)
pop_sound g stack true o h = h
pop_sound g stack false o h = tt

pub step_leaves : (g : Graph) (a : Arc) (callee : ℕ) (args targets : List ℕ) (top caller : Frame) (below : Stack) → IsArc g caller.point a → a.move ≡ calls callee args targets → (proc_of g callee).exit ≡ top.point
    → Step g (top ∷ caller ∷ below) (frame a.target (with_values caller.state targets (outputs_of (proc_of g callee) top.state)) ∷ below)
step_leaves g a callee args targets top caller below i e x =
    let P : Arc → Type 0 = λ y. Step g (frame (proc_of g callee).exit top.state ∷ frame y.source caller.state ∷ below) (frame y.target (with_values caller.state targets (outputs_of (proc_of g callee) top.state)) ∷ below) in
    let Q : ℕ → Type 0 = λ p. Step g (frame (proc_of g callee).exit top.state ∷ frame p caller.state ∷ below) (frame a.target (with_values caller.state targets (outputs_of (proc_of g callee) top.state)) ∷ below) in
    let R : ℕ → Type 0 = λ p. Step g (frame p top.state ∷ caller ∷ below) (frame a.target (with_values caller.state targets (outputs_of (proc_of g callee) top.state)) ∷ below) in
    subst R x (subst Q i.source (subst P i.is (leaves i.number callee args targets caller.state top.state below i.within (ap (λ y. y.move) i.is ∙ e))))

called_by : (c : Parts) (a : Arc) (callee : ℕ) (args targets : List ℕ) (top caller : Frame) (below : Stack) (ch : Choice) (t : Bool) → IsCore c → IsArc (graph_of c) caller.point a → a.move ≡ calls callee args targets
    → nat_eq (proc_of (graph_of c) callee).exit top.point ≡ t → Sound (graph_of c) (top ∷ caller ∷ below) (step_by (graph_of c) top (caller ∷ below) ch (if t then Some a else None))
called_by c a callee args targets top caller below ch false w i e h = advanced_sound c top (caller ∷ below) ch w
called_by c a callee args targets top caller below ch true w i e h =
    let g : Graph = graph_of c in
    let S : Move → Type 0 = λ m. Sound g (top ∷ caller ∷ below) (left_over g top caller below a.target m) in
    pop_sound g (top ∷ caller ∷ below) (is_zero ch.edge && nat_eq (length ch.values) 0) (left g top (caller ∷ below) a)
    (subst S (sym e) (step_leaves g a callee args targets top caller below i e (eqb-true _ _ h)))

if_called_sound : (c : Parts) (a : Arc) (m : Move) (top caller : Frame) (below : Stack) (ch : Choice) → IsCore c → IsArc (graph_of c) caller.point a → a.move ≡ m
    → Sound (graph_of c) (top ∷ caller ∷ below) (step_by (graph_of c) top (caller ∷ below) ch (if_called (graph_of c) top.point a m))
if_called_sound c a skips top caller below ch w i e = advanced_sound c top (caller ∷ below) ch w
if_called_sound c a (assigns x y) top caller below ch w i e = advanced_sound c top (caller ∷ below) ch w
if_called_sound c a (havocs x) top caller below ch w i e = advanced_sound c top (caller ∷ below) ch w
if_called_sound c a (tests x y) top caller below ch w i e = advanced_sound c top (caller ∷ below) ch w
if_called_sound c a (calls callee args targets) top caller below ch w i e = called_by c a callee args targets top caller below ch _ w i e refl
if_called_sound c a (starts x) top caller below ch w i e = advanced_sound c top (caller ∷ below) ch w

some_called_sound : (c : Parts) (o : Option Arc) (top caller : Frame) (below : Stack) (ch : Choice) → IsCore c → ArcsAre (graph_of c) caller.point o
    → Sound (graph_of c) (top ∷ caller ∷ below) (step_by (graph_of c) top (caller ∷ below) ch (if_some_called (graph_of c) top.point o))
some_called_sound c None top caller below ch w i = advanced_sound c top (caller ∷ below) ch w
some_called_sound c (Some a) top caller below ch w i = if_called_sound c a a.move top caller below ch w i refl

step_sound : (c : Parts) (stack : Stack) (ch : Choice) → IsCore c → Sound (graph_of c) stack (step_of (graph_of c) stack ch)
step_sound c [] ch w = tt
step_sound c (top ∷ []) ch w = advanced_sound c top [] ch w
step_sound c (top ∷ caller ∷ below) ch w = some_called_sound c (slice_get (arcs_out (graph_of c) caller.point) 0) top caller below ch w (out_arc (graph_of c) caller.point 0)

-- ---- all steps

record Runs (g : Graph) (first : Stack) (steps : List Choice) (tops tops' : List Top) (last : Stack) : Type 0 where
  pub stacks : List Stack
  pub joined : Joined g first stacks
  pub chosen : Chosen g first stacks steps
  pub tops_are : tops ++ map top_of stacks ≡ tops'
  pub last_is : last_of first stacks ≡ last

runs : (c : Parts) (first : Stack) (steps : List Choice) (tops tops' : List Top) (last : Stack) → IsCore c → fold (continued (graph_of c)) (ran tops first) steps ≡ ran tops' last → Runs (graph_of c) first steps tops tops' last
runs c first [] tops tops' last w e = record {
  stacks = [];
  joined = tt;
  chosen = tt;
  tops_are = append-nil tops ∙ (let h : tops ≡ tops' = cc in h);
  last_is = let h : first ≡ last = cc in h;
}
runs c first (s ∷ steps) tops tops' last w e = by (step_of (graph_of c) first s) refl (step_sound c first s w) e (λ next. runs c next steps (tops ++ top_of next ∷ []) tops' last w)
  where
    by : (o : Outcome) → step_of (graph_of c) first s ≡ o → Sound (graph_of c) first o → fold (continued (graph_of c)) (after tops o) steps ≡ ran tops' last
        → ((next : Stack) → fold (continued (graph_of c)) (ran (tops ++ top_of next ∷ []) next) steps ≡ ran tops' last → Runs (graph_of c) next steps (tops ++ top_of next ∷ []) tops' last)
        → Runs (graph_of c) first (s ∷ steps) tops tops' last
    by (moved next) i j h go =
        let r = go next h in
        record {
          stacks = next ∷ r.stacks;
          joined = (j, r.joined);
          chosen = (i, r.chosen);
          tops_are = sym (append_assoc tops (top_of next ∷ []) (map top_of r.stacks)) ∙ r.tops_are;
          last_is = r.last_is;
        }
    by refused i j h go = let n = stays_no (graph_of c) (length tops) steps in absurd (cc)
    by wide i j h go = let n = stays_wide (graph_of c) (length tops) steps in absurd (cc)

begun_run : (c : Parts) (given : Given) (tops : List Top) (last : Stack) (t : Bool) → IsCore c → nat_eq (length given.start) (proc_of (graph_of c) (main_of (graph_of c))).dims ≡ t
    → fold (continued (graph_of c)) (if t then ran (top_of (frame (proc_of (graph_of c) (main_of (graph_of c))).entry given.start ∷ []) ∷ []) (frame (proc_of (graph_of c) (main_of (graph_of c))).entry given.start ∷ []) else not_a_run 0) given.steps ≡ ran tops last
    → IsReplay (graph_of c) given tops last
begun_run c given tops last false w d e = let n = stays_no (graph_of c) 0 given.steps in absurd (cc)
begun_run c given tops last true w d e =
    let first : Stack = frame (proc_of (graph_of c) (main_of (graph_of c))).entry given.start ∷ [] in
    let r : Runs (graph_of c) first given.steps (top_of first ∷ []) tops last = runs c first given.steps (top_of first ∷ []) tops last w e in
    record {
      run = record { start = given.start; dims = eqb-true _ _ d; stacks = r.stacks; joined = r.joined };
      start = refl;
      steps = r.chosen;
      seen = r.tops_are;
      last = r.last_is;
    }

pub replays_are_runs : (c : Parts) (given : Given) (tops : List Top) (stack : Stack) → IsCore c → replayed (graph_of c) given ≡ ran tops stack → IsReplay (graph_of c) given tops stack
replays_are_runs c given tops stack w e = begun_run c given tops stack _ w refl e
