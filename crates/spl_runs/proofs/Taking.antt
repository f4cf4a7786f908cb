-- A step of a replay moves on exactly where its choice takes it there, and each step of a run has a choice.
use Rattle.std.proofs.Common.{◌≡◌, ℕ, suc, zero, ◌+◌, ◌<◌, inl, inr, Bool, true, false, List, [], ◌∷◌, ◌++◌, length, take, drop, get_or, Option, None, Some, ℤ, pos, negsuc, refl, sym, ap, subst, ◌∙◌, arith, length-append, length-drop}
use Rattle.std.specs.Prelude.{filter, slice_get, nat_eq, ◌&&◌, ◌||◌, not, if◌then◌else◌, cond}
use Rattle.std.proofs.Math.Seq.{take-append_seam}
use Rattle.std.proofs.lemmas.List.{length-map, take-append-drop}
use Rattle.std.proofs.lemmas.Bool.{eqb-true}
use Rattle.std.proofs.lemmas.Bool.Decides.{nat_tests}
use Rattle.spl_core.specs.Parts.{no_proc}
use Rattle.spl_core.specs.Expression.{Expression, State, value_of, eval}
use Rattle.spl_core.specs.Condition.{Condition, Constant, Random, Not, And, Or, Compare, May}
use Rattle.spl_core.specs.Graph.{Move, skips, assigns, havocs, tests, calls, starts, Arc, Graph, no_arc, proc_of, arc_at, owner_of, arcs_out}
use Rattle.spl_core.specs.GraphFacts.{IsGraph, ArcFits, ProcFitsIn}
use Rattle.spl_runs.specs.Runs.{Flow, values_of, Frame, Stack, frame, outputs_of, with_values, Step, moves, enters, leaves}
use Rattle.spl_runs.specs.Choices.{Choice}
use Rattle.spl_runs.specs.Replay.{is_wide, is_wide_condition, same_bool, comes_out, may, assigned_to, Change, now, no_change, past, changed, Outcome, moved, refused, wide, moved_to, over, over_some, advanced, numbered, return_edge, if_called, if_some_called, if_pop, left_over, is_zero, step_by, step_of}
use Rattle.spl_runs.specs.Takes.{Gives, IsEdgeOut, Takes, moves_over, calls_in, pops_back, is_wide_move, is_wide_over, is_wide_step, MovesAreTaken, TakenAreMoves, TakenAreSteps, StepsHaveChoices}
use Rattle.spl_runs.proofs.Sound.{IsArc, ArcsAre, numbered_arc, may_sound, step_moves, step_leaves}
use Rattle.spl_runs.proofs.Coming.{call_fits}

-- ---- conditions

is_same : (b : Bool) → same_bool b b ≡ true
is_same true = refl
is_same false = refl

and_true : (a b : Bool) → a ≡ true → b ≡ true → (a && b) ≡ true
and_true a b e f = rw (e, f) refl

or_first : (a b : Bool) → a ≡ true → (a || b) ≡ true
or_first a b e = rw e refl

or_last : (a b : Bool) → b ≡ true → (a || b) ≡ true
or_last true b e = refl
or_last false b e = e

may_complete : (c : Condition) (s : State) (b : Bool) → May c s b → may c s b ≡ true
may_complete (Constant value) s b h = ap (λ x. same_bool value x) h ∙ is_same value
may_complete Random s b h = refl
may_complete (Not c) s b h = may_complete c s (not b) h
may_complete (And c d) s true h = and_true (may c s true) (may d s true) (may_complete c s true h.0) (may_complete d s true h.1)
may_complete (And c d) s false (inl h) = or_first (may c s false) (may d s false) (may_complete c s false h)
may_complete (And c d) s false (inr h) = or_last (may c s false) (may d s false) (may_complete d s false h)
may_complete (Or c d) s true (inl h) = or_first (may c s true) (may d s true) (may_complete c s true h)
may_complete (Or c d) s true (inr h) = or_last (may c s true) (may d s true) (may_complete d s true h)
may_complete (Or c d) s false h = and_true (may c s false) (may d s false) (may_complete c s false h.0) (may_complete d s false h.1)
may_complete (Compare r x y) s wanted h = ap (λ o. comes_out o wanted) h ∙ is_same wanted

-- ---- within a frame

abbrev GivenBy : Move → State → List ℤ → Change → Type 0
GivenBy m s values (now t) = Gives m s values t × (is_wide_move m s ≡ false)
GivenBy m s values no_change = Unit {0}
GivenBy m s values past = Unit {0}

assigned_by : (w : Bool) (x : ℕ) (e : Expression) (s : State) (o : Option ℤ) → is_wide e s ≡ w → eval e s ≡ o → GivenBy (assigns x e) s [] (if w then past else assigned_to x s o)
assigned_by true x e s o h g = tt
assigned_by false x e s None h g = tt
assigned_by false x e s (Some y) h g = ((refl, (y, g, refl)), h)

tested_by : (w t : Bool) (c : Condition) (wanted : Bool) (s : State) → is_wide_condition c s ≡ w → may c s wanted ≡ t → GivenBy (tests c wanted) s [] (if w then past else (if t then now s else no_change))
tested_by true t c wanted s h e = tt
tested_by false true c wanted s h e = ((refl, (may_sound c s wanted e, refl)), h)
tested_by false false c wanted s h e = tt

given_by : (m : Move) (s : State) (values : List ℤ) → GivenBy m s values (changed m s values)
given_by skips s [] = ((refl, refl), refl)
given_by skips s (y ∷ ys) = tt
given_by (assigns x e) s [] = assigned_by (is_wide e s) x e s (eval e s) refl refl
given_by (assigns x e) s (y ∷ ys) = tt
given_by (havocs x) s [] = tt
given_by (havocs x) s (y ∷ []) = ((y, refl, refl), refl)
given_by (havocs x) s (y ∷ z ∷ ys) = tt
given_by (tests c wanted) s [] = tested_by (is_wide_condition c s) (may c s wanted) c wanted s refl refl
given_by (tests c wanted) s (y ∷ ys) = tt
given_by (calls callee args targets) s values = tt
given_by (starts copies) s [] = ((refl, refl), refl)
given_by (starts copies) s (y ∷ ys) = tt

change_is : (m : Move) (s : State) (values : List ℤ) (t : State) → Gives m s values t → is_wide_move m s ≡ false → changed m s values ≡ now t
change_is skips s values t h w = ap (changed skips s) h.0 ∙ ap now (sym h.1)
change_is (assigns x e) s values t h w = ap (changed (assigns x e) s) h.0 ∙ (ap (λ b. if b then past else assigned_to x s (eval e s)) w ∙ (ap (assigned_to x s) h.1.1 ∙ ap now (sym h.1.2)))
change_is (havocs x) s values t h w = ap (changed (havocs x) s) h.1 ∙ ap now (sym h.2)
change_is (tests c wanted) s values t h w =
    ap (changed (tests c wanted) s) h.0
    ∙ (ap (λ b. if b then past else (if may c s wanted then now s else no_change)) w
    ∙ (ap (λ b. if b then now s else no_change) (may_complete c s wanted h.1.0) ∙ ap now (sym h.1.1)))
change_is (calls callee args targets) s values t h w = absurd h
change_is (starts copies) s values t h w = ap (changed (starts copies) s) h.0 ∙ ap now (sym h.1)

-- ---- edges out of an exit: none

no_exit : (g : Graph) (point callee : ℕ) (a : Arc) → IsGraph g → callee < length g.procs → (proc_of g callee).exit ≡ point → IsArc g point a → ⊥
no_exit g point callee a is l x i =
    let f : ArcFits g (arc_at g i.number) = is.arcs i.number no_arc i.within in
    let q : ProcFitsIn g callee (proc_of g callee) = is.procs callee no_proc l in
    let source : (arc_at g i.number).source ≡ (proc_of g callee).exit = ap (λ (y : Arc). y.source) i.is ∙ (i.source ∙ sym x) in
    let owner : owner_of g (arc_at g i.number).source ≡ callee = ap (owner_of g) source ∙ q.owns_exit in
    f.no_exit (source ∙ ap (λ (n : ℕ). (proc_of g n).exit) (sym owner))

none_by : (g : Graph) (point callee : ℕ) (o : Option Arc) → IsGraph g → callee < length g.procs → (proc_of g callee).exit ≡ point → ArcsAre g point o → o ≡ None
none_by g point callee None is l x h = refl
none_by g point callee (Some a) is l x h = absurd (no_exit g point callee a is l x h)

none_out : (g : Graph) (point callee : ℕ) (z : ℤ) → IsGraph g → callee < length g.procs → (proc_of g callee).exit ≡ point → numbered (arcs_out g point) z ≡ None
none_out g point callee z is l x = none_by g point callee (numbered (arcs_out g point) z) is l x (numbered_arc g point z)

-- the callee of an edge is there
callee_there : (g : Graph) (point : ℕ) (a : Arc) (callee : ℕ) (args targets : List ℕ) → IsGraph g → IsArc g point a → a.move ≡ calls callee args targets → callee < length g.procs
callee_there g point a callee args targets is i e =
    let f = call_fits g i.number callee args targets is i.within (ap (λ (y : Arc). y.move) i.is ∙ e) in
    omega (arith, f.callee_in_range)

arc_of_some : (g : Graph) (point : ℕ) (a : Arc) (o : Option Arc) → o ≡ Some a → ArcsAre g point o → IsArc g point a
arc_of_some g point a o e h = subst (ArcsAre g point) e h

out_is_arc : (g : Graph) (point : ℕ) (z : ℤ) (a : Arc) → IsEdgeOut g point z a → IsArc g point a
out_is_arc g point z a e = arc_of_some g point a (numbered (arcs_out g point) z) e (numbered_arc g point z)

-- ---- what a step of a replay does is taken

abbrev Taken : Graph → Stack → Choice → Outcome → Type 0
Taken g stack ch (moved next) = Takes g stack ch next × (is_wide_step g stack ch ≡ false)
Taken g stack ch refused = Unit {0}
Taken g stack ch wide = Unit {0}

change_taken : (g : Graph) (top : Frame) (below : Stack) (ch : Choice) (a : Arc) (c : Change) → IsEdgeOut g top.point ch.edge a → GivenBy a.move top.state ch.values c → Taken g (top ∷ below) ch (moved_to a.target below c)
change_taken g top below ch a (now t) o h = (moves_over top below ch a t o h.0, ap (is_wide_over top.state) o ∙ h.1)
change_taken g top below ch a no_change o h = tt
change_taken g top below ch a past o h = tt

frame_taken : (g : Graph) (top : Frame) (below : Stack) (ch : Choice) (a : Arc) (m : Move) → IsEdgeOut g top.point ch.edge a → a.move ≡ m → Taken g (top ∷ below) ch (moved_to a.target below (changed m top.state ch.values))
frame_taken g top below ch a m o e =
    let F : Move → Type 0 = λ x. GivenBy x top.state ch.values (changed m top.state ch.values) in
    change_taken g top below ch a (changed m top.state ch.values) o (subst F (sym e) (given_by m top.state ch.values))

enter_taken : (t : Bool) (g : Graph) (top : Frame) (below : Stack) (ch : Choice) (a : Arc) (callee : ℕ) (args targets : List ℕ) → IsEdgeOut g top.point ch.edge a → a.move ≡ calls callee args targets
    → nat_eq (length ch.values + (proc_of g callee).inputs) (proc_of g callee).dims ≡ t
    → Taken g (top ∷ below) ch (if t then moved (frame (proc_of g callee).entry (values_of top.state args ++ ch.values) ∷ top ∷ below) else refused)
enter_taken false g top below ch a callee args targets o e h = tt
enter_taken true g top below ch a callee args targets o e h =
    (calls_in top below ch a callee args targets o e (eqb-true _ _ h), ap (is_wide_over top.state) o ∙ ap (λ m. is_wide_move m top.state) e)

over_taken : (g : Graph) (top : Frame) (below : Stack) (ch : Choice) (a : Arc) (m : Move) → IsEdgeOut g top.point ch.edge a → a.move ≡ m → Taken g (top ∷ below) ch (over g a.target m top below ch.values)
over_taken g top below ch a skips o e = frame_taken g top below ch a skips o e
over_taken g top below ch a (assigns x y) o e = frame_taken g top below ch a (assigns x y) o e
over_taken g top below ch a (havocs x) o e = frame_taken g top below ch a (havocs x) o e
over_taken g top below ch a (tests x y) o e = frame_taken g top below ch a (tests x y) o e
over_taken g top below ch a (calls callee args targets) o e = enter_taken _ g top below ch a callee args targets o e refl
over_taken g top below ch a (starts x) o e = frame_taken g top below ch a (starts x) o e

some_taken : (g : Graph) (top : Frame) (below : Stack) (ch : Choice) (o : Option Arc) → numbered (arcs_out g top.point) ch.edge ≡ o → Taken g (top ∷ below) ch (over_some g top below ch.values o)
some_taken g top below ch None h = tt
some_taken g top below ch (Some a) h = over_taken g top below ch a a.move h refl

advanced_taken : (g : Graph) (top : Frame) (below : Stack) (ch : Choice) → Taken g (top ∷ below) ch (advanced g top below ch)
advanced_taken g top below ch = some_taken g top below ch (numbered (arcs_out g top.point) ch.edge) refl

zero_is : (z : ℤ) → is_zero z ≡ true → z ≡ pos 0
zero_is (pos n) h = ap pos (eqb-true n 0 h)
zero_is (negsuc n) h = absurd (cc)

empty_is : (values : List ℤ) → nat_eq (length values) 0 ≡ true → values ≡ []
empty_is [] h = refl
empty_is (y ∷ ys) h = absurd (omega (arith, eqb-true (length (y ∷ ys)) 0 h))

both : (a b : Bool) → (a && b) ≡ true → (a ≡ true) × (b ≡ true)
both true true e = (refl, refl)
both true false e = absurd (cc)
both false b e = absurd (cc)

pop_taken : (t : Bool) (g : Graph) (top caller : Frame) (below : Stack) (ch : Choice) (a : Arc) (callee : ℕ) (args targets : List ℕ) → IsGraph g → IsEdgeOut g caller.point (pos 0) a → a.move ≡ calls callee args targets → (proc_of g callee).exit ≡ top.point
    → (is_zero ch.edge && nat_eq (length ch.values) 0) ≡ t
    → Taken g (top ∷ caller ∷ below) ch (if t then moved (frame a.target (with_values caller.state targets (outputs_of (proc_of g callee) top.state)) ∷ below) else refused)
pop_taken false g top caller below ch a callee args targets is o e x h = tt
pop_taken true g top caller below ch a callee args targets is o e x h =
    let w = both (is_zero ch.edge) (nat_eq (length ch.values) 0) h in
    let l : callee < length g.procs = callee_there g caller.point a callee args targets is (out_is_arc g caller.point (pos 0) a o) e in
    (pops_back top caller below ch a callee args targets o e x (zero_is ch.edge w.0) (empty_is ch.values w.1), ap (is_wide_over top.state) (none_out g top.point callee ch.edge is l x))

exit_taken : (t : Bool) (g : Graph) (top caller : Frame) (below : Stack) (ch : Choice) (a : Arc) (callee : ℕ) (args targets : List ℕ) → IsGraph g → IsEdgeOut g caller.point (pos 0) a → a.move ≡ calls callee args targets
    → nat_eq (proc_of g callee).exit top.point ≡ t → Taken g (top ∷ caller ∷ below) ch (step_by g top (caller ∷ below) ch (if t then Some a else None))
exit_taken false g top caller below ch a callee args targets is o e h = advanced_taken g top (caller ∷ below) ch
exit_taken true g top caller below ch a callee args targets is o e h =
    let S : Move → Type 0 = λ m. Taken g (top ∷ caller ∷ below) ch (if_pop ch (left_over g top caller below a.target m)) in
    subst S (sym e) (pop_taken _ g top caller below ch a callee args targets is o e (eqb-true _ _ h) refl)

called_taken : (g : Graph) (top caller : Frame) (below : Stack) (ch : Choice) (a : Arc) (m : Move) → IsGraph g → IsEdgeOut g caller.point (pos 0) a → a.move ≡ m → Taken g (top ∷ caller ∷ below) ch (step_by g top (caller ∷ below) ch (if_called g top.point a m))
called_taken g top caller below ch a skips is o e = advanced_taken g top (caller ∷ below) ch
called_taken g top caller below ch a (assigns x y) is o e = advanced_taken g top (caller ∷ below) ch
called_taken g top caller below ch a (havocs x) is o e = advanced_taken g top (caller ∷ below) ch
called_taken g top caller below ch a (tests x y) is o e = advanced_taken g top (caller ∷ below) ch
called_taken g top caller below ch a (calls callee args targets) is o e = exit_taken _ g top caller below ch a callee args targets is o e refl
called_taken g top caller below ch a (starts x) is o e = advanced_taken g top (caller ∷ below) ch

some_called_taken : (g : Graph) (top caller : Frame) (below : Stack) (ch : Choice) (o : Option Arc) → IsGraph g → numbered (arcs_out g caller.point) (pos 0) ≡ o → Taken g (top ∷ caller ∷ below) ch (step_by g top (caller ∷ below) ch (if_some_called g top.point o))
some_called_taken g top caller below ch None is h = advanced_taken g top (caller ∷ below) ch
some_called_taken g top caller below ch (Some a) is h = called_taken g top caller below ch a a.move is h refl

step_taken : (g : Graph) (stack : Stack) (ch : Choice) → IsGraph g → Taken g stack ch (step_of g stack ch)
step_taken g [] ch is = tt
step_taken g (top ∷ []) ch is = advanced_taken g top [] ch
step_taken g (top ∷ caller ∷ below) ch is = some_called_taken g top caller below ch (slice_get (arcs_out g caller.point) 0) is refl

pub moves_are_taken : MovesAreTaken
moves_are_taken g stack next ch is e = subst (Taken g stack ch) e (step_taken g stack ch is)

-- ---- what is taken is what a step of a replay does

no_return_by : (t : Bool) (g : Graph) (point : ℕ) (a : Arc) (callee : ℕ) → nat_eq (proc_of g callee).exit point ≡ t → ((proc_of g callee).exit ≡ point → ⊥) → (if t then Some a else None) ≡ None
no_return_by true g point a callee e n = absurd (n (eqb-true _ _ e))
no_return_by false g point a callee e n = refl

no_call : (g : Graph) (caller point : ℕ) (a b : Arc) (m : Move) → IsGraph g → IsArc g point b → IsArc g caller a → a.move ≡ m → if_called g point a m ≡ None
no_call g caller point a b skips is i j e = refl
no_call g caller point a b (assigns x y) is i j e = refl
no_call g caller point a b (havocs x) is i j e = refl
no_call g caller point a b (tests x y) is i j e = refl
no_call g caller point a b (calls callee args targets) is i j e =
    no_return_by _ g point a callee refl (λ x. no_exit g point callee b is (callee_there g caller a callee args targets is j e) x i)
no_call g caller point a b (starts x) is i j e = refl

no_some_call : (g : Graph) (caller point : ℕ) (b : Arc) (o : Option Arc) → IsGraph g → IsArc g point b → ArcsAre g caller o → if_some_called g point o ≡ None
no_some_call g caller point b None is i h = refl
no_some_call g caller point b (Some a) is i h = no_call g caller point a b a.move is i h refl

-- from a point with an edge out there is no return
no_return : (g : Graph) (top : Frame) (below : Stack) (b : Arc) → IsGraph g → IsArc g top.point b → return_edge g top below ≡ None
no_return g top [] b is i = refl
no_return g top (caller ∷ below) b is i = no_some_call g caller.point top.point b (numbered (arcs_out g caller.point) (pos 0)) is i (numbered_arc g caller.point (pos 0))

step_advances : (g : Graph) (top : Frame) (below : Stack) (ch : Choice) (a : Arc) → IsGraph g → IsEdgeOut g top.point ch.edge a → step_of g (top ∷ below) ch ≡ over g a.target a.move top below ch.values
step_advances g top below ch a is o =
    ap (step_by g top below ch) (no_return g top below a is (out_is_arc g top.point ch.edge a o)) ∙ ap (over_some g top below ch.values) o

over_moves : (g : Graph) (target : ℕ) (m : Move) (top : Frame) (below : Stack) (values : List ℤ) (t : State) → Gives m top.state values t → is_wide_move m top.state ≡ false → over g target m top below values ≡ moved (frame target t ∷ below)
over_moves g target skips top below values t h w = ap (moved_to target below) (change_is skips top.state values t h w)
over_moves g target (assigns x e) top below values t h w = ap (moved_to target below) (change_is (assigns x e) top.state values t h w)
over_moves g target (havocs x) top below values t h w = ap (moved_to target below) (change_is (havocs x) top.state values t h w)
over_moves g target (tests c wanted) top below values t h w = ap (moved_to target below) (change_is (tests c wanted) top.state values t h w)
over_moves g target (calls callee args targets) top below values t h w = absurd h
over_moves g target (starts copies) top below values t h w = ap (moved_to target below) (change_is (starts copies) top.state values t h w)

eq_is : (m n : ℕ) → m ≡ n → nat_eq m n ≡ true
eq_is m n e = by (nat_eq m n) refl
  where
    by : (b : Bool) → nat_eq m n ≡ b → nat_eq m n ≡ true
    by true h = h
    by false h = absurd (grind (arith, nat_tests))

pub taken_are_moves : TakenAreMoves
taken_are_moves g _ _ _ is (moves_over top below ch a t o h) w =
    let not_wide : is_wide_move a.move top.state ≡ false = sym (ap (is_wide_over top.state) o) ∙ w in
    step_advances g top below ch a is o ∙ over_moves g a.target a.move top below ch.values t h not_wide
taken_are_moves g _ _ _ is (calls_in top below ch a callee args targets o e n) w =
    step_advances g top below ch a is o
    ∙ (ap (λ m. over g a.target m top below ch.values) e
    ∙ ap (λ b. if b then moved (frame (proc_of g callee).entry (values_of top.state args ++ ch.values) ∷ top ∷ below) else refused) (eq_is _ _ n))
taken_are_moves g _ _ _ is (pops_back top caller below ch a callee args targets o e x z n) w =
    let first : return_edge g top (caller ∷ below) ≡ Some a =
    ap (if_some_called g top.point) o ∙ (ap (if_called g top.point a) e ∙ ap (λ b. if b then Some a else None) (eq_is _ _ x)) in
    ap (step_by g top (caller ∷ below) ch) first
    ∙ (ap (λ m. if_pop ch (left_over g top caller below a.target m)) e
    ∙ ap (λ b. if b then moved (frame a.target (with_values caller.state targets (outputs_of (proc_of g callee) top.state)) ∷ below) else refused)
    (and_true (is_zero ch.edge) (nat_eq (length ch.values) 0) (ap is_zero z) (ap (λ ys. nat_eq (length ys) 0) n)))

-- ---- what is taken is a step of a run

flow_of : (m : Move) (s t : State) (values : List ℤ) → Gives m s values t → Flow m s t
flow_of skips s t values h = h.1
flow_of (assigns x e) s t values h = h.1
flow_of (havocs x) s t values h = (h.0, h.2)
flow_of (tests c wanted) s t values h = h.1
flow_of (calls callee args targets) s t values h = absurd h
flow_of (starts copies) s t values h = h.1

step_enters : (g : Graph) (a : Arc) (callee : ℕ) (args targets : List ℕ) (top : Frame) (below : Stack) (values : List ℤ) → IsGraph g → IsArc g top.point a → a.move ≡ calls callee args targets
    → length values + (proc_of g callee).inputs ≡ (proc_of g callee).dims → Step g (top ∷ below) (frame (proc_of g callee).entry (values_of top.state args ++ values) ∷ top ∷ below)
step_enters g a callee args targets top below values is i e d =
    let t : State = values_of top.state args ++ values in
    let f = call_fits g i.number callee args targets is i.within (ap (λ (y : Arc). y.move) i.is ∙ e) in
    let m : length (values_of top.state args) ≡ (proc_of g callee).inputs = length-map args (value_of top.state) ∙ f.arguments in
    let P : Arc → Type 0 = λ x. Step g (frame x.source top.state ∷ below) (frame (proc_of g callee).entry t ∷ frame x.source top.state ∷ below) in
    let Q : ℕ → Type 0 = λ p. Step g (frame p top.state ∷ below) (frame (proc_of g callee).entry t ∷ frame p top.state ∷ below) in
    subst Q i.source (subst P i.is (enters i.number callee args targets top.state t below i.within (ap (λ (x : Arc). x.move) i.is ∙ e)
    (record {
      dims = omega (arith, length-append (values_of top.state args) values, m, d);
      inputs = ap (λ k. take k (values_of top.state args ++ values)) (sym m) ∙ take-append_seam (values_of top.state args) values;
    })))

pub taken_are_steps : TakenAreSteps
taken_are_steps g _ _ _ is (moves_over top below ch a t o h) = step_moves g a top below t (out_is_arc g top.point ch.edge a o) (flow_of a.move top.state t ch.values h)
taken_are_steps g _ _ _ is (calls_in top below ch a callee args targets o e n) = step_enters g a callee args targets top below ch.values is (out_is_arc g top.point ch.edge a o) e n
taken_are_steps g _ _ _ is (pops_back top caller below ch a callee args targets o e x z n) = step_leaves g a callee args targets top caller below (out_is_arc g caller.point (pos 0) a o) e x

-- ---- each step of a run has a choice

pub record Kept (p : Arc → Bool) (xs : List Arc) (x : Arc) : Type 0 where
  pub number : ℕ
  pub is : slice_get (filter p xs) number ≡ Some x

kept_by : (p : Arc → Bool) (y : Arc) (ys : List Arc) (x : Arc) (b : Bool) → p y ≡ b → Kept p ys x → Kept p (y ∷ ys) x
kept_by p y ys x true e k = record { number = suc k.number; is = ap (λ t. slice_get (cond t (y ∷ filter p ys) (filter p ys)) (suc k.number)) e ∙ k.is }
kept_by p y ys x false e k = record { number = k.number; is = ap (λ t. slice_get (cond t (y ∷ filter p ys) (filter p ys)) k.number) e ∙ k.is }

kept : (p : Arc → Bool) (xs : List Arc) (e : ℕ) → e < length xs → p (get_or xs e no_arc) ≡ true → Kept p xs (get_or xs e no_arc)
kept p [] e l h = absurd (omega (arith, l))
kept p (y ∷ ys) zero l h = record { number = 0; is = ap (λ t. slice_get (cond t (y ∷ filter p ys) (filter p ys)) 0) h }
kept p (y ∷ ys) (suc e) l h = kept_by p y ys (get_or ys e no_arc) (p y) refl (kept p ys e (omega (arith, l)) h)

out_number : (g : Graph) (e : ℕ) → e < length g.arcs → Kept (λ a. nat_eq a.source (arc_at g e).source) g.arcs (arc_at g e)
out_number g e l = kept (λ a. nat_eq a.source (arc_at g e).source) g.arcs e l (eq_is (arc_at g e).source (arc_at g e).source refl)

values_for : (m : Move) (s t : State) → Flow m s t → (values : List ℤ) × Gives m s values t
values_for skips s t h = ([], (refl, h))
values_for (assigns x e) s t h = ([], (refl, h))
values_for (havocs x) s t h = (h.0 ∷ [], (h.0, refl, h.1))
values_for (tests c wanted) s t h = ([], (refl, h))
values_for (calls callee args targets) s t h = absurd h
values_for (starts copies) s t h = ([], (refl, h))

first_some : {X : Type 0} (xs : List X) (n : ℕ) (x : X) → slice_get xs n ≡ Some x → (y : X) × (slice_get xs 0 ≡ Some y)
first_some [] zero x e = absurd (cc)
first_some [] (suc n) x e = absurd (cc)
first_some (y ∷ ys) n x e = (y, refl)

-- the call edge out of a point is the first
first_call : (g : Graph) (e callee : ℕ) (args targets : List ℕ) → IsGraph g → e < length g.arcs → (arc_at g e).move ≡ calls callee args targets → IsEdgeOut g (arc_at g e).source (pos 0) (arc_at g e)
first_call g e callee args targets is l m =
    let k = out_number g e l in
    let f = first_some (arcs_out g (arc_at g e).source) k.number (arc_at g e) k.is in
    let i : IsArc g (arc_at g e).source f.0 = out_is_arc g (arc_at g e).source (pos 0) f.0 f.1 in
    let one : e ≡ i.number = is.calls_alone e i.number l i.within (rw m tt) (sym (ap (λ (y : Arc). y.source) i.is ∙ i.source)) in
    f.1 ∙ ap Some (sym (ap (arc_at g) one ∙ i.is))

pub steps_have_choices : StepsHaveChoices
steps_have_choices g _ _ is (moves e s t below l f) =
    let k = out_number g e l in
    let v = values_for (arc_at g e).move s t f in
    let ch : Choice = record { edge = pos k.number; values = v.0 } in
    (ch, moves_over (frame (arc_at g e).source s) below ch (arc_at g e) t k.is v.1)
steps_have_choices g _ _ is (enters e callee args targets s t below l m n) =
    let k = out_number g e l in
    let fit = call_fits g e callee args targets is l m in
    let there : callee < length g.procs = omega (arith, fit.callee_in_range) in
    let q : ProcFitsIn g callee (proc_of g callee) = is.procs callee no_proc there in
    let ch : Choice = record { edge = pos k.number; values = drop (proc_of g callee).inputs t } in
    let count : length (drop (proc_of g callee).inputs t) + (proc_of g callee).inputs ≡ (proc_of g callee).dims = omega (arith, length-drop (proc_of g callee).inputs t, n.dims, q.within) in
    let whole : values_of s args ++ drop (proc_of g callee).inputs t ≡ t = ap (λ l. l ++ drop (proc_of g callee).inputs t) (sym n.inputs) ∙ take-append-drop (proc_of g callee).inputs t in
    let top : Frame = frame (arc_at g e).source s in
    let P : State → Type 0 = λ u. Takes g (top ∷ below) ch (frame (proc_of g callee).entry u ∷ top ∷ below) in
    (ch, subst P whole (calls_in top below ch (arc_at g e) callee args targets k.is m count))
steps_have_choices g _ _ is (leaves e callee args targets s t below l m) =
    let ch : Choice = record { edge = pos 0; values = [] } in
    (ch, pops_back (frame (proc_of g callee).exit t) (frame (arc_at g e).source s) below ch (arc_at g e) callee args targets (first_call g e callee args targets is l m) m refl refl refl)
