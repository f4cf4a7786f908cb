-- What holds after some steps of a replay, and the answers that follow.
use Rattle.std.proofs.Common.{◌≡◌, ℕ, suc, ◌+◌, ◌<◌, ◌≤◌, Bool, true, false, List, [], ◌∷◌, ◌++◌, length, take, drop, get_or, Option, None, Some, ℤ, refl, sym, ap, subst, ◌∙◌, arith, drop-cons, length-append}
use Rattle.std.specs.Prelude.{map, nat_eq, ◌&&◌, if◌then◌else◌}
use Rattle.std.specs.List.{fold}
use Rattle.std.proofs.Math.Seq.{take-suc, take-length}
use Rattle.std.proofs.lemmas.List.{take-append-drop, get_or-map, length-map, length-reverse}
use Rattle.std.proofs.lemmas.List.Sums.{fold-append}
use Rattle.spl_core.specs.declared.parts.Proc.{Proc}
use Rattle.spl_core.specs.Parts.{Parts}
use Rattle.spl_core.specs.Graph.{Move, skips, assigns, havocs, tests, calls, starts, Arc, Graph, graph_of, proc_of, arcs_out}
use Rattle.spl_runs.specs.declared.choices.Step.{Step}
use Rattle.spl_runs.specs.declared.frame.Frame.{Frame as Held}
use Rattle.spl_runs.specs.Runs.{Frame, Stack, frame, values_of}
use Rattle.spl_runs.specs.Choices.{Choice, Given, choice_of}
use Rattle.spl_runs.specs.Replay.{Change, now, no_change, past, changed, Outcome, moved, refused, wide, moved_to, entered, over, over_some, numbered, return_edge, left, left_over, is_zero, step_by, step_of, Top, top_of, ran, not_a_run, too_wide, after, continued, begun, replayed}
use Rattle.spl_runs.specs.Stacks.{frame_of, frames_of}

-- after k steps
pub record Followed (c : Parts) (given : Given) (k : ℕ) (tops : List Top) (stack : Stack) : Type 0 where
  pub is : fold (continued (graph_of c)) (begun (graph_of c) given.start) (take k given.steps) ≡ ran tops stack
  pub count : length tops ≡ suc k
  pub depth : length stack ≤ suc k

-- ---- a step pushes at most one frame

abbrev Deep : ℕ → Outcome → Type 0
Deep n (moved next) = length next ≤ suc n
Deep n refused = Unit {0}
Deep n wide = Unit {0}

deep_to : (target : ℕ) (below : Stack) (c : Change) → Deep (suc (length below)) (moved_to target below c)
deep_to target below (now t) = omega arith
deep_to target below no_change = tt
deep_to target below past = tt

deep_if : (n : ℕ) (t : Bool) (o : Outcome) → Deep n o → Deep n (if t then o else refused)
deep_if n true o h = h
deep_if n false o h = tt

deep_entered : (callee : Proc) (args : List ℕ) (top : Frame) (below : Stack) (values : List ℤ) → Deep (suc (length below)) (entered callee args top below values)
deep_entered callee args top below values =
    let n : ℕ = suc (length below) in
    deep_if n (nat_eq (length values + callee.inputs) callee.dims) (moved (frame callee.entry (values_of top.state args ++ values) ∷ top ∷ below)) (omega arith)

deep_over : (g : Graph) (target : ℕ) (m : Move) (top : Frame) (below : Stack) (values : List ℤ) → Deep (suc (length below)) (over g target m top below values)
deep_over g target skips top below values = deep_to target below (changed skips top.state values)
deep_over g target (assigns x e) top below values = deep_to target below (changed (assigns x e) top.state values)
deep_over g target (havocs x) top below values = deep_to target below (changed (havocs x) top.state values)
deep_over g target (tests c wanted) top below values = deep_to target below (changed (tests c wanted) top.state values)
deep_over g target (calls callee args targets) top below values = deep_entered (proc_of g callee) args top below values
deep_over g target (starts pairs) top below values = deep_to target below (changed (starts pairs) top.state values)

deep_some : (g : Graph) (top : Frame) (below : Stack) (values : List ℤ) (a : Option Arc) → Deep (suc (length below)) (over_some g top below values a)
deep_some g top below values None = tt
deep_some g top below values (Some a) = deep_over g a.target a.move top below values

deep_left : (g : Graph) (top caller : Frame) (below : Stack) (target : ℕ) (m : Move) → Deep (suc (suc (length below))) (left_over g top caller below target m)
deep_left g top caller below target skips = tt
deep_left g top caller below target (assigns x e) = tt
deep_left g top caller below target (havocs x) = tt
deep_left g top caller below target (tests c wanted) = tt
deep_left g top caller below target (calls callee args targets) = omega arith
deep_left g top caller below target (starts pairs) = tt

deep_leave : (g : Graph) (top : Frame) (below : Stack) (a : Arc) → Deep (suc (length below)) (left g top below a)
deep_leave g top [] a = tt
deep_leave g top (caller ∷ below) a = deep_left g top caller below a.target a.move

deep_by : (g : Graph) (top : Frame) (below : Stack) (ch : Choice) (a : Option Arc) → Deep (suc (length below)) (step_by g top below ch a)
deep_by g top below ch None = deep_some g top below ch.values (numbered (arcs_out g top.point) ch.edge)
deep_by g top below ch (Some a) = deep_if (suc (length below)) (is_zero ch.edge && nat_eq (length ch.values) 0) (left g top below a) (deep_leave g top below a)

deep_step : (g : Graph) (stack : Stack) (ch : Choice) → Deep (length stack) (step_of g stack ch)
deep_step g [] ch = tt
deep_step g (top ∷ below) ch = deep_by g top below ch (return_edge g top below)

-- ---- one step more

pub next_followed : (c : Parts) (given : Given) (k : ℕ) (tops : List Top) (stack next : Stack) (t : Top) (d : Choice) → Followed c given k tops stack → k < length given.steps
    → step_of (graph_of c) stack (get_or given.steps k d) ≡ moved next → t ≡ top_of next → Followed c given (suc k) (tops ++ t ∷ []) next
next_followed c given k tops stack next t d f l e m = record {
  is =
      ap (fold (continued (graph_of c)) (begun (graph_of c) given.start)) (take-suc given.steps k d l)
      ∙ (fold-append (continued (graph_of c)) (begun (graph_of c) given.start) (take k given.steps) (get_or given.steps k d ∷ [])
      ∙ (ap (λ r. continued (graph_of c) r (get_or given.steps k d)) f.is
      ∙ (ap (after tops) e
      ∙ ap (λ x. ran (tops ++ x ∷ []) next) (sym m))));
  count = omega (arith, length-append tops (t ∷ []), f.count);
  depth = let h : length next ≤ suc (length stack) = subst (Deep (length stack)) e (deep_step (graph_of c) stack (get_or given.steps k d)) in omega (arith, h, f.depth);
}

pub stays_no : (g : Graph) (n : ℕ) (steps : List Choice) → fold (continued g) (not_a_run n) steps ≡ not_a_run n
stays_no g n [] = refl
stays_no g n (s ∷ steps) = stays_no g n steps

pub stays_wide : (g : Graph) (n : ℕ) (steps : List Choice) → fold (continued g) (too_wide n) steps ≡ too_wide n
stays_wide g n [] = refl
stays_wide g n (s ∷ steps) = stays_wide g n steps

split : (c : Parts) (given : Given) (k : ℕ) (d : Choice) → k < length given.steps
    → replayed (graph_of c) given ≡ fold (continued (graph_of c)) (continued (graph_of c) (fold (continued (graph_of c)) (begun (graph_of c) given.start) (take k given.steps)) (get_or given.steps k d)) (drop (suc k) given.steps)
split c given k d l =
    ap (fold (continued (graph_of c)) (begun (graph_of c) given.start)) (sym (take-append-drop k given.steps))
    ∙ (fold-append (continued (graph_of c)) (begun (graph_of c) given.start) (take k given.steps) (drop k given.steps)
    ∙ ap (fold (continued (graph_of c)) (fold (continued (graph_of c)) (begun (graph_of c) given.start) (take k given.steps))) (drop-cons given.steps k d l))

pub no_step : (c : Parts) (given : Given) (k : ℕ) (tops : List Top) (stack : Stack) (d : Choice) → Followed c given k tops stack → k < length given.steps
    → step_of (graph_of c) stack (get_or given.steps k d) ≡ refused → replayed (graph_of c) given ≡ not_a_run (suc k)
no_step c given k tops stack d f l e =
    split c given k d l
    ∙ (ap (λ r. fold (continued (graph_of c)) (continued (graph_of c) r (get_or given.steps k d)) (drop (suc k) given.steps)) f.is
    ∙ (ap (λ o. fold (continued (graph_of c)) (after tops o) (drop (suc k) given.steps)) e
    ∙ (stays_no (graph_of c) (length tops) (drop (suc k) given.steps) ∙ ap not_a_run f.count)))

pub wide_step : (c : Parts) (given : Given) (k : ℕ) (tops : List Top) (stack : Stack) (d : Choice) → Followed c given k tops stack → k < length given.steps
    → step_of (graph_of c) stack (get_or given.steps k d) ≡ wide → replayed (graph_of c) given ≡ too_wide (suc k)
wide_step c given k tops stack d f l e =
    split c given k d l
    ∙ (ap (λ r. fold (continued (graph_of c)) (continued (graph_of c) r (get_or given.steps k d)) (drop (suc k) given.steps)) f.is
    ∙ (ap (λ o. fold (continued (graph_of c)) (after tops o) (drop (suc k) given.steps)) e
    ∙ (stays_wide (graph_of c) (length tops) (drop (suc k) given.steps) ∙ ap too_wide f.count)))

-- the first stack that can't be
pub no_start : (c : Parts) (given : Given) → begun (graph_of c) given.start ≡ not_a_run 0 → replayed (graph_of c) given ≡ not_a_run 0
no_start c given e = ap (λ r. fold (continued (graph_of c)) r given.steps) e ∙ stays_no (graph_of c) 0 given.steps

pub all_followed : (c : Parts) (given : Given) (k : ℕ) (tops : List Top) (stack : Stack) → Followed c given k tops stack → length given.steps ≤ k → k ≤ length given.steps → replayed (graph_of c) given ≡ ran tops stack
all_followed c given k tops stack f l h =
    let e : length given.steps ≡ k = omega arith in
    ap (fold (continued (graph_of c)) (begun (graph_of c) given.start)) (sym (take-length given.steps) ∙ ap (λ n. take n given.steps) e) ∙ f.is

pub step_at : (steps : List Step) (k : ℕ) (s : Step) → k < length steps → s ≡ get_or steps k s → choice_of s ≡ get_or (map choice_of steps) k (choice_of s)
step_at steps k s l e = ap choice_of e ∙ sym (get_or-map choice_of steps k s (choice_of s) l)

pub frames_length : (fs : List Held) → length (frames_of fs) ≡ length fs
frames_length fs = length-reverse (map frame_of fs) ∙ length-map fs frame_of

pub start_followed : (c : Parts) (given : Given) (tops : List Top) (t : Top) (stack : Stack) → begun (graph_of c) given.start ≡ ran (t ∷ []) stack → length stack ≤ 1 → tops ≡ t ∷ [] → Followed c given 0 tops stack
start_followed c given tops t stack e l m = record {
  is = e ∙ ap (λ x. ran x stack) (sym m);
  count = ap length m;
  depth = l;
}
