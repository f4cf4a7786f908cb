-- Every frame of every run has a state that comes to its point, and stands on a call.
use Rattle.std.proofs.Common.{◌≡◌, ℕ, zero, suc, ◌<◌, List, [], ◌∷◌, length, set, take, ℤ, refl, sym, ap, subst, arith, ◌∙◌, length-set}
use Rattle.std.specs.List.{All}
use Rattle.std.proofs.lemmas.List.{take-set-le}
use Rattle.spl_core.specs.declared.parts.Proc.{Proc}
use Rattle.spl_core.specs.Parts.{no_proc}
use Rattle.spl_core.specs.Expression.{State, value_of}
use Rattle.spl_core.specs.Graph.{Copy, Move, skips, assigns, havocs, tests, calls, starts, Graph, no_arc, proc_of, arc_at, main_of, owner_of, proc_owning, dims_at}
use Rattle.spl_core.specs.Facts.{IsWritable}
use Rattle.spl_core.specs.GraphFacts.{CallMoveFits, CopyFits, MoveFits, IsCallMove, ProcFitsIn, ArcFits, IsGraph}
use Rattle.spl_runs.specs.Runs.{copied, Flow, values_of, with_values, outputs_of, Stack, frame, Step, moves, enters, leaves, Joined, Run, stacks_of}
use Rattle.spl_runs.specs.Comes.{begins, flows, goes_in, comes_back, StandsOver, AllStand}

-- ---- what moves keep

-- the state keeps its length and its inputs
pub record Keeps (p : Proc) (s t : State) : Type 0 where
  pub dims : length t ≡ length s
  pub inputs : take p.inputs t ≡ take p.inputs s

all-head : {X : Type 0} → (P : X → Type 0) (x : X) (xs : List X) → All P (x ∷ xs) → P x
all-head P x xs h = h 0 x (omega arith)

all-rest : {X : Type 0} → (P : X → Type 0) (x : X) (xs : List X) → All P (x ∷ xs) → All P xs
all-rest P x xs h k d l = h (suc k) d (omega arith)

keeps-set : (p : Proc) (s : State) (x : ℕ) (y : ℤ) → IsWritable p x → Keeps p s (set s x y)
keeps-set p s x y w = record { dims = length-set s x y; inputs = take-set-le p.inputs s x y w.0 }

keeps-after : (p : Proc) (s t u : State) → Keeps p s t → Keeps p t u → Keeps p s u
keeps-after p s t u a b = record { dims = b.dims ∙ a.dims; inputs = b.inputs ∙ a.inputs }

keeps-same : (p : Proc) (s t : State) → t ≡ s → Keeps p s t
keeps-same p s t e = record { dims = ap length e; inputs = ap (take p.inputs) e }

keeps-copied : (p : Proc) (copies : List Copy) (s : State) → All (CopyFits p) copies → Keeps p s (copied copies s)
keeps-copied p [] s f = keeps-same p s s refl
keeps-copied p (c ∷ copies) s f =
    let first : CopyFits p c = all-head (CopyFits p) c copies f in
    keeps-after p s (set s c.target (value_of s c.origin)) (copied copies (set s c.target (value_of s c.origin))) (keeps-set p s c.target (value_of s c.origin) first.target)
    (keeps-copied p copies (set s c.target (value_of s c.origin)) (all-rest (CopyFits p) c copies f))

pub keeps-flow : (g : Graph) (p : Proc) (m : Move) (s t : State) → MoveFits g.procs p m → Flow m s t → Keeps p s t
keeps-flow g p skips s t f h = keeps-same p s t h
keeps-flow g p (assigns x e) s t f h = subst (Keeps p s) (sym h.2) (keeps-set p s x h.0 f.0)
keeps-flow g p (havocs x) s t f h = subst (Keeps p s) (sym h.1) (keeps-set p s x h.0 f)
keeps-flow g p (tests c wanted) s t f h = keeps-same p s t h.1
keeps-flow g p (calls callee args targets) s t f h = absurd h
keeps-flow g p (starts copies) s t f h = subst (Keeps p s) (sym h) (keeps-copied p copies s f)

pub keeps-with_values : (p : Proc) (targets : List ℕ) (s : State) (ys : List ℤ) → All (IsWritable p) targets → Keeps p s (with_values s targets ys)
keeps-with_values p [] s ys f = keeps-same p s s refl
keeps-with_values p (x ∷ targets) s [] f = keeps-same p s s refl
keeps-with_values p (x ∷ targets) s (y ∷ ys) f =
    keeps-after p s (set s x y) (with_values (set s x y) targets ys) (keeps-set p s x y (all-head (IsWritable p) x targets f))
    (keeps-with_values p targets (set s x y) ys (all-rest (IsWritable p) x targets f))

-- ---- facts of an edge and of a procedure

arc_fits : (g : Graph) (e : ℕ) → IsGraph g → e < length g.arcs → ArcFits g (arc_at g e)
arc_fits g e is l = is.arcs e no_arc l

owns_entry : (g : Graph) (p : ℕ) → IsGraph g → p < length g.procs → owner_of g (proc_of g p).entry ≡ p
owns_entry g p is l = let f : ProcFitsIn g p (proc_of g p) = is.procs p no_proc l in f.owns_entry

acts : (g : Graph) (e : ℕ) → IsGraph g → e < length g.arcs → MoveFits g.procs (proc_owning g (arc_at g e).source) (arc_at g e).move
acts g e is l = let f : ArcFits g (arc_at g e) = arc_fits g e is l in f.acts

one_owner : (g : Graph) (e : ℕ) → IsGraph g → e < length g.arcs → owner_of g (arc_at g e).source ≡ owner_of g (arc_at g e).target
one_owner g e is l = let f : ArcFits g (arc_at g e) = arc_fits g e is l in f.one_owner

-- ---- calls

abbrev callee_of : Move → ℕ
callee_of skips = 0
callee_of (assigns x e) = 0
callee_of (havocs x) = 0
callee_of (tests c wanted) = 0
callee_of (calls callee args targets) = callee
callee_of (starts copies) = 0

abbrev args_of : Move → List ℕ
args_of skips = []
args_of (assigns x e) = []
args_of (havocs x) = []
args_of (tests c wanted) = []
args_of (calls callee args targets) = args
args_of (starts copies) = []

pub call_fits : (g : Graph) (e callee : ℕ) (args targets : List ℕ) → IsGraph g → e < length g.arcs → (arc_at g e).move ≡ calls callee args targets
    → CallMoveFits g.procs (proc_owning g (arc_at g e).source) callee args targets
call_fits g e callee args targets is l m = subst (MoveFits g.procs (proc_owning g (arc_at g e).source)) m (acts g e is l)

is_call : (m : Move) (callee : ℕ) (args targets : List ℕ) → m ≡ calls callee args targets → IsCallMove m
is_call m callee args targets e = subst IsCallMove (sym e) tt

-- ---- steps

-- the frame after a move within its procedure stands on what it stood on
stands_over : (g : Graph) (below : Stack) (point next : ℕ) (s t : State) → owner_of g point ≡ owner_of g next → Keeps (proc_owning g point) s t
    → StandsOver g (frame point s) below → StandsOver g (frame next t) below
stands_over g [] point next s t o k h = tt
stands_over g (f ∷ below) point next s t o k h = record {
  edge = h.edge;
  callee = h.callee;
  args = h.args;
  targets = h.targets;
  in_range = h.in_range;
  source = h.source;
  move = h.move;
  owner = sym o ∙ h.owner;
  inputs =
      let same : proc_owning g point ≡ proc_of g h.callee = ap (proc_of g) h.owner in
      subst (λ (p : Proc). take p.inputs t ≡ take p.inputs s) same k.inputs ∙ h.inputs;
}

dims_same : (g : Graph) (p q : ℕ) → owner_of g p ≡ owner_of g q → dims_at g p ≡ dims_at g q
dims_same g p q e = ap (λ (o : ℕ). (proc_of g o).dims) e

pub step_stands : (g : Graph) (a b : Stack) → IsGraph g → Step g a b → AllStand g a → AllStand g b
step_stands g _ _ is (moves e s t below l f) h =
    let k = keeps-flow g (proc_owning g (arc_at g e).source) (arc_at g e).move s t (acts g e is l) f in
    let o = one_owner g e is l in (
      record { comes = flows e s t l f h.0.comes; dims = k.dims ∙ h.0.dims ∙ dims_same g (arc_at g e).source (arc_at g e).target o },
      stands_over g below (arc_at g e).source (arc_at g e).target s t o k h.1,
      h.2,
    )
step_stands g _ _ is (enters e callee args targets s t below l m n) h =
    let fit = call_fits g e callee args targets is l m in (
      record {
        comes = goes_in e callee args targets s t l m n h.0.comes;
        dims = n.dims ∙ ap (λ (o : ℕ). (proc_of g o).dims) (sym (owns_entry g callee is (omega (arith, fit.callee_in_range))));
      },
      record {
        edge = e;
        callee = callee;
        args = args;
        targets = targets;
        in_range = l;
        source = refl;
        move = m;
        owner = owns_entry g callee is (omega (arith, fit.callee_in_range));
        inputs = n.inputs;
      },
      h,
    )
step_stands g _ _ is (leaves e callee args targets s t below l m) h =
    let fit = call_fits g e callee args targets is l m in
    let on = h.1 in
    let one : e ≡ on.edge = is.calls_alone e on.edge l on.in_range (is_call (arc_at g e).move callee args targets m) (sym on.source) in
    let both : calls callee args targets ≡ calls on.callee on.args on.targets = sym m ∙ ap (λ (i : ℕ). (arc_at g i).move) one ∙ on.move in
    let callees : callee ≡ on.callee = ap callee_of both in
    let lists : args ≡ on.args = ap args_of both in
    let taken : take (proc_of g callee).inputs t ≡ values_of s args =
    ap (λ (c : ℕ). take (proc_of g c).inputs t) callees ∙ on.inputs ∙ ap (values_of s) (sym lists) in
    let k = keeps-with_values (proc_owning g (arc_at g e).source) targets s (outputs_of (proc_of g callee) t) fit.writable in
    let o = one_owner g e is l in (
      record {
        comes = comes_back e callee args targets s t l m taken h.2.0.comes h.0.comes;
        dims = k.dims ∙ h.2.0.dims ∙ dims_same g (arc_at g e).source (arc_at g e).target o;
      },
      stands_over g below (arc_at g e).source (arc_at g e).target s (with_values s targets (outputs_of (proc_of g callee) t)) o k h.2.1,
      h.2.2,
    )

-- ---- runs

all-cons : {X : Type 0} → (P : X → Type 0) (x : X) (xs : List X) → P x → All P xs → All P (x ∷ xs)
all-cons P x xs p h zero d l = p
all-cons P x xs p h (suc k) d l = h k d (omega arith)

joined_stand : (g : Graph) (first : Stack) (stacks : List Stack) → IsGraph g → AllStand g first → Joined g first stacks → All (AllStand g) (first ∷ stacks)
joined_stand g first [] is h j = all-cons (AllStand g) first [] h (λ k d l. absurd (none k l))
  where
    none : (k : ℕ) → k < length {A = Stack} [] → ⊥
    none k l = omega arith
joined_stand g first (next ∷ stacks) is h j =
    all-cons (AllStand g) first (next ∷ stacks) h (joined_stand g next stacks is (step_stands g first next is j.0 h) j.1)

pub runs_sound : (g : Graph) → IsGraph g → (r : Run g) → All (AllStand g) (stacks_of g r)
runs_sound g is r =
    joined_stand g (frame (proc_of g (main_of g)).entry r.start ∷ []) r.stacks is (
      record {
        comes = begins r.start r.dims;
        dims = r.dims ∙ ap (λ (o : ℕ). (proc_of g o).dims) (sym (owns_entry g (main_of g) is (omega (arith, is.main))));
      },
      tt,
      tt,
    ) r.joined
