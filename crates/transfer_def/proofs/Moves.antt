-- The successor of a state by a move meets the value after it, which is a value over as many variables.
use Rattle.std.proofs.Common.{◌≡◌, ℕ, Bool, true, false, List, [], ◌∷◌, length, Option, Some, None, refl, sym, ap, subst, ◌∙◌, length-set}
use Rattle.std.specs.List.{All}
use Rattle.std.proofs.lemmas.List.Elements.{All-head, All-tail}
use Rattle.oct_def.specs.Table.{Matrix}
use Rattle.oct_def.specs.Octagon.{Octagon, IsOctagon, MeetsOctagon, bottom_value, join_value}
use Rattle.spl_core.specs.declared.parts.Proc.{Proc}
use Rattle.spl_core.specs.declared.parts.Cmp.{Cmp}
use Rattle.spl_core.specs.declared.parts.Cmp.TheVariants as cmp
use Rattle.spl_core.specs.Expression.{Expression, Variable, State, value_of, eval}
use Rattle.spl_core.specs.Condition.{Condition, Constant, Random, Not, And, Or, Compare}
use Rattle.spl_core.specs.Graph.{Copy, Move, skips, assigns, havocs, tests, calls, starts}
use Rattle.spl_core.specs.GraphFacts.{MoveFits}
use Rattle.spl_runs.specs.Runs.{copied, Flow}
use Rattle.transfer_def.specs.Assign.{assign_value}
use Rattle.transfer_def.specs.Forget.{forget_value}
use Rattle.transfer_def.specs.Test.{at_most_value, below_value, equal_value, different_value, compare_value, constant_value, test_value}
use Rattle.transfer_def.specs.Move.{copy_value, move_value, IsCopyOver, IsMoveOver}
use Rattle.transfer_def.specs.Enter.{enter_value}
use Rattle.transfer_def.specs.Back.{back_value}
use Rattle.transfer_def.proofs.Sound.{meets-assign_value, meets-forget_value}
use Rattle.transfer_def.proofs.Values.{value-assign_value, value-forget_value}
use Rattle.transfer_def.proofs.Tests.{meets-test_value, value-test_value, dims-test_value}

-- ---- copies in order

meets-copy_value : (copies : List Copy) (v : Octagon) (s : State) → length s ≡ v.dims → All (IsCopyOver v.dims) copies → MeetsOctagon s v → MeetsOctagon (copied copies s) (copy_value copies v)
unfolding copy_value assign_value eval
meets-copy_value [] v s l o h = h
meets-copy_value (c ∷ copies) v s l o h =
    let first = All-head (IsCopyOver v.dims) c copies o in
    meets-copy_value copies (assign_value c.target (Variable c.origin) v) _
    (length-set s c.target (value_of s c.origin) ∙ l) (All-tail (IsCopyOver v.dims) c copies o)
    (meets-assign_value c.target (Variable c.origin) v s (value_of s c.origin) l first.origin refl h)

value-copy_value : (copies : List Copy) (v : Octagon) → IsOctagon v → IsOctagon (copy_value copies v)
unfolding copy_value
value-copy_value [] v h = h
value-copy_value (c ∷ copies) v h = value-copy_value copies (assign_value c.target (Variable c.origin) v) (value-assign_value c.target (Variable c.origin) v h)

dims-copy_value : (copies : List Copy) (v : Octagon) → (copy_value copies v).dims ≡ v.dims
unfolding copy_value assign_value
dims-copy_value [] v = refl
dims-copy_value (c ∷ copies) v = dims-copy_value copies (assign_value c.target (Variable c.origin) v)

-- ---- moves

pub meets-move_value : (move : Move) (v : Octagon) (s t : State) → length s ≡ v.dims → IsMoveOver v.dims move → Flow move s t → MeetsOctagon s v → MeetsOctagon t (move_value move v)
meets-move_value skips v s t l o f h = subst (λ u. MeetsOctagon u v) (sym f) h
meets-move_value (assigns x e) v s t l o f h = subst (λ u. MeetsOctagon u (assign_value x e v)) (sym f.2) (meets-assign_value x e v s f.0 l o.1 f.1 h)
meets-move_value (havocs x) v s t l o f h = subst (λ u. MeetsOctagon u (forget_value x v)) (sym f.1) (meets-forget_value x v s f.0 h)
meets-move_value (tests c wanted) v s t l o f h = subst (λ u. MeetsOctagon u (test_value c wanted v)) (sym f.1) (meets-test_value c wanted v s o f.0 h)
meets-move_value (calls callee args targets) v s t l o f h = absurd f
meets-move_value (starts copies) v s t l o f h = subst (λ u. MeetsOctagon u (copy_value copies v)) (sym f) (meets-copy_value copies v s l o h)

pub value-move_value : (move : Move) (v : Octagon) → IsOctagon v → IsOctagon (move_value move v)
unfolding bottom_value
value-move_value skips v h = h
value-move_value (assigns x e) v h = value-assign_value x e v h
value-move_value (havocs x) v h = value-forget_value x v h
value-move_value (tests c wanted) v h = value-test_value c wanted v h
value-move_value (calls callee args targets) v h = tt
value-move_value (starts copies) v h = value-copy_value copies v h

pub dims-move_value : (move : Move) (v : Octagon) → (move_value move v).dims ≡ v.dims
unfolding assign_value forget_value bottom_value
dims-move_value skips v = refl
dims-move_value (assigns x e) v = refl
dims-move_value (havocs x) v = refl
dims-move_value (tests c wanted) v = dims-test_value c wanted v
dims-move_value (calls callee args targets) v = refl
dims-move_value (starts copies) v = dims-copy_value copies v

-- the moves of a core's procedure are over its variables
pub over-fits : (procs : List Proc) (p : Proc) (move : Move) → MoveFits procs p move → IsMoveOver p.dims move
over-fits procs p skips f = tt
over-fits procs p (assigns x e) f = (f.0.1, f.1)
over-fits procs p (havocs x) f = f.1
over-fits procs p (tests c wanted) f = f
over-fits procs p (calls callee args targets) f = (f.args_below, λ k d l. (f.writable k d l).1)
over-fits procs p (starts copies) f = λ k d l. let c = f k d l in record { target = c.target.1; origin = c.origin }

-- ---- Bottom

assign-bottom : (n x : ℕ) (e : Expression) → assign_value x e (bottom_value n) ≡ bottom_value n
unfolding assign_value bottom_value
assign-bottom n x e = refl

forget-bottom : (n x : ℕ) → forget_value x (bottom_value n) ≡ bottom_value n
unfolding forget_value bottom_value
forget-bottom n x = refl

copy-bottom : (n : ℕ) (copies : List Copy) → copy_value copies (bottom_value n) ≡ bottom_value n
unfolding copy_value
copy-bottom n [] = refl
copy-bottom n (c ∷ copies) = ap (copy_value copies) (assign-bottom n c.target (Variable c.origin)) ∙ copy-bottom n copies

join-bottom : (n : ℕ) → join_value (bottom_value n) (bottom_value n) ≡ bottom_value n
unfolding join_value bottom_value
join-bottom n = refl

compare-bottom : (n : ℕ) (r : Cmp) (wanted : Bool) (a b : Expression) → compare_value r wanted a b (bottom_value n) ≡ bottom_value n
unfolding at_most_value below_value equal_value different_value join_value bottom_value
compare-bottom n cmp.Le true a b = refl
compare-bottom n cmp.Le false a b = refl
compare-bottom n cmp.Lt true a b = refl
compare-bottom n cmp.Lt false a b = refl
compare-bottom n cmp.Ge true a b = refl
compare-bottom n cmp.Ge false a b = refl
compare-bottom n cmp.Gt true a b = refl
compare-bottom n cmp.Gt false a b = refl
compare-bottom n cmp.Eq true a b = refl
compare-bottom n cmp.Eq false a b = refl
compare-bottom n cmp.Ne true a b = refl
compare-bottom n cmp.Ne false a b = refl

constant-bottom : (n : ℕ) (value wanted : Bool) → constant_value value wanted (bottom_value n) ≡ bottom_value n
unfolding bottom_value
constant-bottom n true true = refl
constant-bottom n true false = refl
constant-bottom n false true = refl
constant-bottom n false false = refl

test-bottom : (n : ℕ) (c : Condition) (wanted : Bool) → test_value c wanted (bottom_value n) ≡ bottom_value n
unfolding test_value
test-bottom n (Constant value) wanted = constant-bottom n value wanted
test-bottom n Random wanted = refl
test-bottom n (Not c) true = test-bottom n c false
test-bottom n (Not c) false = test-bottom n c true
test-bottom n (And c d) true = ap (test_value d true) (test-bottom n c true) ∙ test-bottom n d true
test-bottom n (And c d) false = ap (λ (v : Octagon). join_value v (test_value d false (bottom_value n))) (test-bottom n c false) ∙ ap (join_value (bottom_value n)) (test-bottom n d false) ∙ join-bottom n
test-bottom n (Or c d) true = ap (λ (v : Octagon). join_value v (test_value d true (bottom_value n))) (test-bottom n c true) ∙ ap (join_value (bottom_value n)) (test-bottom n d true) ∙ join-bottom n
test-bottom n (Or c d) false = ap (test_value d false) (test-bottom n c false) ∙ test-bottom n d false
test-bottom n (Compare r a b) wanted = compare-bottom n r wanted a b

pub move-bottom : (move : Move) (n : ℕ) → move_value move (bottom_value n) ≡ bottom_value n
unfolding bottom_value
move-bottom skips n = refl
move-bottom (assigns x e) n = assign-bottom n x e
move-bottom (havocs x) n = forget-bottom n x
move-bottom (tests c wanted) n = test-bottom n c wanted
move-bottom (calls callee args targets) n = refl
move-bottom (starts copies) n = copy-bottom n copies

pub enter-bottom : (n : ℕ) (args : List ℕ) (dims : ℕ) → enter_value (bottom_value n) args dims ≡ bottom_value dims
unfolding enter_value bottom_value
enter-bottom n args dims = refl

pub back-bottom_caller : (n : ℕ) (exit : Octagon) (args : List ℕ) (outputs : ℕ) (targets : List ℕ) → back_value (bottom_value n) exit args outputs targets ≡ bottom_value n
unfolding back_value bottom_value
back-bottom_caller n exit args outputs targets = refl

pub back-bottom_exit : (caller : Octagon) (n : ℕ) (args : List ℕ) (outputs : ℕ) (targets : List ℕ) → back_value caller (bottom_value n) args outputs targets ≡ bottom_value caller.dims
unfolding back_value bottom_value
back-bottom_exit caller n args outputs targets = by caller.dims caller.matrix
  where
    by : (d : ℕ) (w : Option Matrix) → back_value (record { dims = d; matrix = w }) (record { dims = n; matrix = None }) args outputs targets ≡ record { dims = d; matrix = None }
    by d None = refl
    by d (Some m) = refl
