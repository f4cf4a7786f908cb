-- Inductive invariants hold of every run.
use Rattle.std.proofs.Common.{◌≡◌, ℕ, suc, List, [], ◌∷◌, get_or, length, Option, subst, ◌∙◌, arith}
use Rattle.std.specs.List.{All}
use Rattle.oct_def.specs.Table.{Matrix}
use Rattle.oct_def.specs.Matrix.{MeetsValue}
use Rattle.spl_core.specs.Expression.{State}
use Rattle.spl_core.specs.Graph.{Graph}
use Rattle.spl_core.specs.GraphFacts.{IsGraph}
use Rattle.spl_runs.specs.Runs.{Stack, Run, Brings, stacks_of, last_of, first_of}
use Rattle.spl_runs.specs.Comes.{AllStand}
use Rattle.spl_runs.proofs.Coming.{runs_sound}
use Rattle.equations.specs.Equations.{Covers}
use Rattle.equations.specs.Inductive.{Inductive}
use Rattle.equations.proofs.Facts.{known}
use Rattle.equations.proofs.Inductions.{inductive_covers}
use Rattle.inv_text.specs.Invariants.{matrix_in, AreInvariants}
use Rattle.inv_check.specs.Given.{dims_of, value_given}
use Rattle.inv_check.specs.Sound.{AllMeet, HoldOfRuns}
use Rattle.inv_check.proofs.Giving.{matrix_given, over_given, length-dims_of}

all_meet : (g : Graph) (x : List (Option Matrix)) (st : Stack) → length x ≡ length g.owners → Covers g (value_given g x) → AllStand g st → AllMeet g x st
all_meet g x [] e c h = tt
all_meet g x (f ∷ below) e c h =
    (subst (MeetsValue f.state) (matrix_given g x f.point e) (c.meets f.point f.state h.0.comes), h.0, h.1, all_meet g x below e c h.2)

frames_meet : (g : Graph) (x : List (Option Matrix)) → IsGraph g → length x ≡ length g.owners → Covers g (value_given g x) → (r : Run g) → All (AllMeet g x) (stacks_of g r)
frames_meet g x is e c r k d l = all_meet g x (get_or (stacks_of g r) k d) e c (runs_sound g is r k d l)

all-last : (P : Stack → Type 0) (first : Stack) (stacks : List Stack) → All P (first ∷ stacks) → P (last_of first stacks)
all-last P first [] h = h 0 first (omega arith)
all-last P first (next ∷ stacks) h = all-last P next stacks (λ k d l. h (suc k) d (omega arith))

brought_meets : (g : Graph) (x : List (Option Matrix)) → IsGraph g → length x ≡ length g.owners → Covers g (value_given g x) → (p : ℕ) (s : State) → Brings g p s → MeetsValue s (matrix_in x p)
brought_meets g x is e c p s b = (subst (AllMeet g x) b.ends (all-last (AllMeet g x) (first_of g b.run) b.run.stacks (frames_meet g x is e c b.run))).0

pub inductive_holds : (g : Graph) (x : List (Option Matrix)) → IsGraph g → AreInvariants (dims_of g) x → Inductive g (value_given g x) → HoldOfRuns g x
inductive_holds g x is are h =
    let e : length x ≡ length g.owners = are.points ∙ length-dims_of g in
    let c : Covers g (value_given g x) = inductive_covers g (value_given g x) (known g is) (record { dims = (over_given g x).dims }) h in record {
      frames = frames_meet g x is e c;
      states = brought_meets g x is e c;
      bottom = λ p s none b. subst (MeetsValue s) none (brought_meets g x is e c p s b);
    }
