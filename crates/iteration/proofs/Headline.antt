-- What the ascent of a graph leaves is inductive, and what the analysis finds holds of every run.
use Rattle.std.proofs.Common.{◌≡◌, ◌≢◌, ⊎_elim, ℕ, suc, ◌<◌, List, [], ◌∷◌, length, get_or, sym, subst, arith, get_or-set_same, get_or-set_other}
use Rattle.std.specs.List.{All}
use Rattle.std.proofs.lemmas.Bool.{cases_eq}
use Rattle.oct_def.specs.Matrix.{MeetsValue}
use Rattle.oct_def.specs.Octagon.{Octagon, MeetsOctagon}
use Rattle.spl_core.specs.Expression.{State}
use Rattle.spl_core.specs.Graph.{Graph}
use Rattle.spl_runs.specs.Runs.{Stack, Run, Brings, stacks_of, last_of, first_of}
use Rattle.spl_runs.specs.Comes.{Comes, AllStand}
use Rattle.spl_runs.proofs.Coming.{runs_sound}
use Rattle.call_graph.specs.Order.{is_cut}
use Rattle.equations.specs.Equations.{AreSized, Covers}
use Rattle.equations.specs.Inductive.{Inductive}
use Rattle.equations.proofs.Facts.{Known}
use Rattle.equations.proofs.Cover.{placed, equation_met, reading_covers}
use Rattle.equations.proofs.Inductions.{inductive_covers}
use Rattle.rounds.specs.Rounds.{Cell, cell_at, no_cell, visit}
use Rattle.rounds.specs.Solved.{values_in, source_in, falling, solved}
use Rattle.rounds.specs.Ends.{AreGood}
use Rattle.rounds.proofs.Reached.{holds-solved}
use Rattle.rounds.proofs.Solved.{meets-descended, ascent_ends}
use Rattle.iteration.specs.Solved.{system_of, ascent_of, read_of}
use Rattle.iteration.specs.Sound.{AllMeet, IsSound}
use Rattle.iteration.proofs.Forward.{is_system}

-- ---- the ascent

pub ascent_inductive : (g : Graph) (delay : ℕ) → Known g → Inductive g (values_in (ascent_of g delay).cells)
unfolding source_in
ascent_inductive g delay is = record { below = (ascent_ends (system_of g) delay (is_system g is)).below }

sized : (g : Graph) (cells : List Cell) → AreGood (system_of g) cells → AreSized g (values_in cells)
sized g cells good = record { dims = good.sized.dims }

ascent_covers : (g : Graph) (delay : ℕ) → Known g → Covers g (values_in (ascent_of g delay).cells)
ascent_covers g delay is =
    inductive_covers g (values_in (ascent_of g delay).cells) is (sized g (ascent_of g delay).cells (ascent_ends (system_of g) delay (is_system g is)).good) (ascent_inductive g delay is)

-- ---- the descent keeps that all points are covered

covering-visit : (g : Graph) (p : ℕ) (cells : List Cell) → Known g → AreGood (system_of g) cells → Covers g (values_in cells) → Covers g (values_in (visit (falling (system_of g)) p cells))
unfolding source_in
covering-visit g p cells is good covers = record { meets = λ q s h. ⊎_elim (same q s h) (other q s h) (cases_eq q p) }
  where
    same : (q : ℕ) (s : State) → Comes g q s → q ≡ p → MeetsOctagon s (values_in (visit (falling (system_of g)) p cells) q)
    same q s h e =
        let at_p : Comes g p s = subst (λ (k : ℕ). Comes g k s) e h in
        let l : p < length g.owners = (placed g p s is at_p).in_range in
        let inside : p < length cells = omega (arith, l, good.sized.points) in
        let value = meets-descended s (is_cut g p) (cell_at cells p) (source_in (system_of g) p cells) (covers.meets p s at_p)
        (equation_met g (is_cut g) (values_in cells) is (sized g cells good) covers p s at_p) in
        subst (λ (k : ℕ). MeetsOctagon s (values_in (visit (falling (system_of g)) p cells) k)) (sym e)
        (subst (λ (d : Cell). MeetsOctagon s d.value) (sym (get_or-set_same cells p (falling (system_of g) p cells) no_cell inside)) value)

    other : (q : ℕ) (s : State) → Comes g q s → q ≢ p → MeetsOctagon s (values_in (visit (falling (system_of g)) p cells) q)
    other q s h e = subst (λ (d : Cell). MeetsOctagon s d.value) (sym (get_or-set_other cells p q (falling (system_of g) p cells) no_cell e)) (covers.meets q s h)

solution_covers : (g : Graph) (delay descend : ℕ) → Known g → Covers g (read_of g delay descend)
solution_covers g delay descend is =
    reading_covers g (is_cut g) (values_in (solved (system_of g) delay descend))
    (holds-solved (system_of g) delay descend (λ (cells : List Cell). Covers g (values_in cells)) (is_system g is) (λ p a lt good covers. covering-visit g p a is good covers) (ascent_covers g delay is))

-- ---- runs

all_meet : (g : Graph) (x : ℕ → Octagon) (stack : Stack) → Covers g x → AllStand g stack → AllMeet g x stack
all_meet g x [] c h = tt
all_meet g x (f ∷ below) c h = (c.meets f.point f.state h.0.comes, h.0, h.1, all_meet g x below c h.2)

frames_meet : (g : Graph) (x : ℕ → Octagon) → Known g → Covers g x → (r : Run g) → All (AllMeet g x) (stacks_of g r)
frames_meet g x is c r k d l = all_meet g x (get_or (stacks_of g r) k d) c (runs_sound g is.graph r k d l)

all-last : (P : Stack → Type 0) (first : Stack) (stacks : List Stack) → All P (first ∷ stacks) → P (last_of first stacks)
all-last P first [] h = h 0 first (omega arith)
all-last P first (next ∷ stacks) h = all-last P next stacks (λ k d l. h (suc k) d (omega arith))

brought_meets : (g : Graph) (x : ℕ → Octagon) → Known g → Covers g x → (p : ℕ) (s : State) → Brings g p s → MeetsOctagon s (x p)
brought_meets g x is c p s b = (subst (AllMeet g x) b.ends (all-last (AllMeet g x) (first_of g b.run) b.run.stacks (frames_meet g x is c b.run))).0

pub is_sound : (g : Graph) (delay descend : ℕ) → Known g → IsSound g delay descend
is_sound g delay descend is =
    let c = solution_covers g delay descend is in
    record {
      frames = frames_meet g (read_of g delay descend) is c;
      states = brought_meets g (read_of g delay descend) is c;
      bottom = λ p s none b. subst (MeetsValue s) none (brought_meets g (read_of g delay descend) is c p s b);
    }
