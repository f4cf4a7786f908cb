use Rattle.std.proofs.Common.{◌≡◌, ◌∙◌, ◌+◌, ◌-◌, ◌^◌, ◌<◌, ◌≤◌, ◌∷◌, ◌++◌, [], ℕ, suc, List, length, get_or, sym, ap, subst, refl, add-one, arith}
use Rattle.std.specs.Prelude.{map}
use Rattle.std.proofs.lemmas.List.{length-map}
use Rattle.spl_core.specs.Graph.{graph_of}
use Rattle.spl_runs.specs.declared.choices.Step.{Step}
use Rattle.spl_runs.specs.Choices.{given_of, choice_of}
use Rattle.spl_runs.specs.Replay.{step_of, top_of}
use Rattle.spl_runs.specs.Seen.{top_seen, top_held}
use Rattle.spl_runs.specs.Stacks.{frames_of, stack_of}
use Rattle.spl_runs.proofs.Following.{start_followed, next_followed, no_step, wide_step, no_start, all_followed, step_at, frames_length}
use Rattle.spl_runs.proofs.follow.follow.Goals as goal

pub returns-in-Ok-None : goal.returns-in-Ok-None
returns-in-Ok-None c = no_start c.args.core.now (given_of c.args.choices.now) (rw c.in-Ok-None.field-0-is at c.in-Ok-None.ensures)

pub loop-k-init : goal.loop-k-init
loop-k-init c =
    let b = rw c.in-Ok-Some.field-0-is at c.in-Ok-Some.ensures in
    let l : length (frames_of c.in-Ok-Some.stack.below.items) ≡ 0 = frames_length c.in-Ok-Some.stack.below.items ∙ ap length b.1 in
    start_followed c.args.core.now (given_of c.args.choices.now) (map top_seen c.note.new.tops.items) (top_held c.in-Ok-Some.stack.top 1) (stack_of c.in-Ok-Some.stack)
    b.0 (omega arith) (c.in-Ok.ensures ∙ ap (λ xs. map top_seen xs ++ top_held c.in-Ok-Some.stack.top 1 ∷ []) c.new-tops.ensures.items)

-- the step that is taken is the one with this number
the_step : (xs items : List Step) (k : ℕ) (s : Step) → items ≡ xs → k < length items → s ≡ get_or items k s → choice_of s ≡ get_or (map choice_of xs) k (choice_of s)
the_step xs items k s e l h =
    let P : List Step → Type 0 = λ ys. (k < length ys) × (s ≡ get_or ys k s) in
    let p : (k < length xs) × (s ≡ get_or xs k s) = subst P e (l, h) in
    step_at xs k s p.0 p.1

few : (xs items : List Step) (k : ℕ) → items ≡ xs → k < length items → k < length (map choice_of xs)
few xs items k e l = omega (arith, ap length e, length-map xs choice_of)

pub returns-in-Err-NotARun : goal.returns-in-Err-NotARun
returns-in-Err-NotARun c =
    let e = rw c.in-Err-NotARun.field-0-is at c.in-Err-NotARun.ensures in
    let s = the_step c.args.choices.now.steps.items c.deref-step-items.result.now c.loop-k.k c.step-item.result c.deref-step-items.ensures.value c.loop-k-test.true c.step-item.is in
    rw add-one (no_step c.args.core.now (given_of c.args.choices.now) c.loop-k.k (map top_seen c.loop-k.tops.items) (stack_of c.loop-k.stack) (choice_of c.step-item.result) c.loop-k.invariant
    (few c.args.choices.now.steps.items c.deref-step-items.result.now c.loop-k.k c.deref-step-items.ensures.value c.loop-k-test.true)
    (ap (step_of (graph_of c.args.core.now) (stack_of c.loop-k.stack)) (sym s) ∙ e))

pub returns-in-Err-Wide : goal.returns-in-Err-Wide
returns-in-Err-Wide c =
    let e = rw c.in-Err-Wide.field-0-is at c.in-Err-Wide.ensures in
    let s = the_step c.args.choices.now.steps.items c.deref-step-items.result.now c.loop-k.k c.step-item.result c.deref-step-items.ensures.value c.loop-k-test.true c.step-item.is in
    rw add-one (wide_step c.args.core.now (given_of c.args.choices.now) c.loop-k.k (map top_seen c.loop-k.tops.items) (stack_of c.loop-k.stack) (choice_of c.step-item.result) c.loop-k.invariant
    (few c.args.choices.now.steps.items c.deref-step-items.result.now c.loop-k.k c.deref-step-items.ensures.value c.loop-k-test.true)
    (ap (step_of (graph_of c.args.core.now) (stack_of c.loop-k.stack)) (sym s) ∙ e))

-- how many frames there are after the step
depth_of : (frames n len k steps : ℕ) → suc frames ≤ suc (suc k) → frames ≡ n → len ≡ n → k < steps → steps < 2 ^ 32 - 1 → len + 1 < 2 ^ 32
depth_of frames n len k steps a b c d e = omega arith

pub overflow_cast-depth : goal.overflow_cast-depth
overflow_cast-depth c =
    let s = the_step c.args.choices.now.steps.items c.deref-step-items.result.now c.loop-k.k c.step-item.result c.deref-step-items.ensures.value c.loop-k-test.true c.step-item.is in
    let f = few c.args.choices.now.steps.items c.deref-step-items.result.now c.loop-k.k c.deref-step-items.ensures.value c.loop-k-test.true in
    let n = next_followed c.args.core.now (given_of c.args.choices.now) c.loop-k.k (map top_seen c.loop-k.tops.items) (stack_of c.loop-k.stack) (stack_of c.step.new.self) (top_of (stack_of c.step.new.self)) (choice_of c.step-item.result) c.loop-k.invariant f
    (ap (step_of (graph_of c.args.core.now) (stack_of c.loop-k.stack)) (sym s) ∙ c.in-Ok-step.ensures) refl in
    let b : c.len.result ≡ length c.step.new.self.below.items = c.len.ensures ∙ c.step.new.self.below.ok.0 in
    let h : c.loop-k.k < length c.args.choices.now.steps.items = omega (arith, f, length-map c.args.choices.now.steps.items choice_of) in
    let d : c.len.result + 1 < 2 ^ 32 = depth_of (length (frames_of c.step.new.self.below.items)) (length c.step.new.self.below.items) c.len.result c.loop-k.k (length c.args.choices.now.steps.items) n.depth (frames_length c.step.new.self.below.items) b h c.requires.few in
    record { fits = omega arith }

pub overflow_add-depth : goal.overflow_add-depth
overflow_add-depth c =
    let s = the_step c.args.choices.now.steps.items c.deref-step-items.result.now c.loop-k.k c.step-item.result c.deref-step-items.ensures.value c.loop-k-test.true c.step-item.is in
    let f = few c.args.choices.now.steps.items c.deref-step-items.result.now c.loop-k.k c.deref-step-items.ensures.value c.loop-k-test.true in
    let n = next_followed c.args.core.now (given_of c.args.choices.now) c.loop-k.k (map top_seen c.loop-k.tops.items) (stack_of c.loop-k.stack) (stack_of c.step.new.self) (top_of (stack_of c.step.new.self)) (choice_of c.step-item.result) c.loop-k.invariant f
    (ap (step_of (graph_of c.args.core.now) (stack_of c.loop-k.stack)) (sym s) ∙ c.in-Ok-step.ensures) refl in
    let b : c.len.result ≡ length c.step.new.self.below.items = c.len.ensures ∙ c.step.new.self.below.ok.0 in
    let h : c.loop-k.k < length c.args.choices.now.steps.items = omega (arith, f, length-map c.args.choices.now.steps.items choice_of) in
    record { fits = depth_of (length (frames_of c.step.new.self.below.items)) (length c.step.new.self.below.items) c.len.result c.loop-k.k (length c.args.choices.now.steps.items) n.depth (frames_length c.step.new.self.below.items) b h c.requires.few }

pub loop-k-preserved : goal.loop-k-preserved
loop-k-preserved c =
    let s = the_step c.args.choices.now.steps.items c.deref-step-items.result.now c.loop-k.k c.step-item.result c.deref-step-items.ensures.value c.loop-k-test.true c.step-item.is in
    let f = few c.args.choices.now.steps.items c.deref-step-items.result.now c.loop-k.k c.deref-step-items.ensures.value c.loop-k-test.true in
    let b : c.len.result ≡ length c.step.new.self.below.items = c.len.ensures ∙ c.step.new.self.below.ok.0 in
    let d : c.len.result + 1 ≡ suc (length (frames_of c.step.new.self.below.items)) = omega (arith, b, frames_length c.step.new.self.below.items) in
    let n = next_followed c.args.core.now (given_of c.args.choices.now) c.loop-k.k (map top_seen c.loop-k.tops.items) (stack_of c.loop-k.stack) (stack_of c.step.new.self) (top_held c.step.new.self.top (c.len.result + 1)) (choice_of c.step-item.result) c.loop-k.invariant f
    (ap (step_of (graph_of c.args.core.now) (stack_of c.loop-k.stack)) (sym s) ∙ c.in-Ok-step.ensures) (ap (top_held c.step.new.self.top) d) in
    rw (add-one, c.in-Ok-note.ensures) n

pub returns : goal.returns
returns c = (
  stack_of c.loop-k.stack,
  all_followed c.args.core.now (given_of c.args.choices.now) c.loop-k.k (map top_seen c.loop-k.tops.items) (stack_of c.loop-k.stack) c.loop-k.invariant
      (omega (arith, c.loop-k-test.false, ap length c.deref-step-items.ensures.value, length-map c.args.choices.now.steps.items choice_of))
      (omega (arith, c.loop-k.auto.k-end, ap length c.deref-step-items.ensures.value, length-map c.args.choices.now.steps.items choice_of)),
)
