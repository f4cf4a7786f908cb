-- A report depends on the values at the points alone.
use Rattle.std.proofs.Common.{◌≡◌, ℕ, zero, suc, ◌+◌, ◌<◌, Bool, List, [], ◌∷◌, ◌++◌, length, map, if◌then◌else◌, refl, ap, ◌∙◌, arith}
use Rattle.std.specs.List.{All, flat_map, range_with_len}
use Rattle.std.proofs.lemmas.List.Elements.{All-head, All-tail}
use Rattle.oct_def.specs.Octagon.{Octagon}
use Rattle.spl_tree.specs.Program.{Program}
use Rattle.spl_core.specs.Graph.{Graph}
use Rattle.call_graph.specs.Order.{is_entry}
use Rattle.spl_print.specs.Canonical.{Noted, canonical}
use Rattle.control_points.specs.declared.built.Fail.{Fail}
use Rattle.control_points.specs.CoreOf.{core_of, fails_of}
use Rattle.report.specs.Listed.{note_of}
use Rattle.report.specs.ConstraintText.{note_text}
use Rattle.report.specs.Points.{for_line, for_lines, names_at, FailsAreAtPoints}
use Rattle.report.specs.Report.{is_bottom, point_text, fail_line, fail_text, rounds_text, report}

same_lines : (g : Graph) (f h : ℕ → List ℕ) (a n : ℕ) → ((k : ℕ) → k < a + n → f k ≡ h k) → flat_map (for_line g f) (range_with_len a n) ≡ flat_map (for_line g h) (range_with_len a n)
same_lines g f h a zero e = refl
same_lines g f h a (suc n) e =
    ap (λ l. l ++ flat_map (for_line g f) (range_with_len (a + 1) n)) (ap (λ x. if is_entry g a then [] else x ∷ []) (e a (omega arith)))
    ∙ ap (λ l. for_line g h a ++ l) (same_lines g f h (a + 1) n (λ k l. e k (omega arith)))

same_fails : (bytes : List ℕ) (r t : ℕ → Octagon) (n : ℕ) (fails : List Fail) → ((k : ℕ) → k < n → r k ≡ t k) → All (λ (f : Fail). f.point < n) fails
    → map (fail_text bytes r) fails ≡ map (fail_text bytes t) fails
same_fails bytes r t n [] e within = refl
same_fails bytes r t n (f ∷ fails) e within =
    ap (λ l. l ∷ map (fail_text bytes r) fails) (ap (λ v. fail_line bytes f.offset (is_bottom v)) (e f.point (All-head (λ (x : Fail). x.point < n) f fails within)))
    ∙ ap (λ ls. fail_text bytes t f ∷ ls) (same_fails bytes r t n fails e (All-tail (λ (x : Fail). x.point < n) f fails within))

abbrev both : List (List ℕ) → List (List ℕ) → Noted
both points closing = record { points = points; closing = closing }

pub same_report : (bytes : List ℕ) (full : Bool) (r t : ℕ → Octagon) (rounds : ℕ) (p : Program) → FailsAreAtPoints → ((k : ℕ) → k < length (core_of p).owners → r k ≡ t k)
    → report bytes full r rounds p ≡ report bytes full t rounds p
unfolding report for_lines
same_report bytes full r t rounds p at e =
    let points = same_lines (core_of p) (point_text full r p) (point_text full t p) 0 (length (core_of p).owners)
    (λ k l. ap (λ v. note_text (names_at p k) (note_of full v)) (e k (omega arith))) in
    let fails = same_fails bytes r t (length (core_of p).owners) (fails_of p) e (at p) in
    ap (λ xs. canonical bytes p (both xs (map (fail_text bytes r) (fails_of p) ++ rounds_text rounds ∷ []))) points
    ∙ ap (λ ys. canonical bytes p (both (for_lines (core_of p) (point_text full t p)) (ys ++ rounds_text rounds ∷ []))) fails
