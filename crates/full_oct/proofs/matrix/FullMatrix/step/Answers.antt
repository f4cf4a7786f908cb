use Rattle.std.proofs.Common.{◌≡◌, ◌<◌, ◌+◌, ◌*◌, sym, subst, ◌∙◌, arith, rules, length, get_or}
use Rattle.std.specs.Prelude.{FitsSigned, pos}
use Rattle.std.specs.Int.{w64}
use Rattle.std.proofs.lemmas.Int.{to_z-of_z}
use Rattle.oct_def.specs.Bound.{bound_of, clamped, plus}
use Rattle.oct_def.specs.Tight.{pair_entry, pair_step, least_of_five}
use Rattle.full_oct.proofs.Rows.{Stepped, stepped-more, stepped-all, pivot_of}
use Rattle.full_oct.proofs.matrix.FullMatrix.step.Goals as goal

pub loop-i-preserved : goal.loop-i-preserved
unfolding pair_entry
loop-i-preserved c =
    let s = c.args.self.now in
    let k = c.args.k in
    let i = c.loop-i.i in
    let inv = c.loop-i.invariant in
    let pivots = c.in_ok-pivots.pivots in
    let is = c.in_ok-pivots.ensures in
    let over_p = c.word-over_p.result in
    let over_q = c.word-over_q.result in
    let within : i < length s = omega (arith, c.size-size.ensures.rows) in
    let fits_p : FitsSigned w64 over_p = search rules in
    let fits_q : FitsSigned w64 over_q = search rules in
    stepped-more (pair_entry k s) s c.loop-i.self c.rewrite_row.new.self i inv within c.rewrite_row.ensures.rows c.rewrite_row.ensures.square c.rewrite_row.ensures.others (λ j h.
    let entry = c.rewrite_row.ensures.entries j (omega (arith, inv.rows)) in
    let first = get_or pivots.first.items j (pos 0) in
    let second = get_or pivots.second.items j (pos 0) in
    let word : bound_of entry.1 ≡ least_of_five (bound_of entry.0) (clamped (plus (bound_of over_p) (bound_of first))) (clamped (plus (bound_of over_q) (bound_of second)))
    (clamped (plus (plus (bound_of over_p) (bound_of pivots.across)) (bound_of second))) (clamped (plus (plus (bound_of over_q) (bound_of pivots.back)) (bound_of first)))
    = search (rules, to_z-of_z, entry.3) in
    sym entry.4 ∙ word
    ∙ pivot_of s (2 * k) (2 * k + 1) i j _ _ _ _ _ _ _ (entry.2 ∙ inv.left i j (omega arith) within h)
    (c.word-over_p.ensures.bound ∙ inv.left i (2 * k) (omega arith) within (omega (arith, c.requires.variable)))
    (c.word-over_q.ensures.bound ∙ inv.left i (2 * k + 1) (omega arith) within c.requires.variable)
    (is.first.bounds j h) (is.second.bounds j h) is.across is.back)

pub returns-clause-step : goal.returns-clause-step
unfolding pair_step
returns-clause-step c =
    let s = c.args.self.now in
    let all : c.loop-i.i ≡ length s = omega (arith, c.size-size.ensures.rows) in
    stepped-all (pair_entry c.args.k s) s c.loop-i.self (subst (Stepped (pair_entry c.args.k s) s c.loop-i.self) all c.loop-i.invariant)
