use Rattle.std.proofs.Common.{◌≤◌, Bool, List, ℕ, [], length, sym, ap, ◌∙◌, arith}
use Rattle.std.proofs.lemmas.List.{get_or-map}
use Rattle.spl_tree.specs.Laws.{procs_in}
use Rattle.spl_tree.specs.Meaning.{program_of}
use Rattle.spl_tree.specs.Lists.{Lists}
use Rattle.spl_types.specs.declared.scope.Copies.{Copies}
use Rattle.spl_types.specs.Dimensions.{dimensions}
use Rattle.spl_types.proofs.Accepting.{at_copies}
use Rattle.spl_types.proofs.checked.Checked.dims.Goals as goal

pub index-copies-requires : goal.index-copies-requires
unfolding program_of
index-copies-requires c =
    let t = c.self.inside.tree.now in
    let count = (c.law_tree.ensures.numbers t c.self.invariant.tree).0.procs in
    let le : c.args.p ≤ length (procs_in t) = omega (arith, count, c.requires, ap (λ (l : Lists). length l.procs) c.self.view_is) in
    let q = at_copies (program_of t) c.self.inside.procs.items c.args.p ([], 0) c.self.invariant.copies le in
    omega (arith, q.0, c.self.inside.procs.ok.0)

pub returns-clause-count : goal.returns-clause-count
unfolding program_of dimensions
returns-clause-count c =
    let t = c.self.inside.tree.now in
    let count = (c.law_tree.ensures.numbers t c.self.invariant.tree).0.procs in
    let le : c.args.p ≤ length (procs_in t) = omega (arith, count, c.requires, ap (λ (l : Lists). length l.procs) c.self.view_is) in
    let items = c.self.inside.procs.items in
    let q = at_copies (program_of t) items c.args.p ([], 0) c.self.invariant.copies le in
    let here = ap (λ (x : Copies). x.dims) c.index-copies.ensures in
    let there = get_or-map (λ (x : Copies). (x.assigned.items, x.dims)) items c.args.p c.index-copies.result.now ([], 0) q.0 in
    here ∙ (sym (ap (λ (x : List Bool × ℕ). x.1) there) ∙ (ap (λ (x : List Bool × ℕ). x.1) q.1 ∙ ap (λ (l : Lists). length (dimensions (program_of l) c.args.p)) c.self.view_is))
