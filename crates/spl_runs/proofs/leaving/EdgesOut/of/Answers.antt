use Rattle.std.proofs.Common.{List, sym, ◌∙◌, subst, arith}
use Rattle.std.specs.List.{All}
use Rattle.spl_core.specs.declared.parts.Edge.{Edge}
use Rattle.spl_core.specs.Facts.{EdgeFits}
use Rattle.spl_runs.proofs.Outgoing.{list_at, list_past, leaving_fit}
use Rattle.spl_runs.proofs.leaving.EdgesOut.of.Goals as goal

pub returns-then-at-len-clause-list : goal.returns-then-at-len-clause-list
returns-then-at-len-clause-list c =
    c.deref.ensures.value
    ∙ list_at (λ v. v.items) c.args.core.now c.self.inside.lists.items c.args.point c.index.result.now (c.self.view_is ∙ c.requires) (omega (arith, c.if-at-len.true, c.len.ensures)) c.index.ensures

pub returns-then-at-len-clause-fit : goal.returns-then-at-len-clause-fit
returns-then-at-len-clause-fit c =
    let P : List Edge → Type 0 = λ xs. All (EdgeFits c.args.core.now) xs in
    subst P (sym (returns-then-at-len-clause-list c)) (leaving_fit c.args.core.now c.args.point c.points-points.ensures.known)

pub returns-else-at-len-clause-list : goal.returns-else-at-len-clause-list
returns-else-at-len-clause-list c =
    sym (list_past (λ v. v.items) c.args.core.now c.self.inside.lists.items c.args.point c.points-points.ensures.known (c.self.view_is ∙ c.requires) (omega (arith, c.if-at-len.false, c.len.ensures)))
