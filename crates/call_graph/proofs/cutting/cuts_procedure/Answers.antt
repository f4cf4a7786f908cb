use Rattle.std.proofs.Common.{◌≡◌, ℕ, ◌<◌, ◌||◌, false, inl, inr, eqb, length, ap, sym, ◌∙◌, arith}
use Rattle.std.proofs.lemmas.Bool.{or_left, or_from}
use Rattle.std.proofs.lemmas.Bool.Decides.{eqb_tells}
use Rattle.std.proofs.lemmas.List.{get_or_default}
use Rattle.spl_core.specs.Graph.{graph_of}
use Rattle.call_graph.specs.Reach.{reaches}
use Rattle.call_graph.specs.Order.{is_recursive_exit}
use Rattle.call_graph.proofs.Cuts.{is_an_entry, is_no_entry, is_an_exit, is_no_exit, owner_in_range}
use Rattle.call_graph.proofs.Rows.{rows_long, row_long, row_bit}
use Rattle.call_graph.proofs.cutting.cuts_procedure.Goals as goal

pub returns-then-procedure-x : goal.returns-then-procedure-x
returns-then-procedure-x c = sym (or_left _ _ (is_an_entry c.args.core.now c.args.x c.owner-owner.result c.proc_at-procedure.result c.owner-owner.ensures.found c.proc_at-procedure.ensures.found c.if-procedure-x.true))

pub bounds-reached-owner : goal.bounds-reached-owner
bounds-reached-owner c = omega (arith, owner_in_range c.args.core.now c.args.x c.owner-owner.result c.owner-owner.ensures.known c.requires.point c.owner-owner.ensures.found, rows_long c.args.reached.now (length c.args.core.now.procs) (reaches (graph_of c.args.core.now)) c.requires.table)

pub index-requires : goal.index-requires
index-requires c =
    let lt : c.owner-owner.result < length c.args.core.now.procs = owner_in_range c.args.core.now c.args.x c.owner-owner.result c.owner-owner.ensures.known c.requires.point c.owner-owner.ensures.found in
    let long : length c.index-reached-owner.result.items ≡ length c.args.core.now.procs = row_long c.args.reached.now (length c.args.core.now.procs) c.owner-owner.result (reaches (graph_of c.args.core.now)) c.index-reached-owner.result c.requires.table lt c.index-reached-owner.is in
    omega (arith, lt, long)

pub returns-then-procedure-x-2 : goal.returns-then-procedure-x-2
returns-then-procedure-x-2 c =
    let owner : ℕ = c.owner-owner.result in
    let g = graph_of c.args.core.now in
    let lt : c.owner-owner.result < length c.args.core.now.procs = owner_in_range c.args.core.now c.args.x c.owner-owner.result c.owner-owner.ensures.known c.requires.point c.owner-owner.ensures.found in
    let row = c.index-reached-owner.result in
    let long : length c.index-reached-owner.result.items ≡ length c.args.core.now.procs = row_long c.args.reached.now (length c.args.core.now.procs) c.owner-owner.result (reaches (graph_of c.args.core.now)) c.index-reached-owner.result c.requires.table lt c.index-reached-owner.is in
    let bit : c.index.result.now ≡ reaches (graph_of c.args.core.now) c.owner-owner.result c.owner-owner.result =
    c.index.ensures ∙ get_or_default row.items owner c.index.result.now false (omega (arith, lt, long))
    ∙ row_bit c.args.reached.now (length c.args.core.now.procs) owner owner (reaches (graph_of c.args.core.now)) row c.requires.table lt lt c.index-reached-owner.is in
    bit ∙ sym (is_an_exit c.args.core.now c.args.x owner c.proc_at-procedure.result c.owner-owner.ensures.found c.proc_at-procedure.ensures.found c.if-procedure-x-2.true)
    ∙ ap (λ b. b || is_recursive_exit (graph_of c.args.core.now) c.args.x) (sym (is_no_entry c.args.core.now c.args.x owner c.proc_at-procedure.result c.owner-owner.ensures.found c.proc_at-procedure.ensures.found c.if-procedure-x.false))

pub returns-else-procedure-x-2 : goal.returns-else-procedure-x-2
returns-else-procedure-x-2 c =
    let apart : eqb c.proc_at-procedure.result.exit c.args.x ≡ false = elim (eqb_tells c.proc_at-procedure.result.exit c.args.x) [ inl t ↦ absurd (c.if-procedure-x-2.false t.1) | inr t ↦ t.0 ] in
    apart ∙ sym (or_from _ _ (is_no_entry c.args.core.now c.args.x c.owner-owner.result c.proc_at-procedure.result c.owner-owner.ensures.found c.proc_at-procedure.ensures.found c.if-procedure-x.false)
    (is_no_exit c.args.core.now c.args.x c.owner-owner.result c.proc_at-procedure.result c.owner-owner.ensures.found c.proc_at-procedure.ensures.found c.if-procedure-x-2.false))
