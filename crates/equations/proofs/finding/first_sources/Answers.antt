use Rattle.std.proofs.Common.{◌≡◌, ◌-◌, List, [], replicate, map, length, ap, ◌∙◌, arith}
use Rattle.std.proofs.lemmas.List.{length-map, length-replicate}
use Rattle.spl_core.specs.Parts.{proc_at}
use Rattle.equations.specs.declared.source.Source.{Source}
use Rattle.equations.proofs.Gathering.{start_below, started}
use Rattle.equations.proofs.finding.first_sources.Goals as goal

pub push_onto-requires : goal.push_onto-requires
push_onto-requires c =
    let main : c.proc_at.result ≡ proc_at c.args.core.now (length c.args.core.now.procs - 1) = c.proc_at.ensures.found ∙ ap (λ n. proc_at c.args.core.now (n - 1)) c.procs.ensures.count in
    let below = start_below c.args.core.now c.proc_at.result c.proc_at.ensures.known main in
    omega (arith, below, c.points.ensures.count, length-map c.in_ok-lists.lists.items (λ v. v.items), ap length c.in_ok-lists.ensures, length-replicate {A = List Source} c.points.result [])

pub returns : goal.returns
returns c =
    started c.args.core.now c.proc_at.result (map (λ v. v.items) c.in_ok-lists.lists.items) _ c.proc_at.ensures.known
    (c.proc_at.ensures.found ∙ ap (λ n. proc_at c.args.core.now (n - 1)) c.procs.ensures.count) (c.in_ok-lists.ensures ∙ ap (λ n. replicate n []) c.points.ensures.count) c.in_ok-push_onto.ensures
