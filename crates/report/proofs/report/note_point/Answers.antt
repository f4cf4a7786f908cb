use Rattle.std.proofs.Common.{map, sym, ◌∙◌, arith}
use Rattle.spl_tree.specs.Meaning.{program_of}
use Rattle.control_points.specs.CoreOf.{core_of}
use Rattle.report.specs.Report.{point_text}
use Rattle.report.specs.Values.{value_in}
use Rattle.report.proofs.Noting.{skipped, texted, entry_is, value_held, held_within, owner_named, names_found, as_many_names, text_is}
use Rattle.report.proofs.report.note_point.Goals as goal

pub returns-then-proc_at-point-clause-points : goal.returns-then-proc_at-point-clause-points
returns-then-proc_at-point-clause-points g c =
    let p = program_of c.args.checked.now in
    skipped (core_of p) (point_text c.args.full (value_in (map g.D.Domain.meaning c.args.values.now)) p) c.args.point c.args.notes.now.points
    (entry_is c.args.core.now (core_of p) c.args.point c.owner-owner.result c.proc_at.result c.requires.core c.owner-owner.ensures.found c.proc_at.ensures.found ∙ c.if-proc_at-point.true)

pub offset_bounds-values-point : goal.offset_bounds-values-point
offset_bounds-values-point g c =
    let within = held_within c.args.core.now (program_of c.args.checked.now) g.D.Domain.meaning c.args.values.now c.args.point c.requires.core c.requires.sized c.requires.point in
    omega arith

pub bounds-values-point : goal.bounds-values-point
bounds-values-point g c = held_within c.args.core.now (program_of c.args.checked.now) g.D.Domain.meaning c.args.values.now c.args.point c.requires.core c.requires.sized c.requires.point

pub of_procedure-requires : goal.of_procedure-requires
of_procedure-requires g c =
    owner_named c.args.core.now (program_of c.args.checked.now) c.args.point c.owner-owner.result c.args.names.now c.requires.core c.owner-owner.ensures.known c.requires.point c.owner-owner.ensures.found c.requires.names

pub constraints_text-requires : goal.constraints_text-requires
constraints_text-requires g c =
    let p = program_of c.args.checked.now in
    let within = held_within c.args.core.now p g.D.Domain.meaning c.args.values.now c.args.point c.requires.core c.requires.sized c.requires.point in
    let named = owner_named c.args.core.now p c.args.point c.owner-owner.result c.args.names.now c.requires.core c.owner-owner.ensures.known c.requires.point c.owner-owner.ensures.found c.requires.names in
    let here = names_found c.args.core.now p c.args.point c.owner-owner.result c.args.names.now c.of_procedure.result.now c.requires.core c.owner-owner.ensures.found c.requires.names named c.of_procedure.ensures in
    record {
      named = as_many_names c.args.core.now p (map g.D.Domain.meaning c.args.values.now) c.args.point c.of_procedure.result.now (g.D.Domain.meaning c.index-values-point.result) c.requires.core
          c.owner-owner.ensures.known c.requires.point c.law_points.ensures.names c.requires.sized here
          (value_held g.D.Domain.meaning c.args.values.now c.args.point c.index-values-point.result within c.index-values-point.is);
    }

pub returns-in-Ok-clause-points : goal.returns-in-Ok-clause-points
returns-in-Ok-clause-points g c =
    let p = program_of c.args.checked.now in
    let read = value_in (map g.D.Domain.meaning c.args.values.now) in
    let within = held_within c.args.core.now p g.D.Domain.meaning c.args.values.now c.args.point c.requires.core c.requires.sized c.requires.point in
    let named = owner_named c.args.core.now p c.args.point c.owner-owner.result c.args.names.now c.requires.core c.owner-owner.ensures.known c.requires.point c.owner-owner.ensures.found c.requires.names in
    let here = names_found c.args.core.now p c.args.point c.owner-owner.result c.args.names.now c.of_procedure.result.now c.requires.core c.owner-owner.ensures.found c.requires.names named c.of_procedure.ensures in
    let held = value_held g.D.Domain.meaning c.args.values.now c.args.point c.index-values-point.result within c.index-values-point.is in
    let text = text_is c.args.full read p c.args.point c.of_procedure.result.now (g.D.Domain.meaning c.index-values-point.result) c.in_ok-text.text.items here held c.in_ok-text.ensures in
    let entry = entry_is c.args.core.now (core_of p) c.args.point c.owner-owner.result c.proc_at.result c.requires.core c.owner-owner.ensures.found c.proc_at.ensures.found in
    c.in-Ok.ensures.added ∙ texted (core_of p) (point_text c.args.full read p) c.args.point c.args.notes.now.points c.deref.result.now
    (λ same. c.if-proc_at-point.false (sym entry ∙ same)) (c.deref.ensures.value ∙ text)
