use Rattle.std.proofs.Common.{◌≡◌, ◌++◌, ℕ, List, map, sym, ap, ◌∙◌, subst}
use Rattle.oct_def.specs.Octagon.{Octagon}
use Rattle.spl_tree.specs.Program.{Program}
use Rattle.spl_tree.specs.Meaning.{program_of}
use Rattle.control_points.specs.CoreOf.{core_of}
use Rattle.read_back.specs.ReadsBack.{ReadsAs}
use Rattle.report.specs.Points.{for_lines}
use Rattle.report.specs.Report.{point_text}
use Rattle.report.specs.Values.{value_in}
use Rattle.report.proofs.Noting.{report_is, closing_is}
use Rattle.report.proofs.report.report_by_values.Goals as goal

pub returns-in-Ok-print-clause-text : goal.returns-in-Ok-print-clause-text
returns-in-Ok-print-clause-text g c =
    let p : Program = program_of c.args.checked.now in
    let read : ℕ → Octagon = value_in (map g.D.Domain.meaning c.args.values.now) in
    let texts : List (List ℕ) = for_lines (core_of p) (point_text c.args.full read p) in
    let noted : c.closing.new.self.points ≡ texts =
    c.in-Ok.ensures.points ∙ c.in_ok-note_fails.ensures.points ∙ c.in_ok-note_points.ensures.points ∙ ap (λ xs. xs ++ texts) c.new-notes.ensures.points in
    let fails = closing_is c.args.bytes.now read p c.deref.result.now c.args.rounds c.note_points.new.notes.closing c.note_fails.new.notes.closing c.closing.new.self.closing c.deref-2.result.now
    (c.in_ok-note_points.ensures.closing ∙ c.new-notes.ensures.closing) c.in_ok-note_fails.ensures.closing (c.deref.ensures.value ∙ c.requires.built.fails)
    c.in-Ok.ensures.added (c.deref-2.ensures.value ∙ c.in_ok-last.ensures) in
    report_is c.args.bytes.now c.in-Ok-print.text.items c.args.full read c.args.rounds p c.closing.new.self noted fails c.in-Ok-print.ensures.text

pub returns-in-Ok-print-clause-reads_back : goal.returns-in-Ok-print-clause-reads_back
returns-in-Ok-print-clause-reads_back g c =
    let p : Program = program_of c.args.checked.now in
    let read : ℕ → Octagon = value_in (map g.D.Domain.meaning c.args.values.now) in
    subst (λ text. ReadsAs text p) (sym (returns-in-Ok-print-clause-text g c))
    (c.law_reads_back.ensures c.args.bytes.now c.args.full read c.args.rounds p c.requires.source)
