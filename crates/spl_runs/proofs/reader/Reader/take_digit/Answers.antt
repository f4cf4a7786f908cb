use Rattle.std.proofs.Common.{rules, ◌≡◌, None, Some, ap, ◌∙◌, sym, ◌-◌, FitsSigned}
use Rattle.std.specs.Int.{w128}
use Rattle.std.proofs.lemmas.Int.{to_z-of_z}
use Rattle.spl_runs.specs.Reading.{reading_of, with_digit, more_digits}
use Rattle.spl_runs.proofs.Fitting.{next_plain}
use Rattle.spl_runs.proofs.reader.Reader.take_digit.Goals as goal

pub returns-in-Some : goal.returns-in-Some
returns-in-Some c =
    let f : FitsSigned w128 c.args.self.now.number = search rules in
    let g : FitsSigned w128 c.in-Some.number = search rules in
    let n : c.in-Some.number ≡ more_digits c.args.self.now.minus c.args.self.now.number (c.args.b - 48) =
    next_plain c.args.self.now.minus c.args.self.now.number (c.args.b - 48) (Some c.in-Some.number) f c.in-Some.ensures in
    ap (λ x. Some (record (with_digit (reading_of c.args.self.now) c.args.b) { number = x })) (sym n ∙ sym (to_z-of_z w128 c.in-Some.number g))

pub returns-in-None : goal.returns-in-None
returns-in-None c =
    let f : FitsSigned w128 c.args.self.now.number = search rules in
    next_plain c.args.self.now.minus c.args.self.now.number (c.args.b - 48) None f c.in-None.ensures
