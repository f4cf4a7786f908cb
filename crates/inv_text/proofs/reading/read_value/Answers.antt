use Rattle.std.proofs.Common.{◌∷◌, Some, codes, sym, ap, ◌∙◌, subst, arith}
use Rattle.std.proofs.lemmas.Bool.{false≢true}
use Rattle.oct_def.specs.Table.{Matrix}
use Rattle.inv_text.specs.Reading.{IsLeft}
use Rattle.inv_text.proofs.Halves.{same_listed}
use Rattle.inv_text.proofs.Left.{bottom_line, other_line, rows_top}
use Rattle.inv_text.proofs.reading.read_value.Goals as goal

pub returns-in-Some-clause-found : goal.returns-in-Some-clause-found
returns-in-Some-clause-found c = λ value rest is e.
    let t = c.is_bottom.ensures.0 c.if-is_bottom.true in
    let v = bottom_line c.args.dims value rest c.args.text.now c.requires.small is e t.1 t.2 in
    let both = c.in-Some.ensures.found (codes "bottom") (10 ∷ rest) v.1 (omega arith, (omega arith, (omega arith, (omega arith, (omega arith, (omega arith, tt)))))) (omega arith) in
    (v.0, both.1)

pub returns-in-None-clause-found : goal.returns-in-None-clause-found
returns-in-None-clause-found c = λ value rest is e.
    let t = c.is_bottom.ensures.0 c.if-is_bottom.true in
    let v = bottom_line c.args.dims value rest c.args.text.now c.requires.small is e t.1 t.2 in
    absurd (c.in-None.ensures.found (codes "bottom") (10 ∷ rest) v.1 (omega arith, (omega arith, (omega arith, (omega arith, (omega arith, (omega arith, tt)))))) (omega arith))

pub known-requires : goal.known-requires
known-requires c = record { rows = c.in-Ok.ensures.rows ∙ rows_top c.args.dims c.top-matrix.result c.top-matrix.ensures }

pub returns-in-Ok-clause-found : goal.returns-in-Ok-clause-found
returns-in-Ok-clause-found c = λ value rest is e.
    let o = other_line c.args.dims value rest c.args.text.now c.requires.small is e (λ long first second. false≢true (sym c.if-is_bottom.false ∙ c.is_bottom.ensures.1 (long, first, second))) in
    let r = c.in-Ok.ensures.found c.args.dims o.0 rest c.requires.small o.2 (rows_top c.args.dims c.top-matrix.result c.top-matrix.ensures)
    (subst (λ (m : Matrix). IsLeft o.0 rest m c.args.text.now) (sym c.top-matrix.ensures) o.3) in
    (ap (λ (m : Matrix). Some m) (same_listed c.args.dims c.read_bounds.new.matrix o.0 c.known.ensures.matrix o.2.matrix r.1) ∙ sym o.1, r.0)

pub returns-clause-found : goal.returns-clause-found
returns-clause-found c = λ value rest is e.
    let o = other_line c.args.dims value rest c.args.text.now c.requires.small is e (λ long first second. false≢true (sym c.if-is_bottom.false ∙ c.is_bottom.ensures.1 (long, first, second))) in
    c.in-Err.ensures.found c.args.dims o.0 rest c.requires.small o.2 (rows_top c.args.dims c.top-matrix.result c.top-matrix.ensures)
    (subst (λ (m : Matrix). IsLeft o.0 rest m c.args.text.now) (sym c.top-matrix.ensures) o.3)
