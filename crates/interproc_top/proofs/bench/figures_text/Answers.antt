use Rattle.std.proofs.Common.{codes}
use Rattle.interproc_top.specs.Bench.{figure_line, figures_text}
use Rattle.interproc_top.proofs.Benched.{same-line, six}
use Rattle.interproc_top.proofs.bench.figures_text.Goals as goal

pub returns : goal.returns
unfolding figures_text
returns c =
    let f = c.args.figures.now in
    six (figure_line (codes "variables") f.variables) (figure_line (codes "points") f.points) (figure_line (codes "rounds") f.rounds)
    (figure_line (codes "blocks") f.blocks) (figure_line (codes "largest") f.largest) (figure_line (codes "rows") f.rows)
    c.new-out.result.items c.put_figure.new.out.items c.put_figure-2.new.out.items c.put_figure-3.new.out.items c.put_figure-4.new.out.items c.put_figure-5.new.out.items c.put_figure-6.new.out.items
    c.new-out.ensures.items
    (same-line c.new-out.result.items c.put_figure.new.out.items (codes "variables") c.from.result f.variables c.in_ok-put_figure.ensures c.from.ensures)
    (same-line c.put_figure.new.out.items c.put_figure-2.new.out.items (codes "points") c.from-2.result f.points c.in_ok-put_figure-2.ensures c.from-2.ensures)
    c.in_ok-put_figure-3.ensures
    (same-line c.put_figure-3.new.out.items c.put_figure-4.new.out.items (codes "blocks") c.from-3.result f.blocks c.in_ok-put_figure-4.ensures c.from-3.ensures)
    (same-line c.put_figure-4.new.out.items c.put_figure-5.new.out.items (codes "largest") c.from-4.result f.largest c.in_ok-put_figure-5.ensures c.from-4.ensures)
    c.in_ok-put_figure-6.ensures
