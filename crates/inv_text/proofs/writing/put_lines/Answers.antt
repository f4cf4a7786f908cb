use Rattle.inv_text.specs.CertText.{line_text}
use Rattle.inv_text.proofs.Listing.{lines_more}
use Rattle.inv_text.proofs.writing.put_lines.Goals as goal

pub loop-p-preserved : goal.loop-p-preserved
loop-p-preserved c =
    lines_more (line_text c.args.x.now) c.loop-p.p c.args.out.now.items c.loop-p.out.items c.put_line.new.out.items c.loop-p.invariant c.in_ok-put_line.ensures
