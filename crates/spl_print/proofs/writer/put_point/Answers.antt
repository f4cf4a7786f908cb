use Rattle.std.proofs.Common.{arith}
use Rattle.spl_print.proofs.Written.{wrote-point}
use Rattle.spl_print.proofs.writer.put_point.Goals as goal

pub returns-clause-wrote : goal.returns-clause-wrote
returns-clause-wrote c =
    wrote-point c.args.source.now.bytes.now c.args.source.now.notes.now.points c.args.indent c.args.offset c.point_text.result.now
    c.args.writer.now.out.items c.put_blanks.new.out.items c.extend_from_slice.new.self.items c.put_place.new.out.items c.extend_from_slice-2.new.self.items c.extend_from_slice-3.new.self.items c.extend_from_slice-4.new.self.items
    c.args.writer.now.noted (omega arith) c.point_text.ensures
    c.in_ok-put_blanks.ensures c.in_ok-extend_from_slice.ensures.items
    (c.in_ok-put_place.ensures c.args.source.now.bytes.now c.args.offset c.place_of-place.ensures.line c.place_of-place.ensures.column)
    c.in_ok-extend_from_slice-2.ensures.items c.in_ok-extend_from_slice-3.ensures.items c.in_ok-extend_from_slice-4.ensures.items
