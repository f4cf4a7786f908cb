use Rattle.std.proofs.Common.{[], get_or, map, length, sym, ap, arith}
use Rattle.std.proofs.lemmas.List.{get_or-map, map-set, length-map}
use Rattle.std.proofs.lemmas.List.FromFn.{length-map-range_with_len}
use Rattle.equations.proofs.Readers.{with_reader, reader_joined}
use Rattle.equations.proofs.reading.add_to_row.Goals as goal

pub returns : goal.returns
returns c base test n below is =
    reader_joined base test n c.args.p c.args.q (get_or c.args.rows.now c.args.p c.index-rows-p.result).items c.add_once.new.row.items (map (λ v. v.items) c.args.rows.now) _
    (omega (arith, c.requires, length-map c.args.rows.now (λ v. v.items), ap length is, length-map-range_with_len (with_reader base test c.args.q) 0 n)) below is
    (sym (get_or-map (λ v. v.items) c.args.rows.now c.args.p c.index-rows-p.result [] c.requires)) c.in_ok-add_once.ensures.there c.in_ok-add_once.ensures.fresh
    (map-set (λ v. v.items) c.args.rows.now c.args.p c.add_once.new.row)
