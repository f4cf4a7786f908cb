use Rattle.std.proofs.Common.{◌≡◌, get_or, rules}
use Rattle.std.specs.Prelude.{pos}
use Rattle.std.proofs.lemmas.Int.{to_z-of_z}
use Rattle.std.proofs.lemmas.List.{get_or_read}
use Rattle.full_oct.proofs.closing.Pivots.word.Goals as goal

pub returns : goal.returns
returns c =
    let firsts = c.args.self.now.first.items in
    let seconds = c.args.self.now.second.items in
    let first : c.index-first.result.now ≡ get_or firsts c.args.j (pos 0) = get_or_read firsts c.args.j c.index-first.result.now c.requires.first c.index-first.ensures (pos 0) in
    let second : c.index-second.result.now ≡ get_or seconds c.args.j (pos 0) = get_or_read seconds c.args.j c.index-second.result.now c.requires.second c.index-second.ensures (pos 0) in
    search (rules, to_z-of_z, first, second)
