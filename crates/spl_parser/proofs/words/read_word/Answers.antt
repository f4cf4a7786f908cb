-- The name's bytes are those of the token's span.
use Rattle.std.proofs.Common.{◌≡◌, ◌-◌, length, take, drop, refl, arith, length-take, length-drop}
use Rattle.spl_tree.specs.Lists.{lists_of}
use Rattle.spl_parser.proofs.NewWords.{new_word}
use Rattle.spl_parser.proofs.words.read_word.Goals as goal

pub returns : goal.returns
returns c =
    let source = c.args.bytes.now in
    let from = c.args.token.start in
    let size = c.args.token.end - from in
    let long : length (take size (drop from source)) ≡ size = omega (arith, length-take size (drop from source), length-drop from source, c.requires.inside) in
    new_word source c.args.token (lists_of c.args.parts.now) (lists_of c.add_name.new.parts) _ (take size (drop from source)) c.requires.token refl c.in_ok-name.ensures.number long refl c.in_ok-name.ensures.grew
