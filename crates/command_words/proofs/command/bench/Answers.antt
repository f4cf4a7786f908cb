use Rattle.std.proofs.Common.{◌∙◌, ap, sym, option_map}
use Rattle.command_words.specs.Command.{Bench}
use Rattle.command_words.proofs.Commands.{bench-number, bench-other}
use Rattle.command_words.proofs.command.bench.Goals as goal

pub returns-then-words-ne1 : goal.returns-then-words-ne1
returns-then-words-ne1 c = bench-other c.args.words.now c.if-words-ne1.true

pub returns-in-Some : goal.returns-in-Some
returns-in-Some c = ap (option_map Bench) (sym c.in-Some.is) ∙ bench-number c.args.words.now c.program.result c.if-words-ne1.false c.program.ensures

pub returns-in-None : goal.returns-in-None
returns-in-None c = ap (option_map Bench) (sym c.in-None.is) ∙ bench-number c.args.words.now c.program.result c.if-words-ne1.false c.program.ensures
