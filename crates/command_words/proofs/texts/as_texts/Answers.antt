use Rattle.std.proofs.Common.{◌∙◌, map}
use Rattle.command_words.proofs.TextWords.{item-at, length-items, same-more, text-at, text-more}
use Rattle.command_words.proofs.texts.as_texts.Goals as goal

pub returns-in-Err : goal.returns-in-Err
returns-in-Err c = λ are.
    let words = c.args.words.now in
    let i = c.loop-word.word-index in
    let at = item-at words i c.word-item.result c.loop-word-test.true c.word-item.is in
    let there = text-at (map (λ word. word.items) words) i (length-items words i c.loop-word-test.true) are in
    c.in-Err.ensures.cases.0 (rw (c.deref.ensures.value, at) there)

pub loop-word-preserved : goal.loop-word-preserved
loop-word-preserved c =
    let words = c.args.words.now in
    let i = c.loop-word.word-index in
    let lt = length-items words i c.loop-word-test.true in
    let is = c.in-Ok.ensures.cases in
    let at = c.deref.ensures.value ∙ item-at words i c.word-item.result c.loop-word-test.true c.word-item.is in (
      same-more (map (λ word. word.items) words) i c.loop-word.texts.items c.push.new.self.items c.in-Ok.text lt (is.0 ∙ at) c.in_ok-push-in-Ok.ensures.items c.loop-word.invariant.0,
      text-more (map (λ word. word.items) words) i c.deref.result.now lt at is.1 c.loop-word.invariant.1,
    )
