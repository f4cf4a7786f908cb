use Rattle.std.proofs.Common.{◌≡◌, ℕ, List, Bor, map, take}
use Rattle.command_words.specs.Texts.{AreText}
use Rattle.command_words.proofs.texts.as_texts.Given as goal

abbrev pub invariant-loop-word : goal.invariant-loop-word
invariant-loop-word l = (map (λ (s : Bor (List ℕ)). s.now) l.texts.items ≡ take l.word-index (map (λ word. word.items) l.words)) × AreText (take l.word-index (map (λ word. word.items) l.words))
