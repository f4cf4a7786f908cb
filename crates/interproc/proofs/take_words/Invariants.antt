use Rattle.std.proofs.Common.{◌≡◌, ◌++◌, map}
use Rattle.std.specs.String.{string_bytes}
use Rattle.interproc.proofs.take_words.Given as goal

-- The words so far stand behind those that were there.
abbrev pub invariant-loop-word : goal.invariant-loop-word
invariant-loop-word l = l.words ≡ l.fn.words ++ map (λ word. string_bytes word) l.yielded
