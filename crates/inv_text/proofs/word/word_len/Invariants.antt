use Rattle.std.proofs.Common.{◌≡◌, ℕ, ◌≤◌, List, ◌++◌, length}
use Rattle.inv_text.specs.Words.{Plain, Stops}
use Rattle.inv_text.proofs.word.word_len.Given as goal

-- The word isn't over before this byte.
abbrev pub invariant-loop-k : goal.invariant-loop-k
invariant-loop-k l = (word rest : List ℕ) → l.text ≡ word ++ rest → Plain word → Stops rest → l.k ≤ length word
