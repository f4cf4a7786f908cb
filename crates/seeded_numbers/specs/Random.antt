-- The seeds of a linear congruential generator.
use Rattle.std.specs.Prelude.{ℕ, ◌+◌, ◌*◌, ◌%◌, ◌^◌}

-- the seed after another one
unfoldable pub next_seed : ℕ → ℕ
next_seed s = (s * 6364136223846793005 % 2 ^ 64 + 1442695040888963407) % 2 ^ 64
