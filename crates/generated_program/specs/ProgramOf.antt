-- The program that a generated text says, without places.
use Rattle.std.specs.Prelude.{ℕ, zero, suc, List, [], ◌∷◌, codes}
use Rattle.std.specs.List.{flat_map, range_with_len}
use Rattle.spl_tree.specs.declared.parts.BinOp.TheVariants.{Add}
use Rattle.spl_tree.specs.Program.{Declared, int_kind, number, variable, random_value, binary, StmtTree, assign, while_do, BlockTree, empty, more, Program, nowhere}
use Rattle.spl_gen.specs.Generated.{variable as named}

abbrev pub declared : List ℕ → ℕ → Declared
declared letter k = record { name = record { name = named letter k; at = 0 }; kind = int_kind; kind_at = 0 }

-- the variables of a group
abbrev pub group : ℕ → List Declared
group k = declared (codes "a") k ∷ declared (codes "b") k ∷ declared (codes "c") k ∷ []

-- the first variable becomes the second and one
abbrev pub successor : List ℕ → List ℕ → ℕ → StmtTree
successor target origin k = assign (named target k) (binary Add (variable (named origin k) 0) (number 1 0) 0) nowhere

abbrev pub chains : ℕ → BlockTree
chains zero = empty
chains (suc k) = more (more (chains k) (successor (codes "b") (codes "a") k)) (successor (codes "c") (codes "b") k)

abbrev pub steps : ℕ → BlockTree
steps zero = empty
steps (suc k) = more (more (more (steps k) (successor (codes "a") (codes "a") k)) (successor (codes "b") (codes "b") k)) (successor (codes "c") (codes "c") k)

abbrev pub groups : ℕ → List Declared
groups n = flat_map group (range_with_len 0 n)

abbrev pub program : ℕ → Program
program n = record { procs = []; locals = groups n; begin = 0; body = more (chains n) (while_do (random_value 0) (steps n) nowhere) }
