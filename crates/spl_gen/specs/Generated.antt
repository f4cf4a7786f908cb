-- The text of a generated program: n groups of three variables, in a chain first and then stepped in a loop.
use Rattle.std.specs.Prelude.{ℕ, ◌==◌, if◌then◌else◌, List, [], ◌++◌, codes, decimal}
use Rattle.std.specs.List.{flat_map, range_with_len}

-- a variable: a letter and the number of its group
abbrev pub variable : List ℕ → ℕ → List ℕ
variable letter k = letter ++ decimal k

abbrev pub declaration : List ℕ → ℕ → List ℕ
declaration letter k = variable letter k ++ codes ":int"

-- a comma, but for the first group
abbrev pub separator : ℕ → List ℕ
separator k = if k == 0 then [] else codes ", "

-- the declarations of a group
abbrev pub declarations : ℕ → List ℕ
declarations k =
    separator k
    ++ (declaration (codes "a") k ++ (codes ", " ++ (declaration (codes "b") k ++ (codes ", " ++ declaration (codes "c") k))))

-- the line that sets the first variable to the second and one
abbrev pub successor : List ℕ → List ℕ → ℕ → List ℕ
successor target origin k = variable target k ++ (codes " = " ++ (variable origin k ++ codes " + 1;\n"))

abbrev pub chain : ℕ → List ℕ
chain k = successor (codes "b") (codes "a") k ++ successor (codes "c") (codes "b") k

abbrev pub steps : ℕ → List ℕ
steps k = successor (codes "a") (codes "a") k ++ (successor (codes "b") (codes "b") k ++ successor (codes "c") (codes "c") k)

-- what each group gives, one after the other
abbrev pub each : (ℕ → List ℕ) → ℕ → List ℕ
each piece n = flat_map piece (range_with_len 0 n)

unfoldable pub generated : ℕ → List ℕ
generated n =
    codes "var " ++ (each declarations n ++ (codes ";\nbegin\n" ++ (each chain n ++ (codes "while random do\n" ++ (each steps n ++ codes "done;\nend\n")))))
