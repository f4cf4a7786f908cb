-- The report on a program: its canonical text with what holds at each point, then the line of each fail, then the rounds.
use Rattle.std.specs.Prelude.{ℕ, Bool, true, false, List, [], ◌∷◌, ◌++◌, map, codes, decimal}
use Rattle.std.specs.Option.{is_none}
use Rattle.std.specs.List.{list_all}
use Rattle.oct_def.specs.Octagon.{Octagon}
use Rattle.spl_tree.specs.Program.{Program}
use Rattle.spl_print.specs.Canonical.{Noted, place_text, canonical}
use Rattle.control_points.specs.declared.built.Fail.{Fail}
use Rattle.control_points.specs.CoreOf.{core_of, fails_of}
use Rattle.report.specs.Listed.{note_of}
use Rattle.report.specs.ConstraintText.{note_text}
use Rattle.report.specs.Points.{for_lines, names_at}

-- the text of a point: the constraints of what is read there
abbrev pub point_text : Bool → (ℕ → Octagon) → Program → ℕ → List ℕ
point_text full read p k = note_text (names_at p k) (note_of full (read k))

abbrev pub is_bottom : Octagon → Bool
is_bottom v = is_none v.matrix

-- a fail is unreachable where Bottom is read at the point before it
abbrev pub verdict_text : Bool → List ℕ
verdict_text true = codes "unreachable"
verdict_text false = codes "not excluded"

abbrev pub fail_line : List ℕ → ℕ → Bool → List ℕ
fail_line bytes offset unreachable = codes "fail " ++ (place_text bytes offset ++ (codes ": " ++ verdict_text unreachable))

-- the place is that of the word `fail`
abbrev pub fail_text : List ℕ → (ℕ → Octagon) → Fail → List ℕ
fail_text bytes read fail = fail_line bytes fail.offset (is_bottom (read fail.point))

abbrev pub rounds_text : ℕ → List ℕ
rounds_text n = codes "rounds: " ++ decimal n

-- a text for each point that has a line, one for each fail in the order of the text, and the number of rounds
abbrev pub noted : List ℕ → Bool → (ℕ → Octagon) → ℕ → Program → Noted
noted bytes full read rounds p = record {
  points = for_lines (core_of p) (point_text full read p);
  closing = map (fail_text bytes read) (fails_of p) ++ rounds_text rounds ∷ [];
}

-- the report on a program that was read from these bytes, with or without implied constraints: by the value that is read at
-- each point, and the number of rounds
unfoldable pub report : List ℕ → Bool → (ℕ → Octagon) → ℕ → Program → List ℕ
report bytes full read rounds p = canonical bytes p (noted bytes full read rounds p)

-- each fail is unreachable
abbrev pub all_unreachable : (ℕ → Octagon) → Program → Bool
all_unreachable read p = list_all (λ (f : Fail). is_bottom (read f.point)) (fails_of p)
