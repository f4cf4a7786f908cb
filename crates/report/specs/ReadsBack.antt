-- A report can be read again: it is the program that it speaks of.
use Rattle.std.specs.Prelude.{ℕ, Bool, List}
use Rattle.oct_def.specs.Octagon.{Octagon}
use Rattle.spl_text.specs.declared.token.Token.{Token}
use Rattle.spl_text.specs.Pieces.{Cut}
use Rattle.spl_text.specs.TextRules.{IsUnbroken}
use Rattle.spl_tree.specs.Program.{Program}
use Rattle.spl_parser.specs.Derives.{Derives}
use Rattle.read_back.specs.ReadsBack.{ReadsAs}
use Rattle.report.specs.Report.{report}

-- the bytes are the text of this program: they break no rule of tokens, and their tokens derive it
pub record IsSourceOf (bytes : List ℕ) (p : Program) : Type 0 where
  pub tokens : List Token
  pub cut : Cut bytes tokens
  pub unbroken : IsUnbroken bytes
  pub derives : Derives bytes tokens p

-- the report on a program that was read breaks no rule of tokens, and its tokens derive the same program, places aside
abbrev pub ReportsReadBack : Type 0
ReportsReadBack = (bytes : List ℕ) (full : Bool) (read : ℕ → Octagon) (rounds : ℕ) (p : Program)
    → IsSourceOf bytes p → ReadsAs (report bytes full read rounds p) p
