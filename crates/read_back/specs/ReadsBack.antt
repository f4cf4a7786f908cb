-- What is written can be read again: it breaks no rule of tokens, and it derives the program that was written.
use Rattle.std.specs.Prelude.{◌≡◌, ℕ, false, List}
use Rattle.std.specs.List.{All}
use Rattle.spl_text.specs.declared.token.Token.{Token}
use Rattle.spl_text.specs.Pieces.{Cut}
use Rattle.spl_text.specs.Gaps.{stand_at}
use Rattle.spl_text.specs.TextRules.{IsUnbroken}
use Rattle.spl_tree.specs.Program.{Program, SamePlacesAside}
use Rattle.spl_parser.specs.Derives.{Derives}
use Rattle.spl_print.specs.Canonical.{Noted, canonical}

-- there is no `*/` in a text
abbrev pub HasNoClose : List ℕ → Type 0
HasNoClose text = (k : ℕ) → stand_at 42 47 text k ≡ false

-- a text reads as this program, places aside
pub record ReadsAs (text : List ℕ) (p : Program) : Type 0 where
  pub tokens : List Token
  pub cut : Cut text tokens
  pub unbroken : IsUnbroken text
  pub program : Program
  pub derives : Derives text tokens program
  pub same : SamePlacesAside program p

-- whatever is noted at the points of a program that was read, in texts without `*/`, what is written reads as this program
abbrev pub CanonicalTextReadsBack : Type 0
CanonicalTextReadsBack = (bytes source : List ℕ) (tokens : List Token) (p : Program) (noted : Noted)
    → Cut source tokens → IsUnbroken source → Derives source tokens p
    → All HasNoClose noted.points → All HasNoClose noted.closing
    → ReadsAs (canonical bytes p noted) p
