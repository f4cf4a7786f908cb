-- The files that the rules accept, and the first rule that any other file breaks, with its place.
use Rattle.std.specs.Prelude.{◌≡◌, ℕ, List, length, Some, None}
use Rattle.spl_text.specs.declared.place.Place.{Place}
use Rattle.spl_text.specs.declared.token.Token.{Token}
use Rattle.spl_text.specs.Place.{line_of, column_of}
use Rattle.spl_text.specs.Pieces.{Cut}
use Rattle.spl_text.specs.TextRules.{IsUnbroken, TokenFault}
use Rattle.spl_tree.specs.Program.{Program}
use Rattle.spl_parser.specs.Derives.{Derives, SyntaxAt}
use Rattle.spl_types.specs.Checks.{broken_rule}
use Rattle.interproc_top.specs.declared.cause.Rule.{Rule}
use Rattle.interproc_top.specs.declared.cause.Rule.TheVariants as rule

-- the bytes break no rule of tokens, and these are their tokens
pub record IsTokenized (bytes : List ℕ) (tokens : List Token) : Type 0 where
  pub cut : Cut bytes tokens
  pub unbroken : IsUnbroken bytes

-- the bytes are this program
pub record IsParsed (bytes : List ℕ) (p : Program) : Type 0 where
  pub tokens : List Token
  pub tokenized : IsTokenized bytes tokens
  pub derives : Derives bytes tokens p

-- the bytes are this program, and it breaks no rule
pub record IsAccepted (bytes : List ℕ) (p : Program) : Type 0 where
  pub parsed : IsParsed bytes p
  pub kept : broken_rule p ≡ None

-- the first rule that the bytes break, in the order tokens, grammar, checks, and the offset at which they do
abbrev pub BreaksAt : List ℕ → Rule → ℕ → Type 0
BreaksAt bytes (rule.Text broken) at = TokenFault bytes broken at
BreaksAt bytes rule.Syntax at = (tokens : List Token) × IsTokenized bytes tokens × SyntaxAt (length bytes) tokens at
BreaksAt bytes (rule.Check broken) at = (p : Program) × IsParsed bytes p × (broken_rule p ≡ Some (broken, at))

-- they break it first, and the offset has this place
pub record BreaksFirst (bytes : List ℕ) (rule : Rule) (place : Place) : Type 0 where
  pub offset : ℕ
  pub breaks : BreaksAt bytes rule offset
  pub line : place.line ≡ line_of bytes offset
  pub column : place.column ≡ column_of bytes offset
