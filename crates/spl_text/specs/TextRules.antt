-- The rules that a text may break, and the one that it breaks first.
use Rattle.std.specs.Prelude.{◌≡◌, ℕ, ◌+◌, ◌-◌, ◌^◌, ◌<◌, ◌≤◌, ◌⊎◌, Bool, true, false, if◌then◌else◌, List, length, fold}
use Rattle.spl_text.specs.Pieces.{piece_at, Pieces, Cut}
use Rattle.spl_text.specs.declared.text_rule.TextRule.{TextRule}
use Rattle.spl_text.specs.declared.text_rule.TextRule.TheVariants.{BadByte, OpenComment, BigLiteral, LongName, TooDeep, LongRun}
use Rattle.spl_text.specs.declared.piece.Piece.{Piece}
use Rattle.spl_text.specs.declared.text_rule.TextFault.{TextFault}
use Rattle.spl_text.specs.declared.text_rule.TextFault.TheVariants.{Broken as Refused, NoMemory}
use Rattle.spl_text.specs.declared.piece.Piece.TheVariants.{Gap, Taken, Broken}
use Rattle.spl_text.specs.declared.token.Token.{Token}
use Rattle.spl_text.specs.declared.token.TokenKind.{TokenKind}
use Rattle.spl_text.specs.declared.token.TokenKind.TheVariants.{Name, Number, LeftParen, RightParen, Begin, End, If, Endif, While, Do, Done, Then, Semicolon}

-- the tokens that raise the depth by one
abbrev pub raises : TokenKind → Bool
raises LeftParen = true
raises Begin = true
raises If = true
raises While = true
raises _ = false

-- the tokens that lower it by one, not below 0
abbrev pub lowers : TokenKind → Bool
lowers RightParen = true
lowers End = true
lowers Endif = true
lowers Done = true
lowers _ = false

-- the tokens that set the run to 0; every other one adds one
abbrev pub restarts : TokenKind → Bool
restarts Semicolon = true
restarts Then = true
restarts Do = true
restarts Begin = true
restarts _ = false

abbrev pub depth_after : ℕ → TokenKind → ℕ
depth_after depth kind = if raises kind then depth + 1 else (if lowers kind then depth - 1 else depth)

abbrev pub run_after : ℕ → TokenKind → ℕ
run_after run kind = if restarts kind then 0 else run + 1

-- the depth after these tokens
abbrev pub depth_of : List Token → ℕ
depth_of tokens = fold (λ depth t. depth_after depth t.kind) 0 tokens

-- the run after these tokens
abbrev pub run_of : List Token → ℕ
run_of tokens = fold (λ run t. run_after run t.kind) 0 tokens

-- a token that stands after these breaks this rule
abbrev pub TokenBreaks : List Token → Token → TextRule → Type 0
TokenBreaks before t BadByte = ⊥
TokenBreaks before t OpenComment = ⊥
TokenBreaks before t BigLiteral = (value : ℕ) × (t.kind ≡ Number value) × (2 ^ 61 < value)
TokenBreaks before t LongName = (t.kind ≡ Name) × (64 < t.end - t.start)
TokenBreaks before t TooDeep = (raises t.kind ≡ true) × (64 < depth_of before + 1)
TokenBreaks before t LongRun = run_after (run_of before) t.kind ≡ 1025

-- what stands after these tokens breaks this rule
abbrev pub Breaks : List Token → Piece → TextRule → Type 0
Breaks before (Gap end) rule = ⊥
Breaks before (Taken t) rule = TokenBreaks before t rule
Breaks before (Broken broken) rule = broken ≡ rule

-- A text breaks a rule at an offset: pieces lead to it, and what stands there breaks the rule.
pub record IsBroken (bytes : List ℕ) (rule : TextRule) (at : ℕ) : Type 0 where
  pub within : at < length bytes
  pub before : List Token
  pub reached : Pieces bytes 0 before at
  pub breaks : Breaks before (piece_at bytes at) rule

-- the order of the rules at one offset
abbrev pub rank : TextRule → ℕ
rank BadByte = 0
rank OpenComment = 1
rank LongName = 2
rank BigLiteral = 3
rank TooDeep = 4
rank LongRun = 5

-- The fault of a text: a rule that it breaks at the least offset, the first in the order there.
pub record TokenFault (bytes : List ℕ) (rule : TextRule) (at : ℕ) : Type 0 where
  pub broken : IsBroken bytes rule at
  pub first : (other : TextRule) (place : ℕ) → IsBroken bytes other place → (at < place) ⊎ ((at ≡ place) × (rank rule ≤ rank other))

-- what a fault that is answered says of the text: being out of memory says nothing
abbrev pub IsFaultOf : List ℕ → TextFault → Type 0
IsFaultOf bytes (Refused rule at) = TokenFault bytes rule at
IsFaultOf bytes NoMemory = Unit {0}

-- a text breaks no rule
abbrev pub IsUnbroken : List ℕ → Type 0
IsUnbroken bytes = (rule : TextRule) (at : ℕ) → IsBroken bytes rule at → ⊥

-- one list of tokens cuts the text, which breaks no rule
pub record HasOneCut (bytes : List ℕ) : Type 0 where
  pub tokens : List Token
  pub cut : Cut bytes tokens
  pub unbroken : IsUnbroken bytes
  pub only : (others : List Token) → Cut bytes others → others ≡ tokens

-- the text has one fault
pub record HasOneFault (bytes : List ℕ) : Type 0 where
  pub rule : TextRule
  pub at : ℕ
  pub fault : TokenFault bytes rule at
  pub only : (other : TextRule) (place : ℕ) → TokenFault bytes other place → (other ≡ rule) × (place ≡ at)

-- each text has one cut and breaks no rule, or has one fault
abbrev pub EachTextHasOneReading : Type 0
EachTextHasOneReading = (bytes : List ℕ) → HasOneCut bytes ⊎ HasOneFault bytes
