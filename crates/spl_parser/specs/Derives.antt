-- What is derived, and where a text that derives nothing goes wrong.
use Rattle.std.specs.Prelude.{◌≡◌, ℕ, ◌+◌, ◌<◌, List, ◌++◌, map, take, length}
use Rattle.spl_text.specs.declared.token.Token.{Token}
use Rattle.spl_text.specs.declared.token.TokenKind.{TokenKind}
use Rattle.spl_text.specs.TokenList.{token_at}
use Rattle.spl_tree.specs.Program.{Program}
use Rattle.spl_parser.specs.declared.parsing.ParseFault.{ParseFault}
use Rattle.spl_parser.specs.declared.parsing.ParseFault.TheVariants.{Syntax, NoMemory}
use Rattle.spl_parser.specs.Grammar.{Derivation}
use Rattle.spl_parser.specs.Spelling.{spelled}
use Rattle.spl_parser.specs.TreeOf.{tree_of}

-- a derivation spells the tokens and stands for the tree; a name of the tree is the bytes in its token's span
abbrev pub Derives : List ℕ → List Token → Program → Type 0
Derives source tokens tree = (d : Derivation) × (spelled d ≡ tokens) × (tree_of source d ≡ tree)

-- the kinds of tokens, in which a name's bytes and the spans don't count
abbrev pub kinds_of : List Token → List TokenKind
kinds_of tokens = map (λ (t : Token). t.kind) tokens

-- some list of tokens that begins with these kinds derives a tree
abbrev pub Begins : List TokenKind → Type 0
Begins kinds = (d : Derivation) × (rest : List TokenKind) × (kinds_of (spelled d) ≡ kinds ++ rest)

-- the start of a token, or the end of the source where there is no such token
pub data Stands (size : ℕ) (tokens : List Token) (k : ℕ) : ℕ → Type 0 where
  at_token : k < length tokens → Stands size tokens k (token_at tokens k).start
  at_end : k ≡ length tokens → Stands size tokens k size

-- nothing is derived, and the offset is the start of the first token for which no list that begins with the kinds up
-- to and with it derives a tree, whatever the bytes of its names; the end of the source where there is no such token
pub record SyntaxAt (size : ℕ) (tokens : List Token) (offset : ℕ) : Type 0 where
  pub none : (d : Derivation) → spelled d ≡ tokens → ⊥
  pub number : ℕ
  pub stands : Stands size tokens number offset
  pub before : (j : ℕ) → j < number → Begins (take (j + 1) (kinds_of tokens))
  pub stops : number < length tokens → Begins (take (number + 1) (kinds_of tokens)) → ⊥

-- a syntax error has its place; being out of memory says nothing
abbrev pub IsParseFaultOf : List ℕ → List Token → ParseFault → Type 0
IsParseFaultOf bytes tokens (Syntax at) = SyntaxAt (length bytes) tokens at
IsParseFaultOf bytes tokens NoMemory = Unit {0}
