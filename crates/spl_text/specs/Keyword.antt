-- The keywords.
use Rattle.std.specs.Prelude.{ℕ, List, [], ◌∷◌, Option, codes}
use Rattle.std.specs.Option.{option_map}
use Rattle.std.specs.List.{find}
use Rattle.std.specs.Str.{bytes_eq}
use Rattle.spl_text.specs.declared.token.TokenKind.{TokenKind}
use Rattle.spl_text.specs.declared.token.TokenKind.TheVariants.{Proc, Returns, Var, Begin, End, Int, Real, Skip, Halt, Fail, Assume, Random, Brandom, If, Then, Else, Endif, While, Do, Done, Not, And, Or, True, False}

-- each keyword, with its kind
abbrev pub keywords : List (List ℕ × TokenKind)
keywords =
    (codes "proc", Proc) ∷ (codes "returns", Returns) ∷ (codes "var", Var) ∷ (codes "begin", Begin) ∷ (codes "end", End)
    ∷ (codes "int", Int) ∷ (codes "real", Real) ∷ (codes "skip", Skip) ∷ (codes "halt", Halt) ∷ (codes "fail", Fail)
    ∷ (codes "assume", Assume) ∷ (codes "random", Random) ∷ (codes "brandom", Brandom) ∷ (codes "if", If) ∷ (codes "then", Then)
    ∷ (codes "else", Else) ∷ (codes "endif", Endif) ∷ (codes "while", While) ∷ (codes "do", Do) ∷ (codes "done", Done)
    ∷ (codes "not", Not) ∷ (codes "and", And) ∷ (codes "or", Or) ∷ (codes "true", True) ∷ (codes "false", False) ∷ []

-- the kind of a keyword; none where the text is no keyword
abbrev pub keyword_kind : List ℕ → Option TokenKind
keyword_kind text = option_map (λ k. k.1) (find (λ k. bytes_eq text k.0) keywords)
