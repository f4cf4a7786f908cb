-- Tokens that say a list of lexemes, taken apart as the list is.
use Rattle.std.proofs.Common.{◌≡◌, ℕ, ◌-◌, List, [], ◌∷◌, ◌++◌, map, ap, ◌∙◌, refl}
use Rattle.spl_text.specs.declared.token.Token.{Token}
use Rattle.spl_text.specs.declared.token.TokenKind.{TokenKind}
use Rattle.spl_tree.specs.Meaning.{span_of}
use Rattle.spl_parser.specs.Grammar.{Leaf}
use Rattle.spl_parser.specs.Spelling.{token}
use Rattle.spl_parser.specs.TreeOf.{bytes_at}
use Rattle.read_back.proofs.Lexemes.{Lexeme, kept, key, name, said}

-- the place of a token
abbrev pub leaf : Token → Leaf
leaf t = record { start = t.start; end = t.end }

-- these tokens of these bytes say these lexemes
abbrev pub Says : List ℕ → List Token → List Lexeme → Type 0
Says bytes ts ls = map (said bytes) ts ≡ ls

pub record Split (bytes : List ℕ) (ts : List Token) (xs ys : List Lexeme) : Type 0 where
  pub first : List Token
  pub second : List Token
  pub joins : ts ≡ first ++ second
  pub left : Says bytes first xs
  pub right : Says bytes second ys

pub split : (bytes : List ℕ) (ts : List Token) (xs ys : List Lexeme) → Says bytes ts (xs ++ ys) → Split bytes ts xs ys
split bytes ts [] ys e = record { first = []; second = ts; joins = refl; left = refl; right = e }
split bytes [] (x ∷ xs) ys e = absurd cc
split bytes (t ∷ ts) (x ∷ xs) ys e =
    let one : said bytes t ≡ x = cc in
    let others : map (said bytes) ts ≡ xs ++ ys = cc in
    let r = split bytes ts xs ys others in
    record {
      first = t ∷ r.first;
      second = r.second;
      joins = ap (λ us. t ∷ us) r.joins;
      left = rw (one, r.left) refl;
      right = r.right;
    }

-- the first token, where it is no name
pub record First (bytes : List ℕ) (ts : List Token) (kind : TokenKind) (ls : List Lexeme) : Type 0 where
  pub place : Leaf
  pub rest : List Token
  pub is : ts ≡ token kind place ∷ rest
  pub says : Says bytes rest ls

pub first : (bytes : List ℕ) (ts : List Token) (kind : TokenKind) (text : List ℕ) (ls : List Lexeme) → Says bytes ts (record { kind = kind; text = text } ∷ ls) → First bytes ts kind ls
first bytes [] kind text ls e = absurd cc
first bytes (t ∷ ts) kind text ls e =
    let one : said bytes t ≡ record { kind = kind; text = text } = cc in
    let others : map (said bytes) ts ≡ ls = cc in
    let same : t.kind ≡ kind = ap (λ (l : Lexeme). l.kind) one in
    record {
      place = leaf t;
      rest = ts;
      is = ap (λ k. record { kind = k; start = t.start; end = t.end } ∷ ts) same;
      says = others;
    }

-- the first token, where it is this name
pub record FirstName (bytes : List ℕ) (ts : List Token) (text : List ℕ) (ls : List Lexeme) : Type 0 where
  pub place : Leaf
  pub rest : List Token
  pub is : ts ≡ token TokenKind.Name place ∷ rest
  pub named : bytes_at bytes place ≡ text
  pub says : Says bytes rest ls

pub first_name : (bytes : List ℕ) (ts : List Token) (text : List ℕ) (ls : List Lexeme) → Says bytes ts (name text ∷ ls) → FirstName bytes ts text ls
first_name bytes [] text ls e = absurd cc
first_name bytes (t ∷ ts) text ls e =
    let one : said bytes t ≡ name text = cc in
    let others : map (said bytes) ts ≡ ls = cc in
    let same : t.kind ≡ TokenKind.Name = ap (λ (l : Lexeme). l.kind) one in
    let bytes_same : kept t.kind (span_of bytes t.start (t.end - t.start)) ≡ text = ap (λ (l : Lexeme). l.text) one in
    record {
      place = leaf t;
      rest = ts;
      is = ap (λ k. record { kind = k; start = t.start; end = t.end } ∷ ts) same;
      named = rw same at bytes_same;
      says = others;
    }

pub nothing : (bytes : List ℕ) (ts : List Token) → Says bytes ts [] → ts ≡ []
nothing bytes [] e = refl
nothing bytes (t ∷ ts) e = absurd cc

-- a token of this kind is all
pub last : (bytes : List ℕ) (ts : List Token) (kind : TokenKind) → Says bytes ts (key kind ∷ []) → (l : Leaf) × (ts ≡ token kind l ∷ [])
last bytes ts kind h =
    let t = first bytes ts kind [] [] h in
    (t.place, t.is ∙ ap (λ us. token kind t.place ∷ us) (nothing bytes t.rest t.says))

-- two tokens of these kinds are all
pub last_two : (bytes : List ℕ) (ts : List Token) (kind other : TokenKind) → Says bytes ts (key kind ∷ key other ∷ [])
    → (k l : Leaf) × (ts ≡ token kind k ∷ token other l ∷ [])
last_two bytes ts kind other h =
    let t = first bytes ts kind [] (key other ∷ []) h in
    let u = last bytes t.rest other t.says in
    (t.place, u.0, t.is ∙ ap (λ us. token kind t.place ∷ us) u.1)
