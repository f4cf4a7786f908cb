-- Texts that read as lexemes wherever they stand, and how they are put together.
use Rattle.std.proofs.Common.{◌≡◌, ℕ, true, slice_index, unwrap_or, List, [], ◌∷◌, ◌++◌, codes, sym, refl, subst, subst₂, append_assoc}
use Rattle.std.specs.List.{list_all}
use Rattle.spl_text.specs.Bytes.{is_letter, is_name_byte}
use Rattle.spl_text.specs.Keyword.{keyword_kind}
use Rattle.spl_text.specs.Pieces.{piece_at}
use Rattle.spl_text.specs.Spans.{IsName}
use Rattle.spl_text.specs.declared.token.TokenKind.{TokenKind}
use Rattle.spl_tree.specs.declared.parts.BinOp.{BinOp}
use Rattle.spl_print.specs.Canonical.{op_text}
use Rattle.read_back.proofs.Lexemes.{Lexeme, kept, key, name, op_kind}
use Rattle.read_back.proofs.Words.{Reads, takes, Stops, read_word, read_name, read_sign, read_blank}

-- a text that reads as these lexemes, whatever comes after it
pub record Lit (text : List ℕ) (ls : List Lexeme) : Type 0 where
  pub reads : (rest : List ℕ) (more : List Lexeme) → Reads rest more → Reads (text ++ rest) (ls ++ more)

-- a text that reads as these lexemes, where no letter, digit or underscore comes after it
pub record Text (text : List ℕ) (ls : List Lexeme) : Type 0 where
  pub reads : (rest : List ℕ) (more : List Lexeme) → Stops rest → Reads rest more → Reads (text ++ rest) (ls ++ more)

-- a text that begins with no letter, digit or underscore, or is empty
abbrev pub StopsFirst : List ℕ → Type 0
StopsFirst text = (rest : List ℕ) → Stops rest → Stops (text ++ rest)

pub text_of : {text : List ℕ} {ls : List Lexeme} → Lit text ls → Text text ls
text_of l = record { reads = λ rest more s r. l.reads rest more r }

pub lit_lit : {a b : List ℕ} {x y : List Lexeme} → Lit a x → Lit b y → Lit (a ++ b) (x ++ y)
lit_lit {a} {b} {x} {y} l m = record {
  reads = λ rest more r. subst₂ Reads (sym (append_assoc a b rest)) (sym (append_assoc x y more)) (l.reads (b ++ rest) (y ++ more) (m.reads rest more r));
}

pub lit_text : {a b : List ℕ} {x y : List Lexeme} → Lit a x → Text b y → Text (a ++ b) (x ++ y)
lit_text {a} {b} {x} {y} l t = record {
  reads = λ rest more s r. subst₂ Reads (sym (append_assoc a b rest)) (sym (append_assoc x y more)) (l.reads (b ++ rest) (y ++ more) (t.reads rest more s r));
}

pub text_text : {a b : List ℕ} {x y : List Lexeme} → Text a x → StopsFirst b → Text b y → Text (a ++ b) (x ++ y)
text_text {a} {b} {x} {y} t stops u = record {
  reads = λ rest more s r. subst₂ Reads (sym (append_assoc a b rest)) (sym (append_assoc x y more)) (t.reads (b ++ rest) (y ++ more) (stops rest s) (u.reads rest more s r));
}

pub text_lit : {a b : List ℕ} {x y : List Lexeme} → Text a x → ((rest : List ℕ) → Stops (b ++ rest)) → Lit b y → Lit (a ++ b) (x ++ y)
text_lit {a} {b} {x} {y} t stops l = record {
  reads = λ rest more r. subst₂ Reads (sym (append_assoc a b rest)) (sym (append_assoc x y more)) (t.reads (b ++ rest) (y ++ more) (stops rest) (l.reads rest more r));
}

pub lit_nil : Lit [] []
lit_nil = record { reads = λ rest more r. r }

pub text_name : (w : List ℕ) → IsName w → Text w (name w ∷ [])
text_name w n = record { reads = λ rest more s r. read_name w rest more n s r }

-- ---- signs

pub lit_left : Lit (codes "(") (key TokenKind.LeftParen ∷ [])
lit_left = record { reads = λ rest more r. read_sign 40 TokenKind.LeftParen rest more refl refl refl refl refl refl r }

pub lit_right : Lit (codes ")") (key TokenKind.RightParen ∷ [])
lit_right = record { reads = λ rest more r. read_sign 41 TokenKind.RightParen rest more refl refl refl refl refl refl r }

pub lit_comma : Lit (codes ",") (key TokenKind.Comma ∷ [])
lit_comma = record { reads = λ rest more r. read_sign 44 TokenKind.Comma rest more refl refl refl refl refl refl r }

pub lit_semicolon : Lit (codes ";") (key TokenKind.Semicolon ∷ [])
lit_semicolon = record { reads = λ rest more r. read_sign 59 TokenKind.Semicolon rest more refl refl refl refl refl refl r }

pub lit_colon : Lit (codes ":") (key TokenKind.Colon ∷ [])
lit_colon = record { reads = λ rest more r. read_sign 58 TokenKind.Colon rest more refl refl refl refl refl refl r }

pub lit_minus : Lit (codes "-") (key TokenKind.Minus ∷ [])
lit_minus = record { reads = λ rest more r. read_sign 45 TokenKind.Minus rest more refl refl refl refl refl refl r }

pub lit_blank : Lit (codes " ") []
lit_blank = record { reads = read_blank }

pub lit_becomes : Lit (codes " = ") (key TokenKind.Becomes ∷ [])
unfolding piece_at
lit_becomes = record { reads = λ rest more r. read_blank (61 ∷ 32 ∷ rest) (key TokenKind.Becomes ∷ more) (takes (61 ∷ []) (32 ∷ rest) TokenKind.Becomes more refl (read_blank rest more r)) }

-- ---- keywords

text_key : (w : List ℕ) (kind : TokenKind) → is_letter (slice_index w 0) ≡ true → list_all is_name_byte w ≡ true → unwrap_or (keyword_kind w) TokenKind.Name ≡ kind
    → kept kind w ≡ [] → Text w (key kind ∷ [])
text_key w kind first all is plain = record {
  reads = λ rest more s r. subst (λ x. Reads (w ++ rest) (record { kind = kind; text = x } ∷ more)) plain (read_word w rest kind more first all is s r);
}

pub text_true : Text (codes "true") (key TokenKind.True ∷ [])
text_true = text_key (codes "true") TokenKind.True refl refl refl refl

pub text_false : Text (codes "false") (key TokenKind.False ∷ [])
text_false = text_key (codes "false") TokenKind.False refl refl refl refl

pub text_random : Text (codes "random") (key TokenKind.Random ∷ [])
text_random = text_key (codes "random") TokenKind.Random refl refl refl refl

pub text_int : Text (codes "int") (key TokenKind.Int ∷ [])
text_int = text_key (codes "int") TokenKind.Int refl refl refl refl

pub text_real : Text (codes "real") (key TokenKind.Real ∷ [])
text_real = text_key (codes "real") TokenKind.Real refl refl refl refl

pub text_else : Text (codes "else") (key TokenKind.Else ∷ [])
text_else = text_key (codes "else") TokenKind.Else refl refl refl refl

pub text_begin : Text (codes "begin") (key TokenKind.Begin ∷ [])
text_begin = text_key (codes "begin") TokenKind.Begin refl refl refl refl

pub text_end : Text (codes "end") (key TokenKind.End ∷ [])
text_end = text_key (codes "end") TokenKind.End refl refl refl refl

pub text_skip : Text (codes "skip") (key TokenKind.Skip ∷ [])
text_skip = text_key (codes "skip") TokenKind.Skip refl refl refl refl

pub text_halt : Text (codes "halt") (key TokenKind.Halt ∷ [])
text_halt = text_key (codes "halt") TokenKind.Halt refl refl refl refl

pub text_fail : Text (codes "fail") (key TokenKind.Fail ∷ [])
text_fail = text_key (codes "fail") TokenKind.Fail refl refl refl refl

pub text_endif : Text (codes "endif") (key TokenKind.Endif ∷ [])
text_endif = text_key (codes "endif") TokenKind.Endif refl refl refl refl

pub text_done : Text (codes "done") (key TokenKind.Done ∷ [])
text_done = text_key (codes "done") TokenKind.Done refl refl refl refl

text_then : Text (codes "then") (key TokenKind.Then ∷ [])
text_then = text_key (codes "then") TokenKind.Then refl refl refl refl

text_do : Text (codes "do") (key TokenKind.Do ∷ [])
text_do = text_key (codes "do") TokenKind.Do refl refl refl refl

text_not : Text (codes "not") (key TokenKind.Not ∷ [])
text_not = text_key (codes "not") TokenKind.Not refl refl refl refl

text_or : Text (codes "or") (key TokenKind.Or ∷ [])
text_or = text_key (codes "or") TokenKind.Or refl refl refl refl

text_and : Text (codes "and") (key TokenKind.And ∷ [])
text_and = text_key (codes "and") TokenKind.And refl refl refl refl

text_assume : Text (codes "assume") (key TokenKind.Assume ∷ [])
text_assume = text_key (codes "assume") TokenKind.Assume refl refl refl refl

text_if : Text (codes "if") (key TokenKind.If ∷ [])
text_if = text_key (codes "if") TokenKind.If refl refl refl refl

text_while : Text (codes "while") (key TokenKind.While ∷ [])
text_while = text_key (codes "while") TokenKind.While refl refl refl refl

text_var : Text (codes "var") (key TokenKind.Var ∷ [])
text_var = text_key (codes "var") TokenKind.Var refl refl refl refl

text_proc : Text (codes "proc") (key TokenKind.Proc ∷ [])
text_proc = text_key (codes "proc") TokenKind.Proc refl refl refl refl

text_returns : Text (codes "returns") (key TokenKind.Returns ∷ [])
text_returns = text_key (codes "returns") TokenKind.Returns refl refl refl refl

-- a word and a blank
then_blank : {w : List ℕ} {ls : List Lexeme} → Text w ls → Lit (w ++ codes " ") (ls ++ [])
then_blank t = text_lit t (λ rest. refl) lit_blank

pub lit_not : Lit (codes "not ") (key TokenKind.Not ∷ [])
lit_not = then_blank text_not

pub lit_assume : Lit (codes "assume ") (key TokenKind.Assume ∷ [])
lit_assume = then_blank text_assume

pub lit_if : Lit (codes "if ") (key TokenKind.If ∷ [])
lit_if = then_blank text_if

pub lit_while : Lit (codes "while ") (key TokenKind.While ∷ [])
lit_while = then_blank text_while

pub lit_var : Lit (codes "var ") (key TokenKind.Var ∷ [])
lit_var = then_blank text_var

pub lit_proc : Lit (codes "proc ") (key TokenKind.Proc ∷ [])
lit_proc = then_blank text_proc

pub text_blank_then : Text (codes " then") (key TokenKind.Then ∷ [])
text_blank_then = lit_text lit_blank text_then

pub text_blank_do : Text (codes " do") (key TokenKind.Do ∷ [])
text_blank_do = lit_text lit_blank text_do

pub lit_comma_blank : Lit (codes ", ") (key TokenKind.Comma ∷ [])
lit_comma_blank = lit_lit lit_comma lit_blank

pub lit_returns : Lit (codes ") returns (") (key TokenKind.RightParen ∷ key TokenKind.Returns ∷ key TokenKind.LeftParen ∷ [])
lit_returns = lit_lit lit_right (lit_lit lit_blank (lit_lit (then_blank text_returns) lit_left))

-- ---- operators

pub lit_op : (op : BinOp) → Lit (op_text op) (key (op_kind op) ∷ [])
unfolding piece_at
lit_op BinOp.Or = lit_lit lit_blank (then_blank text_or)
lit_op BinOp.And = lit_lit lit_blank (then_blank text_and)
lit_op BinOp.Eq = record { reads = λ rest more r. read_blank (61 ∷ 61 ∷ 32 ∷ rest) (key TokenKind.Equal ∷ more) (takes (61 ∷ 61 ∷ []) (32 ∷ rest) TokenKind.Equal more refl (read_blank rest more r)) }
lit_op BinOp.Ne = record { reads = λ rest more r. read_blank (33 ∷ 61 ∷ 32 ∷ rest) (key TokenKind.NotEqual ∷ more) (takes (33 ∷ 61 ∷ []) (32 ∷ rest) TokenKind.NotEqual more refl (read_blank rest more r)) }
lit_op BinOp.Lt = record { reads = λ rest more r. read_blank (60 ∷ 32 ∷ rest) (key TokenKind.Less ∷ more) (takes (60 ∷ []) (32 ∷ rest) TokenKind.Less more refl (read_blank rest more r)) }
lit_op BinOp.Le = record { reads = λ rest more r. read_blank (60 ∷ 61 ∷ 32 ∷ rest) (key TokenKind.LessEqual ∷ more) (takes (60 ∷ 61 ∷ []) (32 ∷ rest) TokenKind.LessEqual more refl (read_blank rest more r)) }
lit_op BinOp.Gt = record { reads = λ rest more r. read_blank (62 ∷ 32 ∷ rest) (key TokenKind.Greater ∷ more) (takes (62 ∷ []) (32 ∷ rest) TokenKind.Greater more refl (read_blank rest more r)) }
lit_op BinOp.Ge = record { reads = λ rest more r. read_blank (62 ∷ 61 ∷ 32 ∷ rest) (key TokenKind.GreaterEqual ∷ more) (takes (62 ∷ 61 ∷ []) (32 ∷ rest) TokenKind.GreaterEqual more refl (read_blank rest more r)) }
lit_op BinOp.Add = record { reads = λ rest more r. read_blank (43 ∷ 32 ∷ rest) (key TokenKind.Plus ∷ more) (takes (43 ∷ []) (32 ∷ rest) TokenKind.Plus more refl (read_blank rest more r)) }
lit_op BinOp.Sub = record { reads = λ rest more r. read_blank (45 ∷ 32 ∷ rest) (key TokenKind.Minus ∷ more) (takes (45 ∷ []) (32 ∷ rest) TokenKind.Minus more refl (read_blank rest more r)) }
lit_op BinOp.Mul = record { reads = λ rest more r. read_blank (42 ∷ 32 ∷ rest) (key TokenKind.Star ∷ more) (takes (42 ∷ []) (32 ∷ rest) TokenKind.Star more refl (read_blank rest more r)) }
lit_op BinOp.Div = record { reads = λ rest more r. read_blank (47 ∷ 32 ∷ rest) (key TokenKind.Slash ∷ more) (takes (47 ∷ []) (32 ∷ rest) TokenKind.Slash more refl (read_blank rest more r)) }
lit_op BinOp.Rem = record { reads = λ rest more r. read_blank (37 ∷ 32 ∷ rest) (key TokenKind.Percent ∷ more) (takes (37 ∷ []) (32 ∷ rest) TokenKind.Percent more refl (read_blank rest more r)) }

pub op_stops : (op : BinOp) (text : List ℕ) → StopsFirst (op_text op ++ text)
op_stops BinOp.Or text rest s = refl
op_stops BinOp.And text rest s = refl
op_stops BinOp.Eq text rest s = refl
op_stops BinOp.Ne text rest s = refl
op_stops BinOp.Lt text rest s = refl
op_stops BinOp.Le text rest s = refl
op_stops BinOp.Gt text rest s = refl
op_stops BinOp.Ge text rest s = refl
op_stops BinOp.Add text rest s = refl
op_stops BinOp.Sub text rest s = refl
op_stops BinOp.Mul text rest s = refl
op_stops BinOp.Div text rest s = refl
op_stops BinOp.Rem text rest s = refl
