-- Tokens that say a list of names or of declarations derive it.
use Rattle.std.proofs.Common.{◌≡◌, ℕ, List, [], ◌∷◌, ◌++◌, map, ap, ap₂, sym, ◌∙◌, refl, append_assoc, append-nil}
use Rattle.std.proofs.lemmas.List.{map-append}
use Rattle.spl_text.specs.declared.token.Token.{Token}
use Rattle.spl_text.specs.declared.token.TokenKind.{TokenKind}
use Rattle.spl_tree.specs.Program.{Named, Kind, int_kind, real_kind, other_kind, Declared, placeless_name, placeless_decl}
use Rattle.spl_parser.specs.Grammar.{TypeWord, int_word, real_word, name_word, Decl, decl, Decls, one_decl, more_decls, OptDecls, no_decls, some_decls, Names, one_name, more_names, OptNames, no_names, some_names}
use Rattle.spl_parser.specs.Spelling.{token, spelled_type, spelled_decl, spelled_decls, spelled_opt_decls, spelled_names, spelled_opt_names}
use Rattle.spl_parser.specs.TreeOf.{named, kind_tree, decl_tree, decl_trees, opt_decl_trees, name_trees, opt_name_trees}
use Rattle.read_back.proofs.Lexemes.{Lexeme, key, name, others_say, one_name_says, names_say, kind_says, decl_says, decls_say}
use Rattle.read_back.proofs.Splits.{Says, first, first_name, nothing}

-- ---- names

abbrev names_of : List ℕ → Names → List Named
names_of bytes d = map placeless_name (name_trees bytes d)

more_derive : (xs : List Named) (bytes : List ℕ) (ns : Names) (ts : List Token) → Says bytes ts (others_say (map one_name_says xs))
    → (d : Names) × (spelled_names d ≡ spelled_names ns ++ ts) × (names_of bytes d ≡ names_of bytes ns ++ map placeless_name xs)
more_derive [] bytes ns ts h =
    let e = nothing bytes ts h in
    (ns, sym (append-nil (spelled_names ns)) ∙ ap (λ us. spelled_names ns ++ us) (sym e), sym (append-nil (names_of bytes ns)))
more_derive (x ∷ xs) bytes ns ts h =
    let c = first bytes ts TokenKind.Comma [] (name x.name ∷ others_say (map one_name_says xs)) h in
    let n = first_name bytes c.rest x.name (others_say (map one_name_says xs)) c.says in
    let d = more_derive xs bytes (more_names ns c.place n.place) n.rest n.says in
    let here : List Token = token TokenKind.Comma c.place ∷ token TokenKind.Name n.place ∷ [] in
    let whole : here ++ n.rest ≡ ts = ap (λ us. token TokenKind.Comma c.place ∷ us) (sym n.is) ∙ sym c.is in
    let same : placeless_name (named bytes n.place) ≡ placeless_name x = ap (λ y. record { name = y; at = 0 }) n.named in (
      d.0,
      d.1 ∙ append_assoc (spelled_names ns) here n.rest ∙ ap (λ us. spelled_names ns ++ us) whole,
      d.2 ∙ ap (λ us. us ++ map placeless_name xs) (map-append placeless_name (name_trees bytes ns) (named bytes n.place ∷ []))
          ∙ append_assoc (names_of bytes ns) (placeless_name (named bytes n.place) ∷ []) (map placeless_name xs)
          ∙ ap (λ y. names_of bytes ns ++ y ∷ map placeless_name xs) same,
    )

-- names, at least one
pub some_names_derive : (x : Named) (xs : List Named) (bytes : List ℕ) (ts : List Token) → Says bytes ts (names_say (x ∷ xs))
    → (d : Names) × (spelled_names d ≡ ts) × (map placeless_name (name_trees bytes d) ≡ map placeless_name (x ∷ xs))
some_names_derive x xs bytes ts h =
    let n = first_name bytes ts x.name (others_say (map one_name_says xs)) h in
    let d = more_derive xs bytes (one_name n.place) n.rest n.says in
    let same : placeless_name (named bytes n.place) ≡ placeless_name x = ap (λ y. record { name = y; at = 0 }) n.named in
    (d.0, d.1 ∙ sym n.is, d.2 ∙ ap (λ y. y ∷ map placeless_name xs) same)

pub names_derive : (xs : List Named) (bytes : List ℕ) (ts : List Token) → Says bytes ts (names_say xs)
    → (d : OptNames) × (spelled_opt_names d ≡ ts) × (map placeless_name (opt_name_trees bytes d) ≡ map placeless_name xs)
names_derive [] bytes ts h = (no_names, sym (nothing bytes ts h), refl)
names_derive (x ∷ xs) bytes ts h = let d = some_names_derive x xs bytes ts h in (some_names d.0, d.1, d.2)

-- ---- declarations

kind_derives : (k : Kind) (bytes : List ℕ) (ts : List Token) (ls : List Lexeme) → Says bytes ts (kind_says k ∷ ls)
    → (d : TypeWord) × (rest : List Token) × (ts ≡ spelled_type d ∷ rest) × (kind_tree bytes d ≡ k) × Says bytes rest ls
kind_derives int_kind bytes ts ls h = let t = first bytes ts TokenKind.Int [] ls h in (int_word t.place, t.rest, t.is, refl, t.says)
kind_derives real_kind bytes ts ls h = let t = first bytes ts TokenKind.Real [] ls h in (real_word t.place, t.rest, t.is, refl, t.says)
kind_derives (other_kind x) bytes ts ls h = let t = first_name bytes ts x ls h in (name_word t.place, t.rest, t.is, ap other_kind t.named, t.says)

-- one declaration first
decl_derives : (d : Declared) (bytes : List ℕ) (ts : List Token) (ls : List Lexeme) → Says bytes ts (decl_says d ++ ls)
    → (e : Decl) × (rest : List Token) × (ts ≡ spelled_decl e ++ rest) × (placeless_decl (decl_tree bytes e) ≡ placeless_decl d) × Says bytes rest ls
decl_derives d bytes ts ls h =
    let n = first_name bytes ts d.name.name (key TokenKind.Colon ∷ kind_says d.kind ∷ ls) h in
    let c = first bytes n.rest TokenKind.Colon [] (kind_says d.kind ∷ ls) n.says in
    let k = kind_derives d.kind bytes c.rest ls c.says in (
      decl n.place c.place k.0,
      k.1,
      n.is ∙ ap (λ us. token TokenKind.Name n.place ∷ us) (c.is ∙ ap (λ us. token TokenKind.Colon c.place ∷ us) k.2),
      ap₂ (λ y z. record { name = record { name = y; at = 0 }; kind = z; kind_at = 0 }) n.named k.3,
      k.4,
    )

abbrev decls_of : List ℕ → Decls → List Declared
decls_of bytes d = map placeless_decl (decl_trees bytes d)

more_decls_derive : (ds : List Declared) (bytes : List ℕ) (es : Decls) (ts : List Token) → Says bytes ts (others_say (map decl_says ds))
    → (d : Decls) × (spelled_decls d ≡ spelled_decls es ++ ts) × (decls_of bytes d ≡ decls_of bytes es ++ map placeless_decl ds)
more_decls_derive [] bytes es ts h =
    let e = nothing bytes ts h in
    (es, sym (append-nil (spelled_decls es)) ∙ ap (λ us. spelled_decls es ++ us) (sym e), sym (append-nil (decls_of bytes es)))
more_decls_derive (x ∷ xs) bytes es ts h =
    let c = first bytes ts TokenKind.Comma [] (decl_says x ++ others_say (map decl_says xs)) h in
    let n = decl_derives x bytes c.rest (others_say (map decl_says xs)) c.says in
    let d = more_decls_derive xs bytes (more_decls es c.place n.0) n.1 n.4 in
    let here : List Token = token TokenKind.Comma c.place ∷ spelled_decl n.0 in
    let whole : here ++ n.1 ≡ ts = ap (λ us. token TokenKind.Comma c.place ∷ us) (sym n.2) ∙ sym c.is in (
      d.0,
      d.1 ∙ append_assoc (spelled_decls es) here n.1 ∙ ap (λ us. spelled_decls es ++ us) whole,
      d.2 ∙ ap (λ us. us ++ map placeless_decl xs) (map-append placeless_decl (decl_trees bytes es) (decl_tree bytes n.0 ∷ []))
          ∙ append_assoc (decls_of bytes es) (placeless_decl (decl_tree bytes n.0) ∷ []) (map placeless_decl xs)
          ∙ ap (λ y. decls_of bytes es ++ y ∷ map placeless_decl xs) n.3,
    )

-- declarations, at least one
pub some_decls_derive : (x : Declared) (xs : List Declared) (bytes : List ℕ) (ts : List Token) → Says bytes ts (decls_say (x ∷ xs))
    → (d : Decls) × (spelled_decls d ≡ ts) × (map placeless_decl (decl_trees bytes d) ≡ map placeless_decl (x ∷ xs))
some_decls_derive x xs bytes ts h =
    let n = decl_derives x bytes ts (others_say (map decl_says xs)) h in
    let d = more_decls_derive xs bytes (one_decl n.0) n.1 n.4 in
    (d.0, d.1 ∙ sym n.2, d.2 ∙ ap (λ y. y ∷ map placeless_decl xs) n.3)

pub decls_derive : (xs : List Declared) (bytes : List ℕ) (ts : List Token) → Says bytes ts (decls_say xs)
    → (d : OptDecls) × (spelled_opt_decls d ≡ ts) × (map placeless_decl (opt_decl_trees bytes d) ≡ map placeless_decl xs)
decls_derive [] bytes ts h = (no_decls, sym (nothing bytes ts h), refl)
decls_derive (x ∷ xs) bytes ts h = let d = some_decls_derive x xs bytes ts h in (some_decls d.0, d.1, d.2)
