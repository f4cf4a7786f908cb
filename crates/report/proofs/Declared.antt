-- The names that a program declares are names: it was read from tokens.
use Rattle.std.proofs.Common.{◌≡◌, ℕ, Bool, true, List, [], ◌∷◌, ◌++◌, map, IsTrue, refl, sym, subst}
use Rattle.std.specs.List.{All, list_all}
use Rattle.std.proofs.lemmas.List.{map-append}
use Rattle.std.proofs.lemmas.List.Elements.{All-nil, All-cons, All-head, All-tail, All-push}
use Rattle.std.proofs.lemmas.Bool.{and_parts}
use Rattle.spl_text.specs.Bytes.{is_letter, is_name_byte}
use Rattle.spl_text.specs.Spans.{IsTokenOf, TokensAreSpelled}
use Rattle.spl_text.specs.Spans as spans
use Rattle.spl_text.specs.declared.token.Token.{Token}
use Rattle.spl_text.specs.declared.token.TokenKind.TheVariants as kind
use Rattle.spl_tree.specs.Program.{Declared, Program}
use Rattle.spl_parser.specs.Grammar.{Decl, decl, Decls, one_decl, more_decls, OptDecls, no_decls, some_decls, Vars, no_vars, some_vars, Proc, proc, Procs, no_procs, more_procs, Derivation, program}
use Rattle.spl_parser.specs.Spelling.{token, spelled_type, spelled_decl, spelled_decls, spelled_opt_decls, spelled_vars, spelled_proc, spelled_procs, spelled_stmts, spelled}
use Rattle.spl_parser.specs.TreeOf.{decl_tree, decl_trees, opt_decl_trees, var_trees, proc_tree, proc_trees, tree_of}
use Rattle.spl_types.specs.Checks.{declared_names, Procedure, procedure_of, main_procedure}
use Rattle.spl_types.specs.Dimensions.{procedures}
use Rattle.report.specs.ReadsBack.{IsSourceOf}

-- a letter or `_` first, then only letters, digits and `_`
abbrev pub IsPlainName : List ℕ → Type 0
IsPlainName [] = ⊥
IsPlainName (b ∷ bs) = IsTrue (is_letter b) × All (λ c. IsTrue (is_name_byte c)) bs

all_true : (f : ℕ → Bool) (xs : List ℕ) → list_all f xs ≡ true → All (λ x. IsTrue (f x)) xs
all_true f [] h = All-nil (λ x. IsTrue (f x))
all_true f (x ∷ xs) h = let b = and_parts (f x) (list_all f xs) h in All-cons (λ x. IsTrue (f x)) x xs b.0 (all_true f xs b.1)

-- a name token spells a name
plain_name : (text : List ℕ) → spans.IsName text → IsPlainName text
plain_name [] h = absurd (cc h.first)
plain_name (x ∷ xs) h = (h.first, All-tail (λ c. IsTrue (is_name_byte c)) x xs (all_true is_name_byte (x ∷ xs) h.rest))

All-parts : {X : Type 0} (P : X → Type 0) (xs ys : List X) → All P (xs ++ ys) → All P xs × All P ys
All-parts P [] ys h = (All-nil P, h)
All-parts P (x ∷ xs) ys h =
    let r = All-parts P xs ys (All-tail P x (xs ++ ys) h) in
    (All-cons P x xs (All-head P x (xs ++ ys) h) r.0, r.1)

-- ---- declarations

decl_named : (source : List ℕ) (d : Decl) → All (IsTokenOf source) (spelled_decl d) → IsPlainName (decl_tree source d).name.name
decl_named source (decl n c t) h = plain_name _ ((All-head (IsTokenOf source) (token kind.Name n) (token kind.Colon c ∷ spelled_type t ∷ []) h).name refl)

decls_named : (source : List ℕ) (ds : Decls) → All (IsTokenOf source) (spelled_decls ds) → All IsPlainName (declared_names (decl_trees source ds))
decls_named source (one_decl d) h = All-cons IsPlainName (decl_tree source d).name.name [] (decl_named source d h) (All-nil IsPlainName)
decls_named source (more_decls ds c d) h =
    let r = All-parts (IsTokenOf source) (spelled_decls ds) (token kind.Comma c ∷ spelled_decl d) h in
    let last : IsPlainName (decl_tree source d).name.name = decl_named source d (All-tail (IsTokenOf source) (token kind.Comma c) (spelled_decl d) r.1) in
    subst (All IsPlainName) (sym (map-append (λ (x : Declared). x.name.name) (decl_trees source ds) (decl_tree source d ∷ [])))
    (All-push IsPlainName (declared_names (decl_trees source ds)) (decl_tree source d).name.name (decls_named source ds r.0) last)

opt_decls_named : (source : List ℕ) (ds : OptDecls) → All (IsTokenOf source) (spelled_opt_decls ds) → All IsPlainName (declared_names (opt_decl_trees source ds))
opt_decls_named source no_decls h = All-nil IsPlainName
opt_decls_named source (some_decls ds) h = decls_named source ds h

vars_named : (source : List ℕ) (vs : Vars) → All (IsTokenOf source) (spelled_vars vs) → All IsPlainName (declared_names (var_trees source vs))
vars_named source no_vars h = All-nil IsPlainName
vars_named source (some_vars v ds s) h =
    decls_named source ds (All-parts (IsTokenOf source) (spelled_decls ds) (token kind.Semicolon s ∷ [])
    (All-tail (IsTokenOf source) (token kind.Var v) (spelled_decls ds ++ token kind.Semicolon s ∷ []) h)).0

-- ---- procedures

-- all names that a procedure declares
pub record DeclaresNames (u : Procedure) : Type 0 where
  pub inputs : All IsPlainName (declared_names u.inputs)
  pub outputs : All IsPlainName (declared_names u.outputs)
  pub locals : All IsPlainName (declared_names u.locals)

proc_named : (source : List ℕ) (q : Proc) → All (IsTokenOf source) (spelled_proc q) → DeclaresNames (procedure_of (proc_tree source q))
proc_named source (proc w n o ins c r o' outs c' vs b ss e) h =
    let T = IsTokenOf source in
    let body : List Token = token kind.Begin b ∷ (spelled_stmts ss ++ token kind.End e ∷ []) in
    let locals : List Token = token kind.RightParen c' ∷ (spelled_vars vs ++ body) in
    let outputs : List Token = token kind.RightParen c ∷ token kind.Returns r ∷ token kind.LeftParen o' ∷ (spelled_opt_decls outs ++ locals) in
    let inputs : List Token = spelled_opt_decls ins ++ outputs in
    let a = All-tail T (token kind.LeftParen o) inputs (All-tail T (token kind.Name n) (token kind.LeftParen o ∷ inputs) (All-tail T (token kind.Proc w) (token kind.Name n ∷ token kind.LeftParen o ∷ inputs) h)) in
    let i = All-parts T (spelled_opt_decls ins) outputs a in
    let after : List Token = spelled_opt_decls outs ++ locals in
    let x = All-tail T (token kind.LeftParen o') after (All-tail T (token kind.Returns r) (token kind.LeftParen o' ∷ after) (All-tail T (token kind.RightParen c) (token kind.Returns r ∷ token kind.LeftParen o' ∷ after) i.1)) in
    let u = All-parts T (spelled_opt_decls outs) locals x in
    let v = All-parts T (spelled_vars vs) body (All-tail T (token kind.RightParen c') (spelled_vars vs ++ body) u.1) in
    record { inputs = opt_decls_named source ins i.0; outputs = opt_decls_named source outs u.0; locals = vars_named source vs v.0 }

procs_named : (source : List ℕ) (ps : Procs) → All (IsTokenOf source) (spelled_procs ps) → All DeclaresNames (map procedure_of (proc_trees source ps))
procs_named source no_procs h = All-nil DeclaresNames
procs_named source (more_procs ps q) h =
    let r = All-parts (IsTokenOf source) (spelled_procs ps) (spelled_proc q) h in
    subst (All DeclaresNames) (sym (map-append procedure_of (proc_trees source ps) (proc_tree source q ∷ [])))
    (All-push DeclaresNames (map procedure_of (proc_trees source ps)) (procedure_of (proc_tree source q)) (procs_named source ps r.0) (proc_named source q r.1))

derivation_named : (source : List ℕ) (d : Derivation) → All (IsTokenOf source) (spelled d) → All DeclaresNames (procedures (tree_of source d))
derivation_named source (program ps vs b ss e) h =
    let body : List Token = token kind.Begin b ∷ (spelled_stmts ss ++ token kind.End e ∷ []) in
    let r = All-parts (IsTokenOf source) (spelled_procs ps) (spelled_vars vs ++ body) h in
    let v = All-parts (IsTokenOf source) (spelled_vars vs) body r.1 in
    let main : DeclaresNames (main_procedure (tree_of source (program ps vs b ss e))) =
    record { inputs = All-nil IsPlainName; outputs = All-nil IsPlainName; locals = vars_named source vs v.0 } in
    All-push DeclaresNames (map procedure_of (proc_trees source ps)) (main_procedure (tree_of source (program ps vs b ss e))) (procs_named source ps r.0) main

pub all_named : TokensAreSpelled → (bytes : List ℕ) (p : Program) → IsSourceOf bytes p → All DeclaresNames (procedures p)
all_named spells bytes p is =
    let tokens = spells bytes is.tokens is.cut is.unbroken in
    let d = is.derives.0 in
    subst (λ (q : Program). All DeclaresNames (procedures q)) is.derives.2
    (derivation_named bytes d (subst (All (IsTokenOf bytes)) (sym is.derives.1) tokens))
