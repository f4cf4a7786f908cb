-- What the machine says of derivations: it ends exactly in the derivation of its tokens, and it stops at the first token
-- that no program can have there.
use Rattle.std.proofs.Common.{◌≡◌, ℕ, ◌+◌, ◌<◌, ◌≤◌, List, [], ◌∷◌, ◌++◌, length, take, drop, Option, Some, None, refl, sym, ap, ◌∙◌, append_assoc, option_and_then, arith, subst, length-append}
use Rattle.std.proofs.lemmas.List.{append-nil, map-append, take-append-le, take-append-drop, length-map}
use Rattle.std.proofs.Math.Seq.{take-append-add}
use Rattle.std.specs.List.{take-map}
use Rattle.spl_text.specs.TokenList.{token_at}
use Rattle.spl_text.specs.declared.token.Token.{Token}
use Rattle.spl_text.specs.declared.token.TokenKind.{TokenKind}
use Rattle.spl_parser.specs.Grammar.{Derivation}
use Rattle.spl_tree.specs.Program.{Program}
use Rattle.spl_parser.specs.Spelling.{spelled}
use Rattle.spl_parser.specs.TreeOf.{tree_of}
use Rattle.spl_parser.specs.Derives.{Derives, kinds_of, Begins, Stands, at_token, at_end, SyntaxAt}
use Rattle.spl_parser.specs.Trees.{trees}
use Rattle.spl_parser.specs.Machine.{Algebra, State, at_start, at_begin, proc_word, proc_name, decl_open, decl_next, decl_name, decl_colon, decl_after, inputs_after, returns_word, in_block, simple, target, assign_start, assign_name, want, have, names_open, names_next, names_after, targets_after, called, called_name, call_after, after_end, done, leaf_of, run, initial, step}
use Rattle.spl_parser.proofs.Algebras.{derivations as D, nothing}
use Rattle.spl_parser.proofs.Taken.{taken, Takes}
use Rattle.spl_parser.proofs.Taking.{takes_step}
use Rattle.spl_parser.proofs.Expressions.{run-append, then_run}
use Rattle.spl_parser.proofs.Programs.{reads_program}
use Rattle.spl_parser.proofs.Endings.{ends}
use Rattle.spl_parser.proofs.Morphisms.{Morphism, on_state, on_next, keeps_step}
use Rattle.spl_parser.proofs.Instances.{sees, forgets}

-- a run takes its tokens
pub run_takes : (ts : List Token) (s s' : State D) → run D s ts ≡ Some s' → taken s' ≡ taken s ++ ts
run_takes [] s s' e = let h : s ≡ s' = cc in sym (ap taken h) ∙ sym (append-nil (taken s))
run_takes (t ∷ ts) s s' e = go (step D s t.kind (leaf_of t)) (takes_step s t.kind (leaf_of t)) (λ x f. run_takes ts x s' f) e
  where
    go : (r : Option (State D)) → Takes r (taken s) t.kind (leaf_of t) → ((x : State D) → run D x ts ≡ Some s' → taken s' ≡ taken x ++ ts) → option_and_then (λ x. run D x ts) r ≡ Some s' → taken s' ≡ taken s ++ t ∷ ts
    go None h more f = cc
    go (Some x) h more f = more x f ∙ (ap (λ l. l ++ ts) h ∙ append_assoc (taken s) (t ∷ []) ts)

-- a run over mapped states is the mapped run
pub run_keeps : {A B : Algebra} (h : Morphism A B) (ts : List Token) (s : State A) → run B (on_state h s) ts ≡ on_next h (run A s ts)
run_keeps h [] s = refl
run_keeps {A} {B} h (t ∷ ts) s = ap (λ p. option_and_then (λ x. run B x ts) (step B (on_state h s) t.kind p)) (sym (h.place (leaf_of t))) ∙ (ap (λ r. option_and_then (λ x. run B x ts) r) (keeps_step h s t.kind (A.place (leaf_of t))) ∙ go (step A s t.kind (A.place (leaf_of t))) (λ x. run_keeps h ts x))
  where
    go : (r : Option (State A)) → ((x : State A) → run B (on_state h x) ts ≡ on_next h (run A x ts)) → option_and_then (λ x. run B x ts) (on_next h r) ≡ on_next h (option_and_then (λ x. run A x ts) r)
    go None e = refl
    go (Some x) e = e x

-- a run over nothing depends on kinds alone
run_kinds : (xs ys : List Token) → kinds_of xs ≡ kinds_of ys → (s : State nothing) → run nothing s xs ≡ run nothing s ys
run_kinds [] [] e s = refl
run_kinds [] (y ∷ ys) e s = cc
run_kinds (x ∷ xs) [] e s = cc
run_kinds (x ∷ xs) (y ∷ ys) e s =
    let head : x.kind ≡ y.kind = cc in
    let tail : kinds_of xs ≡ kinds_of ys = cc in
    ap (λ k. option_and_then (λ z. run nothing z xs) (step nothing s k tt)) head ∙ go (step nothing s y.kind tt) (λ z. run_kinds xs ys tail z)
  where
    go : (r : Option (State nothing)) → ((z : State nothing) → run nothing z xs ≡ run nothing z ys) → option_and_then (λ z. run nothing z xs) r ≡ option_and_then (λ z. run nothing z ys) r
    go None h = refl
    go (Some z) h = h z

-- what the machine ends in spells the tokens
spelled_by_run : (ts : List Token) (d : Derivation) → run D (initial D) ts ≡ Some (done d) → spelled d ≡ ts
unfolding taken
spelled_by_run ts d e = run_takes ts (initial D) (done d) e

-- tokens have at most one derivation
pub one_derivation : (d e : Derivation) → spelled d ≡ spelled e → d ≡ e
one_derivation d e h = let same : Some (done d) ≡ Some (done e) = sym (reads_program d) ∙ (ap (λ ts. run D (initial D) ts) h ∙ reads_program e) in cc

-- where the machine comes through, a program can go on
begins : (xs : List Token) (s : State D) → run D (initial D) xs ≡ Some s → Begins (kinds_of xs)
begins xs s h =
    let e = ends s in
    let whole = spelled_by_run (xs ++ e.tokens) e.program (then_run D (initial D) s xs e.tokens (Some (done e.program)) h e.runs) in
    (e.program, kinds_of e.tokens, ap kinds_of whole ∙ map-append (λ (t : Token). t.kind) xs e.tokens)

Begins-front : (ks ms : List TokenKind) → Begins (ks ++ ms) → Begins ks
Begins-front ks ms b = (b.0, ms ++ b.1, b.2 ∙ append_assoc ks ms b.1)

-- a list of tokens whose kinds fall into two parts falls into two parts
kinds_split : (ks rest : List TokenKind) (zs : List Token) → kinds_of zs ≡ ks ++ rest → (us : List Token) × (vs : List Token) × (zs ≡ us ++ vs) × (kinds_of us ≡ ks)
kinds_split [] rest zs e = ([], zs, refl, refl)
kinds_split (k ∷ ks) rest [] e = absurd (let h : [] ≡ k ∷ (ks ++ rest) = e in cc)
kinds_split (k ∷ ks) rest (z ∷ zs) e =
    let tail : kinds_of zs ≡ ks ++ rest = cc in
    let head : z.kind ≡ k = cc in
    let r = kinds_split ks rest zs tail in
    (z ∷ r.0, r.1, ap (λ l. z ∷ l) r.2, cc (head, r.3))

-- a run that comes through comes through each front of its tokens
run_front : (A : Algebra) (s z : State A) (us vs : List Token) → run A s (us ++ vs) ≡ Some z → (y : State A) × (run A s us ≡ Some y)
run_front A s z us vs h = go (run A s us) refl
  where
    go : (r : Option (State A)) → run A s us ≡ r → (y : State A) × (run A s us ≡ Some y)
    go None e = absurd (let f : None ≡ Some z = sym (ap (λ o. option_and_then (λ x. run A x vs) o) e) ∙ (sym (run-append A s us vs) ∙ h) in cc)
    go (Some y) e = (y, e)

-- where the machine stops, no program has these kinds
stops : (xs : List Token) → run D (initial D) xs ≡ None → Begins (kinds_of xs) → ⊥
stops xs h b =
    let cut = kinds_split (kinds_of xs) b.1 (spelled b.0) b.2 in
    let whole : run nothing (initial nothing) (cut.0 ++ cut.1) ≡ Some (done tt) = ap (λ ts. run nothing (initial nothing) ts) (sym cut.2) ∙ (run_keeps forgets (spelled b.0) (initial D) ∙ ap (λ r. on_next forgets r) (reads_program b.0)) in
    let front = run_front nothing (initial nothing) (done tt) cut.0 cut.1 whole in
    let here : run nothing (initial nothing) xs ≡ None = run_keeps forgets xs (initial D) ∙ ap (λ r. on_next forgets r) h in
    let both : None ≡ Some front.0 = sym here ∙ (run_kinds xs cut.0 (sym cut.3) (initial nothing) ∙ front.1) in
    cc

-- kinds that begin a program begin one up to each earlier place
before_all : (xs ms : List TokenKind) (j : ℕ) → j < length xs → Begins xs → Begins (take (j + 1) (xs ++ ms))
before_all xs ms j lt b =
    let le : j + 1 ≤ length xs = omega arith in
    let cut : take (j + 1) (xs ++ ms) ≡ take (j + 1) xs = take-append-le (j + 1) xs ms le in
    let P : List TokenKind → Type 0 = λ ks. Begins ks in
    subst P (sym cut) (Begins-front (take (j + 1) xs) (drop (j + 1) xs) (subst P (sym (take-append-drop (j + 1) xs)) b))

kinds-length : (xs : List Token) → length (kinds_of xs) ≡ length xs
kinds-length xs = length-map xs (λ (t : Token). t.kind)

token_at-split : (xs : List Token) (t : Token) (ys : List Token) → token_at (xs ++ t ∷ ys) (length xs) ≡ t
token_at-split [] t ys = refl
token_at-split (x ∷ xs) t ys = token_at-split xs t ys

-- a token that the machine refuses is the first one that no program can have there
pub refused_at : (size : ℕ) (xs : List Token) (t : Token) (ys : List Token) (s : State D) → run D (initial D) xs ≡ Some s → step D s t.kind (leaf_of t) ≡ None → SyntaxAt size (xs ++ t ∷ ys) t.start
refused_at size xs t ys s h e =
    let short : run D (initial D) (xs ++ t ∷ []) ≡ None = run-append D (initial D) xs (t ∷ []) ∙ (ap (λ o. option_and_then (λ x. run D x (t ∷ [])) o) h ∙ ap (λ o. option_and_then (λ x. run D x []) o) e) in
    let whole : run D (initial D) (xs ++ t ∷ ys) ≡ None = run-append D (initial D) xs (t ∷ ys) ∙ (ap (λ o. option_and_then (λ x. run D x (t ∷ ys)) o) h ∙ ap (λ o. option_and_then (λ x. run D x ys) o) e) in
    let kinds : kinds_of (xs ++ t ∷ ys) ≡ kinds_of xs ++ kinds_of (t ∷ ys) = map-append (λ (u : Token). u.kind) xs (t ∷ ys) in
    let place : Stands size (xs ++ t ∷ ys) (length xs) (token_at (xs ++ t ∷ ys) (length xs)).start = at_token (omega (arith, length-append xs (t ∷ ys))) in
    let P : ℕ → Type 0 = λ at. Stands size (xs ++ t ∷ ys) (length xs) at in
    record {
      none = λ d f. let x : None ≡ Some (done d) = sym whole ∙ (ap (λ ts. run D (initial D) ts) (sym f) ∙ reads_program d) in cc;
      number = length xs;
      stands = subst P (ap (λ (u : Token). u.start) (token_at-split xs t ys)) place;
      before = λ j lt. let Q : List TokenKind → Type 0 = λ ks. Begins (take (j + 1) ks) in subst Q (sym kinds) (before_all (kinds_of xs) (kinds_of (t ∷ ys)) j (omega (arith, kinds-length xs)) (begins xs s h));
      stops = λ lt b.
          let cut : take (length xs + 1) (kinds_of (xs ++ t ∷ ys)) ≡ kinds_of (xs ++ t ∷ []) = take-map (λ (u : Token). u.kind) (length xs + 1) (xs ++ t ∷ ys) ∙ ap kinds_of (take-append-add xs (t ∷ ys) 1) in
          stops (xs ++ t ∷ []) short (subst Begins cut b);
    }

-- a state that isn't the end
abbrev pub NotDone : {A : Algebra} → State A → Type 0
NotDone (done r) = ⊥
NotDone _ = Unit {0}

NotDone-is : (s : State D) (d : Derivation) → NotDone s → s ≡ done d → ⊥
NotDone-is s d h e = let P : State D → Type 0 = λ x. NotDone x in subst P e h

-- where the tokens end before the program does, the end of the source is the place
pub refused_at_end : (size : ℕ) (ts : List Token) (s : State D) → run D (initial D) ts ≡ Some s → NotDone s → SyntaxAt size ts size
refused_at_end size ts s h open' =
    record {
      none = λ d f. let x : Some s ≡ Some (done d) = sym h ∙ (ap (λ us. run D (initial D) us) (sym f) ∙ reads_program d) in NotDone-is s d open' cc;
      number = length ts;
      stands = at_end refl;
      before = λ j lt. let Q : List TokenKind → Type 0 = λ ks. Begins (take (j + 1) ks) in subst Q (append-nil (kinds_of ts)) (before_all (kinds_of ts) [] j (omega (arith, kinds-length ts)) (begins ts s h));
      stops = λ lt b. omega arith;
    }

-- the machine over trees is the machine over derivations, seen as trees
seen : (source : List ℕ) (ts : List Token) → run (trees source) (initial (trees source)) ts ≡ on_next (sees source) (run D (initial D) ts)
seen source ts = run_keeps (sees source) ts (initial D)

-- a state of the machine over trees is that of one over derivations
record Behind (source : List ℕ) (ts : List Token) (s : State (trees source)) : Type 0 where
  state : State D
  runs : run D (initial D) ts ≡ Some state
  seen_as : on_state (sees source) state ≡ s

behind : (source : List ℕ) (ts : List Token) (s : State (trees source)) → run (trees source) (initial (trees source)) ts ≡ Some s → Behind source ts s
behind source ts s h = go (run D (initial D) ts) refl (sym (seen source ts) ∙ h)
  where
    go : (r : Option (State D)) → run D (initial D) ts ≡ r → on_next (sees source) (run D (initial D) ts) ≡ Some s → Behind source ts s
    go None e f = absurd (let x : None ≡ Some s = sym (ap (λ r. on_next (sees source) r) e) ∙ f in cc)
    go (Some x) e f = let y : Some (on_state (sees source) x) ≡ Some s = sym (ap (λ r. on_next (sees source) r) e) ∙ f in record { state = x; runs = e; seen_as = cc }

next_none : {A B : Algebra} (h : Morphism A B) (r : Option (State A)) → on_next h r ≡ None → r ≡ None
next_none h None e = refl
next_none h (Some s) e = absurd cc

-- the tree of a state that is done is that of its derivation
done_tree : (source : List ℕ) (s : State D) (tree : Program) → on_state (sees source) s ≡ done tree → (d : Derivation) × (s ≡ done d) × (tree_of source d ≡ tree)
done_tree source (done d) tree e = (d, refl, cc)
done_tree source (at_start x) tree e = absurd cc
done_tree source (at_begin x vs) tree e = absurd cc
done_tree source (proc_word ps w) tree e = absurd cc
done_tree source (proc_name ps w n) tree e = absurd cc
done_tree source (decl_open g) tree e = absurd cc
done_tree source (decl_next g b) tree e = absurd cc
done_tree source (decl_name g b n) tree e = absurd cc
done_tree source (decl_colon g b n c) tree e = absurd cc
done_tree source (decl_after g ds) tree e = absurd cc
done_tree source (inputs_after ps w n o ins c) tree e = absurd cc
done_tree source (returns_word ps w n o ins c r) tree e = absurd cc
done_tree source (in_block b) tree e = absurd cc
done_tree source (simple b w) tree e = absurd cc
done_tree source (target b x) tree e = absurd cc
done_tree source (assign_start b x q) tree e = absurd cc
done_tree source (assign_name b x q n) tree e = absurd cc
done_tree source (want b g ps p) tree e = absurd cc
done_tree source (have b g ps p a) tree e = absurd cc
done_tree source (names_open b g) tree e = absurd cc
done_tree source (names_next b g ns c) tree e = absurd cc
done_tree source (names_after b g ns) tree e = absurd cc
done_tree source (targets_after b o ns c) tree e = absurd cc
done_tree source (called b ts) tree e = absurd cc
done_tree source (called_name b ts f) tree e = absurd cc
done_tree source (call_after b ts f o ns c) tree e = absurd cc
done_tree source (after_end b c) tree e = absurd cc

-- what the machine over trees says: it ends in the tree that is derived
pub derived : (source : List ℕ) (ts : List Token) (tree : Program) → run (trees source) (initial (trees source)) ts ≡ Some (done tree) → Derives source ts tree
derived source ts tree h =
    let b = behind source ts (done tree) h in
    let d = done_tree source b.state tree b.seen_as in
    (d.0, spelled_by_run ts d.0 (b.runs ∙ ap (λ s. Some s) d.1), d.2)

-- and it stops at the place of the fault
pub faulty_at : (source : List ℕ) (size : ℕ) (xs : List Token) (t : Token) (ys : List Token) (s : State (trees source)) → run (trees source) (initial (trees source)) xs ≡ Some s → step (trees source) s t.kind (leaf_of t) ≡ None → SyntaxAt size (xs ++ t ∷ ys) t.start
faulty_at source size xs t ys s h e =
    let b = behind source xs s h in
    let here : on_next (sees source) (step D b.state t.kind (leaf_of t)) ≡ None = sym (keeps_step (sees source) b.state t.kind (leaf_of t)) ∙ (ap (λ x. step (trees source) x t.kind (leaf_of t)) b.seen_as ∙ e) in
    refused_at size xs t ys b.state b.runs (next_none (sees source) (step D b.state t.kind (leaf_of t)) here)

not_done : (source : List ℕ) (s : State D) → NotDone (on_state (sees source) s) → NotDone s
not_done source (done d) h = h
not_done source _ h = tt

pub faulty_at_end : (source : List ℕ) (size : ℕ) (ts : List Token) (s : State (trees source)) → run (trees source) (initial (trees source)) ts ≡ Some s → NotDone s → SyntaxAt size ts size
faulty_at_end source size ts s h open' =
    let b = behind source ts s h in
    let P : State (trees source) → Type 0 = λ x. NotDone x in
    refused_at_end size ts b.state b.runs (not_done source b.state (subst P (sym b.seen_as) open'))
