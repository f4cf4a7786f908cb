-- A name that is added.
use Rattle.std.proofs.Common.{◌≡◌, ℕ, ◌+◌, ◌-◌, ◌≤◌, List, [], ◌∷◌, ◌++◌, length, sym, ap, ◌∙◌, subst, arith, length-append}
use Rattle.std.proofs.lemmas.List.{get_or_push}
use Rattle.spl_text.specs.declared.token.Token.{Token}
use Rattle.spl_tree.specs.Lists.{Lists}
use Rattle.spl_tree.specs.Meaning.{name_of}
use Rattle.spl_parser.specs.declared.state.Word.{Word}
use Rattle.spl_parser.specs.Growth.{Grown, grown, Grew}
use Rattle.spl_parser.specs.Machine as m
use Rattle.spl_parser.specs.View.{Small, TokenIn, Grows, NewWord}
use Rattle.spl_parser.specs.TreeOf.{bytes_at}
use Rattle.spl_parser.proofs.Stay.{grows_names}

pub new_word : (source : List ℕ) (token : Token) (t t' : Lists) (w : Word) (bytes : List ℕ) → TokenIn token → w.at ≡ token.start → w.name.0 ≡ length (grown t).names → length bytes ≡ token.end - token.start → bytes ≡ bytes_at source (m.leaf_of token) → Grew t' (record (grown t) { letters = (grown t).letters + length bytes; names = (grown t).names ++ bytes ∷ [] }) → NewWord source token t t' w
new_word source token t t' w bytes ok at num long same g =
    let r : Grown = record (grown t) { letters = (grown t).letters + length bytes; names = (grown t).names ++ bytes ∷ [] } in
    let N : (grown t').names ≡ (grown t).names ++ bytes ∷ [] = ap (λ (q : Grown). q.names) g.meaning in
    let L : (grown t').letters ≡ (grown t).letters + length bytes = ap (λ (q : Grown). q.letters) g.meaning in
    let B : name_of (grown t').names w.name ≡ bytes = ap (λ l. name_of l w.name) N ∙ get_or_push (grown t).names bytes [] w.name.0 (sym num) in
    record {
      whole = g.tree;
      only = g.meaning ∙ (ap (λ l. record (grown t) { letters = l; names = (grown t).names ++ bytes ∷ [] }) (sym L) ∙ ap (λ l. record (grown t) { letters = (grown t').letters; names = l }) (sym N));
      grows = subst (λ (q : Grown). Grows (grown t) q) (sym g.meaning) (grows_names (grown t) ((grown t).letters + length bytes) bytes);
      letters = L ∙ ap (λ n. (grown t).letters + n) long;
      count = ap length N ∙ length-append (grown t).names (bytes ∷ []);
      there = (omega (arith, ap length N, length-append (grown t).names (bytes ∷ [])), omega (arith, ok.filled, ok.within));
      is = ap (λ b. record { name = b; at = w.at }) (B ∙ same) ∙ ap (λ n. record { name = bytes_at source (m.leaf_of token); at = n }) at;
    }

-- after a name what is small stays small
pub word_small : (source : List ℕ) (token : Token) (t t' : Lists) (w : Word) (wait wait' : ℕ) → TokenIn token → NewWord source token t t' w → wait' ≤ wait + 1 → Small token.start (grown t) wait → Small token.end (grown t') wait'
word_small source token t t' w wait wait' ok h le s =
    let same = h.only in
    record {
      letters = omega (arith, h.letters, ok.filled, s.letters);
      names = omega (arith, h.count, ok.filled, s.names);
      named = omega (arith, ap (λ (q : Grown). length q.named) same, ok.filled, s.named);
      decls = omega (arith, ap (λ (q : Grown). length q.decls) same, ok.filled, s.decls);
      procs = omega (arith, ap (λ (q : Grown). length q.procs) same, ok.filled, s.procs);
      stmts = omega (arith, ap (λ (q : Grown). length q.stmts) same, ok.filled, s.stmts);
      blocks = omega (arith, ap (λ (q : Grown). length q.blocks) same, ap (λ (q : Grown). length q.stmts) same, s.blocks);
      exprs = omega (arith, ap (λ (q : Grown). length q.exprs) same, ok.filled, s.exprs);
    }
