-- The parser over all tokens.
use Rattle.std.proofs.Common.{◌≡◌, ℕ, ◌+◌, ◌<◌, ◌≤◌, ◌^◌, List, [], ◌∷◌, ◌++◌, length, take, drop, Option, Some, None, Ok, Err, refl, sym, ap, ◌∙◌, subst, arith, option_and_then, suc, zero, All}
use Rattle.std.proofs.Math.Seq.{take-length}
use Rattle.std.proofs.lemmas.List.Elements.{All-get_or}
use Rattle.spl_text.specs.declared.token.Token.{Token}
use Rattle.spl_text.specs.TokenList.{token_at, AreTokens}
use Rattle.spl_text.specs.Spans.{IsTokenOf}
use Rattle.spl_tree.specs.declared.parts.MainTree.{MainTree}
use Rattle.spl_tree.specs.Lists.{Lists}
use Rattle.spl_tree.specs.Facts.{IsTree}
use Rattle.spl_tree.specs.Meaning.{program_of}
use Rattle.spl_parser.specs.declared.state.State.{State}
use Rattle.spl_parser.specs.declared.state.State.TheVariants as state
use Rattle.spl_parser.specs.declared.state.Head.TheVariants as head
use Rattle.spl_parser.specs.declared.state.Stop.{Stop}
use Rattle.spl_parser.specs.declared.state.Stop.TheVariants as stop
use Rattle.spl_parser.specs.Growth.{Grown, grown}
use Rattle.spl_parser.specs.Machine as m
use Rattle.spl_parser.specs.Trees.{trees}
use Rattle.spl_parser.specs.View.{Steps, Stops, state_of, next_of}
use Rattle.spl_parser.specs.Derives.{Derives, SyntaxAt}
use Rattle.spl_parser.specs.Reading.{no_lists, HasRead}
use Rattle.spl_parser.proofs.Expressions.{then_run}
use Rattle.spl_parser.proofs.Growths.{tree-with_main}
use Rattle.spl_parser.proofs.Laws.{derived, faulty_at, faulty_at_end, NotDone}

-- what the loop keeps: the offset up to which was read is no later than the next token
pub record Reads (source : List ℕ) (tokens : List Token) (k : ℕ) (t : Lists) (s : State) : Type 0 where
  pub upto : ℕ
  pub read : HasRead source tokens k upto t s
  pub next : k < length tokens → upto ≤ (token_at tokens k).start
  pub within : upto ≤ 2 ^ 20

-- tokens before, at and after a place
split_at : (ts : List Token) (k : ℕ) → k < length ts → ts ≡ take k ts ++ token_at ts k ∷ drop (suc k) ts
split_at [] k lt = absurd (omega arith)
split_at (x ∷ ts) zero lt = refl
split_at (x ∷ ts) (suc k) lt = ap (λ l. x ∷ l) (split_at ts k (omega arith))

take_more : (ts : List Token) (k : ℕ) → k < length ts → take (suc k) ts ≡ take k ts ++ token_at ts k ∷ []
take_more [] k lt = absurd (omega arith)
take_more (x ∷ ts) zero lt = refl
take_more (x ∷ ts) (suc k) lt = ap (λ l. x ∷ l) (take_more ts k (omega arith))

plus_one : (k : ℕ) → k + 1 ≡ suc k
plus_one k = omega arith

-- no parts are those of a tree
tree-none : IsTree no_lists
tree-none = record {
  few = record { letters = omega arith; names = omega arith; decls = omega arith; procs = omega arith; exprs = omega arith; stmts = omega arith; name_items = omega arith; stmt_items = omega arith };
  placed = record { decl_count = refl; proc_count = refl; expr_count = refl; stmt_count = refl; name_item_count = refl; decls = λ k d lt. absurd (omega arith); procs = λ k d lt. absurd (omega arith); exprs = λ k d lt. absurd (omega arith); stmts = λ k d lt. absurd (omega arith); name_items = λ k d lt. absurd (omega arith); main = omega arith };
  in_range = record { names = λ k d lt. absurd (omega arith); decls = λ k d lt. absurd (omega arith); procs = λ k d lt. absurd (omega arith); exprs = λ k d lt. absurd (omega arith); stmts = λ k d lt. absurd (omega arith); name_items = λ k d lt. absurd (omega arith); stmt_items = λ k d lt. absurd (omega arith); locals = omega arith; body = record { span = omega arith; before = λ i d lo hi. absurd (omega arith) } };
}

-- before the first token
none_read : (source : List ℕ) (tokens : List Token) → Reads source tokens 0 no_lists (state.Start head.Main)
unfolding grown
none_read source tokens = record {
  upto = 0;
  read = record {
    runs = refl;
    ready = record { tree = tree-none; small = record { letters = omega arith; names = omega arith; named = omega arith; decls = omega arith; procs = omega arith; stmts = omega arith; blocks = omega arith; exprs = omega arith }; there = tt };
  };
  next = λ lt. omega arith;
  within = omega arith;
}

pub reads_none : (source : List ℕ) (tokens : List Token) (t : Lists) → t ≡ no_lists → Reads source tokens 0 t (state.Start head.Main)
reads_none source tokens t e = let P : Lists → Type 0 = λ x. Reads source tokens 0 x (state.Start head.Main) in subst P (sym e) (none_read source tokens)

-- a token of the text ends inside it
pub ends_inside : (source : List ℕ) (tokens : List Token) (k : ℕ) (token : Token) → token ≡ token_at tokens k → k < length tokens → All (IsTokenOf source) tokens → token.end ≤ length source
ends_inside source tokens k token e lt h = omega (arith, (All-get_or (IsTokenOf source) tokens k (token_at [] 0) lt h).within, ap (λ (x : Token). x.end) e)

-- one more token
pub reads_more : (source : List ℕ) (tokens : List Token) (k : ℕ) (t t' : Lists) (s s' : State) (token : Token) → token ≡ token_at tokens k → k < length tokens → AreTokens tokens → Reads source tokens k t s → Steps source t s token t' (Ok s') → Reads source tokens (k + 1) t' s'
reads_more source tokens k t t' s s' token e lt h r st =
    let at : next_of source (grown t) s (token_at tokens k) ≡ Some (state_of source (grown t') s') = ap (λ x. next_of source (grown t) s x) (sym e) ∙ st.goes in
    let one : m.run (trees source) (state_of source (grown t) s) (token_at tokens k ∷ []) ≡ Some (state_of source (grown t') s') = ap (λ o. option_and_then (λ x. m.run (trees source) x []) o) at in
    record {
      upto = token.end;
      read = record {
        runs = ap (λ j. m.run (trees source) (m.initial (trees source)) (take j tokens)) (plus_one k) ∙ (ap (λ l. m.run (trees source) (m.initial (trees source)) l) (take_more tokens k lt) ∙ then_run (trees source) (m.initial (trees source)) (state_of source (grown t) s) (take k tokens) (token_at tokens k ∷ []) (Some (state_of source (grown t') s')) r.read.runs one);
        ready = st.ready;
      };
      next = λ lt'. omega (arith, h.ordered k lt', ap (λ (x : Token). x.end) e);
      within = omega (arith, h.within k lt, ap (λ (x : Token). x.end) e);
    }

-- a token that can't follow
pub reads_fault : (source : List ℕ) (tokens : List Token) (k : ℕ) (t t' : Lists) (s : State) (token : Token) → token ≡ token_at tokens k → k < length tokens → Reads source tokens k t s → Steps source t s token t' (Err stop.Syntax) → SyntaxAt (length source) tokens token.start
reads_fault source tokens k t t' s token e lt r st =
    let at : next_of source (grown t) s (token_at tokens k) ≡ None = ap (λ x. next_of source (grown t) s x) (sym e) ∙ st in
    let here = faulty_at source (length source) (take k tokens) (token_at tokens k) (drop (suc k) tokens) (state_of source (grown t) s) r.read.runs at in
    let P : List Token → Type 0 = λ l. SyntaxAt (length source) l (token_at tokens k).start in
    let Q : ℕ → Type 0 = λ x. SyntaxAt (length source) tokens x in
    subst Q (ap (λ (x : Token). x.start) (sym e)) (subst P (sym (split_at tokens k lt)) here)

-- a step that stops with a syntax error has nowhere to go
pub stops_with : {S : Type 0} (e : Stop) (next : Option S) → e ≡ stop.Syntax → Stops next e → next ≡ None
stops_with {S} e next is h = let P : Stop → Type 0 = λ x. Stops next x in subst P is h

-- all tokens
whole_run : (source : List ℕ) (tokens : List Token) (n : ℕ) (t : Lists) (s : State) → HasRead source tokens (length tokens) n t s → m.run (trees source) (m.initial (trees source)) tokens ≡ Some (state_of source (grown t) s)
whole_run source tokens n t s h = ap (λ l. m.run (trees source) (m.initial (trees source)) l) (sym (take-length tokens)) ∙ h.runs

-- the parts with what main is
abbrev pub with_main : Lists → MainTree → ℕ → Lists
with_main t x b = record t { main = x; main_begin = b }

finished_read : (source : List ℕ) (tokens : List Token) (n : ℕ) (t : Lists) (s : State) (x : MainTree) (b : ℕ) → s ≡ state.Finished x b → HasRead source tokens (length tokens) n t s → HasRead source tokens (length tokens) n t (state.Finished x b)
finished_read source tokens n t s x b e h = let P : State → Type 0 = λ y. HasRead source tokens (length tokens) n t y in subst P e h

pub whole_tree : (source : List ℕ) (tokens : List Token) (n : ℕ) (t : Lists) (s : State) (x : MainTree) (b : ℕ) → s ≡ state.Finished x b → HasRead source tokens (length tokens) n t s → IsTree (with_main t x b)
whole_tree source tokens n t s x b e h = let there = (finished_read source tokens n t s x b e h).ready.there in tree-with_main t x b h.ready.tree there.0 there.1 there.2

whole_run_tree : (source : List ℕ) (tokens : List Token) (n : ℕ) (t : Lists) (x : MainTree) (b : ℕ) → HasRead source tokens (length tokens) n t (state.Finished x b) → Derives source tokens (program_of (with_main t x b))
unfolding grown program_of
whole_run_tree source tokens n t x b h = derived source tokens (program_of (with_main t x b)) (whole_run source tokens n t (state.Finished x b) h)

pub whole_derived : (source : List ℕ) (tokens : List Token) (n : ℕ) (t u : Lists) (s : State) (x : MainTree) (b : ℕ) → s ≡ state.Finished x b → u ≡ with_main t x b → HasRead source tokens (length tokens) n t s → Derives source tokens (program_of u)
whole_derived source tokens n t u s x b e f h = let P : Lists → Type 0 = λ y. Derives source tokens (program_of y) in subst P (sym f) (whole_run_tree source tokens n t x b (finished_read source tokens n t s x b e h))

-- a program that isn't at its end
not_done : (source : List ℕ) (r : Grown) (s : State) → ((x : MainTree) (b : ℕ) → s ≡ state.Finished x b → ⊥) → NotDone (state_of source r s)
not_done source r (state.Start h) never = tt
not_done source r (state.Begin h vs) never = tt
not_done source r state.ProcWord never = tt
not_done source r (state.ProcName n) never = tt
not_done source r (state.DeclOpen g) never = tt
not_done source r (state.DeclNext g b) never = tt
not_done source r (state.DeclName g b n) never = tt
not_done source r (state.DeclColon g b n) never = tt
not_done source r (state.DeclAfter g first) never = tt
not_done source r (state.InputsAfter n ins) never = tt
not_done source r (state.ReturnsWord n ins) never = tt
not_done source r (state.InBlock b) never = tt
not_done source r (state.Single b w) never = tt
not_done source r (state.Target b x) never = tt
not_done source r (state.AssignStart b x) never = tt
not_done source r (state.AssignName b x n) never = tt
not_done source r (state.Want x) never = tt
not_done source r (state.Have x a) never = tt
not_done source r (state.NamesOpen b g) never = tt
not_done source r (state.NamesNext b g first) never = tt
not_done source r (state.NamesAfter b g first) never = tt
not_done source r (state.TargetsAfter b o ns) never = tt
not_done source r (state.Called b ts) never = tt
not_done source r (state.CalledName b h) never = tt
not_done source r (state.CallAfter b h ns) never = tt
not_done source r (state.AfterEnd b c) never = tt
not_done source r (state.Finished t b) never = never t b refl

pub open_fault : (source : List ℕ) (tokens : List Token) (n : ℕ) (t : Lists) (s : State) → HasRead source tokens (length tokens) n t s → ((x : MainTree) (b : ℕ) → s ≡ state.Finished x b → ⊥) → SyntaxAt (length source) tokens (length source)
open_fault source tokens n t s h never = faulty_at_end source (length source) tokens (state_of source (grown t) s) (whole_run source tokens n t s h) (not_done source (grown t) s never)
