-- A step in each state, from the step of that state.
use Rattle.std.proofs.Common.{◌≡◌, ℕ, List, refl, sym, subst, Result, None}
use Rattle.spl_text.specs.declared.token.Token.{Token}
use Rattle.spl_tree.specs.Lists.{Lists}
use Rattle.spl_tree.specs.declared.parts.MainTree.{MainTree}
use Rattle.spl_parser.specs.declared.state.State.{State}
use Rattle.spl_parser.specs.declared.state.Stop.{Stop}
use Rattle.spl_parser.specs.declared.state.State.TheVariants as state
use Rattle.spl_parser.specs.Growth.{grown}
use Rattle.spl_parser.specs.Machine.{step}
use Rattle.spl_parser.specs.View.{Ready, TokenIn, Steps, Follows, next_of}

pub steps_arm : (source : List ℕ) (t t' : Lists) (token : Token) (s s' : State) (r : Result State Stop) → s ≡ s' → Steps source t s' token t' r → Steps source t s token t' r
steps_arm source t t' token s s' r e h = subst (λ x. Steps source t x token t' r) (sym e) h

pub follow_arm : (source : List ℕ) (t : Lists) (token : Token) (s s' : State) (r : Result State Stop) → s ≡ s' → Follows s' token r → Ready token.start t s → TokenIn token → Steps source t s token t r
follow_arm source t token s s' r e f ready ok = steps_arm source t t token s s' r e (f source t (subst (λ x. Ready token.start t x) e ready) ok)

pub finished_arm : (source : List ℕ) (t : Lists) (token : Token) (s : State) (x : MainTree) (y : ℕ) → s ≡ state.Finished x y → next_of source (grown t) s token ≡ None
unfolding step
finished_arm source t token s x y e = subst (λ z. next_of source (grown t) z token ≡ None) (sym e) refl
