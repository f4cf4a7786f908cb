-- Values of the plain domain, from the matrices of the code.
use Rattle.std.proofs.Common.{◌≡◌, ℕ, List, Option, Some, None, length, sym, ap, ◌∙◌, subst}
use Rattle.std.specs.Option.{option_map, option_and_then}
use Rattle.oct_def.specs.Table.{Matrix}
use Rattle.oct_def.specs.Matrix.{IsEvenMatrix}
use Rattle.oct_def.specs.Tight.{tight}
use Rattle.oct_def.specs.Octagon.{Octagon, IsValueOver, bottom_value, top_value, top_matrix, tight_value, on_either, on_both, join_matrix, join_value, widen_matrix, widen_value, narrow_matrix, narrow_value}
use Rattle.oct_def.proofs.Lattice.{octagon-top, octagon-join, octagon-widen, octagon-narrow}
use Rattle.oct_def.proofs.Values.{value-tight}
use Rattle.transfer_def.specs.Dimensions.{moved}
use Rattle.transfer_def.specs.Enter.{enter_matrix, enter_value}
use Rattle.transfer_def.specs.Back.{joined, back_value}
use Rattle.transfer_def.proofs.Enter.{value-enter_value}
use Rattle.transfer_def.proofs.Back.{value-back_value}
use Rattle.full_oct.specs.Value.{octagon_of}

-- ---- top

pub top_even : (n : ℕ) (m : Matrix) → m ≡ top_matrix n → IsEvenMatrix n m
unfolding top_value
top_even n m e = subst (IsEvenMatrix n) (sym e) (octagon-top n)

pub top_is : (n : ℕ) (m : Matrix) (v : Octagon) → m ≡ top_matrix n → v ≡ octagon_of n (Some m) → v ≡ top_value n
unfolding top_value
top_is n m v e h = h ∙ ap (λ t. octagon_of n (Some t)) e

-- ---- the tight closure

pub close_bottom : (d : ℕ) (v w : Octagon) → octagon_of d None ≡ v → w ≡ bottom_value d → w ≡ tight_value v
unfolding tight_value bottom_value
close_bottom d v w e h = h ∙ ap (λ (t : Octagon). octagon_of t.dims (option_and_then tight t.matrix)) e

pub close_value : (d : ℕ) (m : Matrix) (r : Option Matrix) → IsEvenMatrix d m → r ≡ tight m → IsValueOver d r
close_value d m r h e = subst (IsValueOver d) (sym e) (value-tight d m h.matrix)

pub close_is : (d : ℕ) (m : Matrix) (r : Option Matrix) (v w : Octagon) → octagon_of d (Some m) ≡ v → r ≡ tight m → w ≡ octagon_of d r → w ≡ tight_value v
unfolding tight_value
close_is d m r v w e t h = h ∙ ap (octagon_of d) t ∙ ap (λ (u : Octagon). octagon_of u.dims (option_and_then tight u.matrix)) e

-- ---- the lattice

-- what an operation makes of Bottom and another value, of a matrix and Bottom, and of two matrices
pub either_first : (f : Matrix → Matrix → Matrix) (d : ℕ) (a b v : Octagon) → octagon_of d None ≡ a → a.dims ≡ b.dims → v ≡ b → v ≡ octagon_of a.dims (on_either f a.matrix b.matrix)
either_first f d a b v ea h e =
    e ∙ ap (λ k. octagon_of k b.matrix) (sym h ∙ sym (ap (λ (t : Octagon). t.dims) ea)) ∙ ap (λ (t : Octagon). octagon_of t.dims (on_either f t.matrix b.matrix)) ea

pub either_second : (f : Matrix → Matrix → Matrix) (d e : ℕ) (m : Matrix) (a b v : Octagon) → octagon_of d (Some m) ≡ a → octagon_of e None ≡ b → v ≡ a → v ≡ octagon_of a.dims (on_either f a.matrix b.matrix)
either_second f d e m a b v ea eb h =
    h ∙ sym ea ∙ ap (λ (t : Octagon). octagon_of d (on_either f (Some m) t.matrix)) eb ∙ ap (λ (t : Octagon). octagon_of t.dims (on_either f t.matrix b.matrix)) ea

pub either_matrix : (f : Matrix → Matrix → Matrix) (d e : ℕ) (m n r : Matrix) (a b v : Octagon) → octagon_of d (Some m) ≡ a → octagon_of e (Some n) ≡ b → r ≡ f m n → v ≡ octagon_of d (Some r) → v ≡ octagon_of a.dims (on_either f a.matrix b.matrix)
either_matrix f d e m n r a b v ea eb er h =
    h ∙ ap (λ t. octagon_of d (Some t)) er ∙ ap (λ (t : Octagon). octagon_of d (on_either f (Some m) t.matrix)) eb ∙ ap (λ (t : Octagon). octagon_of t.dims (on_either f t.matrix b.matrix)) ea

pub both_matrix : (f : Matrix → Matrix → Matrix) (d e : ℕ) (m n r : Matrix) (a b v : Octagon) → octagon_of d (Some m) ≡ a → octagon_of e (Some n) ≡ b → r ≡ f m n → v ≡ octagon_of d (Some r) → v ≡ octagon_of a.dims (on_both f a.matrix b.matrix)
both_matrix f d e m n r a b v ea eb er h =
    h ∙ ap (λ t. octagon_of d (Some t)) er ∙ ap (λ (t : Octagon). octagon_of d (on_both f (Some m) t.matrix)) eb ∙ ap (λ (t : Octagon). octagon_of t.dims (on_both f t.matrix b.matrix)) ea

pub both_first : (f : Matrix → Matrix → Matrix) (d : ℕ) (a b v : Octagon) → octagon_of d None ≡ a → v ≡ bottom_value d → v ≡ octagon_of a.dims (on_both f a.matrix b.matrix)
unfolding bottom_value
both_first f d a b v ea h = h ∙ ap (λ (t : Octagon). octagon_of t.dims (on_both f t.matrix b.matrix)) ea

pub both_second : (f : Matrix → Matrix → Matrix) (d e : ℕ) (m : Matrix) (a b v : Octagon) → octagon_of d (Some m) ≡ a → octagon_of e None ≡ b → v ≡ bottom_value d → v ≡ octagon_of a.dims (on_both f a.matrix b.matrix)
unfolding bottom_value
both_second f d e m a b v ea eb h =
    h ∙ ap (λ (t : Octagon). octagon_of d (on_both f (Some m) t.matrix)) eb ∙ ap (λ (t : Octagon). octagon_of t.dims (on_both f t.matrix b.matrix)) ea

-- such matrices are values
same_dims : (d e : ℕ) (n : Matrix) (a b : Octagon) (m : Matrix) → octagon_of d (Some m) ≡ a → octagon_of e (Some n) ≡ b → a.dims ≡ b.dims → d ≡ e
same_dims d e n a b m ea eb h = ap (λ (t : Octagon). t.dims) ea ∙ h ∙ sym (ap (λ (t : Octagon). t.dims) eb)

pub join_even : (d e : ℕ) (m n r : Matrix) (a b : Octagon) → octagon_of d (Some m) ≡ a → octagon_of e (Some n) ≡ b → a.dims ≡ b.dims → IsEvenMatrix d m → IsEvenMatrix e n → r ≡ join_matrix m n → IsEvenMatrix d r
unfolding join_value
join_even d e m n r a b ea eb h hm hn er =
    subst (IsEvenMatrix d) (sym er) (octagon-join (octagon_of d (Some m)) (octagon_of e (Some n)) hm hn (same_dims d e n a b m ea eb h))

pub widen_even : (d e : ℕ) (m n r : Matrix) (a b : Octagon) → octagon_of d (Some m) ≡ a → octagon_of e (Some n) ≡ b → a.dims ≡ b.dims → IsEvenMatrix d m → IsEvenMatrix e n → r ≡ widen_matrix m n → IsEvenMatrix d r
unfolding widen_value
widen_even d e m n r a b ea eb h hm hn er =
    subst (IsEvenMatrix d) (sym er) (octagon-widen (octagon_of d (Some m)) (octagon_of e (Some n)) hm hn (same_dims d e n a b m ea eb h))

pub narrow_even : (d e : ℕ) (m n r : Matrix) (a b : Octagon) → octagon_of d (Some m) ≡ a → octagon_of e (Some n) ≡ b → a.dims ≡ b.dims → IsEvenMatrix d m → IsEvenMatrix e n → r ≡ narrow_matrix m n → IsEvenMatrix d r
unfolding narrow_value
narrow_even d e m n r a b ea eb h hm hn er =
    subst (IsEvenMatrix d) (sym er) (octagon-narrow (octagon_of d (Some m)) (octagon_of e (Some n)) hm hn (same_dims d e n a b m ea eb h))

-- ---- calls and returns

pub enter_bottom : (d k : ℕ) (args : List ℕ) (v w : Octagon) → octagon_of d None ≡ v → w ≡ bottom_value k → w ≡ enter_value v args k
unfolding enter_value bottom_value
enter_bottom d k args v w e h = h ∙ ap (λ (t : Octagon). octagon_of k (option_map (enter_matrix args k) t.matrix)) e

pub enter_even : (d k : ℕ) (args : List ℕ) (m r : Matrix) → IsEvenMatrix d m → r ≡ enter_matrix args k m → IsEvenMatrix k r
unfolding enter_value
enter_even d k args m r h e = subst (IsEvenMatrix k) (sym e) (value-enter_value (octagon_of d (Some m)) args k h)

pub enter_is : (d k : ℕ) (args : List ℕ) (m r : Matrix) (v w : Octagon) → octagon_of d (Some m) ≡ v → r ≡ enter_matrix args k m → w ≡ octagon_of k (Some r) → w ≡ enter_value v args k
unfolding enter_value
enter_is d k args m r v w e er h = h ∙ ap (λ t. octagon_of k (Some t)) er ∙ ap (λ (t : Octagon). octagon_of k (option_map (enter_matrix args k) t.matrix)) e

-- the matrix after the call, from those before it and at the exit
abbrev back_matrix : ℕ → List ℕ → ℕ → List ℕ → Option Matrix → Option Matrix → Option Matrix
back_matrix d args outputs targets m x = option_map (moved d targets) (option_and_then tight (on_both (joined d args outputs) m x))

pub back_first : (d : ℕ) (args : List ℕ) (outputs : ℕ) (targets : List ℕ) (a b v : Octagon) → octagon_of d None ≡ a → v ≡ bottom_value d → v ≡ back_value a b args outputs targets
unfolding back_value bottom_value
back_first d args outputs targets a b v ea h = h ∙ ap (λ (t : Octagon). octagon_of t.dims (back_matrix t.dims args outputs targets t.matrix b.matrix)) ea

pub back_second : (d e : ℕ) (m : Matrix) (args : List ℕ) (outputs : ℕ) (targets : List ℕ) (a b v : Octagon) → octagon_of d (Some m) ≡ a → octagon_of e None ≡ b → v ≡ bottom_value d → v ≡ back_value a b args outputs targets
unfolding back_value bottom_value
back_second d e m args outputs targets a b v ea eb h =
    h ∙ ap (λ (t : Octagon). octagon_of d (back_matrix d args outputs targets (Some m) t.matrix)) eb
    ∙ ap (λ (t : Octagon). octagon_of t.dims (back_matrix t.dims args outputs targets t.matrix b.matrix)) ea

pub back_even : (d e : ℕ) (m x j : Matrix) (r : Option Matrix) (args : List ℕ) (outputs : ℕ) (targets : List ℕ) → IsEvenMatrix d m → IsEvenMatrix e x → length targets ≡ outputs → j ≡ joined d args outputs m x → r ≡ option_map (moved d targets) (tight j) → IsValueOver d r
unfolding back_value
back_even d e m x j r args outputs targets hm hx h ej er =
    subst (IsValueOver d) (sym (er ∙ ap (λ k. option_map (moved d targets) (tight k)) ej))
    (value-back_value (octagon_of d (Some m)) (octagon_of e (Some x)) args outputs targets h hm hx)

pub back_is : (d e : ℕ) (m x j : Matrix) (r : Option Matrix) (args : List ℕ) (outputs : ℕ) (targets : List ℕ) (a b v : Octagon) → octagon_of d (Some m) ≡ a → octagon_of e (Some x) ≡ b → j ≡ joined d args outputs m x → r ≡ option_map (moved d targets) (tight j) → v ≡ octagon_of d r → v ≡ back_value a b args outputs targets
unfolding back_value
back_is d e m x j r args outputs targets a b v ea eb ej er h =
    h ∙ ap (octagon_of d) (er ∙ ap (λ k. option_map (moved d targets) (tight k)) ej)
    ∙ ap (λ (t : Octagon). octagon_of d (back_matrix d args outputs targets (Some m) t.matrix)) eb
    ∙ ap (λ (t : Octagon). octagon_of t.dims (back_matrix t.dims args outputs targets t.matrix b.matrix)) ea
