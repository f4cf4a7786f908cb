-- The exit's entries, listed one after the other.
use Rattle.std.proofs.Common.{◌≡◌, ℕ, ◌+◌, ◌*◌, ◌<◌, ◌&&◌, Bool, true, false, cond, List, [], ◌∷◌, ◌++◌, length, ℤ, Option, Some, None, refl, sym, ap, ◌∙◌, arith, add-one, nat_eq}
use Rattle.std.specs.Prelude.{IfSome}
use Rattle.std.specs.List.{All}
use Rattle.std.proofs.lemmas.Bool.{cond-true, cond-false, eq-eqb, ne_eqb}
use Rattle.oct_def.specs.Bound.{Bound, least, bound_of}
use Rattle.oct_def.specs.Table.{Matrix, at}
use Rattle.oct_def.proofs.Orders.{least_comm, least_none, least_assoc}
use Rattle.oct_def.proofs.Tables.{at-table}
use Rattle.interval_form.specs.declared.constraints.OctBound.{OctBound}
use Rattle.interval_form.specs.Listed.{IsPlaced}
use Rattle.interval_form.specs.Listing.{is_at, listed}
use Rattle.transfer_def.specs.Back.{least_below, joined_dimension, brought_from, brought_in_row, brought_entry}
use Rattle.block_laws.proofs.Assembly.{length-assembly}
use Rattle.dec_oct.specs.Value.{Blocks, whole}
use Rattle.dec_calls.specs.Brought.{off_diagonal, without_diagonal, standing, ListsRow, AreBrought}

-- ---- a matrix without its diagonal

pub diagonal-same : (m : Matrix) (i j : ℕ) → i ≡ j → off_diagonal m i j ≡ None
unfolding off_diagonal
diagonal-same m i j e = cond-true _ _ _ (eq-eqb i j e)

pub diagonal-other : (m : Matrix) (i j : ℕ) → (i ≡ j → ⊥) → off_diagonal m i j ≡ at m i j
unfolding off_diagonal
diagonal-other m i j d = cond-false _ _ _ (ne_eqb i j d)

pub diagonal-none : (n i j : ℕ) (o : Option Blocks) → i ≡ j → IfSome o (λ e. None ≡ off_diagonal (whole n e) i j)
diagonal-none n i j None e = tt
diagonal-none n i j (Some b) e = sym (diagonal-same (whole n b) i j e)

pub at-without : (m : Matrix) (i j : ℕ) → i < length m → j < length m → at (without_diagonal m) i j ≡ off_diagonal m i j
unfolding without_diagonal
at-without m i j p q = at-table (length m) (off_diagonal m) i j p q

-- ---- one bound more

standing-none : (i j p q : ℕ) → standing i j None p q ≡ None
unfolding standing
standing-none i j p q = by (nat_eq i p && nat_eq j q)
  where
    by : (t : Bool) → cond {A = Bound} t None None ≡ None
    by true = refl
    by false = refl

pub listed-nothing : (bs : List OctBound) (i j p q : ℕ) (b : Bound) → b ≡ None → listed bs p q ≡ least (listed bs p q) (standing i j b p q)
listed-nothing bs i j p q b e = sym (ap (λ t. least (listed bs p q) (standing i j t p q)) e ∙ ap (least (listed bs p q)) (standing-none i j p q) ∙ least_none (listed bs p q))

standing-at : (x : OctBound) (p q : ℕ) → listed (x ∷ []) p q ≡ standing x.row x.column (bound_of x.word) p q
unfolding standing
standing-at x p q = by (nat_eq x.row p) (nat_eq x.column q)
  where
    by : (s t : Bool) → cond (cond s t false) (least (bound_of x.word) None) None ≡ cond (s && t) (bound_of x.word) None
    by true true = least_none (bound_of x.word)
    by true false = refl
    by false t = refl

pub listed-pushed : (bs : List OctBound) (x : OctBound) (p q : ℕ) → listed (bs ++ x ∷ []) p q ≡ least (listed bs p q) (standing x.row x.column (bound_of x.word) p q)
listed-pushed [] x p q = standing-at x p q
listed-pushed (b ∷ bs) x p q = by (is_at b p q) (listed-pushed bs x p q)
  where
    by : (t : Bool) → listed (bs ++ x ∷ []) p q ≡ least (listed bs p q) (standing x.row x.column (bound_of x.word) p q)
        → cond t (least (bound_of b.word) (listed (bs ++ x ∷ []) p q)) (listed (bs ++ x ∷ []) p q)
        ≡ least (cond t (least (bound_of b.word) (listed bs p q)) (listed bs p q)) (standing x.row x.column (bound_of x.word) p q)
    by true e = ap (least (bound_of b.word)) e ∙ sym (least_assoc (bound_of b.word) (listed bs p q) _)
    by false e = e

-- ---- a row

-- the first j entries of a row of x behind a list
pub record IsRowTo (n : ℕ) (args : List ℕ) (outputs : ℕ) (exit : Matrix) (i j : ℕ) (old new : List OctBound) : Type 0 where
  pub placed : All (IsPlaced (n + outputs)) old → All (IsPlaced (n + outputs)) new
  pub entries : (p q : ℕ) → listed new p q ≡ least (listed old p q) (least_below j (brought_from n args (without_diagonal exit) p q i))

pub row-start : (n : ℕ) (args : List ℕ) (outputs d i : ℕ) (o : Option Blocks) (bs : List OctBound) → IfSome o (λ e. IsRowTo n args outputs (whole d e) i 0 bs bs)
unfolding least_below
row-start n args outputs d i None bs = tt
row-start n args outputs d i (Some e) bs = record { placed = λ h. h; entries = λ p q. sym (least_none (listed bs p q)) }

last_first : (a b c : Bound) → least (least a b) c ≡ least a (least c b)
last_first a b c = least_assoc a b c ∙ ap (least a) (least_comm b c)

from-standing : (n : ℕ) (args : List ℕ) (exit : Matrix) (p q i j r c : ℕ) (b : Bound) → i < length exit → j < length exit → r ≡ joined_dimension n args i → c ≡ joined_dimension n args j → b ≡ off_diagonal exit i j
    → standing r c b p q ≡ brought_from n args (without_diagonal exit) p q i j
unfolding standing brought_from
from-standing n args exit p q i j r c b pi pj er ec eb =
    ap (λ t. cond (nat_eq t p && nat_eq c q) b None) er
    ∙ ap (λ t. cond (nat_eq (joined_dimension n args i) p && nat_eq t q) b None) ec
    ∙ ap (λ t. cond (nat_eq (joined_dimension n args i) p && nat_eq (joined_dimension n args j) q) t None) (eb ∙ sym (at-without exit i j pi pj))

-- one entry more
pub row-more : (n : ℕ) (args : List ℕ) (outputs d i j r c : ℕ) (w : ℤ) (o : Option Blocks) (old now next : List OctBound) → i < 2 * d → j < 2 * d → i < 2 * (length args + outputs) → j < 2 * (length args + outputs)
    → r ≡ joined_dimension n args i → ((k : ℕ) → i < 2 * (length args + k) → r < 2 * (n + k))
    → c ≡ joined_dimension n args j → ((k : ℕ) → j < 2 * (length args + k) → c < 2 * (n + k))
    → IfSome o (λ e. bound_of w ≡ off_diagonal (whole d e) i j)
    → ((m : ℕ) → r < 2 * m → c < 2 * m → All (IsPlaced m) now → All (IsPlaced m) next)
    → ((p q : ℕ) → listed next p q ≡ least (listed now p q) (standing r c (bound_of w) p q))
    → IfSome o (λ e. IsRowTo n args outputs (whole d e) i j old now) → IfSome o (λ e. IsRowTo n args outputs (whole d e) i (j + 1) old next)
unfolding least_below
row-more n args outputs d i j r c w None old now next pi pj si sj er ri ec ci eb placed entries h = tt
row-more n args outputs d i j r c w (Some e) old now next pi pj si sj er ri ec ci eb placed entries h =
    let rows = length-assembly d e.partition e.matrices in
    let below : ℕ → ℕ → Bound = λ p q. least_below j (brought_from n args (without_diagonal (whole d e)) p q i) in
    record {
      placed = λ all. placed (n + outputs) (ri outputs si) (ci outputs sj) (h.placed all);
      entries = λ p q. entries p q ∙ ap (λ t. least t (standing r c (bound_of w) p q)) (h.entries p q) ∙ last_first (listed old p q) (below p q) (standing r c (bound_of w) p q)
          ∙ ap (λ t. least (listed old p q) (least t (below p q))) (from-standing n args (whole d e) p q i j r c (bound_of w) (omega arith) (omega arith) er ec eb)
          ∙ rw add-one refl;
    }

-- all of them
pub row-end : (n : ℕ) (args : List ℕ) (outputs d i j : ℕ) (o : Option Blocks) (old new : List OctBound) → j ≡ 2 * (length args + outputs) → IfSome o (λ e. IsRowTo n args outputs (whole d e) i j old new)
    → IfSome o (λ e. ListsRow n args outputs (whole d e) i old new)
unfolding brought_in_row
row-end n args outputs d i j None old new t h = tt
row-end n args outputs d i j (Some e) old new t h = record {
  placed = h.placed;
  entries = λ p q. h.entries p q ∙ ap (λ k. least (listed old p q) (least_below k (brought_from n args (without_diagonal (whole d e)) p q i))) t;
}

-- ---- all rows

-- the first i rows
pub record AreRowsTo (n : ℕ) (args : List ℕ) (outputs : ℕ) (exit : Matrix) (i : ℕ) (bounds : List OctBound) : Type 0 where
  pub placed : All (IsPlaced (n + outputs)) bounds
  pub entries : (p q : ℕ) → listed bounds p q ≡ least_below i (brought_in_row n args outputs (without_diagonal exit) p q)

pub rows-start : (n : ℕ) (args : List ℕ) (outputs d : ℕ) (o : Option Blocks) (bs : List OctBound) → bs ≡ [] → IfSome o (λ e. AreRowsTo n args outputs (whole d e) 0 bs)
unfolding least_below
rows-start n args outputs d None bs f = tt
rows-start n args outputs d (Some e) bs f = record { placed = λ k x p. absurd (let l = ap length f in omega arith); entries = λ p q. ap (λ t. listed t p q) f }

pub rows-more : (n : ℕ) (args : List ℕ) (outputs d i : ℕ) (o : Option Blocks) (now next : List OctBound) → IfSome o (λ e. ListsRow n args outputs (whole d e) i now next) → IfSome o (λ e. AreRowsTo n args outputs (whole d e) i now) → IfSome o (λ e. AreRowsTo n args outputs (whole d e) (i + 1) next)
unfolding least_below
rows-more n args outputs d i None now next r h = tt
rows-more n args outputs d i (Some e) now next r h = record {
  placed = r.placed h.placed;
  entries = λ p q. r.entries p q ∙ ap (λ t. least t (brought_in_row n args outputs (without_diagonal (whole d e)) p q i)) (h.entries p q) ∙ least_comm (least_below i (brought_in_row n args outputs (without_diagonal (whole d e)) p q)) (brought_in_row n args outputs (without_diagonal (whole d e)) p q i) ∙ rw add-one refl;
}

pub rows-end : (n : ℕ) (args : List ℕ) (outputs d i : ℕ) (o : Option Blocks) (bs : List OctBound) → i ≡ 2 * (length args + outputs) → IfSome o (λ e. AreRowsTo n args outputs (whole d e) i bs) → IfSome o (λ e. AreBrought n args outputs (whole d e) bs)
unfolding brought_entry
rows-end n args outputs d i None bs t h = tt
rows-end n args outputs d i (Some e) bs t h = record { placed = h.placed; entries = λ p q. h.entries p q ∙ ap (λ k. least_below k (brought_in_row n args outputs (without_diagonal (whole d e)) p q)) t }
