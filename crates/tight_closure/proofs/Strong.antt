-- The strengthening, row by row.
use Rattle.std.proofs.Common.{◌≡◌, ℕ, ◌+◌, ◌*◌, ◌<◌, ◌≤◌, ◌⊎◌, inl, inr, Some, None, List, length, get_or, sym, ap, ◌∙◌, arith}
use Rattle.std.specs.Prelude.{ℤ, pos}
use Rattle.std.proofs.lemmas.Int.{ints}
use Rattle.std.proofs.Math.ListN.{set, length-set}
use Rattle.std.proofs.lemmas.List.{get_or-set_same, get_or-set_other}
use Rattle.oct_def.specs.Bound.{Bound, bound_of, word_of, least, plus, half, InRange}
use Rattle.oct_def.specs.Table.{Matrix, at}
use Rattle.oct_def.specs.Matrix.{opposite, IsSquare, IsCoherent}
use Rattle.oct_def.specs.Tight.{strong_entry, strengthening}
use Rattle.oct_def.proofs.Bounds.{half_low, half_high}
use Rattle.oct_def.proofs.Tables.{length-table, at-table}
use Rattle.oct_def.proofs.Coherent.{coherent-strengthening}
use Rattle.oct_def.proofs.WordBounds.{word_of-bound_of}
use Rattle.half_matrix.specs.Place.{row_length}
use Rattle.half_matrix.specs.Lending.{with_row}
use Rattle.minplus_lanes.specs.Rows.{IsHalfWord, AllHalves, strong_at}
use Rattle.tight_closure.specs.Halves.{IsHalvesOf}
use Rattle.tight_closure.proofs.Rows.{RowsDone, row_more, all_rows}

-- ---- halves

pub half_word_of : (w : ℤ) (b : Bound) → InRange b → bound_of w ≡ half b → IsHalfWord w
half_word_of w None h e = inl (sym (word_of-bound_of w) ∙ ap word_of e)
half_word_of w (Some x) h e =
    let same : w ≡ word_of (half (Some x)) = sym (word_of-bound_of w) ∙ ap word_of e in
    let l = half_low x in
    let g = half_high x in
    let p = h.0 in
    let q = h.1 in
    inr (omega (arith, ints), omega (arith, ints))

pub half_words_of : (m : Matrix) (hs : List ℤ) → ((i j : ℕ) → InRange (at m i j)) → IsHalvesOf m hs → AllHalves hs
half_words_of m hs r h = record { words = λ j lt. half_word_of (get_or hs j (pos 0)) (at m (opposite j) j) (r (opposite j) j) (h.words j (omega (arith, h.size))) }

pub record Halved (m : Matrix) (j : ℕ) (hs : List ℤ) : Type 0 where
  pub size : length hs ≡ length m
  pub done : (c : ℕ) → c < j → bound_of (get_or hs c (pos 0)) ≡ half (at m (opposite c) c)

pub halved_more : (m : Matrix) (j o : ℕ) (hs : List ℤ) (w : ℤ) → Halved m j hs → j < length m → o ≡ opposite j → bound_of w ≡ half (at m o j) → Halved m (j + 1) (set hs j w)
halved_more m j o hs w h lt eo e = record {
  size = length-set hs j w ∙ h.size;
  done = λ c l. by c (grind arith);
}
  where
    by : (c : ℕ) → (c ≡ j) ⊎ (c < j) → bound_of (get_or (set hs j w) c (pos 0)) ≡ half (at m (opposite c) c)
    by c (inl same) =
        ap bound_of (ap (λ t. get_or (set hs j w) t (pos 0)) same ∙ get_or-set_same hs j w (pos 0) (omega (arith, h.size))) ∙ e
        ∙ ap (λ t. half (at m t j)) eo ∙ ap (λ t. half (at m (opposite t) t)) (sym same)
    by c (inr before) = ap bound_of (get_or-set_other hs j c w (pos 0) (omega arith)) ∙ h.done c before

-- ---- the strengthening

pub strong_more : (n i o : ℕ) (m now : Matrix) (old w hs : List ℤ) (h : ℤ) → length m ≡ 2 * n → i < 2 * n → o ≡ opposite i
    → RowsDone (strong_entry m) m i now → IsHalvesOf m hs → length old ≡ row_length i → length w ≡ length old
    → ((j : ℕ) → j ≤ opposite i → bound_of (get_or old j (pos 0)) ≡ at now i j) → h ≡ get_or hs o (pos 0)
    → ((j : ℕ) → j < length old → bound_of (get_or w j (pos 0)) ≡ strong_at old h hs j)
    → RowsDone (strong_entry m) m (i + 1) (with_row now i w)
unfolding strong_at strong_entry
strong_more n i o m now old w hs h e hi eo s hv lo lw held eh strong = row_more (strong_entry m) n i m now w e hi s (lw ∙ lo) (λ c p own.
    let entry : bound_of (get_or old c (pos 0)) ≡ at m i c = held c own ∙ s.kept i c (omega arith) (omega arith) p own in
    let back : opposite o ≡ i = omega arith in
    let first : bound_of h ≡ half (at m i (opposite i)) = ap bound_of eh ∙ hv.words o (omega arith) ∙ ap (λ t. half (at m t o)) back ∙ ap (λ t. half (at m i t)) eo in
    strong c (omega arith)
    ∙ ap (λ t. least t (plus (bound_of h) (bound_of (get_or hs c (pos 0))))) entry
    ∙ ap (λ t. least (at m i c) (plus t (bound_of (get_or hs c (pos 0))))) first
    ∙ ap (λ t. least (at m i c) (plus (half (at m i (opposite i))) t)) (hv.words c p))

pub length-strengthening : (m : Matrix) → length (strengthening m) ≡ length m
unfolding strengthening
length-strengthening m = length-table (length m) (strong_entry m)

pub all_strong : (n : ℕ) (m now : Matrix) → length m ≡ 2 * n → IsCoherent m → IsSquare now → IsCoherent now → RowsDone (strong_entry m) m (2 * n) now → now ≡ strengthening m
unfolding strengthening
all_strong n m now e cm sq co s = all_rows (strong_entry m) n m now e sq co (λ i j p q. twins i j (omega arith) (omega arith) (omega arith) (omega arith)) s
  where
    twins : (i j : ℕ) → i < length m → j < length m → opposite i < length m → opposite j < length m → strong_entry m i j ≡ strong_entry m (opposite j) (opposite i)
    twins i j p q r t =
        sym (at-table (length m) (strong_entry m) i j p q)
        ∙ (coherent-strengthening n m e cm).twins i j (omega (arith, length-table (length m) (strong_entry m))) (omega (arith, length-table (length m) (strong_entry m)))
        ∙ at-table (length m) (strong_entry m) (opposite j) (opposite i) t r
