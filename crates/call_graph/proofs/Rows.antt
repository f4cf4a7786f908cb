-- The table of reaching as the code has it, read by row and by bit.
use Rattle.std.proofs.Common.{◌≡◌, ℕ, ◌+◌, ◌<◌, Bool, Vec, Global, false, List, [], ◌∷◌, ◌++◌, length, get_or, map, sym, ap, ◌∙◌, subst, arith}
use Rattle.std.specs.List.{range_with_len}
use Rattle.std.proofs.lemmas.List.{length-map, map-append}
use Rattle.call_graph.specs.Tables.{Tables, square, bit_at}
use Rattle.call_graph.specs.Steps.{IsSquare}
use Rattle.call_graph.proofs.Closing.{length-square, row-square, bit-square, row-read, map-more, is-square}
use Rattle.std.proofs.lemmas.List.FromFn.{length-map-range_with_len}

pub rows_long : (rows : List (Vec Bool Global)) (n : ℕ) (f : ℕ → ℕ → Bool) → map (λ (r : Vec Bool Global). r.items) rows ≡ square n f → length rows ≡ n
rows_long rows n f is = sym (length-map rows (λ (r : Vec Bool Global). r.items)) ∙ ap length is ∙ length-square n f

pub row_long : (rows : List (Vec Bool Global)) (n p : ℕ) (f : ℕ → ℕ → Bool) (row : Vec Bool Global) → map (λ (r : Vec Bool Global). r.items) rows ≡ square n f → p < n → row ≡ get_or rows p row → length row.items ≡ n
row_long rows n p f row is lt at =
    ap length (sym (row-read rows p row (omega (arith, rows_long rows n f is)) at) ∙ ap (λ (m : List (List Bool)). get_or m p []) is ∙ row-square n f p lt) ∙ length-map-range_with_len (f p) 0 n

pub row_bit : (rows : List (Vec Bool Global)) (n p q : ℕ) (f : ℕ → ℕ → Bool) (row : Vec Bool Global) → map (λ (r : Vec Bool Global). r.items) rows ≡ square n f → p < n → q < n → row ≡ get_or rows p row → get_or row.items q false ≡ f p q
row_bit rows n p q f row is lp lq at =
    ap (λ (l : List Bool). get_or l q false) (sym (row-read rows p row (omega (arith, rows_long rows n f is)) at))
    ∙ ap (λ (m : List (List Bool)). bit_at m p q) is ∙ bit-square n f p q lp lq

-- one more row
pub rows_more : (f : ℕ → List Bool) (p : ℕ) (new : Vec Bool Global) (old out : List (Vec Bool Global)) → map (λ (r : Vec Bool Global). r.items) old ≡ map f (range_with_len 0 p) → out ≡ old ++ new ∷ [] → new.items ≡ f p → map (λ (r : Vec Bool Global). r.items) out ≡ map f (range_with_len 0 (p + 1))
rows_more f p new old out is now row =
    map-more f p new.items (map (λ (r : Vec Bool Global). r.items) old) (map (λ (r : Vec Bool Global). r.items) out) is
    (ap (map (λ (r : Vec Bool Global). r.items)) now ∙ map-append (λ (r : Vec Bool Global). r.items) old (new ∷ [])) row

pub is_square_table : (rows : List (Vec Bool Global)) (n : ℕ) (f : ℕ → ℕ → Bool) → map (λ (r : Vec Bool Global). r.items) rows ≡ square n f → IsSquare (map (λ (r : Vec Bool Global). r.items) rows)
is_square_table rows n f is = subst IsSquare (sym is) (is-square n f)

abbrev pub tables : List (List Bool) → List ℕ → List Bool → Tables
tables r o k = record { reached = r; order = o; cuts = k }

pub same_tables : (r s : List (List Bool)) (o p : List ℕ) (k l : List Bool) → r ≡ s → o ≡ p → k ≡ l → tables r o k ≡ tables s p l
same_tables r s o p k l a b d = ap (λ (x : List (List Bool)). tables x o k) a ∙ ap (λ (x : List ℕ). tables s x k) b ∙ ap (λ (x : List Bool). tables s p x) d
