-- The steps of the closure on tables of bits.
use Rattle.std.proofs.Common.{Vec, Global, ◌≡◌, ℕ, suc, ◌+◌, ◌<◌, Bool, false, ◌&&◌, ◌||◌, List, [], ◌∷◌, ◌++◌, length, get_or, map, refl, sym, ap, ◌∙◌, subst, arith}
use Rattle.std.specs.List.{range_with_len}
use Rattle.std.proofs.lemmas.List.{get_or-map, length-map, map-append}
use Rattle.std.proofs.lemmas.List.FromFn.{length-map-range_with_len, get_or-map-range_with_len, fill_by_all, map-range_with_len_more}
use Rattle.spl_core.specs.Graph.{Graph}
use Rattle.call_graph.specs.Reach.{calls_directly, reaches_below, reaches}
use Rattle.call_graph.specs.Tables.{square, bit_at}
use Rattle.call_graph.specs.Steps.{IsSquare, bit_over, row_over, step_bits}

map-same : {X : Type 0} → (f u : ℕ → X) (n : ℕ) (d : X) → ((i : ℕ) → i < n → f i ≡ u i) → map f (range_with_len 0 n) ≡ map u (range_with_len 0 n)
map-same f u n d same = fill_by_all u (map f (range_with_len 0 n)) n d (length-map-range_with_len f 0 n) (λ i h. get_or-map-range_with_len f 0 n i i d h (omega arith) ∙ same i h)

pub length-square : (n : ℕ) (f : ℕ → ℕ → Bool) → length (square n f) ≡ n
unfolding square
length-square n f = length-map-range_with_len (λ p. map (f p) (range_with_len 0 n)) 0 n

pub row-square : (n : ℕ) (f : ℕ → ℕ → Bool) (p : ℕ) → p < n → get_or (square n f) p [] ≡ map (f p) (range_with_len 0 n)
unfolding square
row-square n f p h = get_or-map-range_with_len (λ k. map (f k) (range_with_len 0 n)) 0 n p p [] h (omega arith)

pub bit-square : (n : ℕ) (f : ℕ → ℕ → Bool) (p q : ℕ) → p < n → q < n → bit_at (square n f) p q ≡ f p q
bit-square n f p q hp hq = ap (λ (row : List Bool). get_or row q false) (row-square n f p hp) ∙ get_or-map-range_with_len (f p) 0 n q q false hq (omega arith)

step-entry : (n k p q : ℕ) (f u : ℕ → ℕ → Bool) → p < n → k < n → q < n → u p q ≡ (f p q || (f p k && f k q)) → bit_over (get_or (square n f) p []) (get_or (square n f) k []) (bit_at (square n f) p k) q ≡ u p q
step-entry n k p q f u hp hk hq is =
    ap (λ (b : Bool). b || (bit_at (square n f) p k && bit_at (square n f) k q)) (bit-square n f p q hp hq)
    ∙ ap (λ (b : Bool). f p q || (b && bit_at (square n f) k q)) (bit-square n f p k hp hk)
    ∙ ap (λ (b : Bool). f p q || (f p k && b)) (bit-square n f k q hk hq) ∙ sym is

-- one step on the table of a relation
pub step-square : (n k : ℕ) (f u : ℕ → ℕ → Bool) → k < n → ((p q : ℕ) → u p q ≡ (f p q || (f p k && f k q))) → step_bits k (square n f) ≡ map (λ p. map (u p) (range_with_len 0 n)) (range_with_len 0 n)
unfolding step_bits
step-square n k f u hk is =
    ap (λ (m : ℕ). map (λ p. map (bit_over (get_or (square n f) p []) (get_or (square n f) k []) (bit_at (square n f) p k)) (range_with_len 0 m)) (range_with_len 0 m)) (length-square n f)
    ∙ map-same (λ p. map (bit_over (get_or (square n f) p []) (get_or (square n f) k []) (bit_at (square n f) p k)) (range_with_len 0 n)) (λ p. map (u p) (range_with_len 0 n)) n []
    (λ p hp. map-same (bit_over (get_or (square n f) p []) (get_or (square n f) k []) (bit_at (square n f) p k)) (u p) n false (λ q hq. step-entry n k p q f u hp hk hq (is p q)))

reaches-step : (g : Graph) (k p q : ℕ) → reaches_below g (k + 1) p q ≡ (reaches_below g k p q || (reaches_below g k p k && reaches_below g k k q))
unfolding reaches_below
reaches-step g k p q = let e : k + 1 ≡ suc k = omega arith in ap (λ (n : ℕ). reaches_below g n p q) e

pub step-reaches : (g : Graph) (n k : ℕ) (old new : List (List Bool)) → k < n → old ≡ square n (reaches_below g k) → new ≡ step_bits k old → new ≡ square n (reaches_below g (k + 1))
unfolding square
step-reaches g n k old new h a b = b ∙ ap (step_bits k) a ∙ step-square n k (reaches_below g k) (reaches_below g (k + 1)) h (reaches-step g k)

pub first-reaches : (g : Graph) (n : ℕ) → square n (calls_directly g) ≡ square n (reaches_below g 0)
unfolding reaches_below
first-reaches g n = refl

pub last-reaches : (g : Graph) (m k : ℕ) → k ≡ length g.procs → square m (reaches_below g k) ≡ square m (reaches g)
unfolding reaches
last-reaches g m k e = ap (λ (n : ℕ). square m (reaches_below g n)) e

-- one more item in a loop
pub map-more : {X : Type 0} → (f : ℕ → X) (i : ℕ) (x : X) (old new : List X) → old ≡ map f (range_with_len 0 i) → new ≡ old ++ x ∷ [] → x ≡ f i → new ≡ map f (range_with_len 0 (i + 1))
map-more {X = X} f i x old new a b e = b ∙ ap (λ (l : List X). l ++ x ∷ []) a ∙ ap (λ (y : X). map f (range_with_len 0 i) ++ y ∷ []) e ∙ sym (map-range_with_len_more f 0 i i (omega arith))

-- ---- rows of the code

pub row-read : (rows : List (Vec Bool Global)) (p : ℕ) (v : Vec Bool Global) → p < length rows → v ≡ get_or rows p v → get_or (map (λ (r : Vec Bool Global). r.items) rows) p [] ≡ v.items
row-read rows p v lt e = get_or-map (λ (r : Vec Bool Global). r.items) rows p v [] lt ∙ ap (λ (r : Vec Bool Global). r.items) (sym e)

pub row-length : (rows : List (Vec Bool Global)) (p : ℕ) (v : Vec Bool Global) (slice : List Bool) → IsSquare (map (λ (r : Vec Bool Global). r.items) rows) → p < length rows → v ≡ get_or rows p v → slice ≡ v.items → length slice ≡ length rows
row-length rows p v slice sq lt e is =
    ap length is ∙ sym (ap length (row-read rows p v lt e))
    ∙ sq p (omega (arith, lt, length-map rows (λ (r : Vec Bool Global). r.items))) ∙ length-map rows (λ (r : Vec Bool Global). r.items)

pub row-is : (rows : List (Vec Bool Global)) (p k : ℕ) (v w : Vec Bool Global) (row pivot new : List Bool) → IsSquare (map (λ (r : Vec Bool Global). r.items) rows) → p < length rows → k < length rows → v ≡ get_or rows p v → w ≡ get_or rows k w → row ≡ v.items → pivot ≡ w.items
    → new ≡ map (bit_over row pivot (get_or row k false)) (range_with_len 0 (length row)) → new ≡ row_over (map (λ (r : Vec Bool Global). r.items) rows) k p
row-is rows p k v w row pivot new sq lp lk ev ew er ep is =
    let m : List (List Bool) = map (λ (r : Vec Bool Global). r.items) rows in
    let a : row ≡ get_or m p [] = er ∙ sym (row-read rows p v lp ev) in
    let b : pivot ≡ get_or m k [] = ep ∙ sym (row-read rows k w lk ew) in
    let n : length row ≡ length m = row-length rows p v row sq lp ev er ∙ sym (length-map rows (λ (r : Vec Bool Global). r.items)) in
    is ∙ ap (λ (l : ℕ). map (bit_over row pivot (get_or row k false)) (range_with_len 0 l)) n
    ∙ ap (λ (r : List Bool). map (bit_over r pivot (get_or r k false)) (range_with_len 0 (length m))) a
    ∙ ap (λ (r : List Bool). map (bit_over (get_or m p []) r (get_or (get_or m p []) k false)) (range_with_len 0 (length m))) b

pub rows-more : (rows : List (Vec Bool Global)) (p k : ℕ) (new : Vec Bool Global) (old out : List (Vec Bool Global)) → map (λ (r : Vec Bool Global). r.items) old ≡ map (row_over (map (λ (r : Vec Bool Global). r.items) rows) k) (range_with_len 0 p) → out ≡ old ++ new ∷ []
    → new.items ≡ row_over (map (λ (r : Vec Bool Global). r.items) rows) k p → map (λ (r : Vec Bool Global). r.items) out ≡ map (row_over (map (λ (r : Vec Bool Global). r.items) rows) k) (range_with_len 0 (p + 1))
rows-more rows p k new old out a b e =
    map-more (row_over (map (λ (r : Vec Bool Global). r.items) rows) k) p new.items (map (λ (r : Vec Bool Global). r.items) old) (map (λ (r : Vec Bool Global). r.items) out) a
    (ap (map (λ (r : Vec Bool Global). r.items)) b ∙ map-append (λ (r : Vec Bool Global). r.items) old (new ∷ [])) e

pub is-square : (n : ℕ) (f : ℕ → ℕ → Bool) → IsSquare (square n f)
is-square n f p lt =
    let within : p < n = omega (arith, length-square n f) in
    ap length (row-square n f p within) ∙ length-map-range_with_len (f p) 0 n ∙ sym (length-square n f)

-- the loop over the pivots
pub pivot-within : (rows : List (Vec Bool Global)) (slice : List (Vec Bool Global)) (n k : ℕ) (f : ℕ → ℕ → Bool) → slice ≡ rows → map (λ (r : Vec Bool Global). r.items) rows ≡ square n f → k < n → k < length slice
pivot-within rows slice n k f is e lt = omega (arith, lt, ap length is, length-map rows (λ (r : Vec Bool Global). r.items), ap length e, length-square n f)

pub slice-square : (rows : List (Vec Bool Global)) (slice : List (Vec Bool Global)) (n : ℕ) (f : ℕ → ℕ → Bool) → slice ≡ rows → map (λ (r : Vec Bool Global). r.items) rows ≡ square n f → IsSquare (map (λ (r : Vec Bool Global). r.items) slice)
slice-square rows slice n f is e = subst IsSquare (sym (ap (map (λ (r : Vec Bool Global). r.items)) is ∙ e)) (is-square n f)
