-- The rounds of the ascent end.
use Rattle.std.proofs.Common.{◌≡◌, ◌≢◌, ℕ, zero, suc, ◌+◌, ◌*◌, ◌<◌, ◌≤◌, ◌⊎◌, inl, inr, Bool, true, false, not, ◌||◌, cond, eqb, List, [], ◌∷◌, length, get_or, set, refl, sym, ap, ◌∙◌, subst, arith}
use Rattle.std.specs.List.{All, AllPairs, Contains}
use Rattle.std.proofs.lemmas.Bool.{cases_lt, cases_eq, false≢true, or_parts}
use Rattle.std.proofs.lemmas.List.{get_or_default, get_or_past, get_or-set_same, get_or-set_other}
use Rattle.std.proofs.lemmas.List.Elements.{All-tail, All-cons}
use Rattle.std.proofs.Math.ListN.{length-set}
use Rattle.oct_def.specs.Octagon.{Octagon, IsOctagon, join_value}
use Rattle.oct_def.proofs.Lattice.{octagon-join}
use Rattle.rounds.specs.Widening.{IsWidening}
use Rattle.rounds.specs.System.{System, IsEquation, Layered, IsOrdered, IsSystem}
use Rattle.rounds.specs.Rounds.{Cell, cell_at, no_cell, same_value, ascended, visit, visits, changing, Ascended, ascended_in, ascent}
use Rattle.rounds.specs.Solved.{source_in, rising}
use Rattle.rounds.specs.Ends.{EndsIn, AreGood}
use Rattle.rounds.proofs.Exact.{ascended-same}
use Rattle.rounds.proofs.Keeping.{kept-visits}
use Rattle.rounds.proofs.Sums.{sum-most, sum-same}
use Rattle.rounds.proofs.Heights.{height, height_at, total, falls-visit}
use Rattle.rounds.proofs.Skipping.{same_value-itself, untouched}
use Rattle.rounds.proofs.Sized.{source-dims, sized-move}
use Rattle.rounds.proofs.Sources.{source-alike, source-octagon}
use Rattle.rounds.proofs.Stepped.{visit-settled}

-- ---- a round in which no cut point changes

-- visits that leave the cut points
pub KeptAlong : System → List ℕ → List Cell → Type 0
KeptAlong s [] a = Unit {0}
KeptAlong s (p ∷ rest) a = (s.cut p ≡ true → rising s p a ≡ cell_at a p) × KeptAlong s rest (visit (rising s) p a)

pub kept-along : (s : System) (rest : List ℕ) (a : List Cell) → AllPairs (λ p q. p ≢ q) rest → All (λ p. p < length a) rest → ((p : ℕ) → Contains rest p → s.cut p ≡ true → cell_at (visits (rising s) rest a) p ≡ cell_at a p) → KeptAlong s rest a
unfolding KeptAlong
kept-along s [] a apart within same = tt
kept-along s (p ∷ rest) a apart within same = (here, kept-along s rest (visit (rising s) p a) (λ i j d lt h. apart (suc i) (suc j) d (omega arith) (omega arith)) inside later)
  where
    absent : Contains rest p → ⊥
    absent h = apart 0 (suc h.0) p (omega arith) (omega (arith, h.1)) (sym h.2)

    here : s.cut p ≡ true → rising s p a ≡ cell_at a p
    here cut = sym (get_or-set_same a p (rising s p a) no_cell (within 0 p (omega arith))) ∙ sym (untouched (rising s) rest p (visit (rising s) p a) absent) ∙ same p (0, omega arith, refl) cut

    inside : All (λ q. q < length (visit (rising s) p a)) rest
    inside k d lt = omega (arith, length-set a p (rising s p a), within (suc k) d (omega arith))

    later : (q : ℕ) → Contains rest q → s.cut q ≡ true → cell_at (visits (rising s) rest (visit (rising s) p a)) q ≡ cell_at (visit (rising s) p a) q
    later q h cut = same q (suc h.0, omega (arith, h.1), h.2) cut ∙ sym (get_or-set_other a p q (rising s p a) no_cell (λ e. absent (subst (Contains rest) e h)))

plain-value : (s : System) (p : ℕ) (a : List Cell) → s.cut p ≡ false → (rising s p a).value ≡ source_in s p a
unfolding ascended
plain-value s p a none = ap (λ (t : Bool). (ascended s.widening t (cell_at a p) (source_in s p a)).value) none

-- after a round that left the cut points, a round that leaves them changes nothing
pub second : (s : System) (done rest : List ℕ) (a b : List Cell) → IsEquation s → length a ≡ s.points → AllPairs (λ p q. p ≢ q) rest → All (λ p. p < length a) rest → length b ≡ length a → Layered s done rest → KeptAlong s rest a → KeptAlong s rest b
    → ((q : ℕ) → s.cut q ≡ true → cell_at b q ≡ cell_at a q)
    → ((q : ℕ) → Contains done q → (cell_at b q).value ≡ (cell_at a q).value)
    → ((q : ℕ) → Contains rest q → cell_at b q ≡ cell_at (visits (rising s) rest a) q)
    → changing (rising s) rest b ≡ false
unfolding KeptAlong
second s done [] a b is count apart within len layered keptA keptB cuts dones rests = refl
second s done (p ∷ rest) a b is count apart within len layered keptA keptB cuts dones rests =
    by (s.cut p) refl (second s (p ∷ done) rest (visit (rising s) p a) (visit (rising s) p b) is (length-set a p (rising s p a) ∙ count) (λ i j d lt h. apart (suc i) (suc j) d (omega arith) (omega arith)) inside (length-set b p (rising s p b) ∙ len ∙ sym (length-set a p (rising s p a))) layered.1 keptA.1 keptB.1)
  where
    a' : List Cell
    a' = visit (rising s) p a

    lt : p < length a
    lt = within 0 p (omega arith)

    absent : Contains rest p → ⊥
    absent h = apart 0 (suc h.0) p (omega arith) (omega (arith, h.1)) (sym h.2)

    inside : All (λ q. q < length (visit (rising s) p a)) rest
    inside k d l = omega (arith, length-set a p (rising s p a), within (suc k) d (omega arith))

    at_a : cell_at (visit (rising s) p a) p ≡ rising s p a
    at_a = get_or-set_same a p (rising s p a) no_cell lt

    at_b : cell_at (visit (rising s) p b) p ≡ rising s p b
    at_b = get_or-set_same b p (rising s p b) no_cell (omega (arith, lt, len))

    other_a : (q : ℕ) → q ≢ p → cell_at (visit (rising s) p a) q ≡ cell_at a q
    other_a q e = get_or-set_other a p q (rising s p a) no_cell e

    other_b : (q : ℕ) → q ≢ p → cell_at (visit (rising s) p b) q ≡ cell_at b q
    other_b q e = get_or-set_other b p q (rising s p b) no_cell e

    last : cell_at b p ≡ rising s p a
    last = rests p (0, omega arith, refl) ∙ untouched (rising s) rest p (visit (rising s) p a) absent ∙ at_a

    later : (q : ℕ) → Contains rest q → cell_at (visit (rising s) p b) q ≡ cell_at (visits (rising s) rest (visit (rising s) p a)) q
    later q h = other_b q (λ e. absent (subst (Contains rest) e h)) ∙ rests q (suc h.0, omega (arith, h.1), h.2)

    -- the new cells of p agree where it is cut, and else the new values
    cells : s.cut p ≡ true → rising s p b ≡ rising s p a
    cells cut = keptB.0 cut ∙ cuts p cut ∙ sym (keptA.0 cut)

    reads : s.cut p ≡ false → All (λ (i : ℕ). (cell_at b i).value ≡ (cell_at a i).value) (s.reads p)
    reads none k d l = alike (layered.0 none k d l)
      where
        alike : (s.cut (get_or (s.reads p) k d) ≡ true) ⊎ Contains done (get_or (s.reads p) k d) → (cell_at b (get_or (s.reads p) k d)).value ≡ (cell_at a (get_or (s.reads p) k d)).value
        alike (inl cut) = ap (λ (c : Cell). c.value) (cuts (get_or (s.reads p) k d) cut)
        alike (inr there) = dones (get_or (s.reads p) k d) there

    values : (t : Bool) → s.cut p ≡ t → (rising s p b).value ≡ (rising s p a).value
    values true cut = ap (λ (c : Cell). c.value) (cells cut)
    values false none = plain-value s p b none ∙ source-alike s p a b is (omega (arith, lt, count)) (reads none) ∙ sym (plain-value s p a none)

    stays : (t : Bool) → s.cut p ≡ t → (rising s p b).value ≡ (cell_at b p).value
    stays true cut = ap (λ (c : Cell). c.value) (keptB.0 cut)
    stays false none = values false none ∙ sym (ap (λ (c : Cell). c.value) last)

    unchanged : (rising s p b).value ≡ (cell_at b p).value → not (same_value (rising s p b).value (cell_at b p).value) ≡ false
    unchanged e = ap (λ (o : Octagon). not (same_value o (cell_at b p).value)) e ∙ ap not (same_value-itself (cell_at b p).value)

    new_cuts : (q : ℕ) → s.cut q ≡ true → cell_at (visit (rising s) p b) q ≡ cell_at (visit (rising s) p a) q
    new_cuts q cut = elim (cases_eq q p) [
      | inl e ↦ subst (λ z. cell_at (visit (rising s) p b) z ≡ cell_at (visit (rising s) p a) z) (sym e) (at_b ∙ cells (subst (λ z. s.cut z ≡ true) e cut) ∙ sym at_a)
      | inr e ↦ other_b q e ∙ cuts q cut ∙ sym (other_a q e)
    ]

    of_more : (q : ℕ) → q ≢ p → Contains (p ∷ done) q → Contains done q
    of_more q e h = index h.0 h.1 h.2
      where
        index : (k : ℕ) → k < length (p ∷ done) → get_or (p ∷ done) k q ≡ q → Contains done q
        index zero l same = absurd (e (sym same))
        index (suc k) l same = (k, omega arith, same)

    new_dones : (q : ℕ) → Contains (p ∷ done) q → (cell_at (visit (rising s) p b) q).value ≡ (cell_at (visit (rising s) p a) q).value
    new_dones q h = elim (cases_eq q p) [
      | inl e ↦ subst (λ z. (cell_at (visit (rising s) p b) z).value ≡ (cell_at (visit (rising s) p a) z).value) (sym e)
          (ap (λ (c : Cell). c.value) at_b ∙ values (s.cut p) refl ∙ sym (ap (λ (c : Cell). c.value) at_a))
      | inr e ↦ ap (λ (c : Cell). c.value) (other_b q e) ∙ dones q (of_more q e h) ∙ sym (ap (λ (c : Cell). c.value) (other_a q e))
    ]

    by : (t : Bool) → s.cut p ≡ t
        → (((q : ℕ) → s.cut q ≡ true → cell_at (visit (rising s) p b) q ≡ cell_at (visit (rising s) p a) q)
        → ((q : ℕ) → Contains (p ∷ done) q → (cell_at (visit (rising s) p b) q).value ≡ (cell_at (visit (rising s) p a) q).value)
        → ((q : ℕ) → Contains rest q → cell_at (visit (rising s) p b) q ≡ cell_at (visits (rising s) rest (visit (rising s) p a)) q)
        → changing (rising s) rest (visit (rising s) p b) ≡ false)
        → changing (rising s) (p ∷ rest) b ≡ false
    by t e more = ap (λ (x : Bool). x || changing (rising s) rest (visit (rising s) p b)) (unchanged (stays t e)) ∙ more new_cuts new_dones later

-- ---- values, and heights

-- the round leaves each cut point of the order, or lowers its height
abbrev pub Falls : (Octagon → ℕ) → Cell → Cell → Type 0
Falls rank old new = (new ≡ old) ⊎ (height rank new < height rank old)

pub falls-along : (s : System) (is : IsWidening s.widening) (rest : List ℕ) (a : List Cell) → AllPairs (λ p q. p ≢ q) rest → All (λ p. p < s.points) rest → AreGood s a
    → ((p : ℕ) (cells : List Cell) → p < s.points → AreGood s cells → AreGood s (visit (rising s) p cells))
    → ((p : ℕ) (cells : List Cell) → p < s.points → AreGood s cells → IsOctagon (source_in s p cells) × ((cell_at cells p).value.dims ≡ (source_in s p cells).dims))
    → All (λ p. s.cut p ≡ true → Falls is.rank (cell_at a p) (cell_at (visits (rising s) rest a) p)) rest
falls-along s is [] a apart within good keeps gives = λ k d lt. absurd (omega arith)
falls-along s is (p ∷ rest) a apart within good keeps gives =
    All-cons (λ q. s.cut q ≡ true → Falls is.rank (cell_at a q) (cell_at (visits (rising s) rest (visit (rising s) p a)) q)) p rest here
    (later (falls-along s is rest (visit (rising s) p a) (λ i j d lt h. apart (suc i) (suc j) d (omega arith) (omega arith)) (All-tail (λ q. q < s.points) p rest within) (keeps p a inside good) keeps gives))
  where
    inside : p < s.points
    inside = within 0 p (omega arith)

    absent : Contains rest p → ⊥
    absent h = apart 0 (suc h.0) p (omega arith) (omega (arith, h.1)) (sym h.2)

    end : cell_at (visits (rising s) rest (visit (rising s) p a)) p ≡ rising s p a
    end = untouched (rising s) rest p (visit (rising s) p a) absent ∙ get_or-set_same a p (rising s p a) no_cell (omega (arith, inside, good.sized.points))

    here : s.cut p ≡ true → Falls is.rank (cell_at a p) (cell_at (visits (rising s) rest (visit (rising s) p a)) p)
    here cut =
        let g = gives p a inside good in
        subst (Falls is.rank (cell_at a p)) (sym (end ∙ ap (λ (t : Bool). ascended s.widening t (cell_at a p) (source_in s p a)) cut)) (falls-visit s.widening is (cell_at a p) (source_in s p a) (good.octagons p inside) g.0 g.1)

    later : All (λ q. s.cut q ≡ true → Falls is.rank (cell_at (visit (rising s) p a) q) (cell_at (visits (rising s) rest (visit (rising s) p a)) q)) rest → All (λ q. s.cut q ≡ true → Falls is.rank (cell_at a q) (cell_at (visits (rising s) rest (visit (rising s) p a)) q)) rest
    later h k d lt cut =
        subst (λ (c : Cell). Falls is.rank c (cell_at (visits (rising s) rest (visit (rising s) p a)) (get_or rest k d)))
        (get_or-set_other a p (get_or rest k d) (rising s p a) no_cell (λ e. absent (k, lt, get_or_default rest k p d lt ∙ e))) (h k d lt cut)

-- ---- values are kept

ascended-octagon : (widen : Octagon → Octagon → Octagon) (is : IsWidening widen) (cut : Bool) (cell : Cell) (v : Octagon) → IsOctagon cell.value → IsOctagon v → cell.value.dims ≡ v.dims → IsOctagon (ascended widen cut cell v).value
unfolding ascended
ascended-octagon widen is true cell v a b e = by (eqb cell.left 0)
  where
    by : (t : Bool) → IsOctagon (cond t (widen cell.value v) (join_value cell.value v))
    by true = is.octagon cell.value v a b e
    by false = octagon-join cell.value v a b e
ascended-octagon widen is false cell v a b e = b

gives : (s : System) → IsEquation s → (p : ℕ) (cells : List Cell) → p < s.points → AreGood s cells → IsOctagon (source_in s p cells) × ((cell_at cells p).value.dims ≡ (source_in s p cells).dims)
gives s fits p cells lt good = (source-octagon s p cells fits good lt, good.sized.dims p lt ∙ sym (source-dims s p cells fits.sizes good.sized lt))

pub keeps : (s : System) → IsEquation s → IsWidening s.widening → (p : ℕ) (cells : List Cell) → p < s.points → AreGood s cells → AreGood s (visit (rising s) p cells)
keeps s fits is p cells lt good = record {
  sized = sized-move s false p cells fits.sizes good.sized;
  octagons = λ q within. by q within (cases_eq q p);
}
  where
    by : (q : ℕ) → q < s.points → (q ≡ p) ⊎ (q ≢ p) → IsOctagon (cell_at (set cells p (rising s p cells)) q).value
    by q within (inl e) = subst (λ z. IsOctagon (cell_at (set cells p (rising s p cells)) z).value) (sym e)
        (subst (λ (c : Cell). IsOctagon c.value) (sym (get_or-set_same cells p (rising s p cells) no_cell (omega (arith, lt, good.sized.points))))
        (let g = gives s fits p cells lt good in ascended-octagon s.widening is (s.cut p) (cell_at cells p) (source_in s p cells) (good.octagons p lt) g.0 g.1))
    by q within (inr e) = subst (λ (c : Cell). IsOctagon c.value) (sym (get_or-set_other cells p q (rising s p cells) no_cell e)) (good.octagons q within)

good-visits : (s : System) (cells : List Cell) → IsSystem s → AreGood s cells → AreGood s (visits (rising s) s.order cells)
good-visits s cells is good = kept-visits (AreGood s) (rising s) (λ p. p < s.points) (keeps s is.equation is.widening) s.order cells is.ordered.only good

-- ---- totals

fallen : (s : System) (is : IsSystem s) (a : List Cell) → AreGood s a → All (λ p. s.cut p ≡ true → Falls is.widening.rank (cell_at a p) (cell_at (visits (rising s) s.order a) p)) s.order
fallen s is a good = falls-along s is.widening s.order a is.ordered.distinct is.ordered.only good (keeps s is.equation is.widening) (gives s is.equation)

height-falls : (rank : Octagon → ℕ) (old new : Cell) → Falls rank old new → height rank new ≤ height rank old
height-falls rank old new (inl e) = omega (arith, ap (height rank) e)
height-falls rank old new (inr h) = omega arith

at-most : (rank : Octagon → ℕ) (s : System) (a b : List Cell) → All (λ p. s.cut p ≡ true → Falls rank (cell_at a p) (cell_at b p)) s.order → All (λ p. height_at rank s.cut b p ≤ height_at rank s.cut a p) s.order
at-most rank s a b h k d lt = by (s.cut (get_or s.order k d)) refl
  where
    by : (t : Bool) → s.cut (get_or s.order k d) ≡ t → cond t (height rank (cell_at b (get_or s.order k d))) 0 ≤ cond t (height rank (cell_at a (get_or s.order k d))) 0
    by true cut = height-falls rank (cell_at a (get_or s.order k d)) (cell_at b (get_or s.order k d)) (h k d lt cut)
    by false cut = omega arith

-- where the total stays, the cut points stay
total-same : (rank : Octagon → ℕ) (s : System) (a b : List Cell) → All (λ p. s.cut p ≡ true → Falls rank (cell_at a p) (cell_at b p)) s.order → total rank s.cut s.order a ≤ total rank s.cut s.order b
    → (p : ℕ) → Contains s.order p → s.cut p ≡ true → cell_at b p ≡ cell_at a p
unfolding total
total-same rank s a b h le p there cut =
    let all = sum-same (height_at rank s.cut b) (height_at rank s.cut a) s.order (at-most rank s a b h) le in
    by (subst (λ z. s.cut z ≡ true → Falls rank (cell_at a z) (cell_at b z)) there.2 (h there.0 p there.1) cut)
    (subst (λ z. height_at rank s.cut b z ≡ height_at rank s.cut a z) there.2 (all there.0 p there.1))
  where
    by : Falls rank (cell_at a p) (cell_at b p) → cond (s.cut p) (height rank (cell_at b p)) 0 ≡ cond (s.cut p) (height rank (cell_at a p)) 0 → cell_at b p ≡ cell_at a p
    by (inl e) same = e
    by (inr less) same =
        let x : height rank (cell_at b p) ≡ height rank (cell_at a p) = subst (λ (t : Bool). cond t (height rank (cell_at b p)) 0 ≡ cond t (height rank (cell_at a p)) 0) cut same in
        absurd (omega (arith, x, less))

-- where the cut points of the order stay, all do
cuts-kept : (s : System) (a b : List Cell) → IsOrdered s → AreGood s a → AreGood s b → ((p : ℕ) → Contains s.order p → s.cut p ≡ true → cell_at b p ≡ cell_at a p) → (q : ℕ) → s.cut q ≡ true → cell_at b q ≡ cell_at a q
cuts-kept s a b ordered good goodb same q cut = by (cases_lt q (s.points))
  where
    by : (q < s.points) ⊎ (s.points ≤ q) → cell_at b q ≡ cell_at a q
    by (inl lt) = same q (ordered.all q lt) cut
    by (inr past) =
        let pa : length a ≤ q = omega (arith, good.sized.points) in
        let pb : length b ≤ q = omega (arith, goodb.sized.points) in
        get_or_past b q no_cell pb ∙ sym (get_or_past a q no_cell pa)

-- ---- the rounds end

-- two rounds in which no cut point changes: the second changes nothing
quiet-second : (s : System) (is : IsSystem s) (a : List Cell) → AreGood s a
    → total is.widening.rank s.cut s.order a ≤ total is.widening.rank s.cut s.order (visits (rising s) s.order a)
    → total is.widening.rank s.cut s.order (visits (rising s) s.order a) ≤ total is.widening.rank s.cut s.order (visits (rising s) s.order (visits (rising s) s.order a))
    → changing (rising s) s.order (visits (rising s) s.order a) ≡ false
quiet-second s is a good one two =
    let b : List Cell = visits (rising s) s.order a in
    let goodb : AreGood s b = good-visits s a is good in
    let within_a : All (λ p. p < length a) s.order = λ k d lt. omega (arith, is.ordered.only k d lt, good.sized.points) in
    let within_b : All (λ p. p < length b) s.order = λ k d lt. omega (arith, is.ordered.only k d lt, goodb.sized.points) in
    let same_a : (p : ℕ) → Contains s.order p → s.cut p ≡ true → cell_at b p ≡ cell_at a p = total-same is.widening.rank s a b (fallen s is a good) one in
    second s [] s.order a b is.equation good.sized.points is.ordered.distinct within_a (goodb.sized.points ∙ sym good.sized.points) is.ordered.layered
    (kept-along s s.order a is.ordered.distinct within_a same_a)
    (kept-along s s.order b is.ordered.distinct within_b (total-same is.widening.rank s b (visits (rising s) s.order b) (fallen s is b goodb) two))
    (cuts-kept s a b is.ordered good goodb same_a) (λ q h. absurd (omega (arith, h.1))) (λ q h. refl)

total-falls : (s : System) (is : IsSystem s) (a : List Cell) → AreGood s a → total is.widening.rank s.cut s.order (visits (rising s) s.order a) ≤ total is.widening.rank s.cut s.order a
unfolding total
total-falls s is a good = sum-most (height_at is.widening.rank s.cut (visits (rising s) s.order a)) (height_at is.widening.rank s.cut a) s.order (at-most is.widening.rank s a (visits (rising s) s.order a) (fallen s is a good))

pub ends-in : (s : System) (is : IsSystem s) (t fuel : ℕ) (a : List Cell) → AreGood s a → total is.widening.rank s.cut s.order a ≤ t → 2 * t + 2 ≤ fuel → EndsIn (rising s) s.order fuel a
ends-in s is t zero a good low enough = absurd (omega arith)
ends-in s is t (suc zero) a good low enough = absurd (omega arith)
ends-in s is zero (suc (suc fuel)) a good low enough =
    let b : List Cell = visits (rising s) s.order a in
    inr (inl (quiet-second s is a good (omega arith) (omega (arith, low, total-falls s is a good))))
ends-in s is (suc t) (suc (suc fuel)) a good low enough =
    by (cases_lt (total is.widening.rank s.cut s.order b) (total is.widening.rank s.cut s.order a)) (cases_lt (total is.widening.rank s.cut s.order (visits (rising s) s.order b)) (total is.widening.rank s.cut s.order b))
    (λ lo. ends-in s is t (suc fuel) b (good-visits s a is good) lo (omega arith))
    (λ lo. ends-in s is t fuel (visits (rising s) s.order b) (good-visits s b is (good-visits s a is good)) lo (omega arith))
  where
    b : List Cell
    b = visits (rising s) s.order a

    by : (total is.widening.rank s.cut s.order (visits (rising s) s.order a) < total is.widening.rank s.cut s.order a) ⊎ (total is.widening.rank s.cut s.order a ≤ total is.widening.rank s.cut s.order (visits (rising s) s.order a))
        → (total is.widening.rank s.cut s.order (visits (rising s) s.order (visits (rising s) s.order a)) < total is.widening.rank s.cut s.order (visits (rising s) s.order a)) ⊎ (total is.widening.rank s.cut s.order (visits (rising s) s.order a) ≤ total is.widening.rank s.cut s.order (visits (rising s) s.order (visits (rising s) s.order a)))
        → (total is.widening.rank s.cut s.order (visits (rising s) s.order a) ≤ t → EndsIn (rising s) s.order (suc fuel) (visits (rising s) s.order a))
        → (total is.widening.rank s.cut s.order (visits (rising s) s.order (visits (rising s) s.order a)) ≤ t → EndsIn (rising s) s.order fuel (visits (rising s) s.order (visits (rising s) s.order a)))
        → EndsIn (rising s) s.order (suc (suc fuel)) a
    by (inl less) second first_again again = inr (first_again (omega arith))
    by (inr same) (inl less) first_again again = inr (inr (again (omega (arith, less, total-falls s is a good))))
    by (inr same) (inr alike) first_again again = inr (inl (quiet-second s is a good same alike))

-- ---- what the ascent leaves

-- a round that changes nothing
changing-none : (s : System) (rest : List ℕ) (a : List Cell) → changing (rising s) rest a ≡ false → visits (rising s) rest a ≡ a
changing-none s [] a e = refl
changing-none s (p ∷ rest) a e = by (same_value (rising s p a).value (cell_at a p).value) refl (or_parts _ _ e).0 ∙ changing-none s rest a (later (same_value (rising s p a).value (cell_at a p).value) refl (or_parts _ _ e).0 (or_parts _ _ e).1)
  where
    stays : same_value (rising s p a).value (cell_at a p).value ≡ true → visit (rising s) p a ≡ a
    stays t = visit-settled (rising s) p a (ascended-same s.widening (s.cut p) (cell_at a p) (source_in s p a) t)

    by : (t : Bool) → same_value (rising s p a).value (cell_at a p).value ≡ t → not (same_value (rising s p a).value (cell_at a p).value) ≡ false → visits (rising s) rest (visit (rising s) p a) ≡ visits (rising s) rest a
    by true t n = ap (visits (rising s) rest) (stays t)
    by false t n = absurd (false≢true (sym n ∙ ap not t))

    later : (t : Bool) → same_value (rising s p a).value (cell_at a p).value ≡ t → not (same_value (rising s p a).value (cell_at a p).value) ≡ false → changing (rising s) rest (visit (rising s) p a) ≡ false → changing (rising s) rest a ≡ false
    later true t n h = sym (ap (changing (rising s) rest) (stays t)) ∙ h
    later false t n h = absurd (false≢true (sym n ∙ ap not t))

pub ascent-quiet : (s : System) (fuel done : ℕ) (a : List Cell) → EndsIn (rising s) s.order fuel a
    → (changing (rising s) s.order (ascent (rising s) s.order fuel done a).cells ≡ false) × ((ascent (rising s) s.order fuel done a).rounds ≤ done + fuel)
unfolding ascent
ascent-quiet s zero done a ends = absurd ends
ascent-quiet s (suc fuel) done a ends = by (changing (rising s) s.order a) refl ends (λ e. ascent-quiet s fuel (done + 1) (visits (rising s) s.order a) e)
  where
    rest : Ascended
    rest = ascent (rising s) s.order fuel (done + 1) (visits (rising s) s.order a)

    by : (t : Bool) → changing (rising s) s.order a ≡ t → (changing (rising s) s.order a ≡ false) ⊎ EndsIn (rising s) s.order fuel (visits (rising s) s.order a)
        → (EndsIn (rising s) s.order fuel (visits (rising s) s.order a) → (changing (rising s) s.order (ascent (rising s) s.order fuel (done + 1) (visits (rising s) s.order a)).cells ≡ false) × ((ascent (rising s) s.order fuel (done + 1) (visits (rising s) s.order a)).rounds ≤ (done + 1) + fuel))
        → (changing (rising s) s.order (cond t (ascent (rising s) s.order fuel (done + 1) (visits (rising s) s.order a)) (ascended_in (visits (rising s) s.order a) (done + 1))).cells ≡ false) × ((cond t (ascent (rising s) s.order fuel (done + 1) (visits (rising s) s.order a)) (ascended_in (visits (rising s) s.order a) (done + 1))).rounds ≤ done + suc fuel)
    by true t (inl e) more = absurd (false≢true (sym e ∙ t))
    by true t (inr e) more = let m = more e in (m.0, omega (arith, m.1))
    by false t end more = (ap (changing (rising s) s.order) (changing-none s s.order a t) ∙ t, omega arith)
