-- The marks after a visit.
use Rattle.std.proofs.Common.{◌≡◌, ◌≢◌, ◌⊎◌, inl, inr, ℕ, ◌<◌, Bool, true, false, not, ◌&&◌, cond, List, length, get_or, set, refl, sym, ap, ◌∙◌, subst, arith}
use Rattle.std.specs.List.{All, Contains}
use Rattle.std.proofs.lemmas.Bool.{cases_eq, false≢true}
use Rattle.std.proofs.lemmas.List.{get_or-set_same, get_or-set_other, get_or_default}
use Rattle.std.proofs.lemmas.List.Elements.{Contains-get_or}
use Rattle.std.proofs.Math.ListN.{length-set}
use Rattle.oct_def.specs.Octagon.{Octagon, IsOctagon, bottom_value, tight_value}
use Rattle.rounds.specs.System.{System, AreReaders}
use Rattle.rounds.specs.Rounds.{Cell, cell_at, no_cell, same_value, stepped, visit}
use Rattle.rounds.specs.Solved.{reading, source_in, moving}
use Rattle.rounds.specs.Ends.{AreCells}
use Rattle.rounds.specs.Marks.{AreMarked, AreSeen, IsKept}
use Rattle.rounds.proofs.Exact.{exact_value}
use Rattle.rounds.proofs.Sized.{sized-move}
use Rattle.rounds.proofs.Skipping.{same_value-itself, stepped-again, settled-visit}
use Rattle.rounds.proofs.Sources.{source-read}

-- ---- what is read after a cell was replaced

read-other : (c : System) (a b : List Cell) (p i : ℕ) (new : Cell) → b ≡ set a p new → i ≢ p → reading c b i ≡ reading c a i
read-other c a b p i new is e =
    ap (λ (d : Cell). cond (c.cut i) (tight_value d.value) d.value) (ap (λ (l : List Cell). cell_at l i) is ∙ get_or-set_other a p i new no_cell e)

read-here : (c : System) (a b : List Cell) (p : ℕ) (new : Cell) → b ≡ set a p new → p < length a → reading c b p ≡ cond (c.cut p) (tight_value new.value) new.value
read-here c a b p new is l =
    ap (λ (d : Cell). cond (c.cut p) (tight_value d.value) d.value) (ap (λ (l : List Cell). cell_at l p) is ∙ get_or-set_same a p new no_cell l)

-- the values to be read after one of them was replaced with its cell
seen-stored : (c : System) (a b : List Cell) (s t : List Octagon) (p : ℕ) (new : Cell) → AreSeen c a s → p < length a → length a ≡ c.points → b ≡ set a p new
    → t ≡ set s p (cond (c.cut p) (tight_value new.value) new.value) → AreSeen c b t
seen-stored c a b s t p new seen l long is shown = record {
  points = ap length shown ∙ length-set s p (cond (c.cut p) (tight_value new.value) new.value) ∙ seen.points;
  read = λ q within. ap (λ (os : List Octagon). get_or os q (bottom_value 0)) shown ∙ by q within (cases_eq q p);
}
  where
    by : (q : ℕ) → q < c.points → (q ≡ p) ⊎ (q ≢ p) → get_or (set s p (cond (c.cut p) (tight_value new.value) new.value)) q (bottom_value 0) ≡ reading c b q
    by q within (inl e) =
        subst (λ (z : ℕ). get_or (set s p (cond (c.cut p) (tight_value new.value) new.value)) z (bottom_value 0) ≡ reading c b z) (sym e)
        (get_or-set_same s p (cond (c.cut p) (tight_value new.value) new.value) (bottom_value 0) (omega (arith, l, long, seen.points)) ∙ sym (read-here c a b p new is l))
    by q within (inr e) =
        get_or-set_other s p q (cond (c.cut p) (tight_value new.value) new.value) (bottom_value 0) e ∙ seen.read q within ∙ sym (read-other c a b p q new is e)

-- ---- marks

-- where a mark went and some came, a point without one is the point itself or had none
was-unmarked : (marks cleared : List Bool) (p q : ℕ) → cleared ≡ set marks p false → get_or cleared q false ≡ false → (q ≡ p) ⊎ (get_or marks q false ≡ false)
was-unmarked marks cleared p q clear none = by (cases_eq q p)
  where
    by : (q ≡ p) ⊎ (q ≢ p) → (q ≡ p) ⊎ (get_or marks q false ≡ false)
    by (inl e) = inl e
    by (inr e) = inr (sym (get_or-set_other marks p q false false e) ∙ sym (ap (λ (m : List Bool). get_or m q false) clear) ∙ none)

-- a visit that changes nothing takes the mark
pub kept-same : (c : System) (down : Bool) (p : ℕ) (a : List Cell) (s : List Octagon) (marks cleared : List Bool) → IsKept c down a s marks → moving c down p a ≡ cell_at a p → cleared ≡ set marks p false → IsKept c down a s cleared
kept-same c down p a s marks cleared kept same clear = record {
  system = kept.system;
  sized = kept.sized;
  seen = kept.seen;
  marked = ap length clear ∙ length-set marks p false ∙ kept.marked;
  settled = λ q lt none. by q lt (was-unmarked marks cleared p q clear none);
}
  where
    by : (q : ℕ) → q < length a → (q ≡ p) ⊎ (get_or marks q false ≡ false) → moving c down q a ≡ cell_at a q
    by q lt (inl e) = subst (λ (z : ℕ). moving c down z a ≡ cell_at a z) (sym e) same
    by q lt (inr none) = kept.settled q lt none

-- a visit that changes the value, after which a point without a mark reads what it read before
kept-changed : (c : System) (down : Bool) (p : ℕ) (a b : List Cell) (s t : List Octagon) (marks cleared marked : List Bool) → p < c.points → IsOctagon (source_in c p a)
    → IsKept c down a s marks → b ≡ visit (moving c down) p a → t ≡ set s p (cond (c.cut p) (tight_value (moving c down p a).value) (moving c down p a).value)
    → cleared ≡ set marks p false → length marked ≡ c.points
    → ((q : ℕ) → q < c.points → get_or marked q false ≡ false → (get_or cleared q false ≡ false) × ((i : ℕ) → Contains (c.reads q) i → reading c b i ≡ reading c a i))
    → IsKept c down b t marked
kept-changed c down p a b s t marks cleared marked lt value kept is shown clear long told =
    let count : length a ≡ c.points = kept.sized.points in
    let inside : p < length a = omega (arith, lt, count) in
    record {
      system = kept.system;
      sized = subst (λ (cells : List Cell). AreCells c cells) (sym is) (sized-move c down p a kept.system.equation.sizes kept.sized);
      seen = seen-stored c a b s t p (moving c down p a) kept.seen inside count is shown;
      marked = long;
      settled = settled-visit (stepped c.widening down) c.cut (source_in c) p a b marks marked inside
          (λ cell. stepped-again c.widening down (c.cut p) cell (source_in c p a) kept.system.widening value) is kept.settled
          (λ q within none.
          let f = told q (omega (arith, within, count)) none in
          (source-read c q a b kept.system.equation (omega (arith, within, count)) (λ k d l. f.1 (get_or (c.reads q) k d) (Contains-get_or (c.reads q) k d l)), was-unmarked marks cleared p q clear f.0));
    }

-- what was stored, by what a visit gives
as-visited : (c : System) (down cut : Bool) (p : ℕ) (a : List Cell) (s t : List Octagon) (v : Octagon) → cut ≡ c.cut p → v ≡ (moving c down p a).value → t ≡ set s p (cond cut (tight_value v) v)
    → t ≡ set s p (cond (c.cut p) (tight_value (moving c down p a).value) (moving c down p a).value)
as-visited c down cut p a s t v of is shown =
    shown ∙ ap (λ (b : Bool). set s p (cond b (tight_value v) v)) of ∙ ap (λ (o : Octagon). set s p (cond (c.cut p) (tight_value o) o)) is

-- the readers were marked
pub kept-marked : (c : System) (down cut : Bool) (p : ℕ) (a b : List Cell) (s t : List Octagon) (marks cleared marked : List Bool) (v : Octagon) (found : List ℕ) → p < c.points → IsOctagon (source_in c p a)
    → IsKept c down a s marks → cleared ≡ set marks p false → cut ≡ c.cut p → v ≡ (moving c down p a).value → b ≡ visit (moving c down) p a → t ≡ set s p (cond cut (tight_value v) v)
    → AreReaders c p found → AreMarked found cleared marked
    → IsKept c down b t marked
kept-marked c down cut p a b s t marks cleared marked v found lt value kept clear of new is shown all told =
    let count : length cleared ≡ c.points = ap length clear ∙ length-set marks p false ∙ kept.marked in
    kept-changed c down p a b s t marks cleared marked lt value kept is (as-visited c down cut p a s t v of new shown) clear (told.same ∙ count)
    (λ q within none.
    let u = told.unmarked q (omega (arith, within, count)) none in
    (u.0, λ i h. read-other c a b p i (moving c down p a) is (λ e. u.1 (all.all q within (subst (Contains (c.reads q)) e h)))))

-- what is read stayed
pub kept-unread : (c : System) (down cut : Bool) (p : ℕ) (a b : List Cell) (s t : List Octagon) (marks cleared : List Bool) (v : Octagon) (changed : Bool) → p < c.points → IsOctagon (source_in c p a)
    → IsKept c down a s marks → cleared ≡ set marks p false → cut ≡ c.cut p → v ≡ (moving c down p a).value → b ≡ visit (moving c down) p a → t ≡ set s p (cond cut (tight_value v) v)
    → changed ≡ not (cut && same_value (tight_value v) (get_or s p (bottom_value 0))) → changed ≡ false
    → IsKept c down b t cleared
kept-unread c down cut p a b s t marks cleared v changed lt value kept clear of new is shown flag none =
    kept-changed c down p a b s t marks cleared cleared lt value kept is (as-visited c down cut p a s t v of new shown) clear (ap length clear ∙ length-set marks p false ∙ kept.marked)
    (λ q within unmarked. (unmarked, λ i h. by i (cases_eq i p)))
  where
    both : (x y : Bool) → not (x && y) ≡ false → (x ≡ true) × (y ≡ true)
    both true true e = (refl, refl)
    both true false e = absurd (false≢true (sym e))
    both false y e = absurd (false≢true (sym e))

    inside : p < length a
    inside = omega (arith, lt, kept.sized.points)

    here : reading c b p ≡ reading c a p
    here =
        let r = both cut (same_value (tight_value v) (get_or s p (bottom_value 0))) (sym flag ∙ none) in
        read-here c a b p (moving c down p a) is inside
        ∙ ap (λ (t : Bool). cond t (tight_value (moving c down p a).value) (moving c down p a).value) (sym of ∙ r.0)
        ∙ ap tight_value (sym new)
        ∙ exact_value (tight_value v) (get_or s p (bottom_value 0)) r.1
        ∙ kept.seen.read p lt

    by : (i : ℕ) → (i ≡ p) ⊎ (i ≢ p) → reading c b i ≡ reading c a i
    by i (inl e) = subst (λ (z : ℕ). reading c b z ≡ reading c a z) (sym e) here
    by i (inr e) = read-other c a b p i (moving c down p a) is e

-- the readers have marks to be set
pub readers-inside : (c : System) (p : ℕ) (found : List ℕ) (marks cleared : List Bool) → AreReaders c p found → length marks ≡ c.points → cleared ≡ set marks p false → All (λ q. q < length cleared) found
readers-inside c p found marks cleared all long clear = subst (λ (n : ℕ). All (λ q. q < n) found) (sym (ap length clear ∙ length-set marks p false ∙ long)) all.only

-- a point without a mark is passed over
passed-over : (c : System) (down : Bool) (p : ℕ) (a : List Cell) (s : List Octagon) (marks : List Bool) (mark : Bool) → p < c.points → IsKept c down a s marks → mark ≡ get_or marks p mark → mark ≡ false → moving c down p a ≡ cell_at a p
passed-over c down p a s marks mark lt kept at none =
    kept.settled p (omega (arith, lt, kept.sized.points)) (get_or_default marks p false mark (omega (arith, lt, kept.marked)) ∙ sym at ∙ none)

pub passed-unchanged : (c : System) (down : Bool) (p : ℕ) (a : List Cell) (s : List Octagon) (marks : List Bool) (mark : Bool) → p < c.points → IsKept c down a s marks → mark ≡ get_or marks p mark → mark ≡ false
    → false ≡ not (same_value (moving c down p a).value (cell_at a p).value)
passed-unchanged c down p a s marks mark lt kept at none =
    sym (ap not (ap (λ (d : Cell). same_value d.value (cell_at a p).value) (passed-over c down p a s marks mark lt kept at none) ∙ same_value-itself (cell_at a p).value))
