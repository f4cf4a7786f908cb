-- Values as they are read.
use Rattle.std.proofs.Common.{◌≡◌, ℕ, zero, suc, [], ◌∷◌, ◌++◌, ◌+◌, ◌<◌, ◌≤◌, ◌⊎◌, inl, inr, Bool, true, false, cond, List, length, map, get_or, refl, sym, ap, ◌∙◌, subst, arith}
use Rattle.std.proofs.lemmas.List.{get_or_past, get_or-map, map-append, length-append}
use Rattle.oct_def.specs.Octagon.{Octagon, bottom_value, tight_value}
use Rattle.spl_core.specs.Graph.{Graph}
use Rattle.call_graph.specs.Order.{is_cut}
use Rattle.equations.specs.Equations.{equation, read}
use Rattle.oct_def.specs.Below.{IsBelow}
use Rattle.equations.specs.Equations.{value_in}
use Rattle.equations.specs.Inductive.{IsInductiveAt}
use Rattle.equations.proofs.Sourced.{equation-same}
use Rattle.inv_check.specs.Verdict.{AreOver, AreReadUpTo}

-- beyond the points both are Bottom over no variables
read-past : (b : Bool) (v : Octagon) → v ≡ bottom_value 0 → cond b (tight_value v) v ≡ bottom_value 0
unfolding tight_value bottom_value
read-past true v e = ap tight_value e
read-past false v e = e

all-read : (g : Graph) (values closed : List Octagon) (n : ℕ) → n ≡ length values → AreReadUpTo g values n closed → (k : ℕ) → value_in closed k ≡ read (is_cut g) (value_in values) k
all-read g values closed n e h k = by (grind arith)
  where
    by : (k < n) ⊎ (n ≤ k) → value_in closed k ≡ read (is_cut g) (value_in values) k
    by (inl l) = h.same k l
    by (inr l) = get_or_past closed k (bottom_value 0) (omega (arith, h.count)) ∙ sym (read-past (is_cut g k) (value_in values k) (get_or_past values k (bottom_value 0) (omega (arith, e))))

dims-read : (b : Bool) (v : Octagon) → (cond b (tight_value v) v).dims ≡ v.dims
unfolding tight_value
dims-read true v = refl
dims-read false v = refl

-- what is read has the points' dimensions too
pub over-read : (g : Graph) (values closed : List Octagon) (n : ℕ) → n ≡ length values → AreOver g values → AreReadUpTo g values n closed → AreOver g closed
over-read g values closed n e over h = record {
  points = h.count ∙ e ∙ over.points;
  dims = λ p l. ap (λ (v : Octagon). v.dims) (all-read g values closed n e h p) ∙ dims-read (is_cut g p) (value_in values p) ∙ over.dims p l;
}

-- what the code compares at a point is what the definition compares there
pub compared : (g : Graph) (values closed : List Octagon) (n p : ℕ) (f w : Octagon) → n ≡ length values → AreReadUpTo g values n closed
    → f ≡ equation g (value_in closed) p → w ≡ value_in values p → (IsBelow f w → IsInductiveAt g (value_in values) p) × (IsInductiveAt g (value_in values) p → IsBelow f w)
compared g values closed n p f w e h ef ew =
    let same : f ≡ equation g (read (is_cut g) (value_in values)) p = ef ∙ equation-same g (value_in closed) (read (is_cut g) (value_in values)) (all-read g values closed n e h) p in (
      λ b. subst (λ (v : Octagon). IsBelow v (value_in values p)) same (subst (IsBelow f) ew b),
      λ b. subst (IsBelow f) (sym ew) (subst (λ (v : Octagon). IsBelow v (value_in values p)) (sym same) b),
    )

-- one more point at which it holds
pub one-more : (P : ℕ → Type 0) (p : ℕ) → ((k : ℕ) → k < p → P k) → P p → (k : ℕ) → k < p + 1 → P k
one-more P p before here k l = by (grind arith)
  where
    by : (k < p) ⊎ (k ≡ p) → P k
    by (inl less) = before k less
    by (inr same) = subst P (sym same) here

-- an element's value is that of its point
pub at-value : {V : Type 0} (m : V → Octagon) (values : List V) (p : ℕ) (v : V) → p < length values → v ≡ get_or values p v → m v ≡ value_in (map m values) p
at-value m values p v l e = ap m e ∙ sym (get_or-map m values p v (bottom_value 0) l)

before : (xs : List Octagon) (v : Octagon) (k : ℕ) → k < length xs → value_in (xs ++ v ∷ []) k ≡ value_in xs k
before [] v k l = absurd (omega arith)
before (x ∷ xs) v zero l = refl
before (x ∷ xs) v (suc k) l = before xs v k (omega arith)

behind : (xs : List Octagon) (v : Octagon) (k : ℕ) → k ≡ length xs → value_in (xs ++ v ∷ []) k ≡ v
behind [] v zero e = refl
behind [] v (suc k) e = absurd (omega (arith, e))
behind (x ∷ xs) v zero e = absurd (omega (arith, e))
behind (x ∷ xs) v (suc k) e = behind xs v k (omega (arith, e))

-- one more value is read
pub read-more : {V : Type 0} (m : V → Octagon) (g : Graph) (values : List Octagon) (p : ℕ) (closed next : List V) (v : V) → AreReadUpTo g values p (map m closed) → m v ≡ read (is_cut g) (value_in values) p
    → next ≡ closed ++ v ∷ [] → AreReadUpTo g values (p + 1) (map m next)
read-more m g values p closed next v h e n = record {
  count = ap (λ (xs : List Octagon). length xs) same ∙ length-append (map m closed) (m v ∷ []) ∙ ap (λ (k : ℕ). k + 1) h.count;
  same = λ k l. ap (λ (xs : List Octagon). value_in xs k) same ∙ by k (grind arith);
}
  where
    same : map m next ≡ map m closed ++ m v ∷ []
    same = ap (map m) n ∙ map-append m closed (v ∷ [])

    by : (k : ℕ) → (k < p) ⊎ (k ≡ p) → value_in (map m closed ++ m v ∷ []) k ≡ read (is_cut g) (value_in values) k
    by k (inl l) = before (map m closed) (m v) k (omega (arith, h.count)) ∙ h.same k l
    by k (inr s) = behind (map m closed) (m v) k (s ∙ sym h.count) ∙ e ∙ ap (read (is_cut g) (value_in values)) (sym s)

-- the value that the code reads
pub read-is : (g : Graph) (values : List Octagon) (p : ℕ) (t : Bool) (v w : Octagon) → t ≡ is_cut g p → w ≡ value_in values p → v ≡ cond t (tight_value w) w → v ≡ read (is_cut g) (value_in values) p
read-is g values p t v w e f h = h ∙ ap (λ (b : Bool). cond b (tight_value w) w) e ∙ ap (λ (z : Octagon). cond (is_cut g p) (tight_value z) z) f
