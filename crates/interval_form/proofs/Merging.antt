-- Lists of terms: what stands from an index on, one more term at the end, and two lists merged.
use Rattle.std.proofs.Common.{◌≡◌, ◌≢◌, ◌⊎◌, ℕ, zero, suc, ◌+◌, ◌<◌, ◌≤◌, Bool, true, false, cond, List, [], ◌∷◌, ◌++◌, length, drop, get_or, refl, sym, ap, subst, ⊎_elim, arith, nat_eq, ◌∙◌, eq-eqb, ne_eqb, add-one, Some, None, pos, negsuc}
use Rattle.std.specs.Prelude.{min}
use Rattle.std.proofs.Math.Seq.{drop-cons}
use Rattle.std.proofs.Math.ListN.{drop_of_length-le}
use Rattle.oct_def.specs.Bound.{Bound}
use Rattle.interval_form.specs.declared.form.Term.{Term}
use Rattle.interval_form.specs.Interval.{Interval, IsOutward, negated, sum_of}
use Rattle.interval_form.specs.Form.{nothing, is_nothing, is_zero_bound}
use Rattle.interval_form.specs.Sparse.{term_at, Terms, past_all, part_of, joined, head_of, Stands}
use Rattle.interval_form.proofs.Exact.{outward-sum_of}

-- ---- one term

pub term_at-here : (t : Term) (ts : List Term) (v : ℕ) → t.dimension ≡ v → term_at (t ∷ ts) v ≡ t.coefficient
term_at-here t ts v e = rw (eq-eqb t.dimension v e)

pub term_at-other : (t : Term) (ts : List Term) (v : ℕ) → t.dimension ≢ v → term_at (t ∷ ts) v ≡ term_at ts v
term_at-other t ts v e = rw (ne_eqb t.dimension v e)

-- ---- between which dimensions terms stand

pub terms_bound : (m n : ℕ) (ts : List Term) → Terms m n ts → m ≤ n
terms_bound m n [] h = h
terms_bound m n (t ∷ ts) h = let p = h.0 in let k = terms_bound (t.dimension + 1) n ts h.3 in omega arith

pub term_at-below : (m n : ℕ) (ts : List Term) (v : ℕ) → Terms m n ts → v < m → term_at ts v ≡ nothing
term_at-below m n [] v h l = refl
term_at-below m n (t ∷ ts) v h l =
    let p = h.0 in
    term_at-other t ts v (λ e. omega arith) ∙ term_at-below (t.dimension + 1) n ts v h.3 (omega arith)

pub term_at-past : (m n : ℕ) (ts : List Term) (v : ℕ) → Terms m n ts → n ≤ v → term_at ts v ≡ nothing
term_at-past m n [] v h l = refl
term_at-past m n (t ∷ ts) v h l =
    let k = terms_bound (t.dimension + 1) n ts h.3 in
    term_at-other t ts v (λ e. omega arith) ∙ term_at-past (t.dimension + 1) n ts v h.3 l

pub terms_raised : (m v n : ℕ) (ts : List Term) → Terms m n ts → v ≤ head_of ts → v ≤ n → Terms v n ts
terms_raised m v n [] h k l = l
terms_raised m v n (t ∷ ts) h k l = (k, h.1, h.2, h.3)

pub terms_widened : (m n k : ℕ) (ts : List Term) → Terms m n ts → n ≤ k → Terms m k ts
terms_widened m n k [] h l = omega arith
terms_widened m n k (t ∷ ts) h l = (h.0, h.1, h.2, terms_widened (t.dimension + 1) n k ts h.3 l)

pub head_above : (m : ℕ) (ts : List Term) → Terms m past_all ts → m ≤ head_of ts
head_above m [] h = h
head_above m (t ∷ ts) h = h.0

pub head_within : (ts : List Term) (at : ℕ) → head_of (drop at ts) < past_all → at < length ts
head_within ts at h = ⊎_elim (λ (l : at < length ts). l) (λ (l : length ts ≤ at). absurd (empty l)) (split at (length ts))
  where
    split : (v n : ℕ) → (v < n) ⊎ (n ≤ v)
    split v n = grind arith

    empty : length ts ≤ at → ⊥
    empty l = let e : head_of (drop at ts) ≡ past_all = ap head_of (drop_of_length-le ts l) in omega arith

-- ---- one step over a list

no_term : Term
no_term = record { dimension = 0; coefficient = nothing }

pub stands_first : (ts : List Term) → Terms 0 past_all ts → Stands ts 0 0
stands_first ts h = record { rest = h; same = λ w l. refl }

pub stands_raised : (ts : List Term) (at m v : ℕ) → Stands ts at m → m ≤ v → v ≤ head_of (drop at ts) → v ≤ past_all → Stands ts at v
stands_raised ts at m v h k l p = record { rest = terms_raised m v past_all (drop at ts) h.rest l p; same = λ w q. h.same w (omega arith) }

over-rest : (t : Term) (ts : List Term) (v : ℕ) → Terms v past_all (t ∷ ts) → t.dimension ≡ v → Terms (v + 1) past_all ts
over-rest t ts v h e = subst (λ (k : ℕ). Terms (k + 1) past_all ts) e h.3

pub stands_over : (ts : List Term) (at v : ℕ) → Stands ts at v → head_of (drop at ts) ≡ v → v < past_all → Stands ts (at + 1) (v + 1)
stands_over ts at v h e l =
    let t = get_or ts at no_term in
    let q : drop at ts ≡ t ∷ drop (at + 1) ts = drop-cons ts at no_term (head_within ts at (omega arith)) ∙ rw (add-one at) refl in
    let d : t.dimension ≡ v = sym (ap head_of q) ∙ e in
    record {
      rest = over-rest t (drop (at + 1) ts) v (subst (Terms v past_all) q h.rest) d;
      same = λ w k. sym (term_at-other t (drop (at + 1) ts) w (λ z. omega arith)) ∙ (ap (λ (xs : List Term). term_at xs w) (sym q) ∙ h.same w (omega arith));
    }

kept-rest : (ts : List Term) (v : ℕ) → Terms v past_all ts → head_of ts ≢ v → v < past_all → Terms (v + 1) past_all ts
kept-rest [] v h e l = omega arith
kept-rest (t ∷ ts) v h e l = let p = h.0 in (grind arith, h.1, h.2, h.3)

pub stands_kept : (ts : List Term) (at v : ℕ) → Stands ts at v → head_of (drop at ts) ≢ v → v < past_all → Stands ts at (v + 1)
stands_kept ts at v h e l = record { rest = kept-rest (drop at ts) v h.rest e l; same = λ w k. h.same w (omega arith) }

absent : (ts : List Term) (v : ℕ) → Terms v past_all ts → head_of ts ≢ v → term_at ts v ≡ nothing
absent [] v h e = refl
absent (t ∷ ts) v h e = let p = h.0 in term_at-other t ts v e ∙ term_at-below (t.dimension + 1) past_all ts v h.3 (grind arith)

pub stands-absent : (ts : List Term) (at v : ℕ) → Stands ts at v → head_of (drop at ts) ≢ v → nothing ≡ term_at ts v
stands-absent ts at v h e = sym (sym (h.same v (omega arith)) ∙ absent (drop at ts) v h.rest e)

pub stands-below : (ts : List Term) (at m v : ℕ) → Stands ts at v → m ≤ v → Stands ts at m → (w : ℕ) → m ≤ w → w < v → term_at ts w ≡ nothing
stands-below ts at m v h l k w p q = sym (k.same w p) ∙ term_at-below v past_all (drop at ts) w h.rest q

-- ---- one more term

pub terms_pushed : (m n : ℕ) (ts : List Term) (t : Term) → Terms m n ts → n ≤ t.dimension → is_nothing t.coefficient ≡ false → IsOutward t.coefficient
    → Terms m (t.dimension + 1) (ts ++ t ∷ [])
terms_pushed m n [] t h l k o = (omega arith, k, o, omega arith)
terms_pushed m n (s ∷ ts) t h l k o = (h.0, h.1, h.2, terms_pushed (s.dimension + 1) n ts t h.3 l k o)

pub term_at-pushed : (m n : ℕ) (ts : List Term) (t : Term) → Terms m n ts → n ≤ t.dimension → term_at (ts ++ t ∷ []) t.dimension ≡ t.coefficient
term_at-pushed m n [] t h l = term_at-here t [] t.dimension refl
term_at-pushed m n (s ∷ ts) t h l =
    let k = terms_bound (s.dimension + 1) n ts h.3 in
    term_at-other s (ts ++ t ∷ []) t.dimension (λ e. omega arith) ∙ term_at-pushed (s.dimension + 1) n ts t h.3 l

pub term_at-pushed_other : (ts : List Term) (t : Term) (v : ℕ) → t.dimension ≢ v → term_at (ts ++ t ∷ []) v ≡ term_at ts v
term_at-pushed_other [] t v e = term_at-other t [] v e
term_at-pushed_other (s ∷ ts) t v e = ap (λ (i : Interval). cond (nat_eq s.dimension v) s.coefficient i) (term_at-pushed_other ts t v e)

-- ---- tests

zero_bound : (b : Bound) → is_zero_bound b ≡ true → b ≡ Some (pos 0)
zero_bound None e = cc
zero_bound (Some (pos zero)) e = refl
zero_bound (Some (pos (suc n))) e = cc
zero_bound (Some (negsuc n)) e = cc

abbrev ends : Bound → Bound → Interval
ends l h = record { low = l; high = h }

same_ends : (l h : Bound) → l ≡ Some (pos 0) → h ≡ Some (pos 0) → ends l h ≡ nothing
same_ends l h p q = rw (p, q)

pub nothing-is : (i : Interval) → is_nothing i ≡ true → i ≡ nothing
nothing-is i h = by (is_zero_bound i.low) refl h
  where
    by : (b : Bool) → is_zero_bound i.low ≡ b → cond b (is_zero_bound i.high) false ≡ true → i ≡ nothing
    by true e k = let p = zero_bound i.low e in let q = zero_bound i.high k in same_ends i.low i.high p q
    by false e k = cc

pub joined-nothing : (minus : Bool) → joined minus nothing nothing ≡ nothing
unfolding joined sum_of negated
joined-nothing true = refl
joined-nothing false = refl

pub outward-joined : (minus : Bool) (a b : Interval) → IsOutward (joined minus a b)
unfolding joined
outward-joined minus a b = outward-sum_of a (part_of minus b)

-- ---- merging

pub record Merging (minus : Bool) (a b : List Term) (i j next : ℕ) (out : List Term) : Type 0 where
  pub left : Stands a i next
  pub right : Stands b j next
  pub made : Terms 0 next out
  pub bound : next ≤ past_all
  pub sums : (w : ℕ) → w < next → term_at out w ≡ joined minus (term_at a w) (term_at b w)

pub merging_first : (minus : Bool) (a b : List Term) → Terms 0 past_all a → Terms 0 past_all b → Merging minus a b 0 0 0 []
merging_first minus a b h k = record {
  left = stands_first a h;
  right = stands_first b k;
  made = omega arith;
  bound = omega arith;
  sums = λ w l. absurd (omega arith);
}

split-at : (m w : ℕ) → (w < m) ⊎ (m ≤ w)
split-at m w = grind arith

split-last : (v w : ℕ) → w < v + 1 → (v ≡ w) ⊎ (w < v)
split-last v w h = grind arith

-- no list has a term before the next heads
pub merging_raised : (minus : Bool) (a b : List Term) (i j next : ℕ) (out : List Term) (v : ℕ) → Merging minus a b i j next out
    → next ≤ v → v ≤ head_of (drop i a) → v ≤ head_of (drop j b) → v ≤ past_all → Merging minus a b i j v out
merging_raised minus a b i j next out v h l p q r =
    let s = stands_raised a i next v h.left l p r in
    let t = stands_raised b j next v h.right l q r in
    record {
      left = s;
      right = t;
      made = terms_widened 0 next v out h.made l;
      bound = r;
      sums = λ w k. ⊎_elim (λ (z : w < next). h.sums w z)
          (λ (z : next ≤ w). term_at-past 0 next out w h.made z
          ∙ sym (rw (stands-below a i next v s l h.left w z k, stands-below b j next v t l h.right w z k) (joined-nothing minus)))
          (split-at next w);
    }

pub merging_skipped : (minus : Bool) (a b : List Term) (i j v : ℕ) (out : List Term) (p q : ℕ) → Merging minus a b i j v out
    → Stands a p (v + 1) → Stands b q (v + 1) → v < past_all → is_nothing (joined minus (term_at a v) (term_at b v)) ≡ true
    → Merging minus a b p q (v + 1) out
merging_skipped minus a b i j v out p q h s t l e = record {
  left = s;
  right = t;
  made = terms_widened 0 v (v + 1) out h.made (omega arith);
  bound = omega arith;
  sums = λ w k. ⊎_elim
      (λ (z : v ≡ w). subst (λ (u : ℕ). term_at out u ≡ joined minus (term_at a u) (term_at b u)) z
      (term_at-past 0 v out v h.made (omega arith) ∙ sym (nothing-is (joined minus (term_at a v) (term_at b v)) e)))
      (λ (z : w < v). h.sums w z)
      (split-last v w k);
}

pub merging_pushed : (minus : Bool) (a b : List Term) (i j v : ℕ) (out : List Term) (p q : ℕ) (t : Term) → Merging minus a b i j v out
    → Stands a p (v + 1) → Stands b q (v + 1) → v < past_all → t.dimension ≡ v → t.coefficient ≡ joined minus (term_at a v) (term_at b v)
    → is_nothing t.coefficient ≡ false
    → Merging minus a b p q (v + 1) (out ++ t ∷ [])
merging_pushed minus a b i j v out p q t h s r l d c e =
    let made : Terms 0 (t.dimension + 1) (out ++ t ∷ []) = terms_pushed 0 v out t h.made (omega arith) e (subst IsOutward (sym c) (outward-joined minus (term_at a v) (term_at b v))) in
    record {
      left = s;
      right = r;
      made = subst (λ (k : ℕ). Terms 0 (k + 1) (out ++ t ∷ [])) d made;
      bound = omega arith;
      sums = λ w k. ⊎_elim
          (λ (z : v ≡ w). subst (λ (u : ℕ). term_at (out ++ t ∷ []) u ≡ joined minus (term_at a u) (term_at b u)) z
          (ap (term_at (out ++ t ∷ [])) (sym d) ∙ (term_at-pushed 0 v out t h.made (omega arith) ∙ c)))
          (λ (z : w < v). term_at-pushed_other out t w (λ y. omega arith) ∙ h.sums w z)
          (split-last v w k);
    }

pub merging_sums : (minus : Bool) (a b : List Term) (i j : ℕ) (out : List Term) → Terms 0 past_all a → Terms 0 past_all b
    → Merging minus a b i j past_all out → (w : ℕ) → term_at out w ≡ joined minus (term_at a w) (term_at b w)
merging_sums minus a b i j out p q h w = ⊎_elim (λ (z : w < past_all). h.sums w z)
    (λ (z : past_all ≤ w). term_at-past 0 past_all out w h.made z
    ∙ sym (rw (term_at-past 0 past_all a w p z, term_at-past 0 past_all b w q z) (joined-nothing minus)))
    (split-at past_all w)

head_below : (m : ℕ) (ts : List Term) → Terms m past_all ts → head_of ts ≤ past_all
head_below m [] h = omega arith
head_below m (t ∷ ts) h = let k = terms_bound (t.dimension + 1) past_all ts h.3 in omega arith

-- up to the lesser of the two heads
pub merging_to : (minus : Bool) (a b : List Term) (i j next : ℕ) (out : List Term) (x y v : ℕ) → Merging minus a b i j next out
    → x ≡ head_of (drop i a) → y ≡ head_of (drop j b) → v ≡ min x y → Merging minus a b i j v out
merging_to minus a b i j next out x y v h p q e =
    let l = head_above next (drop i a) h.left.rest in
    let r = head_above next (drop j b) h.right.rest in
    let s = head_below next (drop i a) h.left.rest in
    let d : next ≤ v = omega arith in
    let f : v ≤ head_of (drop i a) = omega arith in
    let g : v ≤ head_of (drop j b) = omega arith in
    let k : v ≤ past_all = omega arith in
    merging_raised minus a b i j next out v h d f g k
