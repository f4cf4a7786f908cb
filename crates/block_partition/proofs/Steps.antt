-- One pass that groups variables by their labels.
use Rattle.std.proofs.Common.{◌≡◌, ℕ, ◌+◌, ◌<◌, ◌≤◌, ◌⊎◌, inl, inr, Bool, true, false, cond, not, List, [], ◌∷◌, ◌++◌, length, length-append, append-nil, Option, Some, None, refl, sym, ap, ◌∙◌, subst, arith, zero, suc, map, add-one, get_or, set}
use Rattle.std.specs.Prelude.{unwrap_or}
use Rattle.std.proofs.lemmas.Bool.{eq-eqb, ne_eqb, and_left, and_right, and_from, cases_lt, cases_eq, cases_order, lt-ltb, le-ltb, cond-true, cond-false}
use Rattle.std.proofs.lemmas.List.{same_lists, get_or_append_left, get_or_push, get_or_default, get_or-map, get_or-set_same, get_or-set_other, length-set, length-map, map-set}
use Rattle.std.proofs.lemmas.List.Sums.{position_or_len_is}
use Rattle.block_partition.specs.Partition.{member, block, home}
use Rattle.block_partition.specs.Grouping.{Label, label, is_same, first_with, kept, has_label_of, is_leader, group, grouped, home_at, home_of, IsHomes, IsPutIn, IsNumbered}
use Rattle.block_partition.proofs.Labels.{none_some, cases_label, same-from, same-not, before-first}
use Rattle.block_partition.proofs.Groups.{IsKept, kept-is, Leads, leads, leaders, length-grouped, block-grouped, home-group, group-has, same_block-grouped}

-- ---- the numbers that pass a test, one after the other

pub kept-yes : (test : ℕ → Bool) (n : ℕ) → test n ≡ true → kept test (n + 1) ≡ kept test n ++ n ∷ []
unfolding kept
kept-yes test n e = ap (kept test) (add-one n) ∙ ap (λ (b : Bool). kept test n ++ cond b (n ∷ []) []) e

pub kept-no : (test : ℕ → Bool) (n : ℕ) → test n ≡ false → kept test (n + 1) ≡ kept test n
unfolding kept
kept-no test n e = ap (kept test) (add-one n) ∙ ap (λ (b : Bool). kept test n ++ cond b (n ∷ []) []) e ∙ append-nil (kept test n)

kept-none : (test : ℕ → Bool) (n : ℕ) → ((k : ℕ) → k < n → test k ≡ false) → kept test n ≡ []
unfolding kept
kept-none test zero h = refl
kept-none test (suc n) h = sym (ap (kept test) (add-one n)) ∙ kept-no test n (h n (omega arith)) ∙ kept-none test n (λ k p. h k (omega arith))

-- ---- leaders

leader-unlabelled : (labels : List (Option Label)) (v : ℕ) → label labels v ≡ None → is_leader labels v ≡ false
unfolding is_leader
leader-unlabelled labels v e = and_left _ _ (ap not (same-from _ _ e))

leader-later : (labels : List (Option Label)) (v w : ℕ) → w < v → label labels w ≡ label labels v → is_leader labels v ≡ false
unfolding is_leader
leader-later labels v w p e = and_right _ _ (ne_eqb _ _ (λ (f : first_with labels (label labels v) ≡ v). before-first labels (label labels v) w (omega arith) e))

leader-first : (labels : List (Option Label)) (v : ℕ) → v < length labels → (label labels v ≡ None → ⊥) → ((k : ℕ) → k < v → label labels k ≡ label labels v → ⊥) → is_leader labels v ≡ true
unfolding is_leader first_with
leader-first labels v p d first =
    and_from _ _ (ap not (same-not _ _ d))
    (eq-eqb _ _ (position_or_len_is (λ m. is_same m (label labels v)) labels v None (omega arith)
    (λ k q. same-not _ _ (first k q)) (λ q. same-from _ _ refl)))

group-more : (labels : List (Option Label)) (x v : ℕ) → label labels v ≡ label labels x → kept (has_label_of labels x) (v + 1) ≡ kept (has_label_of labels x) v ++ v ∷ []
unfolding has_label_of
group-more labels x v e = kept-yes _ v (same-from _ _ e)

group-same : (labels : List (Option Label)) (x v : ℕ) → (label labels v ≡ label labels x → ⊥) → kept (has_label_of labels x) (v + 1) ≡ kept (has_label_of labels x) v
unfolding has_label_of
group-same labels x v d = kept-no _ v (same-not _ _ d)

group-none : (labels : List (Option Label)) (x v : ℕ) → ((k : ℕ) → k < v → label labels k ≡ label labels x → ⊥) → kept (has_label_of labels x) v ≡ []
unfolding has_label_of
group-none labels x v d = kept-none _ v (λ k p. same-not _ _ (d k p))

-- ---- the pass

-- the leaders below v
firsts : List (Option Label) → ℕ → List ℕ
firsts labels v = kept (is_leader labels) v

-- after the variables below v: blocks, numbers of blocks, and the numbers of labels
pub record Gathers (labels : List (Option Label)) (v : ℕ) (bs : List (List ℕ)) (homes : List (Option ℕ)) (number : Label → Option ℕ) : Type 0 where
  count : length bs ≡ length (firsts labels v)
  parts : (b : ℕ) → b < length bs → block bs b ≡ kept (has_label_of labels (member (firsts labels v) b)) v
  size : length homes ≡ v
  none : (u : ℕ) → u < v → label labels u ≡ None → home_at homes u ≡ None
  some : (u : ℕ) (l : Label) → u < v → label labels u ≡ Some l → (s : ℕ) × (number l ≡ Some s) × (home_at homes u ≡ Some s)
  known : (l : Label) (s : ℕ) → number l ≡ Some s → (s < length bs) × (label labels (member (firsts labels v) s) ≡ Some l)

inside : {X : Type 0} (x y : X) → Some x ≡ Some y → x ≡ y
inside x y e = cc

pub gathers-none : (labels : List (Option Label)) (bs : List (List ℕ)) (homes : List (Option ℕ)) (number : Label → Option ℕ) → bs ≡ [] → homes ≡ [] → ((l : Label) → number l ≡ None) → Gathers labels 0 bs homes number
unfolding firsts kept
gathers-none labels bs homes number e f h = record {
  count = ap length e;
  parts = λ b p. absurd (omega (arith, ap length e));
  size = ap length f;
  none = λ u p q. absurd (omega arith);
  some = λ u l p d. absurd (omega arith);
  known = λ l s g. absurd (none_some s (sym (h l) ∙ g));
}

-- what is known of the leaders below v
record Leading (labels : List (Option Label)) (v : ℕ) : Type 0 where
  below : (b : ℕ) → b < length (firsts labels v) → member (firsts labels v) b < v
  labelled : (b : ℕ) → b < length (firsts labels v) → label labels (member (firsts labels v) b) ≡ None → ⊥
  one : (b c : ℕ) → b < length (firsts labels v) → c < length (firsts labels v) → label labels (member (firsts labels v) b) ≡ label labels (member (firsts labels v) c) → b ≡ c

leading : (labels : List (Option Label)) (v : ℕ) → Leading labels v
unfolding firsts
leading labels v = record {
  below = is.below;
  labelled = λ b p. (lead b p).labelled;
  one = λ b c p q e. by b c p q (sym (lead b p).first ∙ ap (first_with labels) e ∙ (lead c q).first) (cases_order b c);
}
  where
    ls : List ℕ
    ls = kept (is_leader labels) v

    is : IsKept (is_leader labels) v ls
    is = kept-is (is_leader labels) v

    lead : (b : ℕ) → b < length ls → Leads labels (member ls b)
    lead b p = leads labels _ (is.passes b p)

    by : (b c : ℕ) → b < length ls → c < length ls → member ls b ≡ member ls c → (b ≡ c) ⊎ ((b < c) ⊎ (c < b)) → b ≡ c
    by b c p q e (inl f) = f
    by b c p q e (inr (inl f)) = let r = is.rising b c f q in absurd (omega arith)
    by b c p q e (inr (inr f)) = let r = is.rising c b f p in absurd (omega arith)

-- a variable without a label
pub gathers-unlabelled : (labels : List (Option Label)) (v : ℕ) (bs cs : List (List ℕ)) (homes all : List (Option ℕ)) (number new : Label → Option ℕ) → Gathers labels v bs homes number → label labels v ≡ None → cs ≡ bs → new ≡ number → all ≡ homes ++ None ∷ [] → Gathers labels (v + 1) cs all new
unfolding firsts
gathers-unlabelled labels v bs cs homes all number new g e f n a = subst (λ t. Gathers labels (v + 1) t all new) (sym f) (subst (Gathers labels (v + 1) bs all) (sym n) (record {
  count = g.count ∙ ap length (sym firsts_same);
  parts = λ b p. g.parts b p ∙ sym (group-same labels _ v (λ t. lead.labelled b (let q = g.count in omega arith) (sym t ∙ e))) ∙ ap (λ t. kept (has_label_of labels (member t b)) (v + 1)) (sym firsts_same);
  size = ap length a ∙ length-append homes (None ∷ []) ∙ (let q = g.size in omega arith);
  none = λ u p q. none u p q (cases_eq u v);
  some = λ u l p d. some u l p d (cases_eq u v);
  known = λ l s h. let r = g.known l s h in (r.0, ap (λ t. label labels (member t s)) firsts_same ∙ r.1);
}))
  where
    lead : Leading labels v
    lead = leading labels v

    firsts_same : firsts labels (v + 1) ≡ firsts labels v
    firsts_same = kept-no _ v (leader-unlabelled labels v e)

    old : (u : ℕ) → u < v → home_at all u ≡ home_at homes u
    old u p = ap (λ t. home_at t u) a ∙ get_or_append_left homes (None ∷ []) None u (let q = g.size in omega arith)

    none : (u : ℕ) → u < v + 1 → label labels u ≡ None → (u ≡ v) ⊎ (u ≡ v → ⊥) → home_at all u ≡ None
    none u p q (inl t) = ap (λ t. home_at t u) a ∙ get_or_push homes None None u (g.size ∙ sym t)
    none u p q (inr d) = let r : u < v = grind (arith, d) in old u r ∙ g.none u r q

    some : (u : ℕ) (l : Label) → u < v + 1 → label labels u ≡ Some l → (u ≡ v) ⊎ (u ≡ v → ⊥) → (s : ℕ) × (number l ≡ Some s) × (home_at all u ≡ Some s)
    some u l p d (inl t) = absurd (none_some l (sym (ap (label labels) t ∙ e) ∙ d))
    some u l p d (inr h) = let r : u < v = grind (arith, h) in let k = g.some u l r d in (k.0, k.1, old u r ∙ k.2)

-- a label's number s in the leaders below v + 1
record Opens (labels : List (Option Label)) (v : ℕ) (bs : List (List ℕ)) (homes : List (Option ℕ)) (s n : ℕ) : Type 0 where
  olds : (b : ℕ) → b < length bs → member (firsts labels (v + 1)) b ≡ member (firsts labels v) b
  count : n ≡ length (firsts labels (v + 1))
  within : s < n
  has : label labels (member (firsts labels (v + 1)) s) ≡ label labels v
  before : block bs s ≡ kept (has_label_of labels (member (firsts labels (v + 1)) s)) v
  rest : (b : ℕ) → b < n → (b ≡ s → ⊥) → b < length bs
  grows : length bs ≤ n
  others : (b : ℕ) → b < length bs → (b ≡ s → ⊥) → label labels v ≡ label labels (member (firsts labels v) b) → ⊥
  same : (u : ℕ) → u < v → label labels u ≡ label labels v → home_at homes u ≡ Some s

opened : (labels : List (Option Label)) (v : ℕ) (bs cs : List (List ℕ)) (homes all : List (Option ℕ)) (old new : Label → Option ℕ) (l : Label) (fresh s : ℕ) → Gathers labels v bs homes old → Opens labels v bs homes s (length cs) → label labels v ≡ Some l
    → IsNumbered old l fresh s new → IsPutIn bs s v cs → all ≡ homes ++ Some s ∷ [] → Gathers labels (v + 1) cs all new
opened labels v bs cs homes all old new l fresh s g o d numbers put a = record {
  count = o.count;
  parts = λ b p. parts b p (cases_eq b s);
  size = ap length a ∙ length-append homes (Some s ∷ []) ∙ (let q = g.size in omega arith);
  none = λ u p q. none u p q (cases_eq u v);
  some = λ u x p h. some u x p h (cases_eq u v) (cases_label l x);
  known = λ x t h. known x t h (cases_label l x);
}
  where
    parts : (b : ℕ) → b < length cs → (b ≡ s) ⊎ (b ≡ s → ⊥) → block cs b ≡ kept (has_label_of labels (member (firsts labels (v + 1)) b)) (v + 1)
    parts b p (inl e) = subst (λ t. block cs t ≡ kept (has_label_of labels (member (firsts labels (v + 1)) t)) (v + 1)) (sym e)
        (put.here ∙ ap (λ xs. xs ++ v ∷ []) o.before ∙ sym (group-more labels _ v (sym o.has)))
    parts b p (inr h) =
        let r = o.rest b p h in
        put.others b h ∙ g.parts b r ∙ sym (group-same labels _ v (o.others b r h)) ∙ ap (λ x. kept (has_label_of labels x) (v + 1)) (sym (o.olds b r))

    kept_home : (u : ℕ) → u < v → home_at all u ≡ home_at homes u
    kept_home u p = ap (λ t. home_at t u) a ∙ get_or_append_left homes (Some s ∷ []) None u (let q = g.size in omega arith)

    last_home : (u : ℕ) → u ≡ v → home_at all u ≡ Some s
    last_home u t = ap (λ t. home_at t u) a ∙ get_or_push homes (Some s) None u (g.size ∙ sym t)

    none : (u : ℕ) → u < v + 1 → label labels u ≡ None → (u ≡ v) ⊎ (u ≡ v → ⊥) → home_at all u ≡ None
    none u p q (inl t) = absurd (none_some l (sym q ∙ ap (label labels) t ∙ d))
    none u p q (inr h) = let r : u < v = grind (arith, h) in kept_home u r ∙ g.none u r q

    numbered : (x : Label) → l ≡ x → new x ≡ Some s
    numbered x e = subst (λ t. new t ≡ Some s) e numbers.here

    some : (u : ℕ) (x : Label) → u < v + 1 → label labels u ≡ Some x → (u ≡ v) ⊎ (u ≡ v → ⊥) → (l ≡ x) ⊎ (l ≡ x → ⊥) → (t : ℕ) × (new x ≡ Some t) × (home_at all u ≡ Some t)
    some u x p h (inl t) _ = (s, numbered x (inside l x (sym d ∙ ap (label labels) (sym t) ∙ h)), last_home u t)
    some u x p h (inr t) (inl e) = let r : u < v = grind (arith, t) in (s, numbered x e, kept_home u r ∙ o.same u r (h ∙ ap Some (sym e) ∙ sym d))
    some u x p h (inr t) (inr f) = let r : u < v = grind (arith, t) in let k = g.some u x r h in (k.0, numbers.others x f ∙ k.1, kept_home u r ∙ k.2)

    known : (x : Label) (t : ℕ) → new x ≡ Some t → (l ≡ x) ⊎ (l ≡ x → ⊥) → (t < length cs) × (label labels (member (firsts labels (v + 1)) t) ≡ Some x)
    known x t h (inl e) =
        let f : s ≡ t = inside s t (sym (numbered x e) ∙ h) in
        subst (λ t. (t < length cs) × (label labels (member (firsts labels (v + 1)) t) ≡ Some x)) f (o.within, o.has ∙ d ∙ ap Some e)
    known x t h (inr f) =
        let r = g.known x t (sym (numbers.others x f) ∙ h) in
        let q = o.grows in
        (omega (arith, r.0), ap (label labels) (o.olds t r.0) ∙ r.1)

-- a variable with a label
pub gathers-labelled : (labels : List (Option Label)) (v : ℕ) (bs cs : List (List ℕ)) (homes all : List (Option ℕ)) (old new : Label → Option ℕ) (l : Label) (fresh s : ℕ) → v < length labels → Gathers labels v bs homes old → label labels v ≡ Some l → fresh ≡ length bs
    → IsNumbered old l fresh s new → IsPutIn bs s v cs → all ≡ homes ++ Some s ∷ [] → Gathers labels (v + 1) cs all new
unfolding firsts
gathers-labelled labels v bs cs homes all old new l fresh s p g e f numbered put a = opened labels v bs cs homes all old new l fresh s g (by (old l) refl) e numbered put a
  where
    labelled : label labels v ≡ None → ⊥
    labelled h = none_some l (sym h ∙ e)

    lead : Leading labels v
    lead = leading labels v

    met : (t : ℕ) → old l ≡ Some t → s ≡ t → Opens labels v bs homes s (length cs)
    met t h st =
        let r = g.known l t h in
        let size = g.count in
        let before : s < length bs = omega (arith, r.0) in
        let has : label labels (member (firsts labels v) s) ≡ label labels v = ap (λ z. label labels (member (firsts labels v) z)) st ∙ r.1 ∙ sym e in
        let same : firsts labels (v + 1) ≡ firsts labels v = kept-no _ v (leader-later labels v (member (firsts labels v) s) (lead.below s (omega arith)) has) in
        let count : length cs ≡ length bs = grind (arith, put.count) in
        record {
          olds = λ b q. ap (λ t. member t b) same;
          count = count ∙ g.count ∙ ap length (sym same);
          within = omega arith;
          has = ap (λ t. label labels (member t s)) same ∙ has;
          before = g.parts s before ∙ ap (λ t. kept (has_label_of labels (member t s)) v) (sym same);
          rest = λ b q _. omega arith;
          grows = omega arith;
          others = λ b q n z. n (lead.one b s (omega arith) (omega arith) (sym z ∙ sym has));
          same = λ u q z. let k = g.some u l q (z ∙ e) in k.2 ∙ sym k.1 ∙ h ∙ ap Some (sym st);
        }

    next : old l ≡ None → s ≡ fresh → Opens labels v bs homes s (length cs)
    next h st =
        let last : s ≡ length bs = st ∙ f in
        let size = g.count in
        let new_one : (k : ℕ) → k < v → label labels k ≡ label labels v → ⊥ =
        λ k q z. let r = g.some k l q (z ∙ e) in none_some r.0 (sym h ∙ r.1) in
        let more : firsts labels (v + 1) ≡ firsts labels v ++ v ∷ [] = kept-yes _ v (leader-first labels v p labelled new_one) in
        let here : member (firsts labels (v + 1)) s ≡ v = ap (λ t. member t s) more ∙ get_or_push (firsts labels v) v 0 s (sym size ∙ sym last) in
        let count : length cs ≡ length bs + 1 = grind (arith, put.count) in
        record {
          olds = λ b q. ap (λ t. member t b) more ∙ get_or_append_left (firsts labels v) (v ∷ []) 0 b (omega arith);
          count = count ∙ sym (ap length more ∙ length-append (firsts labels v) (v ∷ []) ∙ (omega arith));
          within = omega arith;
          has = ap (label labels) here;
          before = beyond bs s (omega arith) ∙ sym (group-none labels v v new_one) ∙ ap (λ x. kept (has_label_of labels x) v) (sym here);
          rest = λ b q n. grind (arith, n);
          grows = omega arith;
          others = λ b q n z. new_one (member (firsts labels v) b) (lead.below b (omega arith)) (sym z);
          same = λ u q z. absurd (new_one u q z);
        }
      where
        beyond : (xs : List (List ℕ)) (k : ℕ) → length xs ≤ k → block xs k ≡ []
        beyond [] k h = refl
        beyond (x ∷ xs) zero h = absurd (omega arith)
        beyond (x ∷ xs) (suc k) h = beyond xs k (omega arith)

    by : (o : Option ℕ) → old l ≡ o → Opens labels v bs homes s (length cs)
    by (Some t) h = met t h (numbered.number ∙ ap (λ z. unwrap_or z fresh) h)
    by None h = next h (numbered.number ∙ ap (λ z. unwrap_or z fresh) h)

-- ---- the end of the pass

pub gathered-blocks : (labels : List (Option Label)) (v : ℕ) (bs : List (List ℕ)) (homes : List (Option ℕ)) (number : Label → Option ℕ) → Gathers labels v bs homes number → v ≡ length labels → bs ≡ grouped labels
unfolding group leaders firsts
gathered-blocks labels v bs homes number g e = same_lists bs (grouped labels) size each
  where
    leaders_are : firsts labels v ≡ leaders labels
    leaders_are = ap (kept (is_leader labels)) e

    size : length bs ≡ length (grouped labels)
    size = g.count ∙ ap length leaders_are ∙ sym (length-grouped labels)

    same : (k : ℕ) → k < length bs → block bs k ≡ block (grouped labels) k
    same k h =
        g.parts k h ∙ ap (λ t. kept (has_label_of labels (member t k)) v) leaders_are
        ∙ ap (kept (has_label_of labels (member (leaders labels) k))) e
        ∙ sym (block-grouped labels k (let a = size in let b = length-grouped labels in omega arith))

    each : (k : ℕ) (d : List ℕ) → k < length bs → get_or bs k d ≡ get_or (grouped labels) k d
    each k d h = get_or_default bs k d [] h ∙ same k h ∙ sym (get_or_default (grouped labels) k d [] (let a = size in omega arith))

pub gathered-homes : (labels : List (Option Label)) (v : ℕ) (bs : List (List ℕ)) (homes : List (Option ℕ)) (number : Label → Option ℕ) → Gathers labels v bs homes number → v ≡ length labels → length labels ≤ 512 → IsHomes (grouped labels) homes
unfolding home_of leaders firsts
gathered-homes labels v bs homes number g e few = record {
  few = let a = g.size in omega arith;
  own = λ u p. own u (let a = g.size in omega arith) (label labels u) refl;
  rest = λ u p. rest u (let a = g.size in omega arith) (cases_lt (home (grouped labels) u) (length (grouped labels)));
}
  where
    rest : (u : ℕ) → length labels ≤ u → (home (grouped labels) u < length (grouped labels)) ⊎ (length (grouped labels) ≤ home (grouped labels) u) → length (grouped labels) ≤ home (grouped labels) u
    rest u p (inr q) = q
    rest u p (inl q) = let r = (same_block-grouped labels u u).0 (refl, q) in let s = r.first in absurd (omega arith)

    free : (u : ℕ) → label labels u ≡ None → (home (grouped labels) u < length (grouped labels)) ⊎ (length (grouped labels) ≤ home (grouped labels) u) → None ≡ home_of (grouped labels) u
    free u h (inl q) = absurd (((same_block-grouped labels u u).0 (refl, q)).labelled h)
    free u h (inr q) = sym (cond-false _ _ _ (le-ltb _ _ q))

    own : (u : ℕ) → u < v → (o : Option Label) → label labels u ≡ o → home_at homes u ≡ home_of (grouped labels) u
    own u p None h = g.none u p h ∙ free u h (cases_lt (home (grouped labels) u) (length (grouped labels)))
    own u p (Some l) h =
        let k = g.some u l p h in
        let b = k.0 in
        let r = g.known l b k.1 in
        let blocks = gathered-blocks labels v bs homes number g e in
        let ls : kept (is_leader labels) v ≡ leaders labels = ap (kept (is_leader labels)) e in
        let q : b < length (leaders labels) = let a = ap length blocks in let c = length-grouped labels in omega (arith, r.0) in
        let has : label labels (member (leaders labels) b) ≡ label labels u = ap (λ t. label labels (member t b)) (sym ls) ∙ r.1 ∙ sym h in
        let home_is : home (grouped labels) u ≡ b = home-group labels u b q (group-has labels _ u (omega arith) (sym has)) in
        let c = length-grouped labels in
        k.2 ∙ ap Some (sym home_is) ∙ sym (cond-true _ _ _ (lt-ltb _ _ (let z : home (grouped labels) u < length (grouped labels) = omega arith in z)))

-- ---- numbers are small

length-kept : (test : ℕ → Bool) (n : ℕ) → length (kept test n) ≤ n
unfolding kept
length-kept test zero = omega arith
length-kept test (suc n) = by (test n) (length-kept test n)
  where
    by : (b : Bool) → length (kept test n) ≤ n → length (kept test n ++ cond b (n ∷ []) []) ≤ suc n
    by true r = let l = length-append (kept test n) (n ∷ []) in omega arith
    by false r = let l = ap length (append-nil (kept test n)) in omega arith

pub gathers-few : {X : Type 0} (f : X → List ℕ) (xs : List X) (labels : List (Option Label)) (v : ℕ) (homes : List (Option ℕ)) (number : Label → Option ℕ) → Gathers labels v (map f xs) homes number → length xs ≤ v
unfolding firsts
gathers-few f xs labels v homes number g = let c = g.count in let l = length-kept (is_leader labels) v in let m = length-map xs f in omega arith

pub gathers-number : {X : Type 0} (f : X → List ℕ) (xs : List X) (labels : List (Option Label)) (v : ℕ) (homes : List (Option ℕ)) (old new : Label → Option ℕ) (l : Label) (fresh s : ℕ) → Gathers labels v (map f xs) homes old → IsNumbered old l fresh s new → fresh ≡ length xs → s ≤ length xs
gathers-number f xs labels v homes old new l fresh s g n e = by (old l) refl
  where
    by : (o : Option ℕ) → old l ≡ o → s ≤ length xs
    by None h = let r : s ≡ fresh = n.number ∙ ap (λ z. unwrap_or z fresh) h in omega arith
    by (Some t) h =
        let r : s ≡ t = n.number ∙ ap (λ z. unwrap_or z fresh) h in
        let k = g.known l t h in
        let m = length-map xs f in omega (arith, k.0)

-- ---- a block of a list of vectors

put-in_set : (bs : List (List ℕ)) (b v : ℕ) → b < length bs → IsPutIn bs b v (set bs b (block bs b ++ v ∷ []))
put-in_set bs b v p = record {
  count = let e = length-set bs b (block bs b ++ v ∷ []) in grind (arith, e);
  here = get_or-set_same bs b (block bs b ++ v ∷ []) [] p;
  others = λ k d. get_or-set_other bs b k (block bs b ++ v ∷ []) [] d;
}

pub put-in : {X : Type 0} (f : X → List ℕ) (xs : List X) (b v : ℕ) (x y : X) → b < length xs → f x ≡ f y ++ v ∷ [] → y ≡ get_or xs b y → IsPutIn (map f xs) b v (map f (set xs b x))
put-in f xs b v x y p e g =
    subst (IsPutIn (map f xs) b v) (sym (map-set f xs b x ∙ ap (set (map f xs) b) same)) (put-in_set (map f xs) b v (let l = length-map xs f in omega arith))
  where
    same : f x ≡ block (map f xs) b ++ v ∷ []
    same = e ∙ ap (λ z. z ++ v ∷ []) (ap f g ∙ sym (get_or-map f xs b y [] p))
