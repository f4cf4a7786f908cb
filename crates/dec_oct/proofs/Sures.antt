-- Closed blocks that are known to be closed.
use Rattle.std.proofs.Common.{◌≡◌, ℕ, ◌+◌, ◌<◌, ◌≤◌, ◌⊎◌, inl, inr, Bool, true, false, cond, List, [], ◌∷◌, ◌++◌, length, length-append, get_or, Option, Some, None, refl, sym, ap, ◌∙◌, subst, arith, zero, suc, add-one}
use Rattle.std.specs.Prelude.{ℤ, pos, negsuc}
use Rattle.std.proofs.lemmas.Bool.{cases_eq, cases_Bool, both_ways}
use Rattle.std.proofs.lemmas.List.{get_or_push, get_or_append_left, get_or_default}
use Rattle.oct_def.specs.Bound.{Bound}
use Rattle.oct_def.specs.Table.{Matrix}
use Rattle.oct_def.specs.Tight.{tight}
use Rattle.block_partition.specs.Partition.{block}
use Rattle.block_laws.specs.Assembly.{matrix}
use Rattle.dec_oct.specs.Value.{Blocks, blocks_of, marked, IsSettled}
use Rattle.dec_oct.specs.Cost.{cost, cost_below, unmarked_cost, ClosesEach, IsMarkedBlock, TellsMarks}
use Rattle.dec_oct.specs.Closed.{AreSure}
use Rattle.dec_oct.proofs.Flags.{IsFlagged, flagged-more}

-- ---- one block after the other

pub record IsSureUpTo (marks : List Bool) (b : ℕ) (ns : List Matrix) (sure : List Bool) : Type 0 where
  pub count : length ns ≡ b
  pub size : length sure ≡ b
  pub again : (k : ℕ) → k < b → marked sure k ≡ true → tight (matrix ns k) ≡ Some (matrix ns k)
  pub kept : (k : ℕ) → k < b → marked marks k ≡ true → marked sure k ≡ true

pub sure-none : (marks : List Bool) (ns : List Matrix) (sure : List Bool) → ns ≡ [] → sure ≡ [] → IsSureUpTo marks 0 ns sure
sure-none marks ns sure e f = record { count = ap length e; size = ap length f; again = λ k p. absurd (omega arith); kept = λ k p. absurd (omega arith) }

pub sure-more : (marks : List Bool) (b : ℕ) (ns ms : List Matrix) (sure more : List Bool) (x : Matrix) (f : Bool) → IsSureUpTo marks b ns sure → ms ≡ ns ++ x ∷ [] → more ≡ sure ++ f ∷ [] → (f ≡ true → tight x ≡ Some x) → (marked marks b ≡ true → f ≡ true) → IsSureUpTo marks (b + 1) ms more
sure-more marks b ns ms sure more x f s em ef here held = subst (λ t. IsSureUpTo marks (b + 1) t more) (sym em) (subst (IsSureUpTo marks (b + 1) (ns ++ x ∷ [])) (sym ef) (record {
  count = let z = s.count in length-append ns (x ∷ []) ∙ omega arith;
  size = let z = s.size in length-append sure (f ∷ []) ∙ omega arith;
  again = λ k p. again k p (cases_eq k b);
  kept = λ k p. kept k p (cases_eq k b);
}))
  where
    new_flag : (k : ℕ) → k ≡ b → marked (sure ++ f ∷ []) k ≡ f
    new_flag k e = get_or_push sure f false k (s.size ∙ sym e)

    old_flag : (k : ℕ) → k < b → marked (sure ++ f ∷ []) k ≡ marked sure k
    old_flag k p = get_or_append_left sure (f ∷ []) false k (let z = s.size in omega arith)

    again : (k : ℕ) → k < b + 1 → (k ≡ b) ⊎ (k ≡ b → ⊥) → marked (sure ++ f ∷ []) k ≡ true → tight (matrix (ns ++ x ∷ []) k) ≡ Some (matrix (ns ++ x ∷ []) k)
    again k p (inl e) t = subst (λ m. tight m ≡ Some m) (sym (get_or_push ns x [] k (s.count ∙ sym e))) (here (sym (new_flag k e) ∙ t))
    again k p (inr d) t =
        let q : k < b = grind (arith, d) in
        subst (λ m. tight m ≡ Some m) (sym (get_or_append_left ns (x ∷ []) [] k (let z = s.count in omega arith))) (s.again k q (sym (old_flag k q) ∙ t))

    kept : (k : ℕ) → k < b + 1 → (k ≡ b) ⊎ (k ≡ b → ⊥) → marked marks k ≡ true → marked (sure ++ f ∷ []) k ≡ true
    kept k p (inl e) t = new_flag k e ∙ held (ap (marked marks) (sym e) ∙ t)
    kept k p (inr d) t = let q : k < b = grind (arith, d) in old_flag k q ∙ s.kept k q t

pub sure-all : (marks : List Bool) (b n : ℕ) (ns : List Matrix) (sure : List Bool) → IsSureUpTo marks b ns sure → AreSure marks ns sure
sure-all marks b n ns sure s = let c = s.count in let z = s.size in record {
  size = omega arith;
  settled = record { again = λ k p. s.again k (omega arith) };
  kept = λ k p. s.kept k (omega arith);
}

-- a copy of a marked block
pub marked-copy : (ms : List Matrix) (b : ℕ) (x y : Matrix) → x ≡ y → y ≡ get_or ms b y → b < length ms → tight (matrix ms b) ≡ Some (matrix ms b) → tight x ≡ Some x
marked-copy ms b x y e f p h = subst (λ m. tight m ≡ Some m) (sym (e ∙ f ∙ get_or_default ms b y [] p)) h

-- what a block's closing is known to give again
pub again-of : (x y : Matrix) (o : Option Matrix) → ((r : Matrix) → tight y ≡ Some r → tight r ≡ Some r) → o ≡ tight y → o ≡ Some x → tight x ≡ Some x
again-of x y o h e g = h x (sym e ∙ g)

-- ---- which blocks are marked ones can be told

dec_int : (x y : ℤ) → (x ≡ y) ⊎ (x ≡ y → ⊥)
dec_int (pos a) (pos b) = elim (cases_eq a b) [ inl e ↦ inl (ap pos e) | inr d ↦ inr (λ f. d (let g : a ≡ b = cc in g)) ]
dec_int (pos a) (negsuc b) = inr (λ f. cc)
dec_int (negsuc a) (pos b) = inr (λ f. cc)
dec_int (negsuc a) (negsuc b) = elim (cases_eq a b) [ inl e ↦ inl (ap negsuc e) | inr d ↦ inr (λ f. d (let g : a ≡ b = cc in g)) ]

dec_bound : (a b : Bound) → (a ≡ b) ⊎ (a ≡ b → ⊥)
dec_bound None None = inl refl
dec_bound None (Some y) = inr (λ f. cc)
dec_bound (Some x) None = inr (λ f. cc)
dec_bound (Some x) (Some y) = elim (dec_int x y) [ inl e ↦ inl (ap Some e) | inr d ↦ inr (λ f. d (let g : x ≡ y = cc in g)) ]

dec_list : {X : Type 0} → ((x y : X) → (x ≡ y) ⊎ (x ≡ y → ⊥)) → (xs ys : List X) → (xs ≡ ys) ⊎ (xs ≡ ys → ⊥)
dec_list dec [] [] = inl refl
dec_list dec [] (y ∷ ys) = inr (λ f. cc)
dec_list dec (x ∷ xs) [] = inr (λ f. cc)
dec_list dec (x ∷ xs) (y ∷ ys) = by (dec x y) (dec_list dec xs ys)
  where
    by : (x ≡ y) ⊎ (x ≡ y → ⊥) → (xs ≡ ys) ⊎ (xs ≡ ys → ⊥) → ((x ∷ xs) ≡ (y ∷ ys)) ⊎ ((x ∷ xs) ≡ (y ∷ ys) → ⊥)
    by (inl e) (inl f) = inl (let g : (x ∷ xs) ≡ (y ∷ ys) = cc in g)
    by (inl e) (inr d) = inr (λ f. d (let g : xs ≡ ys = cc in g))
    by (inr d) _ = inr (λ f. d (let g : x ≡ y = cc in g))

-- a block of a, with its matrix and a mark
record IsAt (a : Blocks) (vs : List ℕ) (m : Matrix) (p : ℕ) : Type 0 where
  members : block a.partition p ≡ vs
  words : matrix a.matrices p ≡ m
  mark : marked a.marks p ≡ true

dec_at : (a : Blocks) (vs : List ℕ) (m : Matrix) (p : ℕ) → IsAt a vs m p ⊎ (IsAt a vs m p → ⊥)
dec_at a vs m p = by (dec_list cases_eq (block a.partition p) vs) (dec_list (dec_list dec_bound) (matrix a.matrices p) m) (cases_Bool (marked a.marks p))
  where
    by : (block a.partition p ≡ vs) ⊎ (block a.partition p ≡ vs → ⊥) → (matrix a.matrices p ≡ m) ⊎ (matrix a.matrices p ≡ m → ⊥) → (marked a.marks p ≡ true) ⊎ (marked a.marks p ≡ false) → IsAt a vs m p ⊎ (IsAt a vs m p → ⊥)
    by (inl e) (inl f) (inl g) = inl (record { members = e; words = f; mark = g })
    by (inl e) (inl f) (inr g) = inr (λ h. both_ways _ g h.mark)
    by (inl e) (inr d) _ = inr (λ h. d h.words)
    by (inr d) _ _ = inr (λ h. d h.members)

dec_below : (a : Blocks) (vs : List ℕ) (m : Matrix) (n : ℕ) → n ≤ length a.partition → IsMarkedBlock a vs m ⊎ ((p : ℕ) → p < n → IsAt a vs m p → ⊥)
dec_below a vs m zero h = inr (λ p q. absurd (omega arith))
dec_below a vs m (suc n) h = by (dec_below a vs m n (omega arith)) (dec_at a vs m n)
  where
    by : IsMarkedBlock a vs m ⊎ ((p : ℕ) → p < n → IsAt a vs m p → ⊥) → IsAt a vs m n ⊎ (IsAt a vs m n → ⊥) → IsMarkedBlock a vs m ⊎ ((p : ℕ) → p < suc n → IsAt a vs m p → ⊥)
    by (inl k) _ = inl k
    by (inr none) (inl k) = inl (record { place = n; within = omega arith; members = k.members; words = k.words; mark = k.mark })
    by (inr none) (inr d) = inr (λ p q k. last p q k (cases_eq p n))
      where
        last : (p : ℕ) → p < suc n → IsAt a vs m p → (p ≡ n) ⊎ (p ≡ n → ⊥) → ⊥
        last p q k (inl e) = d (subst (IsAt a vs m) e k)
        last p q k (inr c) = none p (grind (arith, c)) k

dec_marked : (a : Blocks) (vs : List ℕ) (m : Matrix) → IsMarkedBlock a vs m ⊎ (IsMarkedBlock a vs m → ⊥)
dec_marked a vs m = elim (dec_below a vs m (length a.partition) (omega arith)) [ inl k ↦ inl k | inr none ↦ inr (λ r. none r.place r.within (record { members = r.members; words = r.words; mark = r.mark })) ]

told_below : (a : Blocks) (bs : List (List ℕ)) (ms : List Matrix) (n : ℕ) → (xs : List Bool) × IsFlagged (λ k. IsMarkedBlock a (block bs k) (matrix ms k)) n xs
told_below a bs ms zero = ([], record { size = refl; exact = λ k p. absurd (omega arith) })
told_below a bs ms (suc n) = by (told_below a bs ms n) (dec_marked a (block bs n) (matrix ms n))
  where
    P : ℕ → Type 0
    P k = IsMarkedBlock a (block bs k) (matrix ms k)

    by : ((xs : List Bool) × IsFlagged (λ k. IsMarkedBlock a (block bs k) (matrix ms k)) n xs) → IsMarkedBlock a (block bs n) (matrix ms n) ⊎ (IsMarkedBlock a (block bs n) (matrix ms n) → ⊥) → (xs : List Bool) × IsFlagged (λ k. IsMarkedBlock a (block bs k) (matrix ms k)) (suc n) xs
    by (xs, s) (inl k) = (xs ++ true ∷ [], subst (λ t. IsFlagged (λ k. IsMarkedBlock a (block bs k) (matrix ms k)) t (xs ++ true ∷ [])) (add-one n) (flagged-more _ n xs (xs ++ true ∷ []) true s refl (λ _. k) (λ t. absurd (cc))))
    by (xs, s) (inr d) = (xs ++ false ∷ [], subst (λ t. IsFlagged (λ k. IsMarkedBlock a (block bs k) (matrix ms k)) t (xs ++ false ∷ [])) (add-one n) (flagged-more _ n xs (xs ++ false ∷ []) false s refl (λ t. absurd (cc)) (λ _. d)))

pub record Told (a : Blocks) (bs : List (List ℕ)) (ms : List Matrix) : Type 0 where
  pub known : List Bool
  pub told : TellsMarks a bs ms known

pub told : (a : Blocks) (bs : List (List ℕ)) (ms : List Matrix) → Told a bs ms
told a bs ms = let r = told_below a bs ms (length bs) in record { known = r.0; told = record { size = r.1.size; exact = r.1.exact } }

-- ---- what is known to be closed costs no second closing

step : (p q x : ℕ) (b c : Bool) → p ≤ q → (c ≡ true → b ≡ true) → p + cond b 0 x ≤ q + cond c 0 x
step p q x true true h d = omega arith
step p q x true false h d = omega arith
step p q x false true h d = let f : false ≡ true = d refl in absurd (cc)
step p q x false false h d = omega arith

fewer : (ms : List Matrix) (known more : List Bool) (n : ℕ) → ((k : ℕ) → k < n → marked known k ≡ true → marked more k ≡ true) → cost_below ms more n ≤ cost_below ms known n
unfolding cost_below
fewer ms known more zero h = omega arith
fewer ms known more (suc n) h = step _ _ (cost (matrix ms n)) (marked more n) (marked known n) (fewer ms known more n (λ k p. h k (omega arith))) (h n (omega arith))

-- a marked block stays one among the closed blocks
marked-sure : (bs : List (List ℕ)) (ms ns : List Matrix) (marks sure : List Bool) (vs : List ℕ) (m : Matrix) → length ms ≡ length bs → IsSettled ms marks → ClosesEach ms (Some ns) → AreSure marks ns sure → IsMarkedBlock (blocks_of bs ms marks) vs m → IsMarkedBlock (blocks_of bs ns sure) vs m
marked-sure bs ms ns marks sure vs m count s closed sures r = record {
  place = r.place;
  within = r.within;
  members = r.members;
  words = same ∙ r.words;
  mark = sures.kept r.place (let p = r.within in let e = closed.0 in omega arith) r.mark;
}
  where
    same : matrix ns r.place ≡ matrix ms r.place
    same =
        let p = r.within in
        let e : Some (matrix ns r.place) ≡ Some (matrix ms r.place) = sym (closed.1 r.place (omega arith)) ∙ s.again r.place (omega arith) r.mark in
        cc

pub sure-cost : (bs cs : List (List ℕ)) (ms ns rs : List Matrix) (marks sure known more : List Bool) → length ms ≡ length bs → length rs ≡ length cs → IsSettled ms marks → ClosesEach ms (Some ns) → AreSure marks ns sure
    → TellsMarks (blocks_of bs ms marks) cs rs known → TellsMarks (blocks_of bs ns sure) cs rs more → unmarked_cost rs more ≤ unmarked_cost rs known
sure-cost bs cs ms ns rs marks sure known more count size s closed sures k m = fewer rs known more (length rs) (λ c p t.
    let q : c < length cs = omega arith in
    (m.exact c q).1 (marked-sure bs ms ns marks sure (block cs c) (matrix rs c) count s closed sures ((k.exact c q).0 t)))
