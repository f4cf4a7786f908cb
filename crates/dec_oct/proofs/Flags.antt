-- Marked blocks.
use Rattle.std.proofs.Common.{◌≡◌, ℕ, ◌+◌, ◌<◌, ◌⊎◌, inl, inr, Bool, true, false, List, [], ◌∷◌, ◌++◌, length, length-append, get_or, Some, sym, ap, ◌∙◌, subst, arith}
use Rattle.std.specs.Prelude.{◌↔◌}
use Rattle.std.proofs.lemmas.Bool.{cases_eq, cases_Bool, both_ways}
use Rattle.std.proofs.lemmas.List.{get_or_push, get_or_append_left, get_or_default}
use Rattle.oct_def.specs.Table.{Matrix}
use Rattle.oct_def.specs.Tight.{tight}
use Rattle.block_partition.specs.Partition.{member, block, home, IsPartition}
use Rattle.block_laws.specs.Assembly.{matrix}
use Rattle.dec_oct.specs.Value.{Blocks, blocks_of, marked, IsSettled}
use Rattle.dec_oct.specs.Cost.{IsMarkedBlock, TellsMarks, TellsAgain}

-- ---- flags that are pushed in turn

pub record IsFlagged (P : ℕ → Type 0) (c : ℕ) (xs : List Bool) : Type 0 where
  pub size : length xs ≡ c
  pub exact : (k : ℕ) → k < c → (marked xs k ≡ true) ↔ P k

pub flagged-more : (P : ℕ → Type 0) (c : ℕ) (xs ys : List Bool) (b : Bool) → IsFlagged P c xs → ys ≡ xs ++ b ∷ [] → (b ≡ true → P c) → (b ≡ false → P c → ⊥) → IsFlagged P (c + 1) ys
flagged-more P c xs ys b s e there none = subst (IsFlagged P (c + 1)) (sym e) (record {
  size = let z = s.size in length-append xs (b ∷ []) ∙ omega arith;
  exact = λ k p. by k p (cases_eq k c);
})
  where
    at_last : (b ≡ true) ⊎ (b ≡ false) → P c → b ≡ true
    at_last (inl t) j = t
    at_last (inr t) j = absurd (none t j)

    by : (k : ℕ) → k < c + 1 → (k ≡ c) ⊎ (k ≡ c → ⊥) → (marked (xs ++ b ∷ []) k ≡ true) ↔ P k
    by k p (inl f) = subst (λ t. (t ≡ true) ↔ P k) (sym (get_or_push xs b false k (s.size ∙ sym f))) (subst (λ t. (b ≡ true) ↔ P t) (sym f) (there, at_last (cases_Bool b)))
    by k p (inr d) = let q : k < c = grind (arith, d) in let z = s.size in subst (λ t. (t ≡ true) ↔ P k) (sym (get_or_append_left xs (b ∷ []) false k (omega arith))) (s.exact k q)

-- the matrix of a marked block is closed
pub marked-again : (a : Blocks) (vs : List ℕ) (m : Matrix) → length a.matrices ≡ length a.partition → IsSettled a.matrices a.marks → IsMarkedBlock a vs m → tight m ≡ Some m
marked-again a vs m e s r =
    let p = r.within in
    ap tight (sym r.words) ∙ s.again r.place (omega arith) r.mark ∙ ap Some r.words

pub marks-settled : (a : Blocks) (bs : List (List ℕ)) (ms : List Matrix) (xs : List Bool) → length a.matrices ≡ length a.partition → IsSettled a.matrices a.marks → length ms ≡ length bs → TellsMarks a bs ms xs → IsSettled ms xs
marks-settled a bs ms xs e s f t = record { again = λ b p g. marked-again a (block bs b) (matrix ms b) e s ((t.exact b (omega arith)).0 g) }

pub again-settled : (ms : List Matrix) (xs : List Bool) → TellsAgain ms xs → IsSettled ms xs
again-settled ms xs t = record { again = λ b p g. (t.exact b p).0 g }

-- ---- second closings

pub flag-known : (ms : List Matrix) (c : ℕ) (xs ys : List Bool) → IsFlagged (λ k. tight (matrix ms k) ≡ Some (matrix ms k)) c xs → ys ≡ xs ++ true ∷ [] → tight (matrix ms c) ≡ Some (matrix ms c) → IsFlagged (λ k. tight (matrix ms k) ≡ Some (matrix ms k)) (c + 1) ys
flag-known ms c xs ys s e h = flagged-more _ c xs ys true s e (λ _. h) (λ t. absurd (cc))

pub flag-again : (ms : List Matrix) (c : ℕ) (xs ys : List Bool) (b : Bool) (x : Matrix) → IsFlagged (λ k. tight (matrix ms k) ≡ Some (matrix ms k)) c xs → ys ≡ xs ++ b ∷ [] → x ≡ matrix ms c → (b ≡ true → tight x ≡ Some x) → (b ≡ false → tight x ≡ Some x → ⊥) → IsFlagged (λ k. tight (matrix ms k) ≡ Some (matrix ms k)) (c + 1) ys
flag-again ms c xs ys b x s e f there none =
    flagged-more _ c xs ys b s e (λ t. subst (λ m. tight m ≡ Some m) f (there t)) (λ t h. none t (subst (λ m. tight m ≡ Some m) (sym f) h))

-- ---- one block

pub block-unique : (bs : List (List ℕ)) (vs : List ℕ) (p b : ℕ) → IsPartition 512 bs → 0 < length vs → p < length bs → b < length bs → block bs p ≡ vs → block bs b ≡ vs → p ≡ b
block-unique bs vs p b pt h q r e f =
    sym (pt.homes p 0 q (let l = ap length e in omega arith)) ∙ ap (λ t. home bs (member t 0)) (e ∙ sym f) ∙ pt.homes b 0 r (let l = ap length f in omega arith)

pub marked-same : (bs : List (List ℕ)) (ms : List Matrix) (marks : List Bool) (vs : List ℕ) (m : Matrix) (b : ℕ) → IsPartition 512 bs → 0 < length vs → (b < length bs) × (block bs b ≡ vs) → IsMarkedBlock (blocks_of bs ms marks) vs m → marked marks b ≡ false → ⊥
marked-same bs ms marks vs m b pt h at r e =
    let f = block-unique bs vs r.place b pt h r.within at.0 r.members at.1 in
    absurd (both_ways _ e (ap (marked marks) (sym f) ∙ r.mark))

pub marked-words : (bs : List (List ℕ)) (ms : List Matrix) (marks : List Bool) (vs : List ℕ) (m x : Matrix) (b : ℕ) → IsPartition 512 bs → 0 < length vs → length ms ≡ length bs → (b < length bs) × (block bs b ≡ vs) → x ≡ get_or ms b x → IsMarkedBlock (blocks_of bs ms marks) vs m → x ≡ m
marked-words bs ms marks vs m x b pt h count at e r =
    let f = block-unique bs vs r.place b pt h r.within at.0 r.members at.1 in
    let q = at.0 in
    e ∙ get_or_default ms b x [] (omega arith) ∙ ap (matrix ms) (sym f) ∙ r.words
