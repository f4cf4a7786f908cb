-- Parts that took listed bounds, pushed in turn.
use Rattle.std.proofs.Common.{◌≡◌, ℕ, ◌+◌, ◌*◌, ◌<◌, ◌⊎◌, inl, inr, Bool, true, false, List, [], ◌∷◌, ◌++◌, length, length-append, Option, Some, None, sym, ap, ◌∙◌, subst, arith}
use Rattle.std.specs.Prelude.{IfSome, IsSome}
use Rattle.std.specs.List.{All}
use Rattle.std.proofs.lemmas.Bool.{cases_eq, cases_Bool}
use Rattle.std.proofs.lemmas.List.{get_or_push, get_or_append_left}
use Rattle.oct_def.specs.Table.{Matrix}
use Rattle.interval_form.specs.declared.constraints.OctBound.{OctBound}
use Rattle.interval_form.specs.Listed.{IsPlaced}
use Rattle.block_partition.specs.Partition.{block, IsBlock}
use Rattle.block_laws.specs.Assembly.{matrix, restrict}
use Rattle.block_laws.proofs.Restrict.{length-restrict}
use Rattle.dec_oct.specs.Value.{Blocks, blocks_of, marked, whole, decomposed, IsDecomposition, IsKept, IsKeptBlocks}
use Rattle.dec_oct.specs.Cost.{IsMarkedBlock}
use Rattle.dec_parts.specs.Lower.{Touches, IsLowered}
use Rattle.dec_parts.specs.Joined.{with_all_taken, IsJoinedBy, IsLoweredPart, AreLoweredParts}
use Rattle.dec_parts.proofs.Taken.{part-taken, all_taken-none}
use Rattle.dec_parts.proofs.Joined.{lowered-is}

-- ---- one part

pub part-rows : (n : ℕ) (o : Option Blocks) (vs : List ℕ) (m : Matrix) → IsSome o → IfSome o (λ b. m ≡ restrict vs (whole n b)) → length m ≡ 2 * length vs
part-rows n None vs m h e = absurd (cc)
part-rows n (Some a) vs m h e = ap length e ∙ length-restrict vs (whole n a)

-- that no bound touches
untouched : (n : ℕ) (a : Blocks) (bounds : List OctBound) (vs : List ℕ) (m : Matrix) (mark : Bool) → IsDecomposition n a → IsBlock n vs → (Touches bounds vs → ⊥) → m ≡ restrict vs (whole n a) → (mark ≡ true → IsMarkedBlock a vs m) → (mark ≡ false → IsMarkedBlock a vs m → ⊥)
    → IsLoweredPart n a bounds vs m mark
untouched n a bounds vs m mark d bl out e marks_it leaves = record {
  words = e ∙ sym (all_taken-none vs (restrict vs (whole n a)) bounds out) ∙ part-taken n vs bounds (whole n a) bl d.value.matrix.rows d.value.matrix.coherent;
  exact = (λ h. (marks_it h, out), λ h. by (cases_Bool mark) h.0);
}
  where
    by : (mark ≡ true) ⊎ (mark ≡ false) → IsMarkedBlock a vs m → mark ≡ true
    by (inl t) h = t
    by (inr t) h = absurd (leaves t h)

pub untouched-part : (n : ℕ) (o : Option Blocks) (bounds : List OctBound) (vs : List ℕ) (m : Matrix) (mark : Bool) → IsKeptBlocks n o → IsBlock n vs → (Touches bounds vs → ⊥) → IfSome o (λ b. m ≡ restrict vs (whole n b)) → (mark ≡ true → IfSome o (λ b. IsMarkedBlock b vs m))
    → (mark ≡ false → IfSome o (λ b. IsMarkedBlock b vs m → ⊥)) → IfSome o (λ b. IsLoweredPart n b bounds vs m mark)
untouched-part n None bounds vs m mark d bl out e marks_it leaves = tt
untouched-part n (Some a) bounds vs m mark d bl out e marks_it leaves = untouched n a bounds vs m mark d bl out e marks_it leaves

-- that a bound touches
pub touched-part : (n : ℕ) (o : Option Blocks) (bounds : List OctBound) (vs : List ℕ) (m y x : Matrix) → IsKeptBlocks n o → IsBlock n vs → Touches bounds vs → IfSome o (λ b. m ≡ restrict vs (whole n b)) → y ≡ m → x ≡ with_all_taken vs y bounds
    → IfSome o (λ b. IsLoweredPart n b bounds vs x false)
touched-part n None bounds vs m y x d bl t e f g = tt
touched-part n (Some a) bounds vs m y x d bl t e f g = record {
  words = g ∙ ap (λ z. with_all_taken vs z bounds) (f ∙ e) ∙ part-taken n vs bounds (whole n a) bl d.value.matrix.rows d.value.matrix.coherent;
  exact = (λ h. absurd (cc), λ h. absurd (h.1 t));
}

-- ---- the first c parts

pub record LoweredSoFar (n : ℕ) (a : Blocks) (bounds : List OctBound) (ds : List (List ℕ)) (c : ℕ) (ms : List Matrix) (marks : List Bool) : Type 0 where
  pub count : length ms ≡ c
  pub size : length marks ≡ c
  pub each : (k : ℕ) → k < c → IsLoweredPart n a bounds (block ds k) (matrix ms k) (marked marks k)

more : (n : ℕ) (a : Blocks) (bounds : List OctBound) (ds : List (List ℕ)) (c : ℕ) (ms : List Matrix) (marks : List Bool) (m : Matrix) (mark : Bool) → LoweredSoFar n a bounds ds c ms marks → IsLoweredPart n a bounds (block ds c) m mark
    → LoweredSoFar n a bounds ds (c + 1) (ms ++ m ∷ []) (marks ++ mark ∷ [])
more n a bounds ds c ms marks m mark s part = record {
  count = let z = s.count in length-append ms (m ∷ []) ∙ omega arith;
  size = let z = s.size in length-append marks (mark ∷ []) ∙ omega arith;
  each = λ k p. by k p (cases_eq k c);
}
  where
    by : (k : ℕ) → k < c + 1 → (k ≡ c) ⊎ (k ≡ c → ⊥) → IsLoweredPart n a bounds (block ds k) (matrix (ms ++ m ∷ []) k) (marked (marks ++ mark ∷ []) k)
    by k p (inl f) =
        subst (IsLoweredPart n a bounds (block ds k) (matrix (ms ++ m ∷ []) k)) (sym (get_or_push marks mark false k (s.size ∙ sym f)))
        (subst (λ t. IsLoweredPart n a bounds (block ds k) t mark) (sym (get_or_push ms m [] k (s.count ∙ sym f))) (subst (λ t. IsLoweredPart n a bounds (block ds t) m mark) (sym f) part))
    by k p (inr d) =
        let q : k < c = grind (arith, d) in
        let y = s.count in
        let z = s.size in
        subst (IsLoweredPart n a bounds (block ds k) (matrix (ms ++ m ∷ []) k)) (sym (get_or_append_left marks (mark ∷ []) false k (omega arith)))
        (subst (λ t. IsLoweredPart n a bounds (block ds k) t (marked marks k)) (sym (get_or_append_left ms (m ∷ []) [] k (omega arith))) (s.each k q))

pub more-parts : (n : ℕ) (o : Option Blocks) (bounds : List OctBound) (ds : List (List ℕ)) (c : ℕ) (vs : List ℕ) (ms ns : List Matrix) (marks flags : List Bool) (m : Matrix) (mark : Bool) → IfSome o (λ b. LoweredSoFar n b bounds ds c ms marks) → vs ≡ block ds c
    → IfSome o (λ b. IsLoweredPart n b bounds vs m mark) → ns ≡ ms ++ m ∷ [] → flags ≡ marks ++ mark ∷ [] → IfSome o (λ b. LoweredSoFar n b bounds ds (c + 1) ns flags)
more-parts n None bounds ds c vs ms ns marks flags m mark s e part f g = tt
more-parts n (Some a) bounds ds c vs ms ns marks flags m mark s e part f g =
    subst (λ t. LoweredSoFar n a bounds ds (c + 1) t flags) (sym f) (subst (LoweredSoFar n a bounds ds (c + 1) (ms ++ m ∷ [])) (sym g) (more n a bounds ds c ms marks m mark s (subst (λ t. IsLoweredPart n a bounds t m mark) e part)))

pub all-parts : (n : ℕ) (o : Option Blocks) (bounds : List OctBound) (ds : List (List ℕ)) (c : ℕ) (ms : List Matrix) (marks : List Bool) → IfSome o (λ b. LoweredSoFar n b bounds ds c ms marks) → c ≡ length ds → IfSome o (λ b. AreLoweredParts n b bounds ds ms marks)
all-parts n None bounds ds c ms marks s e = tt
all-parts n (Some a) bounds ds c ms marks s e = record { count = s.count ∙ e; size = s.size ∙ e; each = λ k p. s.each k (omega arith) }

-- ---- the value

pub lowered-value : (n k : ℕ) (o : Option Blocks) (bounds : List OctBound) (ps cs ds : List (List ℕ)) (ms : List Matrix) (marks : List Bool) → IsKept (decomposed n o) → All (IsPlaced n) bounds → IfSome o (λ b. ps ≡ b.partition) → k ≡ n → IsJoinedBy k ps bounds (length bounds) cs
    → ds ≡ cs → IfSome o (λ b. AreLoweredParts n b bounds cs ms marks) → IfSome o (λ b. IsLowered n b bounds (blocks_of ds ms marks))
lowered-value n k None bounds ps cs ds ms marks d placed e f j g s = tt
lowered-value n k (Some a) bounds ps cs ds ms marks d placed e f j g s =
    subst (λ t. IsLowered n a bounds (blocks_of t ms marks)) (sym g) (lowered-is n a bounds cs ms marks d.blocks placed (subst (λ t. IsJoinedBy n t bounds (length bounds) cs) e (subst (λ t. IsJoinedBy t ps bounds (length bounds) cs) f j)) s)
