-- What is left of a line while its bounds are taken.
use Rattle.std.proofs.Common.{◌≡◌, ℕ, ◌*◌, ◌^◌, ◌<◌, ◌≤◌, List, [], ◌∷◌, ◌++◌, length, get_or, codes, decimal, Option, Some, None, refl, sym, ap, subst, ◌∙◌, arith, append_assoc, append-nil}
use Rattle.std.specs.Fmt.{signed_decimal}
use Rattle.std.specs.List.{flat_map}
use Rattle.oct_def.specs.Table.{Matrix}
use Rattle.oct_def.specs.Matrix.{IsEvenMatrix}
use Rattle.oct_def.specs.Octagon.{IsValueOver, top_entry, top_matrix}
use Rattle.oct_def.proofs.Tables.{length-table}
use Rattle.inv_text.specs.declared.bound.InvBound.{InvBound}
use Rattle.inv_text.specs.declared.fault.CertFault.{CertFault}
use Rattle.inv_text.specs.declared.fault.CertFault.TheVariants.{BadCertificate, NoMemory}
use Rattle.inv_text.specs.CertText.{places, told, value_text}
use Rattle.inv_text.specs.Listed.{half_bounds, item_text}
use Rattle.inv_text.specs.Words.{Stops}
use Rattle.inv_text.specs.Reading.{IsShortItem, IsListable, IsLeft}
use Rattle.inv_text.proofs.Words.{decimal_first}
use Rattle.inv_text.proofs.Values.{stops_bounds}
use Rattle.inv_text.proofs.Keeping.{top_listing}
use Rattle.inv_text.proofs.Listing.{half_text}
use Rattle.inv_text.proofs.Next.{AllOf, all_at, all_listable, short_item}

pub only_memory : (fault : CertFault) → (fault ≡ BadCertificate → ⊥) → fault ≡ NoMemory
only_memory BadCertificate h = absurd (h refl)
only_memory NoMemory h = refl

pub stops_items : (todo : List InvBound) (rest : List ℕ) → Stops (flat_map item_text todo ++ 10 ∷ rest)
stops_items [] rest = omega arith
stops_items (b ∷ todo) rest = omega arith

-- the next bound of a line
pub record NextItem (whole : Matrix) (rest : List ℕ) (m : Matrix) (text : List ℕ) : Type 0 where
  pub bound : InvBound
  pub todo : List InvBound
  pub listed : (half_bounds m ++ bound ∷ todo) ≡ half_bounds whole
  pub text_is : text ≡ item_text bound ++ (flat_map item_text todo ++ 10 ∷ rest)
  pub short : IsShortItem bound

pub next_item : (n : ℕ) (whole : Matrix) (rest : List ℕ) (m : Matrix) (text : List ℕ) → n ≤ 256 → IsEvenMatrix n whole → IsLeft whole rest m text → get_or text 0 0 ≡ 32 → NextItem whole rest m text
next_item n whole rest m text l is left e = by left.todo left.listed left.text_is
  where
    by : (todo : List InvBound) → (half_bounds m ++ todo) ≡ half_bounds whole → text ≡ flat_map item_text todo ++ 10 ∷ rest → NextItem whole rest m text
    by [] h t = let k : get_or text 0 0 ≡ 10 = ap (λ (s : List ℕ). get_or s 0 0) t in absurd (omega (arith, k, e))
    by (b ∷ todo) h t = record {
      bound = b;
      todo = todo;
      listed = h;
      text_is = t ∙ append_assoc (item_text b) (flat_map item_text todo) (10 ∷ rest);
      short = short_item n b l (all_at (IsListable (2 * n)) (half_bounds m) b todo (subst (AllOf (IsListable (2 * n))) (sym h) (all_listable n whole is)));
    }

pub taken_item : (whole : Matrix) (rest : List ℕ) (m next : Matrix) (after : List ℕ) (b c : InvBound) (todo : List InvBound) → (half_bounds m ++ b ∷ todo) ≡ half_bounds whole
    → c ≡ b → half_bounds next ≡ half_bounds m ++ c ∷ [] → after ≡ flat_map item_text todo ++ 10 ∷ rest → IsLeft whole rest next after
taken_item whole rest m next after b c todo h s k t = record {
  todo = todo;
  listed = ap (λ (bs : List InvBound). bs ++ todo) (k ∙ ap (λ (x : InvBound). half_bounds m ++ x ∷ []) s) ∙ append_assoc (half_bounds m) (b ∷ []) todo ∙ h;
  text_is = t;
}

-- no bound is left where the text goes on without a space
pub none_left : (whole : Matrix) (rest : List ℕ) (m : Matrix) (text : List ℕ) → IsLeft whole rest m text → (0 < length text → get_or text 0 0 ≡ 32 → ⊥) → (text ≡ 10 ∷ rest) × (half_bounds m ≡ half_bounds whole)
none_left whole rest m text left h = by left.todo left.listed left.text_is
  where
    by : (todo : List InvBound) → (half_bounds m ++ todo) ≡ half_bounds whole → text ≡ flat_map item_text todo ++ 10 ∷ rest → (text ≡ 10 ∷ rest) × (half_bounds m ≡ half_bounds whole)
    by [] k t = (t, sym (append-nil (half_bounds m)) ∙ k)
    by (b ∷ todo) k t =
        let n = ap length t in
        absurd (h (subst (λ (s : List ℕ). 0 < length s) (sym t) (omega arith)) (ap (λ (s : List ℕ). get_or s 0 0) t))

-- ---- a line

pub all_left : (n : ℕ) (m : Matrix) (rest text : List ℕ) → n ≤ 256 → text ≡ value_text (Some m) ++ 10 ∷ rest → IsLeft m rest (top_matrix n) text
all_left n m rest text l e = record {
  todo = half_bounds m;
  listed = ap (λ (bs : List InvBound). bs ++ half_bounds m) (sym (top_listing n l).whole);
  text_is = e ∙ ap (λ (t : List ℕ). t ++ 10 ∷ rest) (sym (half_text m));
}

digit_first : (n : ℕ) (r : List ℕ) → n < 2 ^ 64 → get_or (decimal n ++ r) 0 0 ≤ 57
digit_first n r l = by (decimal n ++ r) refl
  where
    by : (xs : List ℕ) → decimal n ++ r ≡ xs → get_or xs 0 0 ≤ 57
    by [] e = omega arith
    by (c ∷ s) e = (decimal_first n r c s l e).1

-- a line of bounds has no word for Bottom
pub not_bottom : (n : ℕ) (m : Matrix) (rest text : List ℕ) → n ≤ 256 → IsEvenMatrix n m → text ≡ value_text (Some m) ++ 10 ∷ rest → get_or text 0 0 ≡ 32 → get_or text 1 0 ≡ 98 → ⊥
not_bottom n m rest text l is e first second = by (half_bounds m) (all_listable n m is) (e ∙ ap (λ (t : List ℕ). t ++ 10 ∷ rest) (sym (half_text m)))
  where
    by : (bs : List InvBound) → AllOf (IsListable (2 * n)) bs → text ≡ flat_map item_text bs ++ 10 ∷ rest → ⊥
    by [] all t = let k : get_or text 0 0 ≡ 10 = ap (λ (s : List ℕ). get_or s 0 0) t in omega (arith, k, first)
    by (b ∷ bs) all t =
        let r = (short_item n b l all.0).row in
        let k : get_or text 1 0 ≡ get_or (decimal b.row ++ ((32 ∷ (decimal b.column ++ 32 ∷ signed_decimal b.word)) ++ (flat_map item_text bs ++ 10 ∷ rest))) 0 0 =
        ap (λ (s : List ℕ). get_or s 1 0) (t ∙ append_assoc (item_text b) (flat_map item_text bs) (10 ∷ rest))
        ∙ ap (λ (s : List ℕ). get_or s 0 0) (append_assoc (decimal b.row) (32 ∷ (decimal b.column ++ 32 ∷ signed_decimal b.word)) (flat_map item_text bs ++ 10 ∷ rest)) in
        let d = digit_first b.row ((32 ∷ (decimal b.column ++ 32 ∷ signed_decimal b.word)) ++ (flat_map item_text bs ++ 10 ∷ rest)) (omega (arith, r)) in
        omega (arith, k, d, second)

pub stops_value : (value : Option Matrix) (rest : List ℕ) → Stops (value_text value ++ 10 ∷ rest)
stops_value None rest = omega arith
stops_value (Some m) rest = stops_bounds (told m) (places (length m)) (10 ∷ rest) refl

pub over_rows : (n k : ℕ) (m : Matrix) → IsEvenMatrix k m → length m ≡ 2 * n → IsEvenMatrix n m
over_rows n k m is l = let same : k ≡ n = omega (arith, l, is.matrix.rows) in subst (λ (z : ℕ). IsEvenMatrix z m) same is

-- the line of a Bottom
pub bottom_line : (n : ℕ) (value : Option Matrix) (rest text : List ℕ) → n ≤ 256 → IsValueOver n value → text ≡ value_text value ++ 10 ∷ rest → get_or text 0 0 ≡ 32 → get_or text 1 0 ≡ 98
    → (None ≡ value) × (text ≡ 32 ∷ (codes "bottom" ++ 10 ∷ rest))
bottom_line n None rest text l is e first second = (refl, e)
bottom_line n (Some m) rest text l is e first second = absurd (not_bottom n m rest text l is e first second)

-- the line of a matrix
pub other_line : (n : ℕ) (value : Option Matrix) (rest text : List ℕ) → n ≤ 256 → IsValueOver n value → text ≡ value_text value ++ 10 ∷ rest → (2 ≤ length text → get_or text 0 0 ≡ 32 → get_or text 1 0 ≡ 98 → ⊥)
    → (m : Matrix) × (value ≡ Some m) × IsEvenMatrix n m × IsLeft m rest (top_matrix n) text
other_line n None rest text l is e h =
    absurd (h (subst (λ (t : List ℕ). 2 ≤ length t) (sym e) (omega arith)) (ap (λ (t : List ℕ). get_or t 0 0) e) (ap (λ (t : List ℕ). get_or t 1 0) e))
other_line n (Some m) rest text l is e h = (m, refl, is, all_left n m rest text l e)

pub rows_top : (n : ℕ) (m : Matrix) → m ≡ top_matrix n → length m ≡ 2 * n
unfolding top_matrix
rows_top n m e = ap length e ∙ length-table (2 * n) top_entry
