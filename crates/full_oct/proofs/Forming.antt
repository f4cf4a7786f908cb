-- Assignments by the forms of expressions.
use Rattle.std.proofs.Common.{◌≡◌, ℕ, ◌+◌, ◌*◌, [], ◌∷◌, ◌++◌, List, length, Option, Some, None, sym, ap, subst, ◌∙◌, arith}
use Rattle.std.specs.Option.{option_map, option_and_then}
use Rattle.oct_def.specs.Table.{Matrix}
use Rattle.oct_def.specs.Matrix.{IsEvenMatrix}
use Rattle.oct_def.specs.Tight.{tight}
use Rattle.oct_def.specs.Octagon.{Octagon, IsValueOver, bottom_value, on_matrix}
use Rattle.spl_core.specs.Expression.{Expression, Variable}
use Rattle.interval_form.specs.declared.interval.Interval.{Interval}
use Rattle.interval_form.specs.Interval.{unbounded, ranges_of}
use Rattle.interval_form.specs.Form.{Form}
use Rattle.interval_form.specs.Linear.{variable_form, linear_form, difference_form}
use Rattle.interval_form.specs.FormBounds.{bounded}
use Rattle.interval_form.specs.Sparse.{Sparse, IsFormOver, form_in}
use Rattle.interval_form.proofs.Bounding.{length-ranges_of}
use Rattle.interval_form.proofs.Wider.{length-extended_ranges, minus-new, new-minus}
use Rattle.transfer_def.specs.Assign.{extended_ranges, form_minus_new, new_minus_form, equated, assigned, assign_value}
use Rattle.transfer_def.specs.Forget.{forgotten, forget_value}
use Rattle.transfer_def.specs.Dimensions.{extended_entry, extended, moved}
use Rattle.transfer_def.proofs.Values.{value-assigned, value-forgotten}
use Rattle.oct_def.proofs.Tables.{length-table}
use Rattle.full_oct.specs.Value.{octagon_of}
use Rattle.full_oct.specs.Formed.{equated_to, assigned_to}
use Rattle.full_oct.proofs.Taking.{length-both}

-- ---- the matrix with a new variable

pub rows-wider : (n : ℕ) (m : Matrix) (ranges : List Interval) (rows : ℕ) → ranges ≡ ranges_of n m ++ unbounded ∷ [] → rows ≡ 2 * (n + 1) → rows ≡ 2 * length ranges
rows-wider n m ranges rows e h = let l = length-extended_ranges n m ranges e in omega arith

pub rows-extended : (n : ℕ) (m w : Matrix) → w ≡ extended n 1 m → length w ≡ 2 * (n + 1)
unfolding extended
rows-extended n m w e = ap length e ∙ length-table (2 * (n + 1)) (extended_entry n m)

-- the bounds of both differences, by the forms of the code
pub equated-is : (n : ℕ) (m w : Matrix) (ranges : List Interval) (s t below above : Sparse)
    → ranges ≡ ranges_of n m ++ unbounded ∷ [] → IsFormOver n s → ((k : ℕ) → form_in k t ≡ variable_form k n) → w ≡ extended n 1 m
    → form_in (length ranges) below ≡ difference_form ranges (form_in (length ranges) s) (form_in (length ranges) t)
    → form_in (length ranges) above ≡ difference_form ranges (form_in (length ranges) t) (form_in (length ranges) s)
    → option_and_then (bounded ranges (form_in (length ranges) above)) (bounded ranges (form_in (length ranges) below) w) ≡ equated_to n (form_in n s) m
unfolding extended_ranges
equated-is n m w ranges s t below above e h v x b a =
    let l = length-extended_ranges n m ranges e in
    let first : form_in (length ranges) below ≡ difference_form ranges (form_in n s) (variable_form (n + 1) n) = b ∙ minus-new n ranges s t l h v in
    let second : form_in (length ranges) above ≡ difference_form ranges (variable_form (n + 1) n) (form_in n s) = a ∙ new-minus n ranges s t l h v in
    rw (first, second, x) (ap (λ (r : List Interval).
    option_and_then (bounded r (difference_form r (variable_form (n + 1) n) (form_in n s))) (bounded r (difference_form r (form_in n s) (variable_form (n + 1) n)) (extended n 1 m))) e)

pub length-equated : (n : ℕ) (f : Form) (m k : Matrix) → Some k ≡ equated_to n f m → length k ≡ 2 * (n + 1)
unfolding extended
length-equated n f m k e =
    length-both (extended_ranges n m) (difference_form (extended_ranges n m) (variable_form (n + 1) n) f) (difference_form (extended_ranges n m) f (variable_form (n + 1) n)) (extended n 1 m) k e
    ∙ length-table (2 * (n + 1)) (extended_entry n m)

-- ---- the whole assignment

pub moved-none : (n x : ℕ) (f : Form) (m : Matrix) → None ≡ equated_to n f m → None ≡ assigned_to n x f m
moved-none n x f m e = ap (λ (r : Option Matrix). option_map (moved n (x ∷ [])) (option_and_then tight r)) e

pub moved-some : (n x : ℕ) (f : Form) (m k : Matrix) (after : Option Matrix) → Some k ≡ equated_to n f m → after ≡ option_map (moved n (x ∷ [])) (tight k) → after ≡ assigned_to n x f m
moved-some n x f m k after e h = h ∙ ap (λ (r : Option Matrix). option_map (moved n (x ∷ [])) (option_and_then tight r)) e

assigned-formed : (n x : ℕ) (e : Expression) (m : Matrix) (f : Form) → f ≡ linear_form (ranges_of n m) e → assigned_to n x f m ≡ assigned n x e m
unfolding assigned equated form_minus_new new_minus_form
assigned-formed n x e m f h = ap (λ (g : Form). assigned_to n x g m) h

pub assigned-is : (n x : ℕ) (e : Expression) (m : Matrix) (ranges : List Interval) (s : Sparse) (after : Option Matrix) → ranges ≡ ranges_of n m
    → form_in (length ranges) s ≡ linear_form ranges e → after ≡ assigned_to n x (form_in n s) m → after ≡ assigned n x e m
assigned-is n x e m ranges s after q h r =
    let l : length ranges ≡ n = ap length q ∙ length-ranges_of n m in
    let f : form_in n s ≡ linear_form (ranges_of n m) e = ap (λ k. form_in k s) (sym l) ∙ (h ∙ ap (λ (rs : List Interval). linear_form rs e) q) in
    r ∙ assigned-formed n x e m (form_in n s) f

pub copied-is : (n x y : ℕ) (m : Matrix) (s : Sparse) (after : Option Matrix) → ((k : ℕ) → form_in k s ≡ variable_form k y) → after ≡ assigned_to n x (form_in n s) m → after ≡ assigned n x (Variable y) m
unfolding linear_form
copied-is n x y m s after h r =
    r ∙ assigned-formed n x (Variable y) m (form_in n s) (h n ∙ ap (λ k. variable_form k y) (sym (length-ranges_of n m)))

-- ---- values

pub value_bottom : (g : ℕ → Matrix → Option Matrix) (d : ℕ) (v w : Octagon) → octagon_of d None ≡ v → w ≡ bottom_value d → w ≡ on_matrix (g v.dims) v
unfolding bottom_value
value_bottom g d v w e h = h ∙ ap (λ (t : Octagon). octagon_of t.dims (option_and_then (g t.dims) t.matrix)) e

pub value_matrix : (g : ℕ → Matrix → Option Matrix) (d : ℕ) (m : Matrix) (r : Option Matrix) (v w : Octagon) → octagon_of d (Some m) ≡ v → r ≡ g d m → w ≡ octagon_of d r → w ≡ on_matrix (g v.dims) v
value_matrix g d m r v w e t h = h ∙ (ap (octagon_of d) t ∙ ap (λ (u : Octagon). octagon_of u.dims (option_and_then (g u.dims) u.matrix)) e)

pub assign_bottom_is : (x : ℕ) (e : Expression) (d : ℕ) (v w : Octagon) → octagon_of d None ≡ v → w ≡ bottom_value d → w ≡ assign_value x e v
unfolding assign_value
assign_bottom_is x e d v w p h = value_bottom (λ n. assigned n x e) d v w p h

pub assign_matrix_is : (x : ℕ) (e : Expression) (d : ℕ) (m : Matrix) (r : Option Matrix) (v w : Octagon) → octagon_of d (Some m) ≡ v → r ≡ assigned d x e m → w ≡ octagon_of d r → w ≡ assign_value x e v
unfolding assign_value
assign_matrix_is x e d m r v w p t h = value_matrix (λ n. assigned n x e) d m r v w p t h

pub assign_kept_over : (x : ℕ) (e : Expression) (d : ℕ) (m : Matrix) (r : Option Matrix) → IsEvenMatrix d m → r ≡ assigned d x e m → IsValueOver d r
assign_kept_over x e d m r k t = subst (IsValueOver d) (sym t) (value-assigned d x e m k)

pub forget_bottom_is : (x d : ℕ) (v w : Octagon) → octagon_of d None ≡ v → w ≡ bottom_value d → w ≡ forget_value x v
unfolding forget_value bottom_value
forget_bottom_is x d v w p h = h ∙ ap (λ (t : Octagon). octagon_of t.dims (option_map (forgotten t.dims x) t.matrix)) p

pub forget_matrix_is : (x d : ℕ) (m r : Matrix) (v w : Octagon) → octagon_of d (Some m) ≡ v → r ≡ forgotten d x m → w ≡ octagon_of d (Some r) → w ≡ forget_value x v
unfolding forget_value
forget_matrix_is x d m r v w p t h = h ∙ (ap (λ (k : Matrix). octagon_of d (Some k)) t ∙ ap (λ (u : Octagon). octagon_of u.dims (option_map (forgotten u.dims x) u.matrix)) p)

pub forget_kept : (x d : ℕ) (m r : Matrix) → IsEvenMatrix d m → r ≡ forgotten d x m → IsEvenMatrix d r
forget_kept x d m r k t = subst (IsEvenMatrix d) (sym t) (value-forgotten d x m k)

-- the rows of a matrix behind a reference
pub rows_read : (n : ℕ) (m r : Matrix) → r ≡ m → IsEvenMatrix n m → length r ≡ 2 * n
rows_read n m r e k = ap length e ∙ k.matrix.rows
