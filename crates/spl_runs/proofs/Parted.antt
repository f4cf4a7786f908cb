-- Values within 128 bits, from those of the parts; and a core's numbers by their nodes.
use Rattle.std.proofs.Common.{◌≡◌, ◌≢◌, ℕ, ◌^◌, ◌<◌, Bool, true, false, length, get_or, Option, None, Some, ℤ, pos, neg_ℤ, FitsSigned, option_map, int_rem, to_z, of_z, refl, sym, ap, subst, ◌∙◌, arith}
use Rattle.std.specs.Prelude.{not, ◌||◌, if◌then◌else◌}
use Rattle.std.specs.Int.{w128}
use Rattle.std.specs.Ordering.{int_eq}
use Rattle.spl_core.proofs.Values.{left_over-is}
use Rattle.std.proofs.lemmas.Int.{ints, to_z-of_z}
use Rattle.std.proofs.lemmas.Bool.Decides.{Decides-int_eq}
use Rattle.spl_core.specs.declared.parts.CoreExpr.{CoreExpr}
use Rattle.spl_core.specs.declared.parts.CoreCond.{CoreCond}
use Rattle.spl_core.specs.Parts.{Parts}
use Rattle.spl_core.specs.Facts.{ExprFits, CondFits, IsCore}
use Rattle.spl_core.specs.Laws.{NumbersStandForNodes}
use Rattle.spl_core.specs.Expression.{Expression, Number, Variable, Neg, Add, Sub, Mul, Div, Rem, State, value_of, of_both, sum, difference, product, quotient, remainder, left_over, eval}
use Rattle.spl_core.specs.Graph.{expr_at, expr_over, exprs_in, cond_at, cond_over, conds_in}
use Rattle.spl_runs.specs.Word.{fits}
use Rattle.spl_runs.specs.declared.value.Computed.TheVariants as value
use Rattle.spl_runs.specs.Replay.{is_past, is_wide}
use Rattle.spl_runs.specs.Exact.{computed, exact, within, negated, combined}
use Rattle.spl_runs.proofs.Fitting.{fits_of}

-- ---- an expression by its parts

neg_by : (a : Bool) (p : Option ℤ) → (if a || is_past (option_map neg_ℤ p) then value.Wide else computed (option_map neg_ℤ p)) ≡ negated (if a then value.Wide else computed p)
neg_by true p = refl
neg_by false None = refl
neg_by false (Some x) = refl

both_by : (f : ℤ → ℤ → Option ℤ) (a b : Bool) (p q : Option ℤ)
    → (if a || (b || is_past (of_both f p q)) then value.Wide else computed (of_both f p q)) ≡ combined f (if a then value.Wide else computed p) (if b then value.Wide else computed q)
both_by f true b p q = refl
both_by f false true None q = refl
both_by f false true (Some x) q = refl
both_by f false false None None = refl
both_by f false false None (Some y) = refl
both_by f false false (Some x) None = refl
both_by f false false (Some x) (Some y) = refl

pub exact_neg : (a : Expression) (s : State) → negated (exact a s) ≡ exact (Neg a) s
unfolding eval
exact_neg a s = sym (neg_by (is_wide a s) (eval a s))

pub exact_sum : (a b : Expression) (s : State) → combined sum (exact a s) (exact b s) ≡ exact (Add a b) s
unfolding eval
exact_sum a b s = sym (both_by sum (is_wide a s) (is_wide b s) (eval a s) (eval b s))

pub exact_difference : (a b : Expression) (s : State) → combined difference (exact a s) (exact b s) ≡ exact (Sub a b) s
unfolding eval
exact_difference a b s = sym (both_by difference (is_wide a s) (is_wide b s) (eval a s) (eval b s))

pub exact_product : (a b : Expression) (s : State) → combined product (exact a s) (exact b s) ≡ exact (Mul a b) s
unfolding eval
exact_product a b s = sym (both_by product (is_wide a s) (is_wide b s) (eval a s) (eval b s))

pub exact_quotient : (a b : Expression) (s : State) → combined quotient (exact a s) (exact b s) ≡ exact (Div a b) s
unfolding eval
exact_quotient a b s = sym (both_by quotient (is_wide a s) (is_wide b s) (eval a s) (eval b s))

pub exact_remainder : (a b : Expression) (s : State) → combined remainder (exact a s) (exact b s) ≡ exact (Rem a b) s
unfolding eval
exact_remainder a b s = sym (both_by remainder (is_wide a s) (is_wide b s) (eval a s) (eval b s))

leaf : (x : ℤ) → fits x ≡ true → (if not (fits x) then value.Wide else value.Is x) ≡ value.Is x
leaf x f = ap (λ b. if not b then value.Wide else value.Is x) f

pub exact_number : (n : ℕ) (s : State) → n < 2 ^ 64 → value.Is (pos n) ≡ exact (Number n) s
unfolding eval
exact_number n s l = sym (leaf (pos n) (fits_of (pos n) (let f : FitsSigned w128 (pos n) = omega (arith, ints) in f)))

pub exact_variable : (v : ℕ) (s : State) → fits (value_of s v) ≡ true → value.Is (value_of s v) ≡ exact (Variable v) s
unfolding eval
exact_variable v s f = sym (leaf (value_of s v) f)

apart : (y : ℤ) → y ≢ pos 0 → int_eq y (pos 0) ≡ false
apart y n = by (int_eq y (pos 0)) refl
  where
    by : (t : Bool) → int_eq y (pos 0) ≡ t → t ≡ false
    by true e = absurd (n ((Decides-int_eq y (pos 0)).0 e))
    by false e = refl

-- the remainder that the code computes
pub remainder_is : (x y r : ℤ) → FitsSigned w128 r → r ≡ int_rem x y → y ≢ pos 0 → value.Is (to_z w128 (of_z w128 r)) ≡ within (remainder x y)
remainder_is x y r f e n =
    let same : r ≡ left_over x y = e ∙ sym (left_over-is x y) in
    ap value.Is (to_z-of_z w128 r f) ∙ (sym (leaf r (fits_of r f)) ∙ (ap (λ z. within (Some z)) same ∙ ap (λ b. within (if b then None else Some (left_over x y))) (sym (apart y n))))

-- ---- a condition by its parts

-- ---- a core's numbers

pub node : (c : Parts) → NumbersStandForNodes → IsCore c → (e : ℕ) (x : CoreExpr) → e < length c.exprs → x ≡ get_or c.exprs e x → expr_over (exprs_in c) x ≡ expr_at (exprs_in c) e
node c law w e x l h = ap (expr_over (exprs_in c)) h ∙ sym ((law c w).expr e x l)

pub parts_below : (c : Parts) → IsCore c → (e : ℕ) (x : CoreExpr) → e < length c.exprs → x ≡ get_or c.exprs e x → ExprFits e x
parts_below c w e x l h = subst (ExprFits e) (sym h) (w.exprs e x l)

pub condition_node : (c : Parts) → NumbersStandForNodes → IsCore c → (e : ℕ) (x : CoreCond) → e < length c.conds → x ≡ get_or c.conds e x → cond_over (exprs_in c) (conds_in c) x ≡ cond_at (conds_in c) e
condition_node c law w e x l h = ap (cond_over (exprs_in c) (conds_in c)) h ∙ sym ((law c w).cond e x l)

pub condition_parts : (c : Parts) → IsCore c → (e : ℕ) (x : CoreCond) → e < length c.conds → x ≡ get_or c.conds e x → CondFits c e x
condition_parts c w e x l h = subst (CondFits c e) (sym h) (w.conds e x l)
