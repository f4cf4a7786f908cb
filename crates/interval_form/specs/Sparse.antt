-- Forms as the code keeps them: a constant, and the coefficients that there are, in rising order of their dimensions.
use Rattle.std.specs.Prelude.{◌≡◌, ℕ, ◌+◌, ◌≤◌, nat_eq, Bool, true, false, List, [], ◌∷◌, drop, is_none, ◌||◌, if◌then◌else◌}
use Rattle.interval_form.specs.declared.form.Term.{Term}
use Rattle.interval_form.specs.Interval.{Interval, IsOutward, negated, sum_of, product_of, range_at}
use Rattle.interval_form.specs.Form.{Form, nothing, is_nothing, form_of}
use Rattle.interval_form.specs.Linear.{difference_form, sum_form}

pub record Sparse : Type 0 where
  pub constant : Interval
  pub terms : List Term

-- the coefficient of v
abbrev pub term_at : List Term → ℕ → Interval
term_at [] v = nothing
term_at (t ∷ ts) v = if nat_eq t.dimension v then t.coefficient else term_at ts v

-- terms with rising dimensions from m on and below n; each coefficient is outward, and none is [0, 0]
abbrev pub Terms : ℕ → ℕ → List Term → Type 0
Terms m n [] = m ≤ n
Terms m n (t ∷ ts) = (m ≤ t.dimension) × (is_nothing t.coefficient ≡ false) × IsOutward t.coefficient × Terms (t.dimension + 1) n ts

-- above every dimension of the code
abbrev pub past_all : ℕ
past_all = 4294967296

-- what a form keeps
pub record IsSparse (s : Sparse) : Type 0 where
  pub constant : IsOutward s.constant
  pub terms : Terms 0 past_all s.terms

-- a form all of whose dimensions are below n
abbrev pub IsFormOver : ℕ → Sparse → Type 0
IsFormOver n s = Terms 0 n s.terms

-- the form over n dimensions that a form of the code stands for
unfoldable pub form_in : ℕ → Sparse → Form
form_in n s = form_of n s.constant (term_at s.terms)

-- the sum or the difference of two coefficients
abbrev pub part_of : Bool → Interval → Interval
part_of true i = negated i
part_of false i = i

unfoldable pub joined : Bool → Interval → Interval → Interval
joined minus a b = sum_of a (part_of minus b)

-- the dimension of the first term
abbrev pub head_of : List Term → ℕ
head_of [] = past_all
head_of (t ∷ ts) = t.dimension

-- the terms from the index `at` on are those of the dimensions from v on
pub record Stands (ts : List Term) (at v : ℕ) : Type 0 where
  pub rest : Terms v past_all (drop at ts)
  pub same : (w : ℕ) → v ≤ w → term_at (drop at ts) w ≡ term_at ts w

-- a term has a coefficient that is unbounded on a side
abbrev pub is_unbounded : Interval → Bool
is_unbounded i = is_none i.low || is_none i.high

abbrev pub any_unbounded : List Term → Bool
any_unbounded [] = false
any_unbounded (t ∷ ts) = is_unbounded t.coefficient || any_unbounded ts

-- the sum of a value and of coefficient times range for each term, one after the other
abbrev pub folded : List Interval → Interval → List Term → Interval
folded ranges i [] = i
folded ranges i (t ∷ ts) = folded ranges (sum_of i (product_of t.coefficient (range_at ranges t.dimension))) ts

-- the terms times an interval
abbrev pub scaled_from : Interval → Term → List Term → List Term
scaled_from i t ts = if is_nothing i then ts else record { dimension = t.dimension; coefficient = i } ∷ ts

abbrev pub scaled_terms : Interval → List Term → List Term
scaled_terms k [] = []
scaled_terms k (t ∷ ts) = scaled_from (product_of k t.coefficient) t (scaled_terms k ts)

-- the sum or the difference of two forms
abbrev pub joined_form : Bool → List Interval → Form → Form → Form
joined_form true ranges a b = difference_form ranges a b
joined_form false ranges a b = sum_form ranges a b

abbrev pub has_some : List Term → Bool
has_some [] = false
has_some (t ∷ ts) = true
