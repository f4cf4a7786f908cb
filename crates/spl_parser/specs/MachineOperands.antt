-- Operands that close, and what stands before one: the levels of operators.
use Rattle.std.specs.Prelude.{List, [], ◌∷◌, Option, Some, None}
use Rattle.spl_parser.specs.Algebra.{Algebra}
use Rattle.spl_parser.specs.MachineStates.{Pending}

-- nothing before an operand
abbrev pub nothing_before : (A : Algebra) → Pending A
nothing_before A = record { either_left = None; both_left = None; nots = []; cmp_left = None; sum_left = None; product_left = None; minuses = [] }

-- an operand closed level by level, by what stands before it
abbrev pub under_minuses : (A : Algebra) → List A.Start → A.E6 → A.E6
under_minuses A [] e = e
under_minuses A (m ∷ ms) e = A.negative m (under_minuses A ms e)

abbrev pub under_nots : (A : Algebra) → List A.Start → A.E2 → A.E2
under_nots A [] e = e
under_nots A (m ∷ ms) e = A.opposite m (under_nots A ms e)

abbrev pub with_product : (A : Algebra) → Option (A.E5 × A.ProductSign) → A.E6 → A.E5
with_product A None e = A.only_6 e
with_product A (Some l) e = A.product l.0 l.1 e

abbrev pub with_sum : (A : Algebra) → Option (A.E4 × A.SumSign) → A.E5 → A.E4
with_sum A None e = A.only_5 e
with_sum A (Some l) e = A.sum l.0 l.1 e

abbrev pub with_cmp : (A : Algebra) → Option (A.E4 × A.CmpSign) → A.E4 → A.E3
with_cmp A None e = A.only_4 e
with_cmp A (Some l) e = A.compared l.0 l.1 e

abbrev pub with_both : (A : Algebra) → Option (A.E1 × A.Start) → A.E2 → A.E1
with_both A None e = A.only_2 e
with_both A (Some l) e = A.both l.0 l.1 e

abbrev pub with_either : (A : Algebra) → Option (A.E0 × A.Start) → A.E1 → A.E0
with_either A None e = A.only_1 e
with_either A (Some l) e = A.either l.0 l.1 e

abbrev pub closed_5 : (A : Algebra) → Pending A → A.Atom → A.E5
closed_5 A p a = with_product A p.product_left (under_minuses A p.minuses (A.only_atom a))

abbrev pub closed_4 : (A : Algebra) → Pending A → A.Atom → A.E4
closed_4 A p a = with_sum A p.sum_left (closed_5 A p a)

abbrev pub closed_1 : (A : Algebra) → Pending A → A.Atom → A.E1
closed_1 A p a = with_both A p.both_left (under_nots A p.nots (A.only_3 (with_cmp A p.cmp_left (closed_4 A p a))))

abbrev pub closed_0 : (A : Algebra) → Pending A → A.Atom → A.E0
closed_0 A p a = with_either A p.either_left (closed_1 A p a)

-- what stands before the operand after an operator of each level
abbrev pub before_product : (A : Algebra) → Pending A → A.Atom → A.ProductSign → Pending A
before_product A p a s = record { either_left = p.either_left; both_left = p.both_left; nots = p.nots; cmp_left = p.cmp_left; sum_left = p.sum_left; product_left = Some (closed_5 A p a, s); minuses = [] }

abbrev pub before_sum : (A : Algebra) → Pending A → A.Atom → A.SumSign → Pending A
before_sum A p a s = record { either_left = p.either_left; both_left = p.both_left; nots = p.nots; cmp_left = p.cmp_left; sum_left = Some (closed_4 A p a, s); product_left = None; minuses = [] }

abbrev pub before_cmp : (A : Algebra) → Pending A → A.Atom → A.CmpSign → Pending A
before_cmp A p a s = record { either_left = p.either_left; both_left = p.both_left; nots = p.nots; cmp_left = Some (closed_4 A p a, s); sum_left = None; product_left = None; minuses = [] }

abbrev pub before_both : (A : Algebra) → Pending A → A.Atom → A.Start → Pending A
before_both A p a s = record { either_left = p.either_left; both_left = Some (closed_1 A p a, s); nots = []; cmp_left = None; sum_left = None; product_left = None; minuses = [] }

abbrev pub before_either : (A : Algebra) → Pending A → A.Atom → A.Start → Pending A
before_either A p a s = record { either_left = Some (closed_0 A p a, s); both_left = None; nots = []; cmp_left = None; sum_left = None; product_left = None; minuses = [] }
