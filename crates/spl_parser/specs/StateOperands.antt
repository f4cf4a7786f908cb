-- What the parser does with operands and operators that wait.
use Rattle.std.specs.Prelude.{ℕ, ◌+◌, ◌≡◌, List, [], ◌∷◌, ◌++◌, length, Option, Some, None, Bool, false, ◌==◌}
use Rattle.spl_text.specs.declared.token.TokenKind.{TokenKind}
use Rattle.spl_text.specs.declared.token.TokenKind.TheVariants.{Star, Slash, Percent, Plus, Minus, Equal, NotEqual, Less, LessEqual, Greater, GreaterEqual, And, Or, RightParen, Semicolon, Then, Do}
use Rattle.spl_tree.specs.declared.parts.ExprId.{ExprId}
use Rattle.spl_tree.specs.declared.parts.BinOp.{BinOp}
use Rattle.spl_tree.specs.Lists.{Lists}
use Rattle.spl_tree.specs.Facts.{IsTree}
use Rattle.spl_tree.specs.Program.{ExprTree, binary}
use Rattle.spl_tree.specs.Meaning.{expr_at}
use Rattle.spl_parser.specs.declared.state.Left.{Left}
use Rattle.spl_parser.specs.declared.state.Pending.{Pending}
use Rattle.spl_parser.specs.declared.state.Sign.{Sign}
use Rattle.spl_parser.specs.declared.state.Sign.TheVariants as sign
use Rattle.spl_parser.specs.Growth.{Grown, grown}
use Rattle.spl_parser.specs.Machine as m
use Rattle.spl_parser.specs.Trees.{trees}
use Rattle.spl_parser.specs.StateMeaning.{side_of, left_of, pending_of}
use Rattle.spl_parser.specs.StateFacts.{ExprThere, PendingIn, one_if, waiting}
use Rattle.spl_parser.specs.StateSteps.{Grows}

-- n expressions were added and nothing else, and this one stands for the tree
pub record Folds (t t' : Lists) (n : ℕ) (e : ExprId) (tree : ExprTree) : Type 0 where
  pub whole : IsTree t'
  pub only : grown t' ≡ record (grown t) { exprs = (grown t').exprs }
  pub grows : Grows (grown t) (grown t')
  pub count : length (grown t').exprs ≡ length (grown t).exprs + n
  pub there : ExprThere (grown t') e
  pub is : expr_at (grown t').exprs e ≡ tree

-- an operand under its left operand, where there is one
abbrev pub joined_tree : Option (ExprTree × (BinOp × ℕ)) → ExprTree → ExprTree
joined_tree None x = x
joined_tree (Some l) x = binary l.1.0 l.0 x l.1.1

abbrev pub sided_tree : BinOp → Option (ExprTree × ℕ) → ExprTree → ExprTree
sided_tree op None x = x
sided_tree op (Some l) x = binary op l.0 x l.1

-- an operand closed up to the products, and up to the sums
abbrev pub product_tree : Option (ExprTree × (BinOp × ℕ)) → List ℕ → ExprTree → ExprTree
product_tree product minuses x = joined_tree product (m.under_minuses (trees []) minuses x)

abbrev pub sum_tree : Option (ExprTree × (BinOp × ℕ)) → Option (ExprTree × (BinOp × ℕ)) → List ℕ → ExprTree → ExprTree
sum_tree sum product minuses x = joined_tree sum (product_tree product minuses x)

-- an operand closed up to the conjunctions, and whole
abbrev pub conjunct_tree : Grown → Pending → ExprTree → ExprTree
conjunct_tree r p x = sided_tree BinOp.And (side_of r p.both) (m.under_nots (trees []) p.nots.items (joined_tree (left_of r p.comparison) (sum_tree (left_of r p.sum) (left_of r p.product) p.minuses.items x)))

abbrev pub whole_tree : Grown → Pending → ExprTree → ExprTree
whole_tree r p x = sided_tree BinOp.Or (side_of r p.either) (conjunct_tree r p x)

-- how many operators wait within a conjunction
abbrev pub waiting_within : Pending → ℕ
waiting_within p = one_if p.both + (length p.nots.items + (one_if p.comparison + (one_if p.sum + one_if p.product + length p.minuses.items)))

-- nothing before an operand
pub record IsFresh (p : Pending) : Type 0 where
  pub either : p.either ≡ None
  pub both : p.both ≡ None
  pub nots : p.nots.items ≡ []
  pub comparison : p.comparison ≡ None
  pub sum : p.sum ≡ None
  pub product : p.product ≡ None
  pub minuses : p.minuses.items ≡ []

-- one more prefix operator before an operand
pub record AddsMinus (p : Pending) (place : ℕ) (q : Pending) : Type 0 where
  pub either : q.either ≡ p.either
  pub both : q.both ≡ p.both
  pub nots : q.nots.items ≡ p.nots.items
  pub comparison : q.comparison ≡ p.comparison
  pub sum : q.sum ≡ p.sum
  pub product : q.product ≡ p.product
  pub minuses : q.minuses.items ≡ p.minuses.items ++ place ∷ []

pub record AddsNot (p : Pending) (place : ℕ) (q : Pending) : Type 0 where
  pub either : q.either ≡ p.either
  pub both : q.both ≡ p.both
  pub nots : q.nots.items ≡ p.nots.items ++ place ∷ []
  pub comparison : q.comparison ≡ p.comparison
  pub sum : q.sum ≡ p.sum
  pub product : q.product ≡ p.product
  pub minuses : q.minuses.items ≡ p.minuses.items

-- whether nothing of a narrower level than `not` waits
abbrev pub none_within : Option Left → Option Left → Option Left → ℕ → Bool
none_within None None None n = n == 0
none_within None None (Some x) n = false
none_within None (Some x) q n = false
none_within (Some x) s q n = false

abbrev pub nothing_within : Pending → Bool
nothing_within p = none_within p.comparison p.sum p.product (length p.minuses.items)

-- what a token is after an operand
abbrev pub sign_of : TokenKind → Sign
sign_of Star = sign.Product BinOp.Mul
sign_of Slash = sign.Product BinOp.Div
sign_of Percent = sign.Product BinOp.Rem
sign_of Plus = sign.Sum BinOp.Add
sign_of Minus = sign.Sum BinOp.Sub
sign_of Equal = sign.Comparison BinOp.Eq
sign_of NotEqual = sign.Comparison BinOp.Ne
sign_of Less = sign.Comparison BinOp.Lt
sign_of LessEqual = sign.Comparison BinOp.Le
sign_of Greater = sign.Comparison BinOp.Gt
sign_of GreaterEqual = sign.Comparison BinOp.Ge
sign_of And = sign.And
sign_of Or = sign.Or
sign_of RightParen = sign.Right
sign_of Semicolon = sign.Semicolon
sign_of Then = sign.Then
sign_of Do = sign.Do
sign_of _ = sign.Other

-- what waits after an operator, from what waited before the operand: the waiting operators that bind closer are closed
abbrev pub after_operator : (source : List ℕ) → Grown → Pending → ExprTree → Sign → ℕ → m.Pending (trees source)
after_operator source r p x (sign.Product op) at = m.before_product (trees source) (pending_of source r p) x (op, at)
after_operator source r p x (sign.Sum op) at = m.before_sum (trees source) (pending_of source r p) x (op, at)
after_operator source r p x (sign.Comparison op) at = m.before_cmp (trees source) (pending_of source r p) x (op, at)
after_operator source r p x sign.And at = m.before_both (trees source) (pending_of source r p) x at
after_operator source r p x sign.Or at = m.before_either (trees source) (pending_of source r p) x at
after_operator source r p x _ at = pending_of source r p

-- operators closed before a new one that waits
pub record Shifts (t t' : Lists) (p : Pending) (operand : ExprId) (s : Sign) (at : ℕ) (q : Pending) : Type 0 where
  pub whole : IsTree t'
  pub only : grown t' ≡ record (grown t) { exprs = (grown t').exprs }
  pub grows : Grows (grown t) (grown t')
  pub count : length (grown t').exprs + waiting q ≡ length (grown t).exprs + waiting p + 1
  pub there : PendingIn (grown t') q
  pub goes : (source : List ℕ) → pending_of source (grown t') q ≡ after_operator source (grown t) p (expr_at (grown t).exprs operand) s at
