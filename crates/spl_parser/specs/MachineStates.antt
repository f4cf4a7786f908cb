-- The states of the machine: what was read, as values of an algebra.
use Rattle.std.specs.Prelude.{List, Option}
use Rattle.spl_parser.specs.Algebra.{Algebra}

-- what stands before a body's variables: the procedures so far, and a procedure's head
pub data Head (A : Algebra) : Type 0 where
  main_head : A.Procs → Head A
  proc_head : A.Procs → A.Gone → A.Word → A.Gone → A.OptDecls → A.Gone → A.Gone → A.Gone → A.OptDecls → A.Gone → Head A

-- what a list of declarations is for
pub data DeclGoal (A : Algebra) : Type 0 where
  inputs_of : A.Procs → A.Gone → A.Word → A.Gone → DeclGoal A
  outputs_of : A.Procs → A.Gone → A.Word → A.Gone → A.OptDecls → A.Gone → A.Gone → A.Gone → DeclGoal A
  vars_of : Head A → A.Gone → DeclGoal A

-- what stands before a declaration in its list
pub data Before (A : Algebra) : Type 0 where
  at_first : Before A
  after : A.Decls → A.Gone → Before A

-- an open block around the one that is read: the statements before the statement that it belongs to, and that statement so far
pub data Frame (A : Algebra) : Type 0 where
  in_then : A.Stmts → A.Start → A.E0 → A.Stop → Frame A
  in_else : A.Stmts → A.Start → A.E0 → A.Stop → A.Stmts → A.Stop → Frame A
  in_while : A.Stmts → A.Start → A.E0 → A.Stop → Frame A

-- a body that is read: its head, its variables and its `begin`, the open blocks, and the statements of the innermost one
pub record Body (A : Algebra) : Type 0 where
  pub head : Head A
  pub vars : A.Vars
  pub begin : A.Start
  pub frames : List (Frame A)
  pub stmts : A.Stmts

-- what an expression is for
pub data Goal (A : Algebra) : Type 0 where
  assume_goal : A.Start → Goal A
  assign_goal : A.Word → A.Gone → Goal A
  if_goal : A.Start → Goal A
  while_goal : A.Start → Goal A

-- what stands before an operand: at each level the left operand with its operator, where there is one, and the prefix operators
pub record Pending (A : Algebra) : Type 0 where
  pub either_left : Option (A.E0 × A.Start)
  pub both_left : Option (A.E1 × A.Start)
  pub nots : List A.Start
  pub cmp_left : Option (A.E4 × A.CmpSign)
  pub sum_left : Option (A.E4 × A.SumSign)
  pub product_left : Option (A.E5 × A.ProductSign)
  pub minuses : List A.Start

-- an open parenthesis, with what stands before it
pub record Paren (A : Algebra) : Type 0 where
  pub pending : Pending A
  pub left : A.Gone

-- a statement of one word
pub data Simple (A : Algebra) : Type 0 where
  skip_word : A.Start → Simple A
  halt_word : A.Start → Simple A
  fail_word : A.Start → Simple A

-- the targets of a call, with the `=` after them
pub data Targets (A : Algebra) : Type 0 where
  one_target : A.Word → A.Gone → Targets A
  target_list : A.Start → A.OptNames → A.Gone → A.Gone → Targets A

-- what a list of names is for
pub data NameGoal (A : Algebra) : Type 0 where
  target_names : A.Start → NameGoal A
  argument_names : Targets A → A.Word → A.Gone → NameGoal A

-- a statement whose `;` may follow
pub data Closed (A : Algebra) : Type 0 where
  closed_if : A.Start → A.E0 → A.Stop → A.Stmts → A.Tail → A.Stop → Closed A
  closed_while : A.Start → A.E0 → A.Stop → A.Stmts → A.Stop → Closed A

-- a state: what was read, and so what may follow
pub data State (A : Algebra) : Type 0 where
  at_start : Head A → State A
  at_begin : Head A → A.Vars → State A
  proc_word : A.Procs → A.Gone → State A
  proc_name : A.Procs → A.Gone → A.Word → State A
  decl_open : DeclGoal A → State A
  decl_next : DeclGoal A → Before A → State A
  decl_name : DeclGoal A → Before A → A.Word → State A
  decl_colon : DeclGoal A → Before A → A.Word → A.Gone → State A
  decl_after : DeclGoal A → A.Decls → State A
  inputs_after : A.Procs → A.Gone → A.Word → A.Gone → A.OptDecls → A.Gone → State A
  returns_word : A.Procs → A.Gone → A.Word → A.Gone → A.OptDecls → A.Gone → A.Gone → State A
  in_block : Body A → State A
  simple : Body A → Simple A → State A
  target : Body A → A.Word → State A
  assign_start : Body A → A.Word → A.Gone → State A
  assign_name : Body A → A.Word → A.Gone → A.Word → State A
  want : Body A → Goal A → List (Paren A) → Pending A → State A
  have : Body A → Goal A → List (Paren A) → Pending A → A.Atom → State A
  names_open : Body A → NameGoal A → State A
  names_next : Body A → NameGoal A → A.Names → A.Gone → State A
  names_after : Body A → NameGoal A → A.Names → State A
  targets_after : Body A → A.Start → A.OptNames → A.Gone → State A
  called : Body A → Targets A → State A
  called_name : Body A → Targets A → A.Word → State A
  call_after : Body A → Targets A → A.Word → A.Gone → A.OptNames → A.Gone → State A
  after_end : Body A → Closed A → State A
  done : A.Result → State A
