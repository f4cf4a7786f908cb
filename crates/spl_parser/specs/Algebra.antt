-- The kinds of values that a machine may make of a program, and the value that each production makes.
use Rattle.std.specs.Prelude.{ℕ}
use Rattle.spl_parser.specs.Grammar.{Leaf}

-- the kinds of values, and the value that each production makes of those before it
pub record Algebra : Type 1 where
  -- where a token stands; a name; a token whose start counts; one whose end counts; one of which nothing counts
  pub Place : Type 0
  pub Word : Type 0
  pub Start : Type 0
  pub Stop : Type 0
  pub Gone : Type 0
  pub Kind : Type 0
  pub Decls : Type 0
  pub OptDecls : Type 0
  pub Vars : Type 0
  pub Names : Type 0
  pub OptNames : Type 0
  pub CmpSign : Type 0
  pub SumSign : Type 0
  pub ProductSign : Type 0
  pub E0 : Type 0
  pub E1 : Type 0
  pub E2 : Type 0
  pub E3 : Type 0
  pub E4 : Type 0
  pub E5 : Type 0
  pub E6 : Type 0
  pub Atom : Type 0
  pub Semi : Type 0
  pub Stmts : Type 0
  pub Stmt : Type 0
  pub Tail : Type 0
  pub Procs : Type 0
  pub Result : Type 0
  pub place : Leaf → Place
  pub word : Place → Word
  pub start : Place → Start
  pub stop : Place → Stop
  pub gone : Place → Gone
  pub int : Place → Kind
  pub real : Place → Kind
  pub other : Place → Kind
  pub decls_one : Word → Gone → Kind → Decls
  pub decls_more : Decls → Gone → Word → Gone → Kind → Decls
  pub no_decls : OptDecls
  pub some_decls : Decls → OptDecls
  pub no_vars : Vars
  pub some_vars : Gone → Decls → Gone → Vars
  pub names_one : Word → Names
  pub names_more : Names → Gone → Word → Names
  pub no_names : OptNames
  pub some_names : Names → OptNames
  pub equal : Place → CmpSign
  pub not_equal : Place → CmpSign
  pub less : Place → CmpSign
  pub less_equal : Place → CmpSign
  pub greater : Place → CmpSign
  pub greater_equal : Place → CmpSign
  pub plus : Place → SumSign
  pub minus : Place → SumSign
  pub star : Place → ProductSign
  pub slash : Place → ProductSign
  pub percent : Place → ProductSign
  pub only_1 : E1 → E0
  pub either : E0 → Start → E1 → E0
  pub only_2 : E2 → E1
  pub both : E1 → Start → E2 → E1
  pub only_3 : E3 → E2
  pub opposite : Start → E2 → E2
  pub only_4 : E4 → E3
  pub compared : E4 → CmpSign → E4 → E3
  pub only_5 : E5 → E4
  pub sum : E4 → SumSign → E5 → E4
  pub only_6 : E6 → E5
  pub product : E5 → ProductSign → E6 → E5
  pub only_atom : Atom → E6
  pub negative : Start → E6 → E6
  pub number : ℕ → Place → Atom
  pub variable : Word → Atom
  pub true_value : Place → Atom
  pub false_value : Place → Atom
  pub random : Place → Atom
  pub brandom : Place → Atom
  pub in_parens : Gone → E0 → Gone → Atom
  pub no_semi : Semi
  pub a_semi : Stop → Semi
  pub no_stmts : Stmts
  pub more_stmts : Stmts → Stmt → Stmts
  pub skip : Start → Stop → Stmt
  pub halt : Start → Stop → Stmt
  pub fail : Start → Stop → Stmt
  pub assume : Start → E0 → Stop → Stmt
  pub assign : Word → Gone → E0 → Stop → Stmt
  pub call : Word → Gone → Word → Gone → OptNames → Gone → Stop → Stmt
  pub calls : Start → OptNames → Gone → Gone → Word → Gone → OptNames → Gone → Stop → Stmt
  pub conditional : Start → E0 → Stop → Stmts → Tail → Stop → Semi → Stmt
  pub loop : Start → E0 → Stop → Stmts → Stop → Semi → Stmt
  pub no_else : Tail
  pub some_else : Stop → Stmts → Tail
  pub no_procs : Procs
  pub more_procs : Procs → Gone → Word → Gone → OptDecls → Gone → Gone → Gone → OptDecls → Gone → Vars → Start → Stmts → Gone → Procs
  pub program : Procs → Vars → Start → Stmts → Gone → Result
