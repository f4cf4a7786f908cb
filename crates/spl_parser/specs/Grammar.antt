-- The grammar: a derivation is a value of these types, and each constructor is one production. A token of a derivation
-- is its span, since the production tells its kind.
use Rattle.std.specs.Prelude.{ℕ}

-- where a token stands: the offset of its first byte, and the offset just past its last one
pub record Leaf : Type 0 where
  pub start : ℕ
  pub end : ℕ

-- type := int | real | NAME
pub data TypeWord : Type 0 where
  int_word : Leaf → TypeWord
  real_word : Leaf → TypeWord
  name_word : Leaf → TypeWord

-- decl := NAME : type
pub data Decl : Type 0 where
  decl : (name colon : Leaf) → TypeWord → Decl

-- decls := decl | decls , decl
pub data Decls : Type 0 where
  one_decl : Decl → Decls
  more_decls : Decls → (comma : Leaf) → Decl → Decls

-- [decls]
pub data OptDecls : Type 0 where
  no_decls : OptDecls
  some_decls : Decls → OptDecls

-- [var decls ;]
pub data Vars : Type 0 where
  no_vars : Vars
  some_vars : (var : Leaf) → Decls → (semicolon : Leaf) → Vars

-- names := NAME | names , NAME
pub data Names : Type 0 where
  one_name : (name : Leaf) → Names
  more_names : Names → (comma name : Leaf) → Names

-- [names]
pub data OptNames : Type 0 where
  no_names : OptNames
  some_names : Names → OptNames

-- cmp := == | != | < | <= | > | >=
pub data Cmp : Type 0 where
  equal : Leaf → Cmp
  not_equal : Leaf → Cmp
  less : Leaf → Cmp
  less_equal : Leaf → Cmp
  greater : Leaf → Cmp
  greater_equal : Leaf → Cmp

-- + | -
pub data SumSign : Type 0 where
  plus : Leaf → SumSign
  minus : Leaf → SumSign

-- * | / | %
pub data ProductSign : Type 0 where
  star : Leaf → ProductSign
  slash : Leaf → ProductSign
  percent : Leaf → ProductSign

mutual
  -- E0 := E1 | E0 or E1
  pub data E0 : Type 0 where
    only_1 : E1 → E0
    either : E0 → (or : Leaf) → E1 → E0

  -- E1 := E2 | E1 and E2
  pub data E1 : Type 0 where
    only_2 : E2 → E1
    both : E1 → (and : Leaf) → E2 → E1

  -- E2 := E3 | not E2
  pub data E2 : Type 0 where
    only_3 : E3 → E2
    opposite_of : (not : Leaf) → E2 → E2

  -- E3 := E4 | E4 cmp E4
  pub data E3 : Type 0 where
    only_4 : E4 → E3
    compared : E4 → Cmp → E4 → E3

  -- E4 := E5 | E4 (+|-) E5
  pub data E4 : Type 0 where
    only_5 : E5 → E4
    sum_of : E4 → SumSign → E5 → E4

  -- E5 := E6 | E5 (*|/|%) E6
  pub data E5 : Type 0 where
    only_6 : E6 → E5
    product_of : E5 → ProductSign → E6 → E5

  -- E6 := - E6 | atom
  pub data E6 : Type 0 where
    only_atom : Atom → E6
    negative_of : (minus : Leaf) → E6 → E6

  -- atom := NUMBER | NAME | true | false | random | brandom | ( E0 )
  pub data Atom : Type 0 where
    number_atom : ℕ → Leaf → Atom
    name_atom : Leaf → Atom
    true_atom : Leaf → Atom
    false_atom : Leaf → Atom
    random_atom : Leaf → Atom
    brandom_atom : Leaf → Atom
    paren_atom : (left : Leaf) → E0 → (right : Leaf) → Atom

-- [;]
pub data OptSemicolon : Type 0 where
  no_semicolon : OptSemicolon
  a_semicolon : Leaf → OptSemicolon

mutual
  -- stmts := | stmts stmt
  pub data Stmts : Type 0 where
    no_stmts : Stmts
    more_stmts : Stmts → Stmt → Stmts

  -- stmt := skip ; | halt ; | fail ; | assume E0 ; | NAME = E0 ; | NAME = NAME ( [names] ) ;
  --       | ( [names] ) = NAME ( [names] ) ; | if E0 then stmts [else stmts] endif [;] | while E0 do stmts done [;]
  pub data Stmt : Type 0 where
    skip_stmt : (skip semicolon : Leaf) → Stmt
    halt_stmt : (halt semicolon : Leaf) → Stmt
    fail_stmt : (fail semicolon : Leaf) → Stmt
    assume_stmt : (assume : Leaf) → E0 → (semicolon : Leaf) → Stmt
    assign_stmt : (name becomes : Leaf) → E0 → (semicolon : Leaf) → Stmt
    call_stmt : (target becomes called left : Leaf) → OptNames → (right semicolon : Leaf) → Stmt
    calls_stmt : (left : Leaf) → OptNames → (right becomes called left' : Leaf) → OptNames → (right' semicolon : Leaf) → Stmt
    if_stmt : (word : Leaf) → E0 → (then : Leaf) → Stmts → OptElse → (endif : Leaf) → OptSemicolon → Stmt
    while_stmt : (word : Leaf) → E0 → (do' : Leaf) → Stmts → (done : Leaf) → OptSemicolon → Stmt

  -- [else stmts]
  pub data OptElse : Type 0 where
    no_else : OptElse
    some_else : (word : Leaf) → Stmts → OptElse

-- proc := proc NAME ( [decls] ) returns ( [decls] ) [var decls ;] begin stmts end
pub data Proc : Type 0 where
  proc : (word name left : Leaf) → OptDecls → (right returns left' : Leaf) → OptDecls → (right' : Leaf) → Vars → (begin : Leaf) → Stmts → (end : Leaf) → Proc

-- proc*
pub data Procs : Type 0 where
  no_procs : Procs
  more_procs : Procs → Proc → Procs

-- program := proc* [var decls ;] begin stmts end
pub data Derivation : Type 0 where
  program : Procs → Vars → (begin : Leaf) → Stmts → (end : Leaf) → Derivation
