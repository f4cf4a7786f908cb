-- Worked programs: the first rule that each breaks, with its place, and the dimensions of a procedure.
use Rattle.std.specs.Prelude.{◌≡◌, ℕ, ◌+◌, List, [], ◌∷◌, Some, None, codes}
use Rattle.spl_tree.specs.declared.parts.BinOp.TheVariants.{Add}
use Rattle.spl_tree.specs.declared.parts.StmtAt.{StmtAt}
use Rattle.spl_tree.specs.Program.{Named, Declared, int_kind, number, variable, random_value, binary, StmtTree, skip, assign, call, empty, more, ProcMeaning, Program}
use Rattle.spl_types.specs.Checks.{broken_rule, procedure_of}
use Rattle.spl_types.specs.Dimensions.{dimensions_of}
use Rattle.spl_types.specs.declared.fault.CheckRule.TheVariants.{UnknownVariable, DuplicateName, WrongKind, WrongCount}

abbrev pub named : List ℕ → ℕ → Named
named name at = record { name = name; at = at }

abbrev pub int_named : List ℕ → ℕ → Declared
int_named name at = record { name = named name at; kind = int_kind; kind_at = at + 2 }

abbrev pub from_to : ℕ → ℕ → ℕ → StmtAt
from_to start called end = record { start = start; called = called; first_block = start; second_block = start; end = end }

-- main over these variables, with one statement
abbrev pub main_of : List Declared → ℕ → StmtTree → Program
main_of locals begin s = record { procs = []; locals = locals; begin = begin; body = more empty s }

-- `var x:int; begin x = x + random; end`
abbrev pub sum_with_random : Program
sum_with_random = main_of (int_named (codes "x") 4 ∷ []) 11 (assign (codes "x") (binary Add (variable (codes "x") 21) (random_value 25) 23) (from_to 17 17 32))

-- `proc f(a:int) returns (r:int) begin a = a; end var x:int; begin x = f(x, x); end`
abbrev pub copying : ProcMeaning
copying = record {
  name = named (codes "f") 5;
  inputs = int_named (codes "a") 7 ∷ [];
  outputs = int_named (codes "r") 23 ∷ [];
  locals = [];
  begin = 30;
  body = more empty (assign (codes "a") (variable (codes "a") 40) (from_to 36 36 42));
}

abbrev pub two_for_one : Program
two_for_one = record {
  procs = copying ∷ [];
  locals = int_named (codes "x") 51 ∷ [];
  begin = 58;
  body = more empty (call (named (codes "x") 64 ∷ []) (codes "f") (named (codes "x") 70 ∷ named (codes "x") 73 ∷ []) (from_to 64 68 76));
}

pub record CheckExamples : Type 0 where
  -- `begin y = 1; end`
  pub unknown : broken_rule (main_of [] 0 (assign (codes "y") (number 1 10) (from_to 6 6 12))) ≡ Some (UnknownVariable, 6)
  -- `var x:int; begin x = random; end`
  pub random : broken_rule (main_of (int_named (codes "x") 4 ∷ []) 11 (assign (codes "x") (random_value 21) (from_to 17 17 28))) ≡ None
  -- `var x:int; begin x = x + random; end`
  pub kind : broken_rule sum_with_random ≡ Some (WrongKind, 25)
  -- `var x:int, x:int; begin skip; end`
  pub twice : broken_rule (main_of (int_named (codes "x") 4 ∷ int_named (codes "x") 11 ∷ []) 18 (skip (from_to 24 24 29))) ≡ Some (DuplicateName, 11)
  pub count : broken_rule two_for_one ≡ Some (WrongCount, 68)
  pub dimensions : dimensions_of (procedure_of copying) ≡ codes "a@" ∷ codes "r" ∷ codes "a" ∷ []
