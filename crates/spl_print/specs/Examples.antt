-- Worked programs: the texts that are written of them.
use Rattle.std.specs.Prelude.{◌≡◌, ℕ, List, [], ◌∷◌, codes}
use Rattle.spl_tree.specs.declared.parts.BinOp.TheVariants.{Or, And, Lt, Add, Sub, Mul}
use Rattle.spl_tree.specs.Program.{int_kind, ExprTree, number, variable, negative, opposite, binary, assign, if_then, empty, more, Program}
use Rattle.spl_print.specs.Canonical.{expr_text, targets_text, canonical}

abbrev pub variable_x : ExprTree
variable_x = variable (codes "x") 0

abbrev pub variable_y : ExprTree
variable_y = variable (codes "y") 0

abbrev pub variable_z : ExprTree
variable_z = variable (codes "z") 0

abbrev pub over : ExprTree → ExprTree → ExprTree
over a b = binary Sub a b 0

-- the source `var i:int;begin if i<1 then i=7;endif end`, as one line of bytes
abbrev pub source : List ℕ
source = codes "var i:int;begin if i<1 then i=7;endif end"

abbrev pub conditional : Program
conditional = record {
  procs = [];
  locals = record { name = record { name = codes "i"; at = 4 }; kind = int_kind; kind_at = 6 } ∷ [];
  begin = 10;
  body = more empty (if_then
      (binary Lt (variable (codes "i") 19) (number 1 21) 20)
      (more empty (assign (codes "i") (number 7 30) (record { start = 28; called = 28; first_block = 28; second_block = 28; end = 32 })))
      (record { start = 16; called = 16; first_block = 27; second_block = 16; end = 37 }));
}

pub record TextExamples : Type 0 where
  -- a difference groups to the left, and parentheses stand only where they are wanted
  pub left : expr_text (over (over variable_x variable_y) variable_z) ≡ codes "x - y - z"
  pub right : expr_text (over variable_x (over variable_y variable_z)) ≡ codes "x - (y - z)"
  pub product : expr_text (binary Mul (binary Add variable_x variable_y 0) (negative (negative variable_z 0) 0) 0) ≡ codes "(x + y) * --z"
  pub opposite_of_both : expr_text (opposite (binary And (opposite variable_x 0) variable_y 0) 0) ≡ codes "not (not x and y)"
  pub either : expr_text (binary Or (binary And variable_x variable_y 0) (opposite (binary Lt variable_x variable_y 0) 0) 0) ≡ codes "x and y or not x < y"
  -- one target stands alone, no target and several in parentheses
  pub no_target : targets_text [] ≡ codes "()"
  pub two_targets : targets_text (codes "x" ∷ codes "y" ∷ []) ≡ codes "(x, y)"
  pub whole : canonical source conditional (record { points = codes "top" ∷ codes "a" ∷ codes "b" ∷ codes "c" ∷ []; closing = codes "rounds: 2" ∷ [] })
      ≡ codes "var i:int;\nbegin\n  /* (L1 C16) top */\n  if i < 1 then\n    /* (L1 C28) a */\n    i = 7;\n    /* (L1 C33) b */\n  endif;\n  /* (L1 C38) c */\nend\n/* rounds: 2 */\n"
