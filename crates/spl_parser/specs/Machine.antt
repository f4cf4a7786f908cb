-- A machine that reads a program token by token. Its states hold what was read, as values of any kind: as derivations,
-- as trees, or as nothing at all. So what it accepts, what it makes and that only kinds of tokens matter are told of
-- one machine.
use Rattle.std.specs.Prelude.{List, [], ◌∷◌, Option, Some, None, option_and_then}
use Rattle.spl_text.specs.declared.token.Token.{Token}
use Rattle.spl_text.specs.declared.token.TokenKind.{TokenKind}
use Rattle.spl_parser.specs.Grammar.{Leaf}
pub use Rattle.spl_parser.specs.Algebra.{Algebra}
pub use Rattle.spl_parser.specs.MachineStates.{Head, main_head, proc_head, DeclGoal, inputs_of, outputs_of, vars_of, Before, at_first, after, Frame, in_then, in_else, in_while, Body, Goal, assume_goal, assign_goal, if_goal, while_goal, Pending, Paren, Simple, skip_word, halt_word, fail_word, Targets, one_target, target_list, NameGoal, target_names, argument_names, Closed, closed_if, closed_while, State, at_start, at_begin, proc_word, proc_name, decl_open, decl_next, decl_name, decl_colon, decl_after, inputs_after, returns_word, in_block, simple, target, assign_start, assign_name, want, have, names_open, names_next, names_after, targets_after, called, called_name, call_after, after_end, done}
pub use Rattle.spl_parser.specs.MachineOperands.{nothing_before, under_minuses, under_nots, with_product, with_sum, with_cmp, with_both, with_either, closed_5, closed_4, closed_1, closed_0, before_product, before_sum, before_cmp, before_both, before_either}
pub use Rattle.spl_parser.specs.MachineSteps.{with_stmt, with_block, new_body, with_decl, finished, simple_stmt, call_stmt_of}
unfoldable pub use Rattle.spl_parser.specs.MachineSteps.{starts_proc, step_start, step_begin, step_proc_word, step_proc_name, decls_close, vars_close, step_decl_open, step_decl_next, step_decl_name, step_decl_colon, step_decl_after, step_inputs_after, step_returns_word, on_else, on_endif, on_done, body_close, on_end, step_block, step_simple, step_target, on_not, step_want, on_cmp, on_right, on_semicolon, on_then, on_do, step_have, step_assign_start, step_assign_name, names_close, step_names_open, step_names_next, step_names_after, step_targets_after, step_called, step_called_name, step_call_after, step_after_end}

-- the state after one more token, or none where no program goes on so
unfoldable pub step : (A : Algebra) → State A → TokenKind → A.Place → Option (State A)
step A (at_start h) k l = step_start A h k l
step A (at_begin h vs) k l = step_begin A h vs k l
step A (proc_word ps w) k l = step_proc_word A ps w k l
step A (proc_name ps w n) k l = step_proc_name A ps w n k l
step A (decl_open g) k l = step_decl_open A g k l
step A (decl_next g b) k l = step_decl_next A g b k l
step A (decl_name g b n) k l = step_decl_name A g b n k l
step A (decl_colon g b n c) k l = step_decl_colon A g b n c k l
step A (decl_after g ds) k l = step_decl_after A g ds k l
step A (inputs_after ps w n o ins c) k l = step_inputs_after A ps w n o ins c k l
step A (returns_word ps w n o ins c r) k l = step_returns_word A ps w n o ins c r k l
step A (in_block b) k l = step_block A b k l
step A (simple b w) k l = step_simple A b w k l
step A (target b x) k l = step_target A b x k l
step A (assign_start b x q) k l = step_assign_start A b x q k l
step A (assign_name b x q n) k l = step_assign_name A b x q n k l
step A (want b g ps p) k l = step_want A b g ps p k l
step A (have b g ps p a) k l = step_have A b g ps p a k l
step A (names_open b g) k l = step_names_open A b g k l
step A (names_next b g ns c) k l = step_names_next A b g ns c k l
step A (names_after b g ns) k l = step_names_after A b g ns k l
step A (targets_after b o ns c) k l = step_targets_after A b o ns c k l
step A (called b ts) k l = step_called A b ts k l
step A (called_name b ts f) k l = step_called_name A b ts f k l
step A (call_after b ts f o ns c) k l = step_call_after A b ts f o ns c k l
step A (after_end b c) k l = step_after_end A b c k l
step A (done r) k l = None

-- the span of a token
abbrev pub leaf_of : Token → Leaf
leaf_of t = record { start = t.start; end = t.end }

-- the state after a list of tokens
abbrev pub run : (A : Algebra) → State A → List Token → Option (State A)
run A s [] = Some s
run A s (t ∷ ts) = option_and_then (λ s'. run A s' ts) (step A s t.kind (A.place (leaf_of t)))

-- before the first token
abbrev pub initial : (A : Algebra) → State A
initial A = at_start (main_head A.no_procs)
