-- What was read of a list of tokens, and what the parser's answers say.
use Rattle.std.specs.Prelude.{◌≡◌, ℕ, List, [], take, Some}
use Rattle.spl_text.specs.declared.token.Token.{Token}
use Rattle.spl_tree.specs.Lists.{Lists}
use Rattle.spl_parser.specs.declared.state.State.{State}
use Rattle.spl_parser.specs.Growth.{grown}
use Rattle.spl_parser.specs.Machine as m
use Rattle.spl_parser.specs.Trees.{trees}
use Rattle.spl_parser.specs.View.{state_of, Ready}

-- the parts before the first token
abbrev pub no_lists : Lists
no_lists = record {
  letters = [];
  names = [];
  decls = [];
  decl_places = [];
  procs = [];
  proc_places = [];
  exprs = [];
  expr_places = [];
  stmts = [];
  stmt_places = [];
  name_items = [];
  name_item_places = [];
  stmt_items = [];
  main = record { locals = record { first = 0; count = 0 }; body = record { first = 0; count = 0 } };
  main_begin = 0;
}

-- the first k tokens lead to this state, and are no more than n bytes
pub record HasRead (source : List ℕ) (tokens : List Token) (k n : ℕ) (t : Lists) (s : State) : Type 0 where
  pub runs : m.run (trees source) (m.initial (trees source)) (take k tokens) ≡ Some (state_of source (grown t) s)
  pub ready : Ready n t s
