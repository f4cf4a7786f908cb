-- Each arm is the machine's step.
use Rattle.spl_tree.specs.Lists.{lists_of}
use Rattle.spl_parser.proofs.FreshArms.{assigns_new, assigns_ready}
use Rattle.spl_parser.proofs.NameArms.{assign_arm}
use Rattle.spl_parser.proofs.steps.at_assign_start.Goals as goal

pub returns-in_ok-name-in-Name : goal.returns-in_ok-name-in-Name
returns-in_ok-name-in-Name c = assign_arm c.args.bytes.now (lists_of c.args.parts.now) (lists_of c.read_word.new.parts) c.args.token c.args.body c.args.target c.in_ok-name-in-Name.name c.in-Name.is c.requires.token c.requires.ready c.in_ok-name-in-Name.ensures

pub at_want-requires-clause-ready : goal.at_want-requires-clause-ready
at_want-requires-clause-ready c = assigns_ready c.args.token.start (lists_of c.args.parts.now) c.args.body c.args.target c.new_expr-expr.result c.new_expr-expr.ensures.same c.new_expr-expr.ensures.none c.new_expr-expr.ensures.fresh c.requires.ready

pub returns-in_default : goal.returns-in_default
returns-in_default c = assigns_new c.args.bytes.now (lists_of c.args.parts.now) _ c.args.token c.args.body c.args.target c.new_expr-expr.result _ c.in_default.not-Name c.new_expr-expr.ensures.same c.new_expr-expr.ensures.none c.new_expr-expr.ensures.fresh c.at_want.ensures
