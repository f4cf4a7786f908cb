-- The number is that of the list's length, and the lists grow by the item.
use Rattle.std.proofs.Common.{◌≡◌, length, sym, ◌∙◌, rules}
use Rattle.spl_tree.specs.Lists.{lists_of}
use Rattle.spl_parser.proofs.Growths.{lengths, by_expr}
use Rattle.spl_parser.proofs.growing.add_expr.Goals as goal

pub returns-clause-number : goal.returns-clause-number
returns-clause-number c =
    let long : c.len-number.result ≡ length c.args.parts.now.exprs.items = search rules in
    long ∙ sym (lengths (lists_of c.args.parts.now) c.requires.tree).exprs

pub returns-clause-grew : goal.returns-clause-grew
returns-clause-grew c = by_expr (lists_of c.args.parts.now) c.args.expr c.args.place _ _ c.in_ok-push.ensures.items c.in_ok-push-2.ensures.items c.requires.tree c.requires.few c.requires.placed c.requires.fits
