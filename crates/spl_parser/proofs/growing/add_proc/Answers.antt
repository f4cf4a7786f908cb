-- The number is that of the list's length, and the lists grow by the item.
use Rattle.spl_tree.specs.Lists.{lists_of}
use Rattle.spl_parser.proofs.Growths.{by_proc}
use Rattle.spl_parser.proofs.growing.add_proc.Goals as goal

pub returns : goal.returns
returns c = record { grew = by_proc (lists_of c.args.parts.now) c.args.procedure c.args.place _ _ c.in_ok-push.ensures.items c.in_ok-push-2.ensures.items c.requires.tree c.requires.few c.requires.placed c.requires.fits }
