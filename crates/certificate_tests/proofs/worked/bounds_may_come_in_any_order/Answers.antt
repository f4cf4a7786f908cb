use Rattle.certificate_tests.proofs.Takes.{takes_upper, takes_lower}
use Rattle.certificate_tests.proofs.worked.bounds_may_come_in_any_order.Goals as goal

pub bound-requires : goal.bound-requires
bound-requires g c = record { takes = takes_upper c.new-x.result c.push_top.new.self c.new-x.ensures c.in_ok-push_top.ensures.ok }

pub bound-requires-2 : goal.bound-requires-2
bound-requires-2 g c = record {
  takes = takes_lower c.new-x.result c.push_top.new.self c.bound.new.self c.new-x.ensures c.in_ok-push_top.ensures.ok c.in_ok-bound.ensures.ok;
}
