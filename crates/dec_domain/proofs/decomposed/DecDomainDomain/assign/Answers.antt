use Rattle.transfer_def.specs.Assign.{assign_value}
use Rattle.dec_domain.proofs.Sizes.{kept-size}
use Rattle.dec_domain.proofs.decomposed.DecDomainDomain.assign.Goals as goal

pub kept-requires : goal.kept-requires
unfolding assign_value
kept-requires c = record { small = kept-size c.in_ok-w.w _ c.in_ok-w.ensures.value c.v.invariant.small }
