use Rattle.transfer_def.specs.Forget.{forget_value}
use Rattle.dec_domain.proofs.Sizes.{kept-size}
use Rattle.dec_domain.proofs.decomposed.DecDomainDomain.havoc.Goals as goal

pub kept-requires : goal.kept-requires
unfolding forget_value
kept-requires c = record { small = kept-size c.in_ok-w.w _ c.in_ok-w.ensures.value c.v.invariant.small }
