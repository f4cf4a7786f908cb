use Rattle.oct_def.specs.Octagon.{join_value}
use Rattle.dec_domain.proofs.Sizes.{kept-size}
use Rattle.dec_domain.proofs.decomposed.DecDomainDomain.join.Goals as goal

pub kept-requires : goal.kept-requires
unfolding join_value
kept-requires c = record { small = kept-size c.in_ok-w.w _ c.in_ok-w.ensures.value c.a.invariant.small }
