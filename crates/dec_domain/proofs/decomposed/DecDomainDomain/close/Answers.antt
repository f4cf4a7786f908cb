use Rattle.oct_def.specs.Octagon.{tight_value}
use Rattle.dec_domain.proofs.Sizes.{kept-size}
use Rattle.dec_domain.proofs.decomposed.DecDomainDomain.close.Goals as goal

pub kept-requires : goal.kept-requires
unfolding tight_value
kept-requires c = record { small = kept-size c.in_ok-w.w _ c.in_ok-w.ensures.value c.v.invariant.small }
