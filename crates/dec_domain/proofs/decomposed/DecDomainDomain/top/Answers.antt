use Rattle.oct_def.specs.Octagon.{top_value}
use Rattle.dec_domain.proofs.Sizes.{kept-size}
use Rattle.dec_domain.proofs.decomposed.DecDomainDomain.top.Goals as goal

pub kept-requires : goal.kept-requires
unfolding top_value
kept-requires c = record { small = kept-size c.in_ok-v.v _ c.in_ok-v.ensures.value c.requires.small }
