use Rattle.transfer_def.specs.Enter.{enter_value}
use Rattle.dec_domain.proofs.Sizes.{kept-size}
use Rattle.dec_domain.proofs.decomposed.DecDomainDomain.enter.Goals as goal

pub kept-requires : goal.kept-requires
unfolding enter_value
kept-requires c = record { small = kept-size c.in_ok-w.w _ c.in_ok-w.ensures.value c.requires.small }
