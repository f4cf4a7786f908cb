use Rattle.std.proofs.Common.{◌≤◌, sym, subst}
use Rattle.transfer_def.proofs.Tests.{dims-test_value}
use Rattle.dec_domain.proofs.Sizes.{kept-size}
use Rattle.dec_domain.proofs.decomposed.DecDomainDomain.test.Goals as goal

pub kept-requires : goal.kept-requires
kept-requires c = record { small = kept-size c.in_ok-w.w _ c.in_ok-w.ensures.value (subst (λ n. n ≤ 256) (sym (dims-test_value _ _ _)) c.v.invariant.small) }
