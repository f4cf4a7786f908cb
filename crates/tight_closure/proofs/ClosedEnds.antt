-- The end of the tight closure, by its tests.
use Rattle.std.proofs.Common.{◌≡◌, Bool, true, false, cond, Some, None, sym, ap, ◌∙◌}
use Rattle.oct_def.specs.Table.{Matrix}
use Rattle.oct_def.specs.Tight.{closure, has_negative_cycle, evening, has_crossing, strengthening, tight_even, tight_closed, tight}

pub closed-cycle : (m : Matrix) → true ≡ has_negative_cycle m → tight_closed m ≡ None
unfolding tight_closed
closed-cycle m h = ap (λ (b : Bool). cond b None (tight_even (evening m))) (sym h)

pub closed-crossing : (m v : Matrix) → false ≡ has_negative_cycle m → v ≡ evening m → true ≡ has_crossing v → tight_closed m ≡ None
unfolding tight_closed tight_even
closed-crossing m v h f k =
    ap (λ (b : Bool). cond b None (tight_even (evening m))) (sym h) ∙ ap tight_even (sym f)
    ∙ ap (λ (b : Bool). cond b None (Some (strengthening v))) (sym k)

pub closed-strong : (m v s : Matrix) → false ≡ has_negative_cycle m → v ≡ evening m → false ≡ has_crossing v → s ≡ strengthening v → tight_closed m ≡ Some s
unfolding tight_closed tight_even
closed-strong m v s h f k g =
    ap (λ (b : Bool). cond b None (tight_even (evening m))) (sym h) ∙ ap tight_even (sym f)
    ∙ ap (λ (b : Bool). cond b None (Some (strengthening v))) (sym k) ∙ ap Some (sym g)

pub tight-closed : (m c : Matrix) → c ≡ closure m → tight m ≡ tight_closed c
unfolding tight
tight-closed m c e = ap tight_closed (sym e)
