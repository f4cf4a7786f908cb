-- A value where a form is at most 0.
use Rattle.std.proofs.Common.{◌≡◌, ℕ, ◌*◌, List, length, Option, Some, None, true, refl, sym, ap, ◌∙◌, subst}
use Rattle.std.specs.Prelude.{IfSome, IsSome}
use Rattle.std.specs.Option.{option_and_then}
use Rattle.oct_def.specs.Tight.{tight}
use Rattle.oct_def.specs.Octagon.{bottom_value}
use Rattle.interval_form.specs.declared.constraints.OctBound.{OctBound}
use Rattle.interval_form.specs.declared.interval.Interval.{Interval}
use Rattle.interval_form.specs.Form.{Form, form_value}
use Rattle.interval_form.specs.FormBounds.{is_above_zero}
use Rattle.interval_form.specs.Listed.{Lists}
use Rattle.block_laws.proofs.Assembly.{length-assembly}
use Rattle.dec_oct.specs.Value.{Blocks, whole, Decomposed, decomposed, octagon, octagon_of}
use Rattle.dec_oct.specs.Given.{IsLooseGiven}
use Rattle.dec_parts.specs.Lower.{lowered_matrix, IsLowered}
use Rattle.dec_transfer.specs.Restricted.{restricted_value}
use Rattle.dec_transfer.proofs.Lowering.{bounded-lowered, bounded-impossible}

-- parts that took bounds may be closed
pub given-lowered : (n d : ℕ) (o : Option Blocks) (bounds : List OctBound) (b : Blocks) → IsSome o → d ≡ n → IfSome o (λ a. IsLowered n a bounds b) → IsLooseGiven d b
given-lowered n d None bounds b s e h = absurd (cc)
given-lowered n d (Some a) bounds b s e h = subst (λ k. IsLooseGiven k b) (sym e) h.given

-- the tight closure of parts that took bounds
pub closed-lowered : (n d : ℕ) (o : Option Blocks) (bounds : List OctBound) (b : Blocks) (r : Decomposed) → d ≡ n → IfSome o (λ a. IsLowered n a bounds b)
    → octagon r ≡ octagon_of d (tight (whole d b)) → IfSome o (λ a. octagon r ≡ octagon_of n (tight (lowered_matrix n bounds (whole n a))))
closed-lowered n d None bounds b r e h t = tt
closed-lowered n d (Some a) bounds b r e h t = t ∙ ap (λ k. octagon_of k (tight (whole k b))) e ∙ ap (λ m. octagon_of n (tight m)) h.same

pub restricted-nothing : (ranges : List Interval) (f : Form) (v r : Decomposed) (d : ℕ) → d ≡ v.dims → is_above_zero (form_value ranges f).low ≡ true → octagon r ≡ bottom_value d → octagon r ≡ restricted_value ranges f (octagon v)
unfolding bottom_value
restricted-nothing ranges f v r d q h e = e ∙ ap bottom_value q ∙ by v.dims v.blocks
  where
    by : (n : ℕ) (o : Option Blocks) → octagon_of n None ≡ restricted_value ranges f (octagon (decomposed n o))
    by n None = refl
    by n (Some b) = ap (λ x. octagon_of n (option_and_then tight x)) (sym (bounded-impossible ranges f (whole n b) h))

pub restricted-few : (ranges : List Interval) (f : Form) (bounds : List OctBound) (v r : Decomposed) → v.dims ≡ length ranges → Lists ranges f bounds
    → IfSome v.blocks (λ b. octagon r ≡ octagon_of v.dims (tight (lowered_matrix v.dims bounds (whole v.dims b)))) → IsSome v.blocks → octagon r ≡ restricted_value ranges f (octagon v)
restricted-few ranges f bounds v r d h e s = by v.dims v.blocks d e s
  where
    by : (n : ℕ) (o : Option Blocks) → n ≡ length ranges → IfSome o (λ b. octagon r ≡ octagon_of n (tight (lowered_matrix n bounds (whole n b)))) → IsSome o → octagon r ≡ restricted_value ranges f (octagon (decomposed n o))
    by n None d e s = absurd (cc)
    by n (Some b) d e s =
        e ∙ ap (λ k. octagon_of n (tight (lowered_matrix k bounds (whole n b)))) d
        ∙ ap (λ x. octagon_of n (option_and_then tight x)) (sym (bounded-lowered ranges f bounds (whole n b) (length-assembly n b.partition b.matrices ∙ ap (λ k. 2 * k) d) h))
