-- Pieces that lead from one offset to others.
use Rattle.std.proofs.Common.{◌≡◌, ℕ, ◌<◌, ◌≤◌, List, [], ◌∷◌, ◌++◌, length, arith, ap, sym, refl, subst}
use Rattle.spl_text.specs.Pieces.{piece_at, Pieces, Cut}
use Rattle.spl_text.specs.Pieces.Pieces.{none, gap, token}
use Rattle.spl_text.specs.declared.piece.Piece.{Piece}
use Rattle.spl_text.specs.declared.piece.Piece.TheVariants.{Gap, Taken, Broken}
use Rattle.spl_text.specs.declared.token.Token.{Token}
use Rattle.spl_text.proofs.Spelling.{stands_gap, stands_token}

-- where the piece at an offset ends
abbrev pub end_of : Piece → ℕ
end_of (Gap end) = end
end_of (Taken t) = t.end
end_of (Broken rule) = 0

-- one blank or comment further
pub Pieces-gap : (bytes : List ℕ) (at to next : ℕ) (tokens : List Token) → Pieces bytes at tokens to → piece_at bytes to ≡ Gap next → Pieces bytes at tokens next
Pieces-gap bytes _ _ next _ (none at) h = gap at next next [] h (none next)
Pieces-gap bytes _ _ next _ (gap at end to tokens e r) h = gap at end next tokens e (Pieces-gap bytes end to next tokens r h)
Pieces-gap bytes _ _ next _ (token at to t tokens e r) h = token at next t tokens e (Pieces-gap bytes t.end to next tokens r h)

-- one token further
pub Pieces-token : (bytes : List ℕ) (at to : ℕ) (t : Token) (tokens : List Token) → Pieces bytes at tokens to → piece_at bytes to ≡ Taken t → Pieces bytes at (tokens ++ t ∷ []) t.end
Pieces-token bytes _ _ t _ (none at) h = token at t.end t [] h (none t.end)
Pieces-token bytes _ _ t _ (gap at end to tokens e r) h = gap at end t.end (tokens ++ t ∷ []) e (Pieces-token bytes end to t tokens r h)
Pieces-token bytes _ _ t _ (token at to s tokens e r) h = token at t.end s (tokens ++ t ∷ []) e (Pieces-token bytes s.end to t tokens r h)

-- pieces lead onward
pub Pieces-onward : (bytes : List ℕ) (at to : ℕ) (tokens : List Token) → Pieces bytes at tokens to → at ≤ to
Pieces-onward bytes _ _ _ (none at) = omega arith
Pieces-onward bytes _ _ _ (gap at end to tokens e r) = omega (arith, (stands_gap bytes at end e).0, Pieces-onward bytes end to tokens r)
Pieces-onward bytes _ _ _ (token at to t tokens e r) = omega (arith, (stands_token bytes at t e).filled, Pieces-onward bytes t.end to tokens r)

-- Two ways from one offset: they lead to one place, or one of them goes on past the end of the other's next piece.
pub data Meet (bytes : List ℕ) (a b : List Token) (p q : ℕ) : Type 0 where
  same : p ≡ q → a ≡ b → Meet bytes a b p q
  before : p < q → end_of (piece_at bytes p) ≤ q → Meet bytes a b p q
  after : q < p → end_of (piece_at bytes q) ≤ p → Meet bytes a b p q

cons_meet : (bytes : List ℕ) (a b : List Token) (p q : ℕ) (t : Token) → Meet bytes a b p q → Meet bytes (t ∷ a) (t ∷ b) p q
cons_meet bytes a b p q t (same e f) = same e (ap (λ x. t ∷ x) f)
cons_meet bytes a b p q t (before e f) = before e f
cons_meet bytes a b p q t (after e f) = after e f

pub meet : (bytes : List ℕ) (at p q : ℕ) (a b : List Token) → Pieces bytes at a p → Pieces bytes at b q → Meet bytes a b p q
meet bytes _ _ _ _ _ (none at) (none _) = same refl refl
meet bytes _ _ _ _ _ (none at) (gap _ end q b f s) =
    before (omega (arith, (stands_gap bytes at end f).0, Pieces-onward bytes end q b s)) (rw f (Pieces-onward bytes end q b s))
meet bytes _ _ _ _ _ (none at) (token _ q t b f s) =
    before (omega (arith, (stands_token bytes at t f).filled, Pieces-onward bytes t.end q b s)) (rw f (Pieces-onward bytes t.end q b s))
meet bytes _ _ _ _ _ (gap at end p a e r) (none _) =
    after (omega (arith, (stands_gap bytes at end e).0, Pieces-onward bytes end p a r)) (rw e (Pieces-onward bytes end p a r))
meet bytes _ _ _ _ _ (gap at end p a e r) (gap _ other q b f s) =
    let one : other ≡ end = cc in
    meet bytes end p q a b r (subst (λ x. Pieces bytes x b q) one s)
meet bytes _ _ _ _ _ (gap at end p a e r) (token _ q t b f s) = absurd cc
meet bytes _ _ _ _ _ (token at p t a e r) (none _) =
    after (omega (arith, (stands_token bytes at t e).filled, Pieces-onward bytes t.end p a r)) (rw e (Pieces-onward bytes t.end p a r))
meet bytes _ _ _ _ _ (token at p t a e r) (gap _ other q b f s) = absurd cc
meet bytes _ _ _ _ _ (token at p t a e r) (token _ q u b f s) =
    let one : u ≡ t = cc in
    subst (λ x. Meet bytes (t ∷ a) (x ∷ b) p q) (sym one) (cons_meet bytes a b p q t (meet bytes t.end p q a b r (subst (λ x. Pieces bytes x.end b q) one s)))

-- the tokens of a text are determined
pub Cut-unique : (bytes : List ℕ) (a b : List Token) → Cut bytes a → Cut bytes b → a ≡ b
Cut-unique bytes a b f g = by (meet bytes 0 (length bytes) (length bytes) a b f g)
  where
    by : Meet bytes a b (length bytes) (length bytes) → a ≡ b
    by (same e f) = f
    by (before e f) = absurd (omega arith)
    by (after e f) = absurd (omega arith)
