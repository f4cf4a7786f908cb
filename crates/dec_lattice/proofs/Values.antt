-- The values that are made of two values.
use Rattle.std.proofs.Common.{◌≡◌, ℕ, ◌<◌, Bool, List, length, Option, Some, None, refl, sym, ap, ◌∙◌, subst}
use Rattle.std.specs.Prelude.{IsSome, IfSome}
use Rattle.std.specs.Option.{option_map}
use Rattle.oct_def.specs.Table.{Matrix}
use Rattle.oct_def.specs.Octagon.{Octagon, on_either, on_both, join_matrix, join_entry, join_value, widen_matrix, widen_entry, widen_value, narrow_matrix, narrow_entry, narrow_value, bottom_value}
use Rattle.block_partition.specs.Partition.{block}
use Rattle.block_laws.specs.Assembly.{matrix, restrict, assembly}
use Rattle.dec_oct.specs.Value.{Blocks, blocks_of, whole, Decomposed, octagon, octagon_of, IsDecomposition, IsKept, IsKeptBlocks}
use Rattle.dec_oct.specs.Given.{KeepsMarksOf}
use Rattle.dec_lattice.specs.declared.operation.Operation.{Operation}
use Rattle.dec_lattice.specs.declared.operation.Operation.TheVariants.{Join, Widening, Narrowing}
use Rattle.dec_lattice.specs.Operation.{combined_entry, combined_matrix, either_value}
use Rattle.dec_lattice.specs.Over.{held_of, held, AreSides, IsOver}
use Rattle.dec_lattice.specs.Marks.{TellsEither, KeepsEitherOf}
use Rattle.dec_lattice.proofs.Marked.{ArePartsOver, parts-over, keeps-either}

-- ---- the blocks of a value that isn't Bottom

pub if-held : (o : Option Blocks) (P : Blocks → Type 0) → IsSome o → IfSome o P → P (held_of o)
if-held None P s h = absurd (cc)
if-held (Some b) P s h = h

kept-held : (n : ℕ) (o : Option Blocks) → IsSome o → IsKeptBlocks n o → IsDecomposition n (held_of o)
kept-held n None s k = absurd (cc)
kept-held n (Some b) s k = k

pub first-side : (a b : Decomposed) → AreSides a b → IsKept a → IsDecomposition a.dims (held a)
first-side a b s k = kept-held a.dims a.blocks s.first k.blocks

pub second-side : (a b : Decomposed) → AreSides a b → IsKept b → IsDecomposition a.dims (held b)
second-side a b s k = subst (λ n. IsDecomposition n (held b)) (sym s.dims) (kept-held b.dims b.blocks s.second k.blocks)

-- parts of the two sides
pub first-part : (a b : Decomposed) (vs : List ℕ) (x : Matrix) → AreSides a b → IfSome a.blocks (λ h. x ≡ restrict vs (whole a.dims h)) → x ≡ restrict vs (whole a.dims (held a))
first-part a b vs x s h = if-held a.blocks (λ t. x ≡ restrict vs (whole a.dims t)) s.first h

pub second-part : (a b : Decomposed) (vs : List ℕ) (x : Matrix) → AreSides a b → IfSome b.blocks (λ h. x ≡ restrict vs (whole b.dims h)) → x ≡ restrict vs (whole a.dims (held b))
second-part a b vs x s h = if-held b.blocks (λ t. x ≡ restrict vs (whole b.dims t)) s.second h ∙ ap (λ n. restrict vs (whole n (held b))) (sym s.dims)

-- ---- the result

pub parts-of : (op : Operation) (a b : Decomposed) (ds : List (List ℕ)) (ms ts : List Matrix) (marks : List Bool) → AreSides a b → IsKept a → IsKept b → IsOver op a.dims (held a) (held b) ds → length ms ≡ length ds
    → ((c : ℕ) → c < length ds → matrix ms c ≡ combined_matrix op (restrict (block ds c) (whole a.dims (held a))) (restrict (block ds c) (whole a.dims (held b)))) → ts ≡ ms → TellsEither (held a) (held b) ds ts marks → ArePartsOver op a.dims (held a) (held b) ds ms marks
parts-of op a b ds ms ts marks s ka kb o size each e told = record {
  first = first-side a b s ka;
  second = second-side a b s kb;
  over = o;
  count = size;
  each = each;
  told = subst (λ t. TellsEither (held a) (held b) ds t marks) e told;
}

pub value-over : (op : Operation) (n : ℕ) (a b : Blocks) (ds : List (List ℕ)) (ms : List Matrix) (marks : List Bool) (v : Decomposed) → ArePartsOver op n a b ds ms marks → octagon v ≡ octagon_of n (Some (assembly n ds ms))
    → octagon v ≡ octagon_of n (Some (combined_matrix op (whole n a) (whole n b)))
value-over op n a b ds ms marks v h e = e ∙ ap (λ m. octagon_of n (Some m)) (parts-over op n a b ds ms marks h).1

pub marks-over : (op : Operation) (n : ℕ) (a b : Blocks) (ds : List (List ℕ)) (ms : List Matrix) (marks : List Bool) (v : Decomposed) → ArePartsOver op n a b ds ms marks → octagon v ≡ octagon_of n (Some (assembly n ds ms)) → IsKept v → KeepsMarksOf (blocks_of ds ms marks) v.blocks
    → KeepsEitherOf a b v.blocks
marks-over op n a b ds ms marks v h e k m = by v.dims v.blocks (ap (λ z. z.dims) f) (ap (λ z. z.matrix) f) k.blocks m
  where
    f : octagon v ≡ octagon_of n (Some (combined_matrix op (whole n a) (whole n b)))
    f = value-over op n a b ds ms marks v h e

    by : (d : ℕ) (o : Option Blocks) → d ≡ n → option_map (whole d) o ≡ Some (combined_matrix op (whole n a) (whole n b)) → IsKeptBlocks d o → KeepsMarksOf (blocks_of ds ms marks) o → KeepsEitherOf a b o
    by d None g j k m = absurd (cc)
    by d (Some r) g j k m =
        let w : whole d r ≡ combined_matrix op (whole n a) (whole n b) = cc in
        keeps-either op n a b r ds ms marks h (subst (λ t. IsDecomposition t r) g k) (ap (λ t. whole t r) (sym g) ∙ w) m

-- ---- what the definitions say

either-of : Operation → ℕ → ℕ → Option Blocks → Option Blocks → Octagon
either-of op k l x y = octagon_of k (on_either (combined_matrix op) (option_map (whole k) x) (option_map (whole l) y))

either-right : (op : Operation) (k l : ℕ) (y : Option Blocks) → k ≡ l → octagon_of l (option_map (whole l) y) ≡ either-of op k l None y
unfolding either-of
either-right op k l y e = ap (λ t. octagon_of t (option_map (whole l) y)) (sym e)

either-left : (op : Operation) (k l : ℕ) (x : Option Blocks) → octagon_of k (option_map (whole k) x) ≡ either-of op k l x None
unfolding either-of
either-left op k l None = refl
either-left op k l (Some x) = refl

either-each : (op : Operation) (k l : ℕ) (x y : Option Blocks) → k ≡ l → IsSome x → IsSome y → octagon_of k (Some (combined_matrix op (whole k (held_of x)) (whole k (held_of y)))) ≡ either-of op k l x y
unfolding either-of
either-each op k l None y e s t = absurd (cc)
either-each op k l (Some x) None e s t = absurd (cc)
either-each op k l (Some x) (Some y) e s t = ap (λ z. octagon_of k (Some (combined_matrix op (whole k x) (whole z y)))) e

pub either-first : (op : Operation) (v a b : Decomposed) → a.dims ≡ b.dims → a.blocks ≡ None → v ≡ b → octagon v ≡ either_value op (octagon a) (octagon b)
unfolding either_value either-of
either-first op v a b e f g = ap octagon g ∙ either-right op a.dims b.dims b.blocks e ∙ ap (λ x. either-of op a.dims b.dims x b.blocks) (sym f)

pub either-second : (op : Operation) (v a b : Decomposed) → b.blocks ≡ None → v ≡ a → octagon v ≡ either_value op (octagon a) (octagon b)
unfolding either_value either-of
either-second op v a b f g = ap octagon g ∙ either-left op a.dims b.dims a.blocks ∙ ap (either-of op a.dims b.dims a.blocks) (sym f)

pub either-both : (op : Operation) (v a b : Decomposed) → AreSides a b → octagon v ≡ octagon_of a.dims (Some (combined_matrix op (whole a.dims (held a)) (whole a.dims (held b)))) → octagon v ≡ either_value op (octagon a) (octagon b)
unfolding either_value either-of
either-both op v a b s e = e ∙ either-each op a.dims b.dims a.blocks b.blocks s.dims s.first s.second

-- ---- the three operations

pub either-join : (a b : Octagon) → either_value Join a b ≡ join_value a b
unfolding either_value join_value combined_matrix combined_entry join_matrix join_entry
either-join a b = refl

pub either-widen : (a b : Octagon) → either_value Widening a b ≡ widen_value a b
unfolding either_value widen_value combined_matrix combined_entry widen_matrix widen_entry
either-widen a b = refl

narrow-of : ℕ → ℕ → Option Blocks → Option Blocks → Octagon
narrow-of k l x y = octagon_of k (on_both narrow_matrix (option_map (whole k) x) (option_map (whole l) y))

narrow-none : (k l : ℕ) (x : Option Blocks) → octagon_of k None ≡ narrow-of k l x None
unfolding narrow-of
narrow-none k l None = refl
narrow-none k l (Some x) = refl

narrow-each : (k l : ℕ) (x y : Option Blocks) → k ≡ l → IsSome x → IsSome y → octagon_of k (Some (combined_matrix Narrowing (whole k (held_of x)) (whole k (held_of y)))) ≡ narrow-of k l x y
unfolding narrow-of combined_matrix combined_entry narrow_matrix narrow_entry
narrow-each k l None y e s t = absurd (cc)
narrow-each k l (Some x) None e s t = absurd (cc)
narrow-each k l (Some x) (Some y) e s t = ap (λ z. octagon_of k (Some (narrow_matrix (whole k x) (whole z y)))) e

pub narrow-first : (n : ℕ) (v a b : Decomposed) → n ≡ a.dims → a.blocks ≡ None → octagon v ≡ bottom_value n → octagon v ≡ narrow_value (octagon a) (octagon b)
unfolding narrow_value narrow-of bottom_value
narrow-first n v a b e f g = g ∙ ap (λ t. octagon_of t None) e ∙ ap (λ x. narrow-of a.dims b.dims x b.blocks) (sym f)

pub narrow-second : (n : ℕ) (v a b : Decomposed) → n ≡ a.dims → b.blocks ≡ None → octagon v ≡ bottom_value n → octagon v ≡ narrow_value (octagon a) (octagon b)
unfolding narrow_value narrow-of bottom_value
narrow-second n v a b e f g = g ∙ ap (λ t. octagon_of t None) e ∙ narrow-none a.dims b.dims a.blocks ∙ ap (narrow-of a.dims b.dims a.blocks) (sym f)

pub narrow-both : (v a b : Decomposed) → AreSides a b → octagon v ≡ octagon_of a.dims (Some (combined_matrix Narrowing (whole a.dims (held a)) (whole a.dims (held b)))) → octagon v ≡ narrow_value (octagon a) (octagon b)
unfolding narrow_value narrow-of
narrow-both v a b s e = e ∙ narrow-each a.dims b.dims a.blocks b.blocks s.dims s.first s.second
