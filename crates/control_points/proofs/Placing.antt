-- Each point has the place that its block or its statement gives it.
use Rattle.std.proofs.Common.{◌≡◌, ℕ, ◌+◌, ◌-◌, List, [], ◌∷◌, ◌++◌, length, get_or, refl, sym, ap, ◌∙◌, arith, append_assoc, length-append}
use Rattle.std.specs.List.{flat_map}
use Rattle.std.proofs.Math.Seq.{get_or-append_seam}
use Rattle.spl_tree.specs.Program.{StmtTree, skip, halt, fail, assume, assign, call, if_then, if_else, while_do, BlockTree, empty, more, places_of}
use Rattle.spl_types.specs.Checks.{Met, met_before, with_point, met_in, met_by, Procedure}
use Rattle.spl_types.specs.Dimensions.{procedures}
use Rattle.control_points.specs.CoreOf.{stmt_points, block_points, procedure_points, points_by, offsets_of}
use Rattle.control_points.specs.Laws.{place_at, StmtIsPlaced, BlockIsPlaced, IsPlaced, ArePlaced, PointsArePlaced}
use Rattle.control_points.proofs.Owning.{counted_in, counted_by, counted}

-- some places, after so many others and before others
pub record Amid (all : List ℕ) (n : ℕ) (own : List ℕ) : Type 0 where
  pub before : List ℕ
  pub after : List ℕ
  pub is : all ≡ before ++ (own ++ after)
  pub count : length before ≡ n

first_part : (all xs ys : List ℕ) (n : ℕ) → Amid all n (xs ++ ys) → Amid all n xs
first_part all xs ys n a = record { before = a.before; after = ys ++ a.after; is = a.is ∙ ap (λ l. a.before ++ l) (append_assoc xs ys a.after); count = a.count }

second_part : (all xs ys : List ℕ) (n k : ℕ) → n + length xs ≡ k → Amid all n (xs ++ ys) → Amid all k ys
second_part all xs ys n k e a = record {
  before = a.before ++ xs;
  after = a.after;
  is = a.is ∙ (ap (λ l. a.before ++ l) (append_assoc xs ys a.after) ∙ sym (append_assoc a.before xs (ys ++ a.after)));
  count = omega (arith, e, a.count, length-append a.before xs);
}

one_at : (all : List ℕ) (x n k : ℕ) (ys : List ℕ) → n ≡ k → Amid all n (x ∷ ys) → place_at all k ≡ x
one_at all x n k ys e a =
    ap (λ l. get_or l k 0) a.is
    ∙ (ap (λ i. get_or (a.before ++ x ∷ (ys ++ a.after)) i 0) (sym e ∙ sym a.count)
    ∙ get_or-append_seam a.before x (ys ++ a.after) 0)

mutual
  stmt_placed : (all : List ℕ) (m : Met) (s : StmtTree) → Amid all m.points (stmt_points s) → StmtIsPlaced all m s
  stmt_placed all m (skip at) a = tt
  stmt_placed all m (halt at) a = tt
  stmt_placed all m (fail at) a = tt
  stmt_placed all m (assume e at) a = tt
  stmt_placed all m (assign x e at) a = tt
  stmt_placed all m (call targets called args at) a = tt
  stmt_placed all m (if_then e b at) a = block_placed all m at.first_block b a
  stmt_placed all m (if_else e b d at) a =
      let xs : List ℕ = block_points at.first_block b in
      let ys : List ℕ = block_points at.second_block d in (
        block_placed all m at.first_block b (first_part all xs ys m.points a),
        block_placed all (met_by m b) at.second_block d (second_part all xs ys m.points (met_by m b).points (sym (counted_by m at.first_block b)) a),
      )
  stmt_placed all m (while_do e b at) a = block_placed all m at.first_block b a

  block_placed : (all : List ℕ) (m : Met) (start : ℕ) (b : BlockTree) → Amid all m.points (block_points start b) → BlockIsPlaced all m start b
  block_placed all m start empty a = one_at all start m.points (m.points + 1 - 1) [] (omega arith) a
  block_placed all m start (more b s) a =
      let xs : List ℕ = block_points start b in
      let ys : List ℕ = stmt_points s in
      let z : ℕ = (places_of s).end in
      let n : ℕ = (met_by m b).points in
      let rest : Amid all n (ys ++ z ∷ []) = second_part all xs (ys ++ z ∷ []) m.points n (sym (counted_by m start b)) a in
      let k : ℕ = (met_in (met_by m b) s).points in (
        block_placed all m start b (first_part all xs (ys ++ z ∷ []) m.points a),
        stmt_placed all (met_by m b) s (first_part all ys (z ∷ []) n rest),
        one_at all z k (k + 1 - 1) [] (omega arith) (second_part all ys (z ∷ []) n k (sym (counted_in (met_by m b) s)) rest),
      )

procedure_placed : (all : List ℕ) (points : ℕ) (u : Procedure) → Amid all points (procedure_points u) → IsPlaced all points u
procedure_placed all points u a = record {
  entry = one_at all u.begin points points (block_points (u.begin + 5) u.body) refl a;
  body = block_placed all (with_point (met_before points)) (u.begin + 5) u.body (second_part all (u.begin ∷ []) (block_points (u.begin + 5) u.body) points (points + 1) (omega arith) a);
}

all_placed : (all : List ℕ) (points : ℕ) (us : List Procedure) → Amid all points (flat_map procedure_points us) → ArePlaced all points us
all_placed all points [] a = tt
all_placed all points (u ∷ us) a =
    let xs : List ℕ = procedure_points u in
    let ys : List ℕ = flat_map procedure_points us in (
      procedure_placed all points u (first_part all xs ys points a),
      all_placed all (points_by points u) us (second_part all xs ys points (points_by points u) (sym (counted points u)) a),
    )

pub placed : PointsArePlaced
unfolding offsets_of
placed p =
    let all : List ℕ = flat_map procedure_points (procedures p) in
    all_placed all 0 (procedures p) (record { before = []; after = []; is = sym (all_of all); count = refl })
  where
    all_of : (xs : List ℕ) → xs ++ [] ≡ xs
    all_of [] = refl
    all_of (x ∷ xs) = ap (λ l. x ∷ l) (all_of xs)
