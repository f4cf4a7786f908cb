use Rattle.std.proofs.Common.{◌≡◌, ℕ, ◌*◌, ◌<◌, ◌≤◌, length, sym, ◌∙◌, subst, arith, rules}
use Rattle.std.specs.Prelude.{IfSome}
use Rattle.std.proofs.lemmas.Int.{to_z-of_z}
use Rattle.std.proofs.iter.Serving.{serving}
use Rattle.oct_def.specs.Bound.{bound_of}
use Rattle.block_partition.specs.Partition.{IsBlock}
use Rattle.block_partition.proofs.Places.{block_length}
use Rattle.block_laws.specs.Assembly.{outer}
use Rattle.block_laws.proofs.Places.{outer_below}
use Rattle.dec_oct.specs.Value.{whole, IsKeptBlocks, IsDecomposition}
use Rattle.dec_oct.proofs.Givens.{each-some}
use Rattle.dec_parts.specs.Rename.{renamed_entry}
use Rattle.dec_parts.proofs.Sharing.{part-of_kept, part-of_moved}
use Rattle.dec_parts.proofs.rename.renamed_part.Goals as goal

pub returns-then-keep_numbers : goal.returns-then-keep_numbers
returns-then-keep_numbers c = each-some c.args.v.now.blocks _ (λ b e.
    let d : IsDecomposition c.args.v.now.dims b = subst (IsKeptBlocks c.args.v.now.dims) e c.known.ensures.blocks in
    part-of_kept c.args.v.now.dims c.args.origins.now b c.args.members.now _ _ d c.requires.origins c.requires.members (c.keep_numbers.ensures.yes c.if-keep_numbers.true)
    (rw e at c.in_ok-part.ensures.matrix) (λ t. rw e at (c.in_ok-part.ensures.yes t)) (λ t. rw e at (c.in_ok-part.ensures.no t)))

pub overflow_cast-members : goal.overflow_cast-members
overflow_cast-members c = let few = block_length (length c.args.origins.now) c.args.members.now c.requires.members in omega arith

pub tabulated-requires-clause-small : goal.tabulated-requires-clause-small
tabulated-requires-clause-small c = let few = block_length (length c.args.origins.now) c.args.members.now c.requires.members in omega arith

pub tabulated-requires-clause-callable : goal.tabulated-requires-clause-callable
tabulated-requires-clause-callable c =
    let few : length c.args.members.now ≤ 512 = let r = block_length (length c.args.origins.now) c.args.members.now c.requires.members in omega arith in
    let bl : IsBlock 512 c.args.members.now = record { below = λ i p. let q = c.requires.members.below i p in omega arith; rising = c.requires.members.rising } in
    let row : (i : ℕ) → i < 2 * length c.args.members.now → outer c.args.members.now i < 2 * length c.args.origins.now = λ i p. outer_below (length c.args.origins.now) c.args.members.now i c.requires.members p in
    grind (serving, row)

pub returns : goal.returns
returns c = each-some c.args.v.now.blocks _ (λ b e.
    let n = c.args.v.now.dims in
    let origins = c.args.origins.now in
    let vs = c.args.members.now in
    let d : IsDecomposition n b = subst (IsKeptBlocks n) e c.known.ensures.blocks in
    part-of_moved n origins b vs _ d c.requires.origins c.requires.members (c.keep_numbers.ensures.no c.if-keep_numbers.false) c.in_ok-matrix.ensures.rows c.in_ok-matrix.ensures.square c.in_ok-matrix.ensures.coherent (λ i j p q.
    let entry = c.in_ok-matrix.ensures.entries i j p q in
    let word : IfSome c.args.v.now.blocks (λ b. bound_of entry.0 ≡ renamed_entry origins (whole n b) (outer vs i) (outer vs j)) = search (rules, to_z-of_z, entry.1) in
    sym entry.2 ∙ (rw e at word)))
