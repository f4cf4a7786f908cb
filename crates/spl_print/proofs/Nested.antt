-- Statements of a block and blocks of a statement: that they nest, and the lines that they add.
use Rattle.std.proofs.Common.{◌≡◌, ℕ, zero, suc, ◌+◌, ◌*◌, ◌^◌, ◌<◌, ◌≤◌, List, [], ◌∷◌, ◌++◌, length, take, get_or, codes, Option, Some, None, Result, refl, sym, ap, ◌∙◌, subst, arith}
use Rattle.std.proofs.lemmas.List.{take_more}
use Rattle.std.proofs.lemmas.Result.{on_ok_weaker}
use Rattle.std.specs.Result.{OnOk}
use Rattle.spl_tree.specs.declared.parts.StmtId.{StmtId}
use Rattle.spl_tree.specs.declared.parts.Block.{Block}
use Rattle.spl_tree.specs.declared.parts.Stmt.{Stmt}
use Rattle.spl_tree.specs.declared.parts.Stmt.TheVariants.{Skip, Halt, Fail, Assume, Assign, Call, If, While}
use Rattle.spl_tree.specs.declared.parts.StmtAt.{StmtAt}
use Rattle.spl_tree.specs.Lists.{Lists}
use Rattle.spl_tree.specs.Facts.{IsTree, Each, HasBlock, HasSecond, StmtFits}
use Rattle.spl_tree.specs.Program.{ExprTree, StmtTree, BlockTree, empty, more, places_of}
use Rattle.spl_tree.specs.Meaning.{span_of, stmt_at, block_after, if_over, stmt_over, ground_in, stmts_in}
use Rattle.spl_tree.specs.Laws.{NumbersStandForNodes}
use Rattle.spl_tree.proofs.Nodes.{get_or-span, length-span, each_head, each_tail, ids_below}
use Rattle.spl_print.specs.Canonical.{Line, words, point, indented, stmt_lines, block_lines, expr_text}
use Rattle.spl_print.specs.Nesting.{above, above_block, above_second, Nests, SecondNests, StmtNests, else_lines}
use Rattle.spl_print.specs.Writing.{Wrote}
use Rattle.spl_print.proofs.Written.{wrote-append, wrote-words}

-- the bound on numbers: each is below it, and it is no more than any other bound
above_item : (ids : List StmtId) (k : ℕ) (d : StmtId) → k < length ids → suc (get_or ids k d).0 ≤ above ids
above_item [] k d lt = absurd (omega arith)
above_item (s ∷ ids) zero d lt = omega arith
above_item (s ∷ ids) (suc k) d lt = omega (arith, above_item ids k d (omega arith))

above_least : (n : ℕ) (ids : List StmtId) → Each (λ j (s : StmtId). s.0 < n) ids → above ids ≤ n
above_least n [] h = omega arith
above_least n (s ∷ ids) h =
    omega (arith, each_head (λ j (x : StmtId). x.0 < n) s ids h, above_least n ids (each_tail (λ j (x : StmtId). x.0 < n) s ids h))

pub block_above : (t : Lists) (n : ℕ) (b : Block) → HasBlock t n b → above_block t b ≤ n
block_above t n b h = above_least n (span_of t.stmt_items b.first b.count) (ids_below t n b h)

pub second_above : (t : Lists) (n : ℕ) (b : Option Block) → HasSecond t n b → above_second t b ≤ n
second_above t n None h = omega arith
second_above t n (Some b) h = block_above t n b h

pub block_nests : (t : Lists) (indent n : ℕ) (b : Block) → indent + 2 * n ≤ 2 ^ 22 → HasBlock t n b → Nests t indent b
block_nests t indent n b room h = record { span = h.span; room = omega (arith, block_above t n b h) }

pub second_nests : (t : Lists) (indent n : ℕ) (b : Option Block) → indent + 2 * n ≤ 2 ^ 22 → HasSecond t n b → SecondNests t indent b
second_nests t indent n None room h = tt
second_nests t indent n (Some b) room h = block_nests t indent n b room h

-- the statement with this place in a block
in_block : (t : Lists) (b : Block) (k : ℕ) (s : StmtId) → b.first + b.count ≤ length t.stmt_items → k < b.count → s ≡ get_or t.stmt_items (b.first + k) s → get_or (span_of t.stmt_items b.first b.count) k s ≡ s
in_block t b k s span lt found = get_or-span t.stmt_items b.first b.count k s lt ∙ sym found

pub item_above : (t : Lists) (b : Block) (k : ℕ) (s : StmtId) → b.first + b.count ≤ length t.stmt_items → k < b.count → s ≡ get_or t.stmt_items (b.first + k) s → suc s.0 ≤ above_block t b
item_above t b k s span lt found =
    let ids = span_of t.stmt_items b.first b.count in
    let P : StmtId → Type 0 = λ x. suc x.0 ≤ above ids in
    subst P (in_block t b k s span lt found) (above_item ids k s (omega (arith, length-span t.stmt_items b.first b.count span)))

pub item_nests : (t : Lists) → IsTree t → (indent : ℕ) (b : Block) (k : ℕ) (s : StmtId) → Nests t indent b → k < b.count → s ≡ get_or t.stmt_items (b.first + k) s → StmtNests t indent s
item_nests t tree indent b k s nests lt found =
    let P : StmtId → Type 0 = λ x. x.0 < length t.stmts in
    record {
      there = subst P (sym found) (tree.in_range.stmt_items (b.first + k) s (omega (arith, nests.span)));
      room = omega (arith, nests.room, item_above t b k s nests.span lt found);
    }

-- what a statement names is in range
pub node_fits : (t : Lists) → IsTree t → (s : StmtId) (node : Stmt) → s.0 < length t.stmts → node ≡ get_or t.stmts s.0 node → StmtFits t s.0 node
node_fits t tree s node there found = subst (StmtFits t s.0) (sym found) (tree.in_range.stmts s.0 node there)

-- a statement over its node, and its places
pub stmt_stands : (t : Lists) → NumbersStandForNodes → IsTree t → (s : StmtId) (node : Stmt) (at : StmtAt) → s.0 < length t.stmts → node ≡ get_or t.stmts s.0 node → at ≡ get_or t.stmt_places s.0 at
    → stmt_at (stmts_in t) s ≡ stmt_over (ground_in t) (stmts_in t) node at
stmt_stands t law tree s node at there found placed =
    (law t tree).1.stmt s.0 node at there
    ∙ ap (λ x. stmt_over (ground_in t) (stmts_in t) x (get_or t.stmt_places s.0 at)) (sym found)
    ∙ ap (λ x. stmt_over (ground_in t) (stmts_in t) node x) (sym placed)

if_places : (e : ExprTree) (first : BlockTree) (second : Option BlockTree) (at : StmtAt) → places_of (if_over e first second at) ≡ at
if_places e first None at = refl
if_places e first (Some b) at = refl

over_places : (t : Lists) (trees : List StmtTree) (node : Stmt) (at : StmtAt) → places_of (stmt_over (ground_in t) trees node at) ≡ at
over_places t trees Skip at = refl
over_places t trees Halt at = refl
over_places t trees Fail at = refl
over_places t trees (Assume e) at = refl
over_places t trees (Assign x e) at = refl
over_places t trees (Call targets called args) at = refl
over_places t trees (If e first second) at = if_places _ _ _ at
over_places t trees (While e body) at = refl

stmt_places : (t : Lists) → NumbersStandForNodes → IsTree t → (s : StmtId) (at : StmtAt) → s.0 < length t.stmts → at ≡ get_or t.stmt_places s.0 at → places_of (stmt_at (stmts_in t) s) ≡ at
stmt_places t law tree s at there placed =
    ap places_of ((law t tree).1.stmt s.0 Skip at there) ∙ over_places t (stmts_in t) (get_or t.stmts s.0 Skip) (get_or t.stmt_places s.0 at) ∙ sym placed

-- one more statement in a block
block_after-push : (trees : List StmtTree) (block : BlockTree) (ids : List StmtId) (s : StmtId) → block_after trees block (ids ++ s ∷ []) ≡ more (block_after trees block ids) (stmt_at trees s)
block_after-push trees block [] s = refl
block_after-push trees block (x ∷ ids) s = block_after-push trees (more block (stmt_at trees x)) ids s

pub one_more : (t : Lists) → NumbersStandForNodes → IsTree t → (bytes : List ℕ) (points : List (List ℕ)) (indent start : ℕ) (b : Block) (k : ℕ) (s : StmtId) (at : StmtAt)
    → b.first + b.count ≤ length t.stmt_items → k < b.count → s ≡ get_or t.stmt_items (b.first + k) s → s.0 < length t.stmts → at ≡ get_or t.stmt_places s.0 at
    → (out0 out1 out2 out3 : List ℕ) (n0 n1 n2 n3 : ℕ)
    → Wrote bytes points (block_lines indent start (block_after (stmts_in t) empty (take k (span_of t.stmt_items b.first b.count)))) out0 n0 out1 n1
    → Wrote bytes points (stmt_lines indent (stmt_at (stmts_in t) s)) out1 n1 out2 n2
    → Wrote bytes points (point indent at.end ∷ []) out2 n2 out3 n3
    → Wrote bytes points (block_lines indent start (block_after (stmts_in t) empty (take (k + 1) (span_of t.stmt_items b.first b.count)))) out0 n0 out3 n3
one_more t law tree bytes points indent start b k s at span lt found there placed out0 out1 out2 out3 n0 n1 n2 n3 before stmt after =
    let ids = span_of t.stmt_items b.first b.count in
    let trees = stmts_in t in
    let so_far = block_after trees empty (take k ids) in
    let grown : block_after trees empty (take (k + 1) ids) ≡ more so_far (stmt_at trees s) =
    ap (block_after trees empty) (take_more ids k s (omega (arith, length-span t.stmt_items b.first b.count span)) ∙ ap (λ x. take k ids ++ x ∷ []) (in_block t b k s span lt found))
    ∙ block_after-push trees empty (take k ids) s in
    let lines : block_lines indent start (block_after trees empty (take (k + 1) ids)) ≡ block_lines indent start so_far ++ (stmt_lines indent (stmt_at trees s) ++ point indent at.end ∷ []) =
    ap (block_lines indent start) grown
    ∙ ap (λ (x : StmtAt). block_lines indent start so_far ++ (stmt_lines indent (stmt_at trees s) ++ point indent x.end ∷ [])) (stmt_places t law tree s at there placed) in
    subst (λ (xs : List Line). Wrote bytes points xs out0 n0 out3 n3) (sym lines)
    (wrote-append bytes points (block_lines indent start so_far) (stmt_lines indent (stmt_at trees s) ++ point indent at.end ∷ []) out0 out1 out3 n0 n1 n3 before
    (wrote-append bytes points (stmt_lines indent (stmt_at trees s)) (point indent at.end ∷ []) out1 out2 out3 n1 n2 n3 stmt after))

-- the lines of a conditional
if_lines : (n : ℕ) (e : ExprTree) (first : BlockTree) (second : Option BlockTree) (at : StmtAt)
    → stmt_lines n (if_over e first second at) ≡ words n (codes "if " ++ (expr_text e ++ codes " then")) ∷ (block_lines (n + 2) at.first_block first ++ (else_lines n at.second_block second ++ words n (codes "endif;") ∷ []))
if_lines n e first None at = refl
if_lines n e first (Some b) at = refl

pub if_wrote : (bytes : List ℕ) (points : List (List ℕ)) (n : ℕ) (e : ExprTree) (first : BlockTree) (second : Option BlockTree) (at : StmtAt) (out0 out1 out2 out3 out4 : List ℕ) (n0 n1 n2 : ℕ)
    → out1 ≡ out0 ++ indented n (codes "if " ++ (expr_text e ++ codes " then"))
    → Wrote bytes points (block_lines (n + 2) at.first_block first) out1 n0 out2 n1
    → Wrote bytes points (else_lines n at.second_block second) out2 n1 out3 n2
    → out4 ≡ out3 ++ indented n (codes "endif;")
    → Wrote bytes points (stmt_lines n (if_over e first second at)) out0 n0 out4 n2
if_wrote bytes points n e first second at out0 out1 out2 out3 out4 n0 n1 n2 head then other end =
    let condition = codes "if " ++ (expr_text e ++ codes " then") in
    let xs = block_lines (n + 2) at.first_block first in
    let ys = else_lines n at.second_block second in
    let last : List Line = words n (codes "endif;") ∷ [] in
    subst (λ (zs : List Line). Wrote bytes points zs out0 n0 out4 n2) (sym (if_lines n e first second at))
    (wrote-append bytes points (words n condition ∷ []) (xs ++ (ys ++ last)) out0 out1 out4 n0 n0 n2 (wrote-words bytes points n condition out0 out1 n0 head)
    (wrote-append bytes points xs (ys ++ last) out1 out2 out4 n0 n1 n2 then
    (wrote-append bytes points ys last out2 out3 out4 n1 n2 n2 other (wrote-words bytes points n (codes "endif;") out3 out4 n2 end))))

-- a line of words, a block, a line of words
pub enclosed : (bytes : List ℕ) (points : List (List ℕ)) (n : ℕ) (head end : List ℕ) (xs : List Line) (out0 out1 out2 out3 : List ℕ) (n0 n1 : ℕ)
    → out1 ≡ out0 ++ indented n head → Wrote bytes points xs out1 n0 out2 n1 → out3 ≡ out2 ++ indented n end
    → Wrote bytes points (words n head ∷ (xs ++ words n end ∷ [])) out0 n0 out3 n1
enclosed bytes points n head end xs out0 out1 out2 out3 n0 n1 h block e =
    wrote-append bytes points (words n head ∷ []) (xs ++ words n end ∷ []) out0 out1 out3 n0 n0 n1 (wrote-words bytes points n head out0 out1 n0 h)
    (wrote-append bytes points xs (words n end ∷ []) out1 out2 out3 n0 n1 n1 block (wrote-words bytes points n end out2 out3 n1 e))

-- a statement of one line, and one of blocks
pub plain_wrote : {E : Type 0} (result : Result (Unit {0}) E) (bytes : List ℕ) (points : List (List ℕ)) (n : ℕ) (stmt over : StmtTree) (text out out' : List ℕ) (noted : ℕ)
    → stmt ≡ over → stmt_lines n over ≡ words n text ∷ [] → OnOk result (out' ≡ out ++ indented n text) → OnOk result (Wrote bytes points (stmt_lines n stmt) out noted out' noted)
plain_wrote result bytes points n stmt over text out out' noted e lines wrote =
    on_ok_weaker result (λ h. subst (λ (xs : List Line). Wrote bytes points xs out noted out' noted) (sym (ap (stmt_lines n) e ∙ lines)) (wrote-words bytes points n text out out' noted h)) wrote

pub nested_wrote : {E : Type 0} (result : Result (Unit {0}) E) (bytes : List ℕ) (points : List (List ℕ)) (n : ℕ) (stmt over : StmtTree) (out out' : List ℕ) (noted noted' : ℕ)
    → stmt ≡ over → OnOk result (Wrote bytes points (stmt_lines n over) out noted out' noted') → OnOk result (Wrote bytes points (stmt_lines n stmt) out noted out' noted')
nested_wrote result bytes points n stmt over out out' noted noted' e wrote = subst (λ x. OnOk result (Wrote bytes points (stmt_lines n x) out noted out' noted')) (sym e) wrote
