-- Expressions that wait on a stack.
use Rattle.std.proofs.Common.{◌≡◌, ℕ, ◌+◌, ◌<◌, List, [], ◌∷◌, ◌++◌, length, sum_by, Result, Ok, Err, refl, sym, ap, ◌∙◌, subst, arith, append_assoc}
use Rattle.std.proofs.lemmas.List.{append-nil}
use Rattle.std.proofs.lemmas.List.Elements.{All-push}
use Rattle.std.proofs.lemmas.List.Sums.{sum_by-append}
use Rattle.spl_tree.specs.declared.parts.BinOp.{BinOp}
use Rattle.spl_tree.specs.declared.parts.Expr.{Expr}
use Rattle.spl_tree.specs.declared.parts.ExprId.{ExprId}
use Rattle.spl_tree.specs.Program.{ExprTree, binary}
use Rattle.spl_tree.specs.Meaning.{expr_at}
use Rattle.spl_types.specs.declared.fault.CheckFault.{CheckFault}
use Rattle.spl_types.specs.declared.fault.CheckFault.TheVariants.{NoMemory}
use Rattle.spl_types.specs.declared.exprs.Sort.{Sort as CodeSort}
use Rattle.spl_types.specs.declared.exprs.Wanted.{Wanted}
use Rattle.spl_types.specs.Checks.{Check, first_broken, operand_sort, expr_checks}
use Rattle.spl_types.specs.Faults.{Kept, Faulted}
use Rattle.spl_types.specs.Sorts.{sort_of, inner_checks, node_count, waiting_checks, waiting_count, AreThere, LeavesChildren, Pushed}

-- the checks of one item
abbrev pub checks_of : List (List ℕ) → List ExprTree → Wanted → List Check
checks_of names trees w = expr_checks names (sort_of w.sort) (expr_at trees w.expr)

abbrev pub count_of : List ExprTree → Wanted → ℕ
count_of trees w = node_count (expr_at trees w.expr)

pub waiting_push : (names : List (List ℕ)) (trees : List ExprTree) (ws : List Wanted) (w : Wanted) → waiting_checks names trees (ws ++ w ∷ []) ≡ checks_of names trees w ++ waiting_checks names trees ws
waiting_push names trees [] w = sym (append-nil (checks_of names trees w))
waiting_push names trees (x ∷ xs) w =
    ap (λ l. l ++ checks_of names trees x) (waiting_push names trees xs w)
    ∙ append_assoc (checks_of names trees w) (waiting_checks names trees xs) (checks_of names trees x)

pub count_push : (trees : List ExprTree) (ws : List Wanted) (w : Wanted) → waiting_count trees (ws ++ w ∷ []) ≡ waiting_count trees ws + count_of trees w
count_push trees ws w = let e = sum_by-append (λ (x : Wanted). node_count (expr_at trees x.expr)) ws (w ∷ []) in let f : sum_by (λ (x : Wanted). node_count (expr_at trees x.expr)) (w ∷ []) ≡ count_of trees w = omega arith in e ∙ ap (λ n. waiting_count trees ws + n) f

pub no_memory : (cs : List Check) (e : CheckFault) → e ≡ NoMemory → Faulted cs e
no_memory cs e h = let P : CheckFault → Type 0 = λ f. Faulted cs f in subst P (sym h) tt

-- one child is left
pub leaves_one : (names : List (List ℕ)) (trees : List ExprTree) (exprs : List Expr) (old new : List Wanted) (w : Wanted) (r : Result (Unit {0}) CheckFault) → AreThere exprs old → w.expr.0 < length exprs → Pushed old w new r
    → LeavesChildren names trees exprs (checks_of names trees w) (count_of trees w + 1) old new r
leaves_one names trees exprs old new w (Ok v) there lt h =
    let P : List Wanted → Type 0 = λ l. AreThere exprs l in (
      ap (λ l. first_broken (waiting_checks names trees l)) h ∙ ap first_broken (waiting_push names trees old w),
      subst P (sym h) (All-push (λ (x : Wanted). x.expr.0 < length exprs) old w there lt),
      omega (arith, ap (λ l. waiting_count trees l) h, count_push trees old w),
    )
leaves_one names trees exprs old new w (Err e) there lt h = no_memory (checks_of names trees w ++ waiting_checks names trees old) e h

-- two children are left, the first one on top
pub leaves_two : (names : List (List ℕ)) (trees : List ExprTree) (exprs : List Expr) (op : BinOp) (at : ℕ) (s : CodeSort) (a b : ExprId) (old mid new : List Wanted) (r : Result (Unit {0}) CheckFault)
    → AreThere exprs old → a.0 < length exprs → b.0 < length exprs → sort_of s ≡ operand_sort op → mid ≡ old ++ record { expr = b; sort = s } ∷ [] → Pushed mid (record { expr = a; sort = s }) new r
    → LeavesChildren names trees exprs (inner_checks names (binary op (expr_at trees a) (expr_at trees b) at)) (node_count (binary op (expr_at trees a) (expr_at trees b) at)) old new r
leaves_two names trees exprs op at s a b old mid new (Ok v) there la lb e m h =
    let P : List Wanted → Type 0 = λ l. AreThere exprs l in
    let ca : List Check = expr_checks names (operand_sort op) (expr_at trees a) in
    let cb : List Check = expr_checks names (operand_sort op) (expr_at trees b) in
    let wa : Wanted = record { expr = a; sort = s } in
    let wb : Wanted = record { expr = b; sort = s } in
    let both : waiting_checks names trees new ≡ (ca ++ cb) ++ waiting_checks names trees old =
    ap (λ l. waiting_checks names trees l) h
    ∙ (waiting_push names trees mid wa
    ∙ (ap (λ l. checks_of names trees wa ++ waiting_checks names trees l) m
    ∙ (ap (λ l. checks_of names trees wa ++ l) (waiting_push names trees old wb)
    ∙ (ap (λ t. expr_checks names t (expr_at trees a) ++ (expr_checks names t (expr_at trees b) ++ waiting_checks names trees old)) e
    ∙ sym (append_assoc ca cb (waiting_checks names trees old)))))) in (
      ap first_broken both,
      subst P (sym h) (All-push (λ (x : Wanted). x.expr.0 < length exprs) mid wa (subst P (sym m) (All-push (λ (x : Wanted). x.expr.0 < length exprs) old wb there lb)) la),
      omega (arith, ap (λ l. waiting_count trees l) h, count_push trees mid wa, ap (λ l. waiting_count trees l) m, count_push trees old wb),
    )
leaves_two names trees exprs op at s a b old mid new (Err e) there la lb q m h = no_memory (inner_checks names (binary op (expr_at trees a) (expr_at trees b) at) ++ waiting_checks names trees old) e h

-- the item on top
pub popped : (names : List (List ℕ)) (trees : List ExprTree) (items rest : List Wanted) (w : Wanted) → items ≡ rest ++ w ∷ [] → waiting_checks names trees items ≡ checks_of names trees w ++ waiting_checks names trees rest
popped names trees items rest w h = ap (λ l. waiting_checks names trees l) h ∙ waiting_push names trees rest w

pub one_waits : (names : List (List ℕ)) (trees : List ExprTree) (exprs : List Expr) (old new : List Wanted) (w : Wanted) → old ≡ [] → new ≡ old ++ w ∷ [] → w.expr.0 < length exprs → AreThere exprs new × (first_broken (waiting_checks names trees new) ≡ first_broken (checks_of names trees w))
one_waits names trees exprs old new w e h lt =
    let P : List Wanted → Type 0 = λ l. AreThere exprs l in
    let q : new ≡ [] ++ w ∷ [] = h ∙ ap (λ l. l ++ w ∷ []) e in
    let nothing : AreThere exprs [] = λ k d l. absurd (omega arith) in
    (subst P (sym q) (All-push (λ (x : Wanted). x.expr.0 < length exprs) [] w nothing lt), ap (λ l. first_broken (waiting_checks names trees l)) q)

pub none_waits : (names : List (List ℕ)) (trees : List ExprTree) (ws : List Wanted) → length ws ≡ 0 → Kept (waiting_checks names trees ws)
none_waits names trees [] h = refl
none_waits names trees (w ∷ ws) h = absurd (omega arith)
