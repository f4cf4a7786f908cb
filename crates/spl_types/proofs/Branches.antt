-- Statements: with the point after them, and by their parts.
use Rattle.std.proofs.Common.{◌≡◌, ℕ, List, [], ◌∷◌, ◌++◌, Option, Some, None, Result, Ok, Err, sym, subst}
use Rattle.spl_tree.specs.declared.parts.StmtAt.{StmtAt}
use Rattle.spl_tree.specs.Program.{ExprTree, StmtTree, BlockTree, if_then, if_else, while_do, places_of}
use Rattle.spl_tree.specs.Meaning.{if_over}
use Rattle.spl_types.specs.declared.fault.CheckFault.{CheckFault}
use Rattle.spl_types.specs.declared.scope.Walk.{Walk}
use Rattle.spl_types.specs.Checks.{Check, Scope, Met, with_point, point_check, met_in, met_by, a_condition, expr_checks, stmt_checks, block_checks}
use Rattle.spl_types.specs.Faults.{Kept, Faulted, Answers, AnswersWith}
use Rattle.spl_types.specs.Walking.{HasMet, StepsInStmt, StepsToPoint, StepsToBlock}
use Rattle.spl_types.proofs.Firsts.{kept_append, faulted_first, faulted_then, kept_of, fault_of, then_answers_with}

-- a statement fails before the point after it
pub point_fault : (c : Scope) (m : Met) (x : StmtTree) (w w' : Walk) (r : Result (Unit {0}) CheckFault) (e : CheckFault) → r ≡ Err e → StepsInStmt c x w w' r → HasMet c m w → Faulted (stmt_checks c m x ++ point_check (met_in m x) (places_of x).end ∷ []) e
point_fault c m x w w' r e o g h = faulted_first (stmt_checks c m x) (point_check (met_in m x) (places_of x).end ∷ []) e (fault_of r (stmt_checks c m x) (λ _. HasMet c (met_in m x) w') e o (g m h))

pub point_after : (c : Scope) (m : Met) (x : StmtTree) (at : ℕ) (w w1 w2 : Walk) (r q : Result (Unit {0}) CheckFault) (v : Unit {0}) → r ≡ Ok v → StepsInStmt c x w w1 r → StepsToPoint c at w1 w2 q → (places_of x).end ≡ at → HasMet c m w
    → AnswersWith q (stmt_checks c m x ++ point_check (met_in m x) (places_of x).end ∷ []) (λ _. HasMet c (with_point (met_in m x)) w2)
point_after c m x at w w1 w2 r q v o g f e h =
    let first : Kept (stmt_checks c m x) × HasMet c (met_in m x) w1 = kept_of r (stmt_checks c m x) (λ _. HasMet c (met_in m x) w1) v o (g m h) in
    let P : ℕ → Type 0 = λ n. AnswersWith q (stmt_checks c m x ++ point_check (met_in m x) n ∷ []) (λ _. HasMet c (with_point (met_in m x)) w2) in
    subst P (sym e) (then_answers_with q (stmt_checks c m x) (point_check (met_in m x) at ∷ []) (λ _. HasMet c (with_point (met_in m x)) w2) first.0 (f (met_in m x) first.1))

-- a walk that stays
pub stays : {X : Type 0} (r : Result X CheckFault) (cs : List Check) (P : Type 0) → P → Answers r cs → AnswersWith r cs (λ _. P)
stays (Ok v) cs P p h = (h, p)
stays (Err e) cs P p h = h

-- conditionals
pub if_fault : (c : Scope) (m : Met) (e : ExprTree) (a : BlockTree) (b : Option BlockTree) (at : StmtAt) (y : CheckFault) → Faulted (expr_checks c.declared a_condition e) y → Faulted (stmt_checks c m (if_over e a b at)) y
if_fault c m e a None at y h = faulted_first (expr_checks c.declared a_condition e) (block_checks c m at.first_block a) y h
if_fault c m e a (Some b) at y h = faulted_first (expr_checks c.declared a_condition e) (block_checks c m at.first_block a ++ block_checks c (met_by m a) at.second_block b) y h

pub first_fault : (c : Scope) (m : Met) (e : ExprTree) (a : BlockTree) (b : Option BlockTree) (at : StmtAt) (y : CheckFault) → Kept (expr_checks c.declared a_condition e) → Faulted (block_checks c m at.first_block a) y → Faulted (stmt_checks c m (if_over e a b at)) y
first_fault c m e a None at y k h = faulted_then (expr_checks c.declared a_condition e) (block_checks c m at.first_block a) y k h
first_fault c m e a (Some b) at y k h =
    faulted_then (expr_checks c.declared a_condition e) (block_checks c m at.first_block a ++ block_checks c (met_by m a) at.second_block b) y k
    (faulted_first (block_checks c m at.first_block a) (block_checks c (met_by m a) at.second_block b) y h)

pub after_first : (c : Scope) (m : Met) (e : ExprTree) (a : BlockTree) (at : StmtAt) (w w' : Walk) (r : Result (Unit {0}) CheckFault) (v : Unit {0}) → Kept (expr_checks c.declared a_condition e) → r ≡ Ok v → StepsToBlock c at.first_block a w w' r → HasMet c m w
    → Kept (stmt_checks c m (if_then e a at)) × HasMet c (met_by m a) w'
after_first c m e a at w w' r v k o g h =
    let q : Kept (block_checks c m at.first_block a) × HasMet c (met_by m a) w' = kept_of r (block_checks c m at.first_block a) (λ _. HasMet c (met_by m a) w') v o (g m h) in
    (kept_append (expr_checks c.declared a_condition e) (block_checks c m at.first_block a) k q.0, q.1)

pub after_second : (c : Scope) (m : Met) (e : ExprTree) (a b : BlockTree) (at : StmtAt) (w w1 w2 : Walk) (r q : Result (Unit {0}) CheckFault) (v : Unit {0}) → Kept (expr_checks c.declared a_condition e) → r ≡ Ok v → StepsToBlock c at.first_block a w w1 r → StepsToBlock c at.second_block b w1 w2 q → HasMet c m w
    → AnswersWith q (stmt_checks c m (if_else e a b at)) (λ _. HasMet c (met_in m (if_else e a b at)) w2)
after_second c m e a b at w w1 w2 r q v k o g f h =
    let first : Kept (block_checks c m at.first_block a) × HasMet c (met_by m a) w1 = kept_of r (block_checks c m at.first_block a) (λ _. HasMet c (met_by m a) w1) v o (g m h) in
    then_answers_with q (expr_checks c.declared a_condition e) (block_checks c m at.first_block a ++ block_checks c (met_by m a) at.second_block b) (λ _. HasMet c (met_by (met_by m a) b) w2) k
    (then_answers_with q (block_checks c m at.first_block a) (block_checks c (met_by m a) at.second_block b) (λ _. HasMet c (met_by (met_by m a) b) w2) first.0 (f (met_by m a) first.1))

-- loops
pub while_fault : (c : Scope) (m : Met) (e : ExprTree) (a : BlockTree) (at : StmtAt) (y : CheckFault) → Faulted (expr_checks c.declared a_condition e) y → Faulted (stmt_checks c m (while_do e a at)) y
while_fault c m e a at y h = faulted_first (expr_checks c.declared a_condition e) (block_checks c m at.first_block a) y h

pub after_body : (c : Scope) (m : Met) (e : ExprTree) (a : BlockTree) (at : StmtAt) (w w' : Walk) (r : Result (Unit {0}) CheckFault) → Kept (expr_checks c.declared a_condition e) → StepsToBlock c at.first_block a w w' r → HasMet c m w
    → AnswersWith r (stmt_checks c m (while_do e a at)) (λ _. HasMet c (met_by m a) w')
after_body c m e a at w w' r k g h = then_answers_with r (expr_checks c.declared a_condition e) (block_checks c m at.first_block a) (λ _. HasMet c (met_by m a) w') k (g m h)
