-- Texts appended one after the other, put together.
use Rattle.std.proofs.Common.{◌≡◌, List, ℕ, ◌++◌, codes, ap, ◌∙◌, append_assoc}

-- two pieces, one after the other
pub and_then : (x0 x1 x2 p q : List ℕ) → x1 ≡ x0 ++ p → x2 ≡ x1 ++ q → x2 ≡ x0 ++ (p ++ q)
and_then x0 x1 x2 p q e f = f ∙ ap (λ t. t ++ q) e ∙ append_assoc x0 p q

pub five : (x0 x1 x2 x3 x4 x5 p1 p2 p3 p4 p5 : List ℕ) → x1 ≡ x0 ++ p1 → x2 ≡ x1 ++ p2 → x3 ≡ x2 ++ p3 → x4 ≡ x3 ++ p4 → x5 ≡ x4 ++ p5
    → x5 ≡ x0 ++ (p1 ++ (p2 ++ (p3 ++ (p4 ++ p5))))
five x0 x1 x2 x3 x4 x5 p1 p2 p3 p4 p5 e1 e2 e3 e4 e5 =
    and_then x0 x1 x5 p1 (p2 ++ (p3 ++ (p4 ++ p5))) e1 (and_then x1 x2 x5 p2 (p3 ++ (p4 ++ p5)) e2 (and_then x2 x3 x5 p3 (p4 ++ p5) e3 (and_then x3 x4 x5 p4 p5 e4 e5)))

pub seven : (x0 x1 x2 x3 x4 x5 x6 x7 p1 p2 p3 p4 p5 p6 p7 : List ℕ) → x1 ≡ x0 ++ p1 → x2 ≡ x1 ++ p2 → x3 ≡ x2 ++ p3 → x4 ≡ x3 ++ p4 → x5 ≡ x4 ++ p5 → x6 ≡ x5 ++ p6 → x7 ≡ x6 ++ p7
    → x7 ≡ x0 ++ (p1 ++ (p2 ++ (p3 ++ (p4 ++ (p5 ++ (p6 ++ p7))))))
seven x0 x1 x2 x3 x4 x5 x6 x7 p1 p2 p3 p4 p5 p6 p7 e1 e2 e3 e4 e5 e6 e7 =
    and_then x0 x1 x7 p1 (p2 ++ (p3 ++ (p4 ++ (p5 ++ (p6 ++ p7))))) e1 (and_then x1 x2 x7 p2 (p3 ++ (p4 ++ (p5 ++ (p6 ++ p7)))) e2 (five x2 x3 x4 x5 x6 x7 p3 p4 p5 p6 p7 e3 e4 e5 e6 e7))

-- the end of a line behind its text
pub call_end : (targets called args : List ℕ)
    → targets ++ (codes " = " ++ (called ++ (codes "(" ++ (args ++ codes ");\n")))) ≡ (targets ++ (codes " = " ++ (called ++ (codes "(" ++ (args ++ codes ");"))))) ++ codes "\n"
call_end targets called args = simp append_assoc

pub heading_end : (name inputs outputs : List ℕ)
    → codes "proc " ++ (name ++ (codes "(" ++ (inputs ++ (codes ") returns (" ++ (outputs ++ codes ")\n"))))) ≡ (codes "proc " ++ (name ++ (codes "(" ++ (inputs ++ (codes ") returns (" ++ (outputs ++ codes ")")))))) ++ codes "\n"
heading_end name inputs outputs = simp append_assoc

pub point_end : (place note : List ℕ)
    → codes "/* " ++ (place ++ (codes " " ++ (note ++ codes " */\n"))) ≡ (codes "/* " ++ (place ++ (codes " " ++ (note ++ codes " */")))) ++ codes "\n"
point_end place note = simp append_assoc
