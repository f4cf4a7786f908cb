-- The worked core keeps the facts of a core, and stands for its graph.
use Rattle.std.proofs.Common.{◌≡◌, ◌≢◌, ℕ, suc, zero, ◌<◌, [], ◌∷◌, length, get_or, refl, arith}
use Rattle.std.specs.List.{All}
use Rattle.std.proofs.lemmas.List.Elements.{All-nil, All-cons}
use Rattle.spl_core.specs.declared.parts.Edge.{Edge}
use Rattle.spl_core.specs.declared.parts.Proc.{Proc}
use Rattle.spl_core.specs.declared.parts.CoreExpr.{CoreExpr}
use Rattle.spl_core.specs.declared.parts.CoreCond.{CoreCond}
use Rattle.spl_core.specs.Parts.{proc_at, edge_at}
use Rattle.spl_core.specs.Facts.{ExprFits, CondFits, EdgeFits, ProcFits, IsWritable, IsCall, AreFew, IsCore}
use Rattle.spl_core.specs.Expression.{eval}
use Rattle.spl_core.specs.Graph.{Copy, pairs_in, graph_of}
use Rattle.spl_core.specs.Examples.{incremented, squared, CoreExamples, DivisionExamples}

calls_alone : (i j : ℕ) → i < length incremented.edges → j < length incremented.edges → IsCall (edge_at incremented i).action
    → (edge_at incremented i).source ≡ (edge_at incremented j).source → i ≡ j
calls_alone zero j a b call e = absurd call
calls_alone (suc zero) j a b call e = absurd call
calls_alone (suc (suc zero)) j a b call e = absurd call
calls_alone (suc (suc (suc zero))) j a b call e = absurd call
calls_alone (suc (suc (suc (suc zero)))) zero a b call e = absurd (omega arith)
calls_alone (suc (suc (suc (suc zero)))) (suc zero) a b call e = absurd (omega arith)
calls_alone (suc (suc (suc (suc zero)))) (suc (suc zero)) a b call e = absurd (omega arith)
calls_alone (suc (suc (suc (suc zero)))) (suc (suc (suc zero))) a b call e = absurd (omega arith)
calls_alone (suc (suc (suc (suc zero)))) (suc (suc (suc (suc zero)))) a b call e = refl
calls_alone (suc (suc (suc (suc zero)))) (suc (suc (suc (suc (suc j))))) a b call e = absurd (omega arith)
calls_alone (suc (suc (suc (suc (suc i))))) j a b call e = absurd (omega arith)

one_distinct : (x : ℕ) (i j : ℕ) → i < j → j < 1 → get_or (x ∷ []) i 0 ≢ get_or (x ∷ []) j 0
one_distinct x i j lt few = absurd (omega arith)

one_writable : (p : Proc) (x y : ℕ) → IsWritable p x → All (λ (k : Copy). IsWritable p k.target) (pairs_in (x ∷ y ∷ []))
one_writable p x y h = All-cons (λ (k : Copy). IsWritable p k.target) (record { target = x; origin = y }) [] h (All-nil (λ (k : Copy). IsWritable p k.target))

none_writable : (p : Proc) → All (λ (k : Copy). IsWritable p k.target) []
none_writable p = All-nil (λ (k : Copy). IsWritable p k.target)

few : AreFew incremented
few = record { procs = omega arith; points = omega arith; edges = omega arith; dims = omega arith; exprs = omega arith; conds = omega arith }

procs : (k : ℕ) (d : Proc) → k < length incremented.procs → ProcFits incremented k (get_or incremented.procs k d)
procs zero d lt = record { within = omega arith; few = omega arith; entry = omega arith; exit = omega arith; owns_entry = refl; owns_exit = refl }
procs (suc zero) d lt = record { within = omega arith; few = omega arith; entry = omega arith; exit = omega arith; owns_entry = refl; owns_exit = refl }
procs (suc (suc k)) d lt = absurd (omega arith)

owners : (k d : ℕ) → k < length incremented.owners → get_or incremented.owners k d < length incremented.procs
owners zero d lt = omega arith
owners (suc zero) d lt = omega arith
owners (suc (suc zero)) d lt = omega arith
owners (suc (suc (suc zero))) d lt = omega arith
owners (suc (suc (suc (suc zero)))) d lt = omega arith
owners (suc (suc (suc (suc (suc zero))))) d lt = omega arith
owners (suc (suc (suc (suc (suc (suc zero)))))) d lt = omega arith
owners (suc (suc (suc (suc (suc (suc (suc k))))))) d lt = absurd (omega arith)

exprs : (k : ℕ) (d : CoreExpr) → k < length incremented.exprs → ExprFits k (get_or incremented.exprs k d)
exprs zero d lt = tt
exprs (suc zero) d lt = omega arith
exprs (suc (suc zero)) d lt = (omega arith, omega arith)
exprs (suc (suc (suc k))) d lt = absurd (omega arith)

conds : (k : ℕ) (d : CoreCond) → k < length incremented.conds → CondFits incremented k (get_or incremented.conds k d)
conds zero d lt = (omega arith, omega arith)
conds (suc k) d lt = absurd (omega arith)

two_below : (x y n : ℕ) → x < n → y < n → All (λ d. d < n) (x ∷ y ∷ [])
two_below x y n a b = All-cons (λ d. d < n) x (y ∷ []) a (All-cons (λ d. d < n) y [] b (All-nil (λ d. d < n)))

one_below : (x n : ℕ) → x < n → All (λ d. d < n) (x ∷ [])
one_below x n a = All-cons (λ d. d < n) x [] a (All-nil (λ d. d < n))

edges : (k : ℕ) (d : Edge) → k < length incremented.edges → EdgeFits incremented (get_or incremented.edges k d)
edges zero d lt = record {
  source = omega arith;
  target = omega arith;
  one_owner = refl;
  no_entry = λ e. absurd (omega arith);
  no_exit = λ e. absurd (omega arith);
  acts = record { pairs_fit = (omega arith, two_below 2 0 3 (omega arith) (omega arith)); even = refl; copies = one_writable (proc_at incremented 0) 2 0 (omega arith, omega arith) };
}
edges (suc zero) d lt = record {
  source = omega arith;
  target = omega arith;
  one_owner = refl;
  no_entry = λ e. absurd (omega arith);
  no_exit = λ e. absurd (omega arith);
  acts = ((omega arith, omega arith), omega arith, (omega arith, tt));
}
edges (suc (suc zero)) d lt = record {
  source = omega arith;
  target = omega arith;
  one_owner = refl;
  no_entry = λ e. absurd (omega arith);
  no_exit = λ e. absurd (omega arith);
  acts = ((omega arith, omega arith), omega arith, omega arith);
}
edges (suc (suc (suc zero))) d lt = record {
  source = omega arith;
  target = omega arith;
  one_owner = refl;
  no_entry = λ e. absurd (omega arith);
  no_exit = λ e. absurd (omega arith);
  acts = record { pairs_fit = (omega arith, All-nil (λ d. d < 2)); even = refl; copies = none_writable (proc_at incremented 1) };
}
edges (suc (suc (suc (suc zero)))) d lt = record {
  source = omega arith;
  target = omega arith;
  one_owner = refl;
  no_entry = λ e. absurd (omega arith);
  no_exit = λ e. absurd (omega arith);
  acts = record {
    callee_in_range = omega arith;
    args_fit = (omega arith, one_below 0 2 (omega arith));
    targets_fit = (omega arith, one_below 1 2 (omega arith));
    arguments = refl;
    results = refl;
    distinct = one_distinct 1;
    writable = All-cons (IsWritable (proc_at incremented 1)) 1 [] (omega arith, omega arith) (All-nil (IsWritable (proc_at incremented 1)));
  };
}
edges (suc (suc (suc (suc (suc k))))) d lt = absurd (omega arith)

pub keeps : IsCore incremented
keeps = record {
  few = few;
  main = omega arith;
  no_inputs = refl;
  procs = procs;
  owners = owners;
  exprs = exprs;
  conds = conds;
  edges = edges;
  calls_alone = calls_alone;
}

squared_procs : (k : ℕ) (d : Proc) → k < length squared.procs → ProcFits squared k (get_or squared.procs k d)
squared_procs zero d lt = record { within = omega arith; few = omega arith; entry = omega arith; exit = omega arith; owns_entry = refl; owns_exit = refl }
squared_procs (suc k) d lt = absurd (omega arith)

squared_owners : (k d : ℕ) → k < length squared.owners → get_or squared.owners k d < length squared.procs
squared_owners zero d lt = omega arith
squared_owners (suc zero) d lt = omega arith
squared_owners (suc (suc zero)) d lt = omega arith
squared_owners (suc (suc (suc k))) d lt = absurd (omega arith)

squared_exprs : (k : ℕ) (d : CoreExpr) → k < length squared.exprs → ExprFits k (get_or squared.exprs k d)
squared_exprs zero d lt = tt
squared_exprs (suc zero) d lt = (omega arith, omega arith)
squared_exprs (suc (suc k)) d lt = absurd (omega arith)

squared_edges : (k : ℕ) (d : Edge) → k < length squared.edges → EdgeFits squared (get_or squared.edges k d)
squared_edges zero d lt = record {
  source = omega arith;
  target = omega arith;
  one_owner = refl;
  no_entry = λ e. absurd (omega arith);
  no_exit = λ e. absurd (omega arith);
  acts = record { pairs_fit = (omega arith, All-nil (λ d. d < 1)); even = refl; copies = none_writable (proc_at squared 0) };
}
squared_edges (suc zero) d lt = record {
  source = omega arith;
  target = omega arith;
  one_owner = refl;
  no_entry = λ e. absurd (omega arith);
  no_exit = λ e. absurd (omega arith);
  acts = ((omega arith, omega arith), omega arith, (omega arith, omega arith));
}
squared_edges (suc (suc k)) d lt = absurd (omega arith)

squared_alone : (i j : ℕ) → i < length squared.edges → j < length squared.edges → IsCall (edge_at squared i).action
    → (edge_at squared i).source ≡ (edge_at squared j).source → i ≡ j
squared_alone zero j a b call e = absurd call
squared_alone (suc zero) j a b call e = absurd call
squared_alone (suc (suc i)) j a b call e = absurd (omega arith)

pub keeps_squared : IsCore squared
keeps_squared = record {
  few = record { procs = omega arith; points = omega arith; edges = omega arith; dims = omega arith; exprs = omega arith; conds = omega arith };
  main = omega arith;
  no_inputs = refl;
  procs = squared_procs;
  owners = squared_owners;
  exprs = squared_exprs;
  conds = λ k d lt. absurd (omega arith);
  edges = squared_edges;
  calls_alone = squared_alone;
}

pub core_examples : CoreExamples
unfolding graph_of
core_examples = record { keeps = keeps; keeps_squared = keeps_squared; stands = refl }

pub division_examples : DivisionExamples
unfolding eval
division_examples = record {
  positive = record { quotient = refl; remainder = refl };
  by_negative = record { quotient = refl; remainder = refl };
  of_negative = record { quotient = refl; remainder = refl };
  of_two_negatives = record { quotient = refl; remainder = refl };
  of_smaller = record { quotient = refl; remainder = refl };
  quotient_by_zero = refl;
  remainder_by_zero = refl;
  of_state = refl;
  missing = refl;
  with_missing_part = refl;
  equal_to_missing = λ wanted e. absurd (cc);
  unlike_missing = λ wanted e. absurd (cc);
}
