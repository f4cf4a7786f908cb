-- What statements that keep their checks do: expressions over the dimensions, targets that may be written, calls that fit.
use Rattle.std.proofs.Common.{◌≡◌, ℕ, suc, zero, ◌+◌, ◌-◌, ◌<◌, ◌≤◌, Bool, true, false, not, ◌||◌, List, [], ◌∷◌, ◌++◌, length, get_or, is_some, refl, sym, ap, ◌∙◌, subst, arith}
use Rattle.std.specs.List.{All}
use Rattle.std.specs.Str.{bytes_eq}
use Rattle.std.proofs.lemmas.List.{length-map, get_or-map}
use Rattle.std.proofs.lemmas.List.Elements.{All-nil, All-cons, All-append}
use Rattle.std.proofs.lemmas.List.Folds.{list_any-append}
use Rattle.spl_tree.specs.declared.parts.BinOp.{BinOp}
use Rattle.spl_tree.specs.declared.parts.BinOp.TheVariants as op
use Rattle.spl_tree.specs.Program.{Named, ExprTree, number, variable, true_value, false_value, random_value, negative, opposite, binary, StmtTree, skip, halt, fail, assume, assign, call, if_then, if_else, while_do, BlockTree, empty, more, places_of}
use Rattle.spl_types.specs.declared.fault.CheckRule.TheVariants.{UnknownVariable, RepeatedTarget, TooManyVariables, UnknownProcedure, WrongCount}
use Rattle.spl_types.specs.Checks.{Check, check, is_among, plain_names, Sort, a_number, a_condition, operand_sort, result_sort, sort_check, expr_checks, assigned_checks, Met, met_in, met_by, Scope, has_room, targets_checks, proc_named, has_counts, argument_checks, call_checks, point_check, stmt_checks, block_checks}
use Rattle.spl_types.specs.Faults.{Kept}
use Rattle.spl_types.specs.Tables.{Distinct}
use Rattle.spl_types.proofs.Firsts.{kept_first, kept_last}
use Rattle.spl_types.proofs.Copying.{eq_refl}
use Rattle.spl_core.specs.declared.parts.Proc.{Proc}
use Rattle.spl_core.specs.Facts.{IsWritable}
use Rattle.spl_core.specs.Expression.{IsOver}
use Rattle.spl_core.specs.Condition.{IsConditionOver}
use Rattle.spl_core.specs.Graph.{skips, tests, calls, Arc, proc_in}
use Rattle.control_points.specs.CoreOf.{Spoken, Naming, arc, place_in, dimension_in, dimensions_in, expression_of, condition_of, assigned_move, stmt_arcs, block_arcs}
use Rattle.spl_core.specs.GraphFacts.{CallMoveFits, MoveFits}
use Rattle.control_points.proofs.Fresh.{kept_head, kept_tail, true_false, fresh_distinct, Targets, targets_kept}

-- ---- expressions

operands : (names : List (List ℕ)) (w : Sort) (o : BinOp) (a b : ExprTree) (at : ℕ) → Kept (expr_checks names w (binary o a b at)) → Kept (expr_checks names (operand_sort o) a) × Kept (expr_checks names (operand_sort o) b)
operands names w o a b at h =
    let xs : List Check = expr_checks names (operand_sort o) a in
    let ys : List Check = expr_checks names (operand_sort o) b in
    let k : Kept (xs ++ ys) = kept_last (sort_check w (result_sort o) at ∷ []) (xs ++ ys) h in
    (kept_first xs ys k, kept_last xs ys k)

-- names that stand for one of the first n dimensions
abbrev pub StandBelow : Spoken → List (List ℕ) → ℕ → Type 0
StandBelow sp names n = (x : List ℕ) → is_among x names ≡ true → dimension_in sp x < n

pub over : (sp : Spoken) (names : List (List ℕ)) (n : ℕ) (w : Sort) (e : ExprTree) → StandBelow sp names n → Kept (expr_checks names w e) → IsOver n (expression_of sp e)
over sp names n w (number k at) f h = tt
over sp names n w (variable x at) f h = f x (kept_head (check UnknownVariable at (is_among x names)) [] (kept_tail (sort_check w a_number at) (check UnknownVariable at (is_among x names) ∷ []) h))
over sp names n w (true_value at) f h = tt
over sp names n w (false_value at) f h = tt
over sp names n w (random_value at) f h = tt
over sp names n w (negative a at) f h = over sp names n a_number a f (kept_tail (sort_check w a_number at) (expr_checks names a_number a) h)
over sp names n w (opposite a at) f h = tt
over sp names n w (binary op.Add a b at) f h = let k = operands names w op.Add a b at h in (over sp names n a_number a f k.0, over sp names n a_number b f k.1)
over sp names n w (binary op.Sub a b at) f h = let k = operands names w op.Sub a b at h in (over sp names n a_number a f k.0, over sp names n a_number b f k.1)
over sp names n w (binary op.Mul a b at) f h = let k = operands names w op.Mul a b at h in (over sp names n a_number a f k.0, over sp names n a_number b f k.1)
over sp names n w (binary op.Div a b at) f h = let k = operands names w op.Div a b at h in (over sp names n a_number a f k.0, over sp names n a_number b f k.1)
over sp names n w (binary op.Rem a b at) f h = let k = operands names w op.Rem a b at h in (over sp names n a_number a f k.0, over sp names n a_number b f k.1)
over sp names n w (binary op.Or a b at) f h = tt
over sp names n w (binary op.And a b at) f h = tt
over sp names n w (binary op.Eq a b at) f h = tt
over sp names n w (binary op.Ne a b at) f h = tt
over sp names n w (binary op.Lt a b at) f h = tt
over sp names n w (binary op.Le a b at) f h = tt
over sp names n w (binary op.Gt a b at) f h = tt
over sp names n w (binary op.Ge a b at) f h = tt

both_over : (sp : Spoken) (names : List (List ℕ)) (n : ℕ) (w : Sort) (o : BinOp) (a b : ExprTree) (at : ℕ) → StandBelow sp names n → Kept (expr_checks names w (binary o a b at)) → IsOver n (expression_of sp a) × IsOver n (expression_of sp b)
both_over sp names n w o a b at f h = let k = operands names w o a b at h in (over sp names n (operand_sort o) a f k.0, over sp names n (operand_sort o) b f k.1)

pub condition_over : (sp : Spoken) (names : List (List ℕ)) (n : ℕ) (w : Sort) (e : ExprTree) → StandBelow sp names n → Kept (expr_checks names w e) → IsConditionOver n (condition_of sp e)
condition_over sp names n w (number k at) f h = tt
condition_over sp names n w (variable x at) f h = tt
condition_over sp names n w (true_value at) f h = tt
condition_over sp names n w (false_value at) f h = tt
condition_over sp names n w (random_value at) f h = tt
condition_over sp names n w (negative a at) f h = tt
condition_over sp names n w (opposite a at) f h = condition_over sp names n a_condition a f (kept_tail (sort_check w a_condition at) (expr_checks names a_condition a) h)
condition_over sp names n w (binary op.Or a b at) f h = let k = operands names w op.Or a b at h in (condition_over sp names n a_condition a f k.0, condition_over sp names n a_condition b f k.1)
condition_over sp names n w (binary op.And a b at) f h = let k = operands names w op.And a b at h in (condition_over sp names n a_condition a f k.0, condition_over sp names n a_condition b f k.1)
condition_over sp names n w (binary op.Eq a b at) f h = both_over sp names n w op.Eq a b at f h
condition_over sp names n w (binary op.Ne a b at) f h = both_over sp names n w op.Ne a b at f h
condition_over sp names n w (binary op.Lt a b at) f h = both_over sp names n w op.Lt a b at f h
condition_over sp names n w (binary op.Le a b at) f h = both_over sp names n w op.Le a b at f h
condition_over sp names n w (binary op.Gt a b at) f h = both_over sp names n w op.Gt a b at f h
condition_over sp names n w (binary op.Ge a b at) f h = both_over sp names n w op.Ge a b at f h
condition_over sp names n w (binary op.Add a b at) f h = tt
condition_over sp names n w (binary op.Sub a b at) f h = tt
condition_over sp names n w (binary op.Mul a b at) f h = tt
condition_over sp names n w (binary op.Div a b at) f h = tt
condition_over sp names n w (binary op.Rem a b at) f h = tt

-- ---- targets that were met stay met

or_first : (a b : Bool) → a ≡ true → (a || b) ≡ true
or_first true b h = refl
or_first false b h = absurd (true_false (sym h))

pub or_last : (a b : Bool) → b ≡ true → (a || b) ≡ true
or_last true b h = refl
or_last false b h = h

pub among_first : (x : List ℕ) (xs ys : List (List ℕ)) → is_among x xs ≡ true → is_among x (xs ++ ys) ≡ true
among_first x xs ys h = list_any-append (bytes_eq x) xs ys ∙ or_first (is_among x xs) (is_among x ys) h

among_last : (x : List ℕ) (xs ys : List (List ℕ)) → is_among x ys ≡ true → is_among x (xs ++ ys) ≡ true
among_last x xs ys h = list_any-append (bytes_eq x) xs ys ∙ or_last (is_among x xs) (is_among x ys) h

mutual
  more_in : (m : Met) (s : StmtTree) (x : List ℕ) → is_among x m.targets ≡ true → is_among x (met_in m s).targets ≡ true
  more_in m (skip at) x h = h
  more_in m (halt at) x h = h
  more_in m (fail at) x h = h
  more_in m (assume e at) x h = h
  more_in m (assign y e at) x h = among_first x m.targets (y ∷ []) h
  more_in m (call targets called args at) x h = among_first x m.targets (plain_names targets) h
  more_in m (if_then e a at) x h = more_by m a x h
  more_in m (if_else e a b at) x h = more_by (met_by m a) b x (more_by m a x h)
  more_in m (while_do e a at) x h = more_by m a x h

  more_by : (m : Met) (b : BlockTree) (x : List ℕ) → is_among x m.targets ≡ true → is_among x (met_by m b).targets ≡ true
  more_by m empty x h = h
  more_by m (more b s) x h = more_in (met_by m b) s x (more_by m b x h)

-- a name is among the names of a list that has it
named_among : (xs : List Named) (k : ℕ) (d : Named) → k < length xs → is_among (get_or xs k d).name (plain_names xs) ≡ true
named_among [] k d lt = absurd (omega (arith, lt))
named_among (x ∷ xs) zero d lt = or_first (bytes_eq x.name x.name) (is_among x.name (plain_names xs)) (eq_refl x.name)
named_among (x ∷ xs) (suc k) d lt = or_last (bytes_eq (get_or xs k d).name x.name) (is_among (get_or xs k d).name (plain_names xs)) (named_among xs k d (omega (arith, lt)))

-- ---- statements

-- a procedure that is called by this name
pub record Called (names : List (List ℕ)) (cs : List Proc) (x : List ℕ) (t a : ℕ) : Type 0 where
  pub in_range : place_in names x + 1 < length cs
  pub args : a ≡ (proc_in cs (place_in names x)).inputs
  pub targets : t ≡ (proc_in cs (place_in names x)).outputs

-- what names stand for in a procedure with these targets
pub record Frame (sp : Spoken) (sc : Scope) (ts names : List (List ℕ)) (cs : List Proc) (q : Proc) : Type 0 where
  pub below : StandBelow sp sc.declared q.dims
  pub written : (x : List ℕ) → is_among x sc.declared ≡ true → is_among x ts ≡ true → q.inputs ≤ dimension_in sp x
  pub differ : (x y : List ℕ) → is_among x sc.declared ≡ true → is_among y sc.declared ≡ true → dimension_in sp x ≡ dimension_in sp y → bytes_eq x y ≡ true
  pub called : (x : List ℕ) (t a : ℕ) → is_some (proc_named sc.procs x) ≡ true → has_counts (proc_named sc.procs x) t a ≡ true → Called names cs x t a

-- the arguments of a call
args_declared : (names : List (List ℕ)) (xs : List Named) → Kept (argument_checks names xs) → (k : ℕ) (d : Named) → k < length xs → is_among (get_or xs k d).name names ≡ true
args_declared names [] h k d lt = absurd (omega (arith, lt))
args_declared names (x ∷ xs) h zero d lt = kept_head (check UnknownVariable x.at (is_among x.name names)) (argument_checks names xs) h
args_declared names (x ∷ xs) h (suc k) d lt = args_declared names xs (kept_tail (check UnknownVariable x.at (is_among x.name names)) (argument_checks names xs) h) k d (omega (arith, lt))

no_name : Named
no_name = record { name = []; at = 0 }

-- the dimensions of names, by their numbers
all_dims : (P : ℕ → Type 0) (sp : Spoken) (xs : List Named) → ((k : ℕ) (d : Named) → k < length xs → P (dimension_in sp (get_or xs k d).name)) → All P (dimensions_in sp xs)
all_dims P sp xs h = λ k d lt.
    let f : Named → ℕ = λ x. dimension_in sp x.name in
    let l : k < length xs = omega (arith, lt, length-map xs f) in
    subst P (sym (get_or-map f xs k no_name d l)) (h k no_name l)

one : (P : Arc → Type 0) (x : Arc) → P x → All P (x ∷ [])
one P x p = All-cons P x [] p (All-nil P)

-- what each arc does fits
abbrev pub ArcActs : List Proc → Proc → Arc → Type 0
ArcActs cs q a = MoveFits cs q a.move

-- the targets that were met are among these
abbrev pub Within : List (List ℕ) → Met → Type 0
Within ts m = (x : List ℕ) → is_among x m.targets ≡ true → is_among x ts ≡ true

-- three arcs before others
three : (cs : List Proc) (q : Proc) (x y z : Arc) (xs : List Arc) → MoveFits cs q x.move → MoveFits cs q y.move → MoveFits cs q z.move → All (ArcActs cs q) xs → All (ArcActs cs q) (x ∷ y ∷ z ∷ xs)
three cs q x y z xs a b c h = All-cons (ArcActs cs q) x (y ∷ z ∷ xs) a (All-cons (ArcActs cs q) y (z ∷ xs) b (All-cons (ArcActs cs q) z xs c h))

module _ (sp : Spoken) (sc : Scope) (ts names : List (List ℕ)) (cs : List Proc) (q : Proc) (f : Frame sp sc ts names cs q) where
  writable : (x : List ℕ) → is_among x sc.declared ≡ true → is_among x ts ≡ true → IsWritable q (dimension_in sp x)
  writable x d t = (f.written x d t, f.below x d)

  assigned_fits : (x : List ℕ) (e : ExprTree) → IsWritable q (dimension_in sp x) → Kept (assigned_checks sc.declared e) → MoveFits cs q (assigned_move sp x e)
  assigned_fits x (number k at) w h = (w, tt)
  assigned_fits x (variable y at) w h = (w, over sp sc.declared q.dims a_number (variable y at) f.below h)
  assigned_fits x (true_value at) w h = (w, tt)
  assigned_fits x (false_value at) w h = (w, tt)
  assigned_fits x (random_value at) w h = w
  assigned_fits x (negative a at) w h = (w, over sp sc.declared q.dims a_number (negative a at) f.below h)
  assigned_fits x (opposite a at) w h = (w, tt)
  assigned_fits x (binary o a b at) w h = (w, over sp sc.declared q.dims a_number (binary o a b at) f.below h)

  call_fits : (m : Met) (targets : List Named) (called : List ℕ) (args : List Named) (at : ℕ) → Kept (targets_checks sc m.targets [] targets ++ call_checks sc targets called args at) → ((x : List ℕ) → is_among x (m.targets ++ plain_names targets) ≡ true → is_among x ts ≡ true)
      → CallMoveFits cs q (place_in names called) (dimensions_in sp args) (dimensions_in sp targets)
  call_fits m targets called args at h w =
      let xs : List Check = targets_checks sc m.targets [] targets in
      let a : Check = check UnknownProcedure at (is_some (proc_named sc.procs called)) in
      let b : Check = check WrongCount at (has_counts (proc_named sc.procs called) (length targets) (length args)) in
      let rest : List Check = argument_checks sc.declared args in
      let t : Targets sc [] targets = targets_kept sc m.targets [] targets (kept_first xs (a ∷ b ∷ rest) h) in
      let k : Kept (a ∷ b ∷ rest) = kept_last xs (a ∷ b ∷ rest) h in
      let k' : Kept (b ∷ rest) = kept_tail a (b ∷ rest) k in
      let c : Called names cs called (length targets) (length args) = f.called called (length targets) (length args) (kept_head a (b ∷ rest) k) (kept_head b rest k') in
      let declared = args_declared sc.declared args (kept_tail b rest k') in
      let one_of : Named → ℕ = λ (x : Named). dimension_in sp x.name in
      let distinct : Distinct (plain_names targets) = fresh_distinct [] (plain_names targets) t.fresh in
      record {
        callee_in_range = c.in_range;
        args_below = all_dims (λ d. d < q.dims) sp args (λ i d lt. f.below (get_or args i d).name (declared i d lt));
        arguments = length-map args one_of ∙ c.args;
        results = length-map targets one_of ∙ c.targets;
        distinct = λ i j l lt e.
            let lj : j < length targets = omega (arith, lt, length-map targets one_of) in
            let li : i < length targets = omega (arith, l, lj) in
            let x : Named = get_or targets i no_name in
            let y : Named = get_or targets j no_name in
            let same : dimension_in sp x.name ≡ dimension_in sp y.name = sym (get_or-map one_of targets i no_name 0 li) ∙ (e ∙ get_or-map one_of targets j no_name 0 lj) in
            let eq : bytes_eq x.name y.name ≡ true = f.differ x.name y.name (t.declared i no_name li) (t.declared j no_name lj) same in
            let ne : bytes_eq (get_or (plain_names targets) i []) (get_or (plain_names targets) j []) ≡ false = distinct i j l (omega (arith, lj, length-map targets (λ (z : Named). z.name))) in
            let ei : get_or (plain_names targets) i [] ≡ x.name = get_or-map (λ (z : Named). z.name) targets i no_name [] li in
            let ej : get_or (plain_names targets) j [] ≡ y.name = get_or-map (λ (z : Named). z.name) targets j no_name [] lj in
            absurd (true_false (sym eq ∙ (ap (λ z. bytes_eq z y.name) (sym ei) ∙ (ap (bytes_eq (get_or (plain_names targets) i [])) (sym ej) ∙ ne))));
        writable = all_dims (IsWritable q) sp targets (λ i d lt. writable (get_or targets i d).name (t.declared i d lt) (w (get_or targets i d).name (among_last (get_or targets i d).name m.targets (plain_names targets) (named_among targets i d lt))));
      }

  mutual
    pub stmt_fits : (m : Met) (s : StmtTree) → Kept (stmt_checks sc m s) → Within ts (met_in m s) → All (ArcActs cs q) (stmt_arcs (record { dims = sp; procs = names }) m s)
    stmt_fits m (skip at) h w = one (ArcActs cs q) (arc (m.points - 1) m.points skips) tt
    stmt_fits m (halt at) h w = All-nil (ArcActs cs q)
    stmt_fits m (fail at) h w = All-nil (ArcActs cs q)
    stmt_fits m (assume e at) h w = one (ArcActs cs q) (arc (m.points - 1) m.points (tests (condition_of sp e) true)) (condition_over sp sc.declared q.dims a_condition e f.below h)
    stmt_fits m (assign x e at) h w =
        let y : Named = record { name = x; at = at.start } in
        let a : Check = check UnknownVariable at.start (is_among x sc.declared) in
        let b : List Check = check RepeatedTarget at.start (not (is_among x [])) ∷ check TooManyVariables at.start (has_room sc (m.targets ++ []) x) ∷ [] in
        let ys : List Check = assigned_checks sc.declared e in
        let k : Kept (a ∷ b) = kept_first (a ∷ b) ys h in
        let among : is_among x (m.targets ++ x ∷ []) ≡ true = among_last x m.targets (x ∷ []) (or_first (bytes_eq x x) false (eq_refl x)) in
        one (ArcActs cs q) (arc (m.points - 1) m.points (assigned_move sp x e)) (assigned_fits x e (writable x (kept_head a b k) (w x among)) (kept_last (a ∷ b) ys h))
    stmt_fits m (call targets called args at) h w =
        one (ArcActs cs q) (arc (m.points - 1) m.points (calls (place_in names called) (dimensions_in sp args) (dimensions_in sp targets))) (call_fits m targets called args at.called h w)
    stmt_fits m (if_then e a at) h w =
        let k : ℕ = (met_by m a).points in
        let xs : List Check = expr_checks sc.declared a_condition e in
        let ys : List Check = block_checks sc m at.first_block a in
        let over_e = condition_over sp sc.declared q.dims a_condition e f.below (kept_first xs ys h) in
        three cs q (arc (m.points - 1) m.points (tests (condition_of sp e) true)) (arc (m.points - 1) k (tests (condition_of sp e) false)) (arc (k - 1) k skips) (block_arcs (record { dims = sp; procs = names }) m a)
        over_e over_e tt (block_fits m at.first_block a (kept_last xs ys h) w)
    stmt_fits m (if_else e a b at) h w =
        let n : Met = met_by m a in
        let k : ℕ = n.points in
        let l : ℕ = (met_by n b).points in
        let c : Naming = record { dims = sp; procs = names } in
        let xs : List Check = expr_checks sc.declared a_condition e in
        let ys : List Check = block_checks sc m at.first_block a in
        let zs : List Check = block_checks sc n at.second_block b in
        let over_e = condition_over sp sc.declared q.dims a_condition e f.below (kept_first xs (ys ++ zs) h) in
        let rest : Kept (ys ++ zs) = kept_last xs (ys ++ zs) h in
        let first = block_fits m at.first_block a (kept_first ys zs rest) (λ x g. w x (more_by n b x g)) in
        let second = block_fits n at.second_block b (kept_last ys zs rest) w in
        three cs q (arc (m.points - 1) m.points (tests (condition_of sp e) true)) (arc (m.points - 1) k (tests (condition_of sp e) false)) (arc (k - 1) l skips) (arc (l - 1) l skips ∷ (block_arcs c m a ++ block_arcs c n b))
        over_e over_e tt (All-cons (ArcActs cs q) (arc (l - 1) l skips) (block_arcs c m a ++ block_arcs c n b) tt (All-append (ArcActs cs q) (block_arcs c m a) (block_arcs c n b) first second))
    stmt_fits m (while_do e a at) h w =
        let k : ℕ = (met_by m a).points in
        let xs : List Check = expr_checks sc.declared a_condition e in
        let ys : List Check = block_checks sc m at.first_block a in
        let over_e = condition_over sp sc.declared q.dims a_condition e f.below (kept_first xs ys h) in
        three cs q (arc (m.points - 1) m.points (tests (condition_of sp e) true)) (arc (m.points - 1) k (tests (condition_of sp e) false)) (arc (k - 1) (m.points - 1) skips) (block_arcs (record { dims = sp; procs = names }) m a)
        over_e over_e tt (block_fits m at.first_block a (kept_last xs ys h) w)

    pub block_fits : (m : Met) (start : ℕ) (b : BlockTree) → Kept (block_checks sc m start b) → Within ts (met_by m b) → All (ArcActs cs q) (block_arcs (record { dims = sp; procs = names }) m b)
    block_fits m start empty h w = All-nil (ArcActs cs q)
    block_fits m start (more b s) h w =
        let c : Naming = record { dims = sp; procs = names } in
        let n : Met = met_by m b in
        let xs : List Check = block_checks sc m start b in
        let ys : List Check = stmt_checks sc n s in
        let zs : List Check = point_check (met_in n s) (places_of s).end ∷ [] in
        All-append (ArcActs cs q) (block_arcs c m b) (stmt_arcs c n s)
        (block_fits m start b (kept_first xs (ys ++ zs) h) (λ x g. w x (more_in n s x g)))
        (stmt_fits n s (kept_first ys zs (kept_last xs (ys ++ zs) h)) w)
