-- A generated program breaks no rule of the checks.
use Rattle.std.proofs.Common.{◌≡◌, ◌≢◌, refl, ℕ, zero, suc, ◌+◌, ◌*◌, ◌<◌, ◌≤◌, ◌⊎◌, inl, inr, Bool, true, false, ◌||◌, nat_lt, None, List, [], ◌∷◌, ◌++◌, length, flat_map, drop, codes, decimal, arith, ap, ap₂, ◌∙◌, subst}
use Rattle.std.specs.List.{range_with_len}
use Rattle.std.specs.Str.{bytes_eq}
use Rattle.std.proofs.lemmas.Bool.{cases_lt, lt-ltb}
use Rattle.std.proofs.lemmas.Fmt.{decimal_injective}
use Rattle.std.proofs.lemmas.List.{length_push, map-append}
use Rattle.std.proofs.lemmas.List.Folds.{list_any-append}
use Rattle.std.proofs.lemmas.Slice.Eq.{bytes_eq-Decides}
use Rattle.spl_tree.specs.Program.{Declared, random_value, StmtTree, while_do, BlockTree, more, nowhere}
use Rattle.spl_types.specs.Checks.{Met, is_among, declared_names, decl_checks, point_check, met_before, met_by, met_in, with_point, most_points, most_dimensions, stmt_checks, block_checks, broken_rule, checks}
use Rattle.spl_types.specs.Accepted.{point_count}
use Rattle.spl_types.specs.Faults.{Kept}
use Rattle.spl_types.proofs.Firsts.{kept_append}
use Rattle.spl_gen.specs.Generated.{variable}
use Rattle.generated_program.specs.ProgramOf.{declared, group, groups, successor, chains, steps, program}
use Rattle.generated_program.proofs.Placeless.{scope}

-- ---- names

differ : (x y k j : ℕ) → k < 42 → j < 42 → k ≢ j → bytes_eq (x ∷ decimal k) (y ∷ decimal j) ≡ false
differ x y k j p q never = by (bytes_eq (x ∷ decimal k) (y ∷ decimal j)) refl
  where
    by : (b : Bool) → bytes_eq (x ∷ decimal k) (y ∷ decimal j) ≡ b → b ≡ false
    by true e = absurd (never (decimal_injective k j (omega arith) (omega arith) (ap (drop 1) ((bytes_eq-Decides (x ∷ decimal k) (y ∷ decimal j)).0 e))))
    by false e = refl

or-true : (b : Bool) → (b || true) ≡ true
or-true true = refl
or-true false = refl

among_append : (w : List ℕ) (xs ys : List (List ℕ)) → is_among w (xs ++ ys) ≡ (is_among w xs || is_among w ys)
among_append w xs ys = list_any-append (bytes_eq w) xs ys

abbrev names_from : ℕ → ℕ → List (List ℕ)
names_from a n = declared_names (flat_map group (range_with_len a n))

group_names : (a n : ℕ) → names_from a (suc n) ≡ declared_names (group a) ++ names_from (a + 1) n
group_names a n = map-append (λ (d : Declared). d.name.name) (group a) (flat_map group (range_with_len (a + 1) n))

member_from : (w : List ℕ) (k a n : ℕ) → a ≤ k → k < a + n → is_among w (declared_names (group k)) ≡ true → is_among w (names_from a n) ≡ true
member_from w k a zero low high own = absurd (omega arith)
member_from w k a (suc n) low high own =
    ap (is_among w) (group_names a n) ∙ among_append w (declared_names (group a)) (names_from (a + 1) n)
    ∙ by (cases_lt a k) (λ later. member_from w k (a + 1) n (omega (arith, later)) (omega arith) own)
  where
    by : ((a < k) ⊎ (k ≤ a)) → (a < k → is_among w (names_from (a + 1) n) ≡ true) → (is_among w (declared_names (group a)) || is_among w (names_from (a + 1) n)) ≡ true
    by (inl later) rest = ap (λ b. is_among w (declared_names (group a)) || b) (rest later) ∙ or-true (is_among w (declared_names (group a)))
    by (inr here) rest = let at : k ≡ a = omega arith in ap (λ b. b || is_among w (names_from (a + 1) n)) (subst (λ j. is_among w (declared_names (group j)) ≡ true) at own)

self : (w : List ℕ) → bytes_eq w w ≡ true
self w = (bytes_eq-Decides w w).1 refl

own_a : (k : ℕ) → is_among (variable (codes "a") k) (declared_names (group k)) ≡ true
own_a k = rw (self (variable (codes "a") k)) refl

own_b : (k : ℕ) → is_among (variable (codes "b") k) (declared_names (group k)) ≡ true
own_b k = rw (self (variable (codes "b") k)) (or-true (bytes_eq (variable (codes "b") k) (variable (codes "a") k)))

own_c : (k : ℕ) → is_among (variable (codes "c") k) (declared_names (group k)) ≡ true
own_c k =
    rw (self (variable (codes "c") k)) (ap (λ b. bytes_eq (variable (codes "c") k) (variable (codes "a") k) || b) (or-true (bytes_eq (variable (codes "c") k) (variable (codes "b") k)))
    ∙ or-true (bytes_eq (variable (codes "c") k) (variable (codes "a") k)))

-- ---- declarations

-- no variable of this group or a later one is among these
abbrev Fresh : ℕ → List (List ℕ) → Type 0
Fresh a earlier = (x k : ℕ) → a ≤ k → k < 42 → is_among (x ∷ decimal k) earlier ≡ false

fresh_more : (a x : ℕ) (earlier : List (List ℕ)) → a < 42 → Fresh (a + 1) earlier → Fresh (a + 1) (earlier ++ (x ∷ decimal a) ∷ [])
fresh_more a x earlier small fresh y k low high =
    among_append (y ∷ decimal k) earlier ((x ∷ decimal a) ∷ [])
    ∙ ap₂ (λ p q. p || (q || false)) (fresh y k low high) (differ y x k a high small (λ e. absurd (omega (arith, e))))

fresh_next : (a y x : ℕ) (earlier : List (List ℕ)) → bytes_eq (y ∷ decimal a) (x ∷ decimal a) ≡ false → is_among (y ∷ decimal a) earlier ≡ false
    → is_among (y ∷ decimal a) (earlier ++ (x ∷ decimal a) ∷ []) ≡ false
fresh_next a y x earlier apart free = among_append (y ∷ decimal a) earlier ((x ∷ decimal a) ∷ []) ∙ ap₂ (λ p q. p || (q || false)) free apart

one_kept : (x k : ℕ) (earlier : List (List ℕ)) (ds : List Declared) → length earlier < 128 → is_among (x ∷ decimal k) earlier ≡ false
    → Kept (decl_checks (earlier ++ (x ∷ decimal k) ∷ []) ds) → Kept (decl_checks earlier (declared (x ∷ []) k ∷ ds))
one_kept x k earlier ds room free rest = let r : nat_lt (length earlier) most_dimensions ≡ true = lt-ltb (length earlier) most_dimensions room in rw (r, free) rest

decls_kept : (a n : ℕ) (earlier : List (List ℕ)) → length earlier ≡ 3 * a → a + n ≤ 42 → Fresh a earlier → Kept (decl_checks earlier (flat_map group (range_with_len a n)))
decls_kept a zero earlier size small fresh = refl
decls_kept a (suc n) earlier size small fresh =
    let a_name : List ℕ = 97 ∷ decimal a in
    let b_name : List ℕ = 98 ∷ decimal a in
    let c_name : List ℕ = 99 ∷ decimal a in
    let one = earlier ++ a_name ∷ [] in
    let two = one ++ b_name ∷ [] in
    let three = two ++ c_name ∷ [] in
    let s1 = length_push earlier a_name in
    let s2 = length_push one b_name in
    let s3 = length_push two c_name in
    let later : Fresh (a + 1) earlier = λ x k low high. fresh x k (omega arith) high in
    let rest = flat_map group (range_with_len (a + 1) n) in
    let lt : a < 42 = omega arith in
    one_kept 97 a earlier (declared (codes "b") a ∷ declared (codes "c") a ∷ rest) (omega (arith, size)) (fresh 97 a (omega arith) lt)
    (one_kept 98 a one (declared (codes "c") a ∷ rest) (omega (arith, s1, size)) (fresh_next a 98 97 earlier refl (fresh 98 a (omega arith) lt))
    (one_kept 99 a two rest (omega (arith, s2, s1, size)) (fresh_next a 99 98 one refl (fresh_next a 99 97 earlier refl (fresh 99 a (omega arith) lt)))
    (decls_kept (a + 1) n three (omega (arith, s3, s2, s1, size)) (omega arith) (fresh_more a 99 two lt (fresh_more a 98 one lt (fresh_more a 97 earlier lt later))))))

-- ---- statements

point_kept : (m : Met) (at : ℕ) → m.points < 4096 → Kept (point_check m at ∷ [])
point_kept m at few = let r : nat_lt m.points most_points ≡ true = lt-ltb m.points most_points few in rw r refl

module _ (names : List (List ℕ)) where
  line_kept : (m : Met) (target origin : List ℕ) (k : ℕ) → is_among (variable target k) names ≡ true → is_among (variable origin k) names ≡ true
      → Kept (stmt_checks (scope names) m (successor target origin k))
  line_kept m target origin k t o = rw (t, o) refl

  more_kept : (m : Met) (start : ℕ) (b : BlockTree) (s : StmtTree) (at : ℕ) → Kept (block_checks (scope names) m start b) → Kept (stmt_checks (scope names) (met_by m b) s)
      → (met_in (met_by m b) s).points < 4096 → Kept (block_checks (scope names) m start b ++ (stmt_checks (scope names) (met_by m b) s ++ point_check (met_in (met_by m b) s) at ∷ []))
  more_kept m start b s at block own few =
      kept_append (block_checks (scope names) m start b) (stmt_checks (scope names) (met_by m b) s ++ point_check (met_in (met_by m b) s) at ∷ []) block
      (kept_append (stmt_checks (scope names) (met_by m b) s) (point_check (met_in (met_by m b) s) at ∷ []) own (point_kept (met_in (met_by m b) s) at few))

  pub chain_points : (m : Met) (k : ℕ) → (met_by m (chains k)).points ≡ m.points + (1 + 2 * k)
  chain_points m zero = omega arith
  chain_points m (suc k) = omega (arith, chain_points m k)

  pub step_points : (m : Met) (k : ℕ) → (met_by m (steps k)).points ≡ m.points + (1 + 3 * k)
  step_points m zero = omega arith
  step_points m (suc k) = omega (arith, step_points m k)

module _ (n : ℕ) where
  abbrev names : List (List ℕ)
  names = names_from 0 n

  a_member : (k : ℕ) → k < n → is_among (variable (codes "a") k) names ≡ true
  a_member k high = member_from (variable (codes "a") k) k 0 n (omega arith) (omega arith) (own_a k)

  b_member : (k : ℕ) → k < n → is_among (variable (codes "b") k) names ≡ true
  b_member k high = member_from (variable (codes "b") k) k 0 n (omega arith) (omega arith) (own_b k)

  c_member : (k : ℕ) → k < n → is_among (variable (codes "c") k) names ≡ true
  c_member k high = member_from (variable (codes "c") k) k 0 n (omega arith) (omega arith) (own_c k)

  chains_kept : (m : Met) (start k : ℕ) → k ≤ n → m.points + (1 + 2 * k) ≤ 4096 → Kept (block_checks (scope names) m start (chains k))
  chains_kept m start zero low few = point_kept m start (omega arith)
  chains_kept m start (suc k) low few =
      let first = successor (codes "b") (codes "a") k in
      let second = successor (codes "c") (codes "b") k in
      let count = chain_points names m k in
      let a = a_member k (omega arith) in
      let b = b_member k (omega arith) in
      let c = c_member k (omega arith) in
      more_kept names m start (more (chains k) first) second 0
      (more_kept names m start (chains k) first 0 (chains_kept m start k (omega arith) (omega arith)) (line_kept names (met_by m (chains k)) (codes "b") (codes "a") k b a) (omega (arith, count)))
      (line_kept names (met_by m (more (chains k) first)) (codes "c") (codes "b") k c b) (omega (arith, count))

  steps_kept : (m : Met) (start k : ℕ) → k ≤ n → m.points + (1 + 3 * k) ≤ 4096 → Kept (block_checks (scope names) m start (steps k))
  steps_kept m start zero low few = point_kept m start (omega arith)
  steps_kept m start (suc k) low few =
      let first = successor (codes "a") (codes "a") k in
      let second = successor (codes "b") (codes "b") k in
      let third = successor (codes "c") (codes "c") k in
      let one = more (steps k) first in
      let two = more one second in
      let count = step_points names m k in
      let a = a_member k (omega arith) in
      let b = b_member k (omega arith) in
      let c = c_member k (omega arith) in
      more_kept names m start two third 0
      (more_kept names m start one second 0
      (more_kept names m start (steps k) first 0 (steps_kept m start k (omega arith) (omega arith)) (line_kept names (met_by m (steps k)) (codes "a") (codes "a") k a a) (omega (arith, count)))
      (line_kept names (met_by m one) (codes "b") (codes "b") k b b) (omega (arith, count)))
      (line_kept names (met_by m two) (codes "c") (codes "c") k c c) (omega (arith, count))

  pub program_kept : n ≤ 42 → broken_rule (program n) ≡ None
  unfolding checks
  program_kept small =
      let m = with_point (met_before 0) in
      let inner = met_by m (chains n) in
      let count : inner.points ≡ 2 + 2 * n = chain_points names m n ∙ (let e : m.points + (1 + 2 * n) ≡ 2 + 2 * n = omega arith in e) in
      let loop : StmtTree = while_do (random_value 0) (steps n) nowhere in
      let last = step_points names inner n in
      kept_append (decl_checks [] (groups n)) (point_check (met_before 0) 0 ∷ block_checks (scope names) m (0 + 5) (more (chains n) loop))
      (decls_kept 0 n [] refl (omega arith) (λ x k low high. refl))
      (more_kept names m (0 + 5) (chains n) loop 0 (chains_kept m (0 + 5) n (omega arith) (omega arith)) (steps_kept inner 0 n (omega arith) (omega (arith, count))) (omega (arith, last, count)))

  pub program_points : point_count (program n) ≡ 5 * n + 4
  program_points =
      let m = with_point (met_before 0) in
      let inner = met_by m (chains n) in
      let count = chain_points names m n in
      let last = step_points names inner n in
      omega (arith, count, last)
