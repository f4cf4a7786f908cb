-- Steps of the loop that closes unmarked blocks.
use Rattle.std.proofs.Common.{◌≡◌, ℕ, ◌+◌, ◌-◌, ◌<◌, ◌≤◌, ◌⊎◌, inl, inr, Bool, true, false, cond, List, [], ◌∷◌, ◌++◌, length, length-append, Option, Some, sym, ap, ◌∙◌, subst, arith, zero, suc, get_or, add-one}
use Rattle.std.specs.Prelude.{min, ◌^◌}
use Rattle.std.proofs.lemmas.Bool.{cases_eq}
use Rattle.std.proofs.lemmas.List.{get_or_default, get_or_push, get_or_append_left}
use Rattle.oct_def.specs.Table.{Matrix}
use Rattle.oct_def.specs.Tight.{tight}
use Rattle.block_laws.specs.Assembly.{matrix}
use Rattle.dec_oct.specs.Value.{marked}
use Rattle.dec_oct.specs.Cost.{cost, cost_below}

pub cost-marked : (ms : List Matrix) (marks : List Bool) (b : ℕ) → marked marks b ≡ true → cost_below ms marks (b + 1) ≡ cost_below ms marks b
unfolding cost_below
cost-marked ms marks b e = ap (cost_below ms marks) (add-one b) ∙ ap (λ (t : Bool). cost_below ms marks b + cond t 0 (cost (matrix ms b))) e ∙ omega arith

pub cost-unmarked : (ms : List Matrix) (marks : List Bool) (b : ℕ) → marked marks b ≡ false → cost_below ms marks (b + 1) ≡ cost_below ms marks b + cost (matrix ms b)
unfolding cost_below
cost-unmarked ms marks b e = ap (cost_below ms marks) (add-one b) ∙ ap (λ (t : Bool). cost_below ms marks b + cond t 0 (cost (matrix ms b))) e

cost-more : (ms : List Matrix) (marks : List Bool) (b d : ℕ) → cost_below ms marks b ≤ cost_below ms marks (d + b)
unfolding cost_below
cost-more ms marks b zero = subst (λ t. cost_below ms marks b ≤ cost_below ms marks t) (let e : b ≡ 0 + b = omega arith in e) (omega arith)
cost-more ms marks b (suc d) =
    let r = cost-more ms marks b d in
    subst (λ t. cost_below ms marks b ≤ cost_below ms marks t) (let e : suc (d + b) ≡ suc d + b = omega arith in e) (omega arith)

pub cost-rest : (ms : List Matrix) (marks : List Bool) (b n : ℕ) → b ≤ n → cost_below ms marks b ≤ cost_below ms marks n
cost-rest ms marks b n h = subst (λ t. cost_below ms marks b ≤ cost_below ms marks t) (let e : (n - b) + b ≡ n = omega arith in e) (cost-more ms marks b (n - b))

pub count-rest : (ms : List Matrix) (marks : List Bool) (b n c o : ℕ) → c ≤ o + cost_below ms marks b → b < n → c ≤ o + cost_below ms marks n
count-rest ms marks b n c o h p = let r = cost-rest ms marks b n (omega arith) in omega arith

pub count-closed : (ms : List Matrix) (marks : List Bool) (b c d o : ℕ) (x : Matrix) → marked marks b ≡ false → x ≡ get_or ms b x → b < length ms → c ≤ o + cost_below ms marks b → d ≤ c + cost x → d ≤ o + cost_below ms marks (b + 1)
count-closed ms marks b c d o x e f p h k =
    let y : cost x ≡ cost (matrix ms b) = ap cost (f ∙ get_or_default ms b x [] p) in
    let r = cost-unmarked ms marks b e in
    omega arith

pub count-closed_rest : (ms : List Matrix) (marks : List Bool) (b c d o : ℕ) (x : Matrix) → marked marks b ≡ false → x ≡ get_or ms b x → b < length ms → c ≤ o + cost_below ms marks b → d ≤ c + cost x → d ≤ o + cost_below ms marks (length ms)
count-closed_rest ms marks b c d o x e f p h k = let r = cost-rest ms marks (b + 1) (length ms) (omega arith) in let s = count-closed ms marks b c d o x e f p h k in omega arith

pub size-pushed : {X : Type 0} (xs ys : List X) (x : X) (b : ℕ) → length xs ≡ b → ys ≡ xs ++ x ∷ [] → length ys ≡ b + 1
size-pushed xs ys x b h e = ap length e ∙ length-append xs (x ∷ []) ∙ omega arith

pub each-pushed : (ms xs ys : List Matrix) (x : Matrix) (b : ℕ) → length xs ≡ b → ((k : ℕ) → k < b → tight (matrix ms k) ≡ Some (matrix xs k)) → ys ≡ xs ++ x ∷ [] → tight (matrix ms b) ≡ Some x → (k : ℕ) → k < b + 1 → tight (matrix ms k) ≡ Some (matrix ys k)
each-pushed ms xs ys x b size before e here k p = by (cases_eq k b) ∙ ap (λ t. Some (matrix t k)) (sym e)
  where
    by : (k ≡ b) ⊎ (k ≡ b → ⊥) → tight (matrix ms k) ≡ Some (matrix (xs ++ x ∷ []) k)
    by (inl f) = ap (λ t. tight (matrix ms t)) f ∙ here ∙ ap Some (sym (get_or_push xs x [] k (size ∙ sym f)))
    by (inr d) = let q : k < b = grind (arith, d) in before k q ∙ ap Some (sym (get_or_append_left xs (x ∷ []) [] k (omega arith)))

pub copy-tight : (ms : List Matrix) (b : ℕ) (x y : Matrix) → x ≡ y → y ≡ get_or ms b y → b < length ms → tight (matrix ms b) ≡ Some (matrix ms b) → tight (matrix ms b) ≡ Some x
copy-tight ms b x y e f p h = h ∙ ap Some (sym (e ∙ f ∙ get_or_default ms b y [] p))

pub closed-tight : (ms : List Matrix) (b : ℕ) (x y : Matrix) (o : Option Matrix) → o ≡ tight y → o ≡ Some x → y ≡ get_or ms b y → b < length ms → tight (matrix ms b) ≡ Some x
closed-tight ms b x y o e g f p = ap tight (sym (f ∙ get_or_default ms b y [] p)) ∙ sym e ∙ g

-- ---- a saturated count

pub count-min : (c o s : ℕ) → c ≡ min (o + s) (2 ^ 64 - 1) → o < 2 ^ 64 → (o ≤ c) × (c ≤ o + s)
count-min c o s e h = (grind (arith, e, h), grind (arith, e))
