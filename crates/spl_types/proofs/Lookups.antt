-- The procedure with a name, by its number in the table.
use Rattle.std.proofs.Common.{◌≡◌, ℕ, ◌<◌, ◌&&◌, ◌==◌, eqb, Bool, false, List, [], ◌∷◌, length, get_or, position, Some, None, is_some, Result, refl, sym, ap, ◌∙◌, subst, eq-eqb, ne_eqb}
use Rattle.std.specs.Str.{bytes_eq}
use Rattle.spl_tree.specs.Program.{Named, ProcMeaning}
use Rattle.spl_types.specs.declared.fault.CheckFault.{CheckFault}
use Rattle.spl_types.specs.declared.fault.CheckRule.TheVariants.{UnknownProcedure, WrongCount}
use Rattle.spl_types.specs.Checks.{Check, check, first_broken, Scope, proc_named, has_counts, argument_checks, call_checks}
use Rattle.spl_types.specs.Faults.{Kept, Faulted, Answers}
use Rattle.spl_types.specs.Tables.{number_in, Numbers, proc_names}
use Rattle.spl_types.proofs.Firsts.{broken_here, broken_later, faulted_then, faulted_first, answers_then}
use Rattle.spl_types.proofs.Places.{place_along, place_found, nothing_found}

by_name : (procs : List ProcMeaning) (x : List ℕ) → position (λ (p : ProcMeaning). bytes_eq x p.name.name) procs ≡ position (bytes_eq x) (proc_names procs)
by_name procs x = place_along (λ (p : ProcMeaning). bytes_eq x p.name.name) (bytes_eq x) (λ (p : ProcMeaning). p.name.name) procs (λ p. refl)

pub proc_found : (procs : List ProcMeaning) (table : List (List ℕ × ℕ)) (x : List ℕ) (k : ℕ) (d : ProcMeaning) → Numbers table (proc_names procs) → number_in x table ≡ Some k → (k < length procs) × (proc_named procs x ≡ Some (get_or procs k d))
proc_found procs table x k d h e =
    let f = place_found (λ (p : ProcMeaning). bytes_eq x p.name.name) procs k d (by_name procs x ∙ (sym (h x) ∙ e)) in
    (f.within, f.found)

pub proc_missing : (procs : List ProcMeaning) (table : List (List ℕ × ℕ)) (x : List ℕ) → Numbers table (proc_names procs) → number_in x table ≡ None → proc_named procs x ≡ None
proc_missing procs table x h e = nothing_found (λ (p : ProcMeaning). bytes_eq x p.name.name) procs (by_name procs x ∙ (sym (h x) ∙ e))

-- as many of both
pub counts_same : (x : ProcMeaning) (o i t a : ℕ) → o ≡ length x.outputs → i ≡ length x.inputs → o ≡ t → eqb i a ≡ has_counts (Some x) t a
counts_same x o i t a h g e = ap (λ n. eqb n a) g ∙ sym (ap (λ b. b && (length x.inputs == a)) (eq-eqb (length x.outputs) t (sym h ∙ e)))

pub counts_differ : (x : ProcMeaning) (o t a : ℕ) → o ≡ length x.outputs → (o ≡ t → ⊥) → eqb o t ≡ has_counts (Some x) t a
counts_differ x o t a h n =
    let f : eqb o t ≡ false = ne_eqb o t n in
    let g : eqb (length x.outputs) t ≡ false = ap (λ m. eqb m t) (sym h) ∙ f in
    f ∙ sym (ap (λ b. b && (length x.inputs == a)) g)

-- a call of a procedure that isn't there, or is
pub call_unknown : (c : Scope) (targets : List Named) (called : List ℕ) (args : List Named) (at : ℕ) → proc_named c.procs called ≡ None → first_broken (call_checks c targets called args at) ≡ Some (UnknownProcedure, at)
call_unknown c targets called args at h = broken_here (check UnknownProcedure at (is_some (proc_named c.procs called))) (check WrongCount at (has_counts (proc_named c.procs called) (length targets) (length args)) ∷ argument_checks c.declared args) (ap is_some h)

pub call_fault : (c : Scope) (targets : List Named) (called : List ℕ) (args : List Named) (at : ℕ) (x : ProcMeaning) (counts : Bool) (e : CheckFault) → proc_named c.procs called ≡ Some x → counts ≡ has_counts (Some x) (length targets) (length args) → Faulted (check WrongCount at counts ∷ []) e → Faulted (call_checks c targets called args at) e
call_fault c targets called args at x counts e h k f =
    let U : Check = check UnknownProcedure at (is_some (proc_named c.procs called)) in
    let W : Check = check WrongCount at (has_counts (proc_named c.procs called) (length targets) (length args)) in
    let P : Bool → Type 0 = λ b. Faulted (check WrongCount at b ∷ []) e in
    let same : counts ≡ has_counts (proc_named c.procs called) (length targets) (length args) = k ∙ ap (λ o. has_counts o (length targets) (length args)) (sym h) in
    faulted_then (U ∷ []) (W ∷ argument_checks c.declared args) e (broken_later U [] (ap is_some h)) (faulted_first (W ∷ []) (argument_checks c.declared args) e (subst P same f))

pub call_rest : (c : Scope) (targets : List Named) (called : List ℕ) (args : List Named) (at : ℕ) (x : ProcMeaning) (counts : Bool) (r : Result (Unit {0}) CheckFault) → proc_named c.procs called ≡ Some x → counts ≡ has_counts (Some x) (length targets) (length args) → Kept (check WrongCount at counts ∷ []) → Answers r (argument_checks c.declared args) → Answers r (call_checks c targets called args at)
call_rest c targets called args at x counts r h k f g =
    let U : Check = check UnknownProcedure at (is_some (proc_named c.procs called)) in
    let W : Check = check WrongCount at (has_counts (proc_named c.procs called) (length targets) (length args)) in
    let P : Bool → Type 0 = λ b. Kept (check WrongCount at b ∷ []) in
    let same : counts ≡ has_counts (proc_named c.procs called) (length targets) (length args) = k ∙ ap (λ o. has_counts o (length targets) (length args)) (sym h) in
    answers_then r (U ∷ []) (W ∷ argument_checks c.declared args) (broken_later U [] (ap is_some h)) (answers_then r (W ∷ []) (argument_checks c.declared args) (subst P same f) g)
