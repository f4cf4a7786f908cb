-- Entries and exits of procedures, by their numbers in the parts of a core.
use Rattle.std.proofs.Common.{◌≡◌, ℕ, ◌<◌, true, false, ◌&&◌, inl, inr, eqb, length, sym, ap, ◌∙◌, subst}
use Rattle.std.proofs.lemmas.Bool.Decides.{Decides-eqb, eqb_tells}
use Rattle.spl_core.specs.declared.parts.Proc.{Proc}
use Rattle.spl_core.specs.Parts.{Parts, proc_at, owner_of}
use Rattle.spl_core.specs.Facts.{IsCore}
use Rattle.spl_core.specs.Graph.{graph_of, proc_owning}
use Rattle.call_graph.specs.Reach.{reaches}
use Rattle.call_graph.specs.Order.{is_entry, is_recursive_exit}

pub owner_in_range : (c : Parts) (x owner : ℕ) → IsCore c → x < length c.owners → owner ≡ owner_of c x → owner < length c.procs
owner_in_range c x owner core lt is = subst (λ k. k < length c.procs) (sym is) (core.owners x 0 lt)

owned : (c : Parts) (x owner : ℕ) (p : Proc) → owner ≡ owner_of c x → p ≡ proc_at c owner → p ≡ proc_owning (graph_of c) x
unfolding graph_of
owned c x owner p is found = found ∙ ap (proc_at c) is

pub is_an_entry : (c : Parts) (x owner : ℕ) (p : Proc) → owner ≡ owner_of c x → p ≡ proc_at c owner → p.entry ≡ x → is_entry (graph_of c) x ≡ true
unfolding is_entry
is_an_entry c x owner p is found at = (Decides-eqb (proc_owning (graph_of c) x).entry x).1 (sym (ap (λ (q : Proc). q.entry) (owned c x owner p is found)) ∙ at)

pub is_no_entry : (c : Parts) (x owner : ℕ) (p : Proc) → owner ≡ owner_of c x → p ≡ proc_at c owner → (p.entry ≡ x → ⊥) → is_entry (graph_of c) x ≡ false
unfolding is_entry
is_no_entry c x owner p is found none =
    elim (eqb_tells (proc_owning (graph_of c) x).entry x) [ inl t ↦ absurd (none (ap (λ (q : Proc). q.entry) (owned c x owner p is found) ∙ t.1)) | inr t ↦ t.0 ]

pub is_an_exit : (c : Parts) (x owner : ℕ) (p : Proc) → owner ≡ owner_of c x → p ≡ proc_at c owner → p.exit ≡ x → is_recursive_exit (graph_of c) x ≡ reaches (graph_of c) owner owner
unfolding is_recursive_exit graph_of
is_an_exit c x owner p is found at =
    ap (λ b. b && reaches (graph_of c) (owner_of c x) (owner_of c x)) ((Decides-eqb (proc_owning (graph_of c) x).exit x).1 (sym (ap (λ (q : Proc). q.exit) (owned c x owner p is found)) ∙ at))
    ∙ ap (λ (k : ℕ). reaches (graph_of c) k k) (sym is)

pub is_no_exit : (c : Parts) (x owner : ℕ) (p : Proc) → owner ≡ owner_of c x → p ≡ proc_at c owner → (p.exit ≡ x → ⊥) → is_recursive_exit (graph_of c) x ≡ false
unfolding is_recursive_exit graph_of
is_no_exit c x owner p is found none = ap (λ b. b && reaches (graph_of c) (owner_of c x) (owner_of c x)) apart
  where
    apart : eqb (proc_owning (graph_of c) x).exit x ≡ false
    apart = elim (eqb_tells (proc_owning (graph_of c) x).exit x) [ inl t ↦ absurd (none (ap (λ (q : Proc). q.exit) (owned c x owner p is found) ∙ t.1)) | inr t ↦ t.0 ]
