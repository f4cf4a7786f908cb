use Rattle.std.proofs.Common.{◌≡◌, ℕ, List, ◌++◌, subst}
use Rattle.std.specs.Prelude.{OnOk}
use Rattle.inv_text.specs.Invariants.{matrix_in}
use Rattle.inv_text.proofs.Listing.{listed_text}
use Rattle.inv_text.proofs.writing.put_value.Goals as goal

pub returns-in-Some : goal.returns-in-Some
returns-in-Some c =
    subst (λ (t : List ℕ). OnOk c.put_bounds.result (c.put_bounds.new.out.items ≡ c.args.out.now.items ++ t))
    (listed_text (matrix_in c.args.x.now c.args.p) c.in-Some.bounds.now c.in-Some.ensures) c.put_bounds.ensures
