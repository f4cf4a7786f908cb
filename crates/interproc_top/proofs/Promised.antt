-- What a report promises holds of every run of its program.
use Rattle.std.proofs.Common.{◌≡◌, Bool, true, false, cond, List, [], ◌∷◌, None, Some, Option, refl, sym, ◌∙◌}
use Rattle.std.specs.List.{All, list_all}
use Rattle.std.specs.Option.{is_none}
use Rattle.std.proofs.lemmas.Bool.{and_parts, false≢true}
use Rattle.std.proofs.lemmas.List.Elements.{All-nil, All-cons}
use Rattle.oct_def.specs.Table.{Matrix}
use Rattle.spl_core.specs.GraphFacts.{IsGraph}
use Rattle.spl_tree.specs.Program.{Program}
use Rattle.control_points.specs.declared.built.Fail.{Fail}
use Rattle.control_points.specs.CoreOf.{core_of, fails_of}
use Rattle.iteration.specs.Sound.{AnalysesAreSound}
use Rattle.report.specs.Report.{is_bottom, all_unreachable}
use Rattle.report.specs.Sound.{ListingIsSound}
use Rattle.interproc_top.specs.Analysis.{found, verdict_on}
use Rattle.interproc_top.specs.Headline.{Holds, NoRunComesTo, UnreachableHolds, NoFailIsReached}
use Rattle.interproc_top.specs.declared.analysis.Options.{Options}
use Rattle.interproc_top.specs.declared.cause.Verdict.{Verdict}
use Rattle.interproc_top.specs.declared.cause.Verdict.TheVariants.{AllUnreachable, SomeNotExcluded}

pub holds : AnalysesAreSound → ListingIsSound → (o : Options) (p : Program) → IsGraph (core_of p) → Holds o p
holds sound listing o p is k s brings = listing o.full (found o p k) s ((sound (core_of p) o.delay o.descend is).states k s brings)

none_there : (m : Option Matrix) → is_none m ≡ true → m ≡ None
none_there None e = refl
none_there (Some x) e = absurd (false≢true e)

-- to a point where Bottom is found no run comes
bottom_holds : AnalysesAreSound → (o : Options) (p : Program) → IsGraph (core_of p) → (fail : Fail) → is_bottom (found o p fail.point) ≡ true → NoRunComesTo p fail
bottom_holds sound o p is fail e s brings = (sound (core_of p) o.delay o.descend is).bottom fail.point s (none_there (found o p fail.point).matrix e) brings

for_all : {X : Type 0} (P : X → Type 0) (xs : List X) → ((x : X) → P x) → All P xs
for_all P [] h = All-nil P
for_all P (x ∷ xs) h = All-cons P x xs (h x) (for_all P xs h)

pub unreachable : AnalysesAreSound → (o : Options) (p : Program) → IsGraph (core_of p) → UnreachableHolds o p
unreachable sound o p is = for_all (λ (fail : Fail). is_bottom (found o p fail.point) ≡ true → NoRunComesTo p fail) (fails_of p) (bottom_holds sound o p is)

none_reached : AnalysesAreSound → (o : Options) (p : Program) → IsGraph (core_of p) → (fails : List Fail) → list_all (λ (f : Fail). is_bottom (found o p f.point)) fails ≡ true → All (NoRunComesTo p) fails
none_reached sound o p is [] e = All-nil (NoRunComesTo p)
none_reached sound o p is (f ∷ fails) e =
    let here = and_parts (is_bottom (found o p f.point)) (list_all (λ (g : Fail). is_bottom (found o p g.point)) fails) e in
    All-cons (NoRunComesTo p) f fails (bottom_holds sound o p is f here.0) (none_reached sound o p is fails here.1)

-- where each fail is printed unreachable, no run comes to any
pub no_fail : AnalysesAreSound → (o : Options) (p : Program) (v : Verdict) → IsGraph (core_of p) → v ≡ verdict_on o p → v ≡ AllUnreachable → NoFailIsReached p
no_fail sound o p v is decided all = by (all_unreachable (found o p) p) refl (sym decided ∙ all)
  where
    by : (b : Bool) → all_unreachable (found o p) p ≡ b → cond b AllUnreachable SomeNotExcluded ≡ AllUnreachable → NoFailIsReached p
    by true e same = none_reached sound o p is (fails_of p) e
    by false e same = absurd (cc same)
