-- The program that a generated text is, and the figures of its analysis.
use Rattle.std.proofs.Common.{◌≡◌, ℕ, ◌+◌, ◌*◌, ◌-◌, ◌^◌, ◌<◌, ◌≤◌, List, [], ◌++◌, length, refl, sym, ap, ◌∙◌, subst, arith, append_assoc}
use Rattle.oct_def.specs.Octagon.{Octagon}
use Rattle.spl_tree.specs.Program.{Program, SamePlacesAside}
use Rattle.spl_types.specs.Accepted.{point_count}
use Rattle.spl_types.specs.Checks.{main_procedure}
use Rattle.spl_types.specs.Dimensions.{procedures}
use Rattle.spl_core.specs.declared.parts.Proc.{Proc}
use Rattle.spl_core.specs.Parts.{Parts, no_proc, proc_at}
use Rattle.spl_core.specs.Facts.{IsCore, ProcFits}
use Rattle.spl_core.specs.Graph.{Graph, dims_at, graph_of, main_of, proc_of}
use Rattle.control_points.specs.CoreOf.{core_of}
use Rattle.control_points.proofs.Graphing.{length-owners, end_is}
use Rattle.iteration.specs.Ends.{SolutionsAreSized}
use Rattle.iteration.specs.Solution.{Solution, IsSolution, read_in}
use Rattle.iteration.specs.Solved.{read_of, rounds_of}
use Rattle.components.specs.Value.{AreComponentsOf, IsGreatestSize}
use Rattle.spl_gen.specs.Generated.{generated}
use Rattle.generated_program.specs.ProgramOf.{program}
use Rattle.generated_program.specs.Accepted.{IsAcceptedAs, GeneratedTextIsAccepted, GeneratedProgramHasPoints}
use Rattle.interproc_top.specs.Accepted.{IsParsed, IsAccepted}
use Rattle.interproc_top.specs.Analysis.{usual}
use Rattle.interproc_top.specs.Bench.{AreFiguresOf, IsBenchWith, figure_line, figures_text, found_last}
use Rattle.interproc_top.specs.Reported.{Refuses}
use Rattle.interproc_top.specs.declared.analysis.Options.{Options}
use Rattle.interproc_top.specs.declared.bench.Figures.{Figures}
use Rattle.interproc_top.specs.declared.cause.Cause.{Cause}
use Rattle.interproc_top.specs.declared.cause.Cause.TheVariants as cause
use Rattle.interproc_top.proofs.Fair.{OneReading, same_program, accepted-stands}

-- the points of a core are those that the rules count
points-of : (p : Program) → length (core_of p).owners ≡ point_count p
unfolding core_of
points-of p = omega (arith, length-owners 0 0 (procedures p), end_is 0 p.procs (main_procedure p))

-- a generated text is no longer than a program may be
pub generated-short : GeneratedTextIsAccepted → (n : ℕ) (bytes : List ℕ) → 1 ≤ n → n ≤ 42 → bytes ≡ generated n → length bytes ≤ 2 ^ 20
generated-short accepted n bytes least greatest is = subst (λ b. length b ≤ 2 ^ 20) (sym is) (accepted n least greatest).short

module _ (one : OneReading) (accepted : GeneratedTextIsAccepted) (n : ℕ) (bytes : List ℕ) (least : 1 ≤ n) (greatest : n ≤ 42) (text : bytes ≡ generated n) where
  abbrev shown : IsAcceptedAs (generated n) (program n)
  shown = accepted n least greatest

  is-parsed : IsParsed (generated n) shown.reads.program
  is-parsed = record {
    tokens = shown.reads.tokens;
    tokenized = record { cut = shown.reads.cut; unbroken = shown.reads.unbroken };
    derives = shown.reads.derives;
  }

  -- an accepted program of the text has the points of the program with this number
  pub generated-points : GeneratedProgramHasPoints → (p : Program) → IsAccepted bytes p → length (core_of p).owners ≡ 5 * n + 4
  generated-points points p is =
      let is' : IsAccepted (generated n) p = subst (λ b. IsAccepted b p) text is in
      points-of p
      ∙ points n p (subst (λ q. SamePlacesAside q (program n)) (same_program one (generated n) shown.reads.program p is-parsed is'.parsed) shown.reads.same)

  -- nothing but want of memory stands against it
  pub generated-stands : (c : Cause) → Refuses bytes c → c ≡ cause.NoMemory
  generated-stands c h = accepted-stands one (generated n) shown.reads.program c (record { parsed = is-parsed; kept = shown.kept }) (subst (λ b. Refuses b c) text h)

-- the figures of an accepted program of the text are those that are asked for
pub bench-with : (n relaxed : ℕ) (bytes written : List ℕ) (p : Program) (f : Figures) → bytes ≡ generated n → IsAccepted bytes p → AreFiguresOf n relaxed p f → written ≡ figures_text f
    → IsBenchWith n relaxed written
bench-with n relaxed bytes written p f text is measured e = record { program = p; accepted = subst (λ b. IsAccepted b p) text is; figures = f; measured = measured; written = e }

-- ---- main's exit

main-fits : (c : Parts) → IsCore c → ProcFits c (length c.procs - 1) (proc_at c (length c.procs - 1))
main-fits c is = is.procs (length c.procs - 1) no_proc (omega (arith, is.main))

main-is : (c : Parts) (n : ℕ) (main : Proc) → n ≡ length c.procs → main ≡ proc_at c (n - 1) → main ≡ proc_of (graph_of c) (main_of (graph_of c))
unfolding graph_of
main-is c n main count e = e ∙ ap (λ k. proc_at c (k - 1)) count

points-are : (c : Parts) → length (graph_of c).owners ≡ length c.owners
unfolding graph_of
points-are c = refl

-- main owns its exit, a point of the graph
exit-is-in : (c : Parts) → IsCore c → (proc_of (graph_of c) (main_of (graph_of c))).exit < length (graph_of c).owners
unfolding graph_of
exit-is-in c is = (main-fits c is).exit

exit-is-owned : (c : Parts) → IsCore c → dims_at (graph_of c) (proc_of (graph_of c) (main_of (graph_of c))).exit ≡ (proc_of (graph_of c) (main_of (graph_of c))).dims
unfolding graph_of
exit-is-owned c is = ap (λ k. (proc_at c k).dims) (main-fits c is).owns_exit

-- a solution has a value there, over main's dimensions
pub exit-in : (c : Parts) (s : Solution) (delay descend n : ℕ) (main : Proc) → IsCore c → IsSolution (graph_of c) delay descend s
    → n ≡ length c.procs → main ≡ proc_at c (n - 1) → main.exit < length s.values
exit-in c s delay descend n main is solved count e =
    let same : main.exit ≡ (proc_of (graph_of c) (main_of (graph_of c))).exit = ap (λ (q : Proc). q.exit) (main-is c n main count e) in
    let within = exit-is-in c is in
    omega (arith, same, within, solved.points)

pub exit-dims : SolutionsAreSized → (c : Parts) (s : Solution) (delay descend n : ℕ) (main : Proc) (v : Octagon) → IsCore c → IsSolution (graph_of c) delay descend s
    → n ≡ length c.procs → main ≡ proc_at c (n - 1) → v ≡ read_in s main.exit → main.dims ≡ v.dims
exit-dims sized c s delay descend n main v is solved count e read =
    let q = proc_of (graph_of c) (main_of (graph_of c)) in
    let same : main ≡ q = main-is c n main count e in
    let value : v ≡ read_of (graph_of c) delay descend q.exit = read ∙ ap (λ (r : Proc). read_in s r.exit) same ∙ solved.read q.exit (exit-is-in c is) in
    ap (λ (r : Proc). r.dims) same
    ∙ sym (ap (λ (w : Octagon). w.dims) value ∙ (sized (graph_of c) delay descend).dims q.exit (exit-is-in c is) ∙ exit-is-owned c is)

-- ---- the figures

-- the value that is read at main's exit with some options
abbrev last-read : Options → Graph → Octagon
last-read o g = read_of g o.delay o.descend (proc_of g (main_of g)).exit

pub figures-are : (number relaxed rows : ℕ) (p : Program) (c : Parts) (s : Solution) (o : Options) (n : ℕ) (main : Proc) (v : Octagon) (blocks : List (List ℕ)) (points rounds count most : ℕ)
    → IsCore c → graph_of c ≡ core_of p → o ≡ usual → IsSolution (graph_of c) o.delay o.descend s
    → n ≡ length c.procs → main ≡ proc_at c (n - 1) → v ≡ read_in s main.exit → AreComponentsOf v blocks → length (core_of p).owners ≡ 5 * number + 4
    → points ≡ length c.owners → rounds ≡ s.rounds → count ≡ length blocks → IsGreatestSize blocks most → rows ≡ relaxed
    → AreFiguresOf number relaxed p (record { variables = 3 * number; points = points; rounds = rounds; blocks = count; largest = most; rows = rows })
figures-are number relaxed rows p c s o n main v blocks points rounds count most is graph options solved procs e read exact owners points-is rounds-is count-is most-is rows-is =
    let q = proc_of (graph_of c) (main_of (graph_of c)) in
    let same : main ≡ q = main-is c n main procs e in
    let at_exit : v ≡ last-read o (graph_of c) = read ∙ ap (λ (r : Proc). read_in s r.exit) same ∙ solved.read q.exit (exit-is-in c is) in
    let value : v ≡ found_last p = at_exit ∙ ap (λ (x : Options). last-read x (graph_of c)) options ∙ ap (last-read usual) graph in
    let whole : length (graph_of c).owners ≡ length (core_of p).owners = ap (λ (g : Graph). length g.owners) graph in
    record {
      variables = refl;
      points = points-is ∙ sym (points-are c) ∙ whole ∙ owners;
      rounds = rounds-is ∙ solved.rounds ∙ ap (λ (x : Options). rounds_of (graph_of c) x.delay) options ∙ ap (λ (g : Graph). rounds_of g usual.delay) graph;
      components = blocks;
      exact = subst (λ (w : Octagon). AreComponentsOf w blocks) value exact;
      blocks = count-is;
      largest = most-is;
      rows = rows-is;
    }

-- ---- their lines

-- six texts, one after the other
pub six : (a b c d e f o0 o1 o2 o3 o4 o5 o6 : List ℕ) → o0 ≡ [] → o1 ≡ o0 ++ a → o2 ≡ o1 ++ b → o3 ≡ o2 ++ c → o4 ≡ o3 ++ d → o5 ≡ o4 ++ e → o6 ≡ o5 ++ f
    → o6 ≡ a ++ (b ++ (c ++ (d ++ (e ++ f))))
six a b c d e f o0 o1 o2 o3 o4 o5 o6 p0 p1 p2 p3 p4 p5 p6 =
    p6 ∙ ap (λ t. t ++ f) (p5 ∙ ap (λ t. t ++ e) (p4 ∙ ap (λ t. t ++ d) (p3 ∙ ap (λ t. t ++ c) (p2 ∙ ap (λ t. t ++ b) (p1 ∙ ap (λ t. t ++ a) p0)))))
    ∙ simp append_assoc refl

-- a line with an equal figure
pub same-line : (before now name : List ℕ) (read figure : ℕ) → now ≡ before ++ figure_line name read → read ≡ figure → now ≡ before ++ figure_line name figure
same-line before now name read figure put e = put ∙ ap (λ n. before ++ figure_line name n) e
