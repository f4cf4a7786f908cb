use Rattle.std.proofs.Common.{◌≡◌, ◌∙◌, ap, codes, List, ℕ, [], Bor, Some, option_map, map, sym, inl, inr}
use Rattle.clap.specs.Faults.{fault_of, is_simple_and_free}
use Rattle.clap.specs.Matches.{first_value, found_of}
use Rattle.clap.specs.Simple.{app_of, is_simple, matches_of}
use Rattle.clap.specs.Walk.{rows_of}
use Rattle.command_words.specs.Cli.{cli}
use Rattle.command_words.specs.View.{given_view}
use Rattle.command_words.proofs.Reading.{absent-call, present-call, refused-call, taken-call}
use Rattle.command_words.proofs.Shape.{is-simple, only-simple}
use Rattle.command_words.proofs.cli.given_words.Goals.{in-OutOfMemory, in_default}
use Rattle.command_words.proofs.cli.given_words.Goals as goal

pub returns-in-Err : goal.returns-in-Err
returns-in-Err c =
    let words = map (λ (s : Bor (List ℕ)). s.now) c.args.words.now in
    let same : app_of c.in_ok-parser.parser ≡ cli = c.in_ok-parser.ensures in
    let kinds = c.in-Err.ensures.kinds (ap is_simple_and_free same ∙ is-simple) in
    elim c.match-kind.branch [
      | in-OutOfMemory w ↦ rw w.result-is tt
      | in_default w ↦ elim kinds [
        | inl m ↦ absurd (w.in_default.not-OutOfMemory (c.kind.ensures ∙ m))
        | inr a ↦ rw w.result-is (sym (refused-call words (app_of c.in_ok-parser.parser) _ c.requires same a))
      ]
    ]

pub returns-in-None : goal.returns-in-None
returns-in-None c =
    let words = map (λ (s : Bor (List ℕ)). s.now) c.args.words.now in
    let m = c.in-Ok.matches in
    let same : app_of c.in_ok-parser.parser ≡ cli = c.in_ok-parser.ensures in
    let none : fault_of (app_of c.in_ok-parser.parser) words ≡ [] = c.in-Ok.ensures.kinds (ap is_simple_and_free same ∙ is-simple) in
    let rows : rows_of (found_of m) ≡ matches_of (app_of c.in_ok-parser.parser) words = (c.in-Ok.ensures.matches (ap is_simple same ∙ only-simple)).0 in
    let got = taken-call words (app_of c.in_ok-parser.parser) (found_of m) c.requires same none rows in
    absent-call words (found_of m) got (sym c.get_str.ensures ∙ ap (option_map (λ (s : Bor (List ℕ)). s.now)) c.in-None.is)

pub returns : goal.returns
returns c =
    let words = map (λ (s : Bor (List ℕ)). s.now) c.args.words.now in
    let m = c.in-Ok.matches in
    let same : app_of c.in_ok-parser.parser ≡ cli = c.in_ok-parser.ensures in
    let none : fault_of (app_of c.in_ok-parser.parser) words ≡ [] = c.in-Ok.ensures.kinds (ap is_simple_and_free same ∙ is-simple) in
    let rows : rows_of (found_of m) ≡ matches_of (app_of c.in_ok-parser.parser) words = (c.in-Ok.ensures.matches (ap is_simple same ∙ only-simple)).0 in
    let got = taken-call words (app_of c.in_ok-parser.parser) (found_of m) c.requires same none rows in
    let file_is : Some c.in-Some.file.now ≡ first_value (found_of m) (codes "file") = ap (option_map (λ (s : Bor (List ℕ)). s.now)) (sym c.in-Some.is) ∙ c.get_str.ensures in
    present-call words (found_of m) (given_view (record { delay = c.get_str-in-Some.result; descend = c.get_str-in-Some-2.result; full = c.get_flag.result; domain = c.get_str-in-Some-3.result; file = c.in-Some.file })) got
    c.get_str-in-Some.ensures c.get_str-in-Some-2.ensures c.get_str-in-Some-3.ensures file_is c.get_flag.ensures.value c.get_flag.ensures.other
