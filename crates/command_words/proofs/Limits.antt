-- Numbers that are asked for lie within their limits.
use Rattle.std.proofs.Common.{◌≡◌, refl, ℕ, ◌≤◌, ◌&&◌, Bool, true, false, List, [], ◌∷◌, Option, Some, None, option_map, option_and_then, cond, length, arith, leb-true, subst, codes}
use Rattle.std.proofs.Math.Dec.{leb}
use Rattle.std.specs.List.{list_all}
use Rattle.std.specs.Str.{all_ascii_digits, bytes_eq, is_utf8}
use Rattle.std.specs.Str.Parse.{digits_value}
use Rattle.command_words.specs.Texts.{Text}
use Rattle.command_words.specs.Items.{Given, given_of}
use Rattle.command_words.specs.Number.{number_of, program_of}
use Rattle.command_words.specs.Domains.{domain_or}
use Rattle.command_words.specs.declared.domain_name.DomainName.{DomainName}
use Rattle.command_words.specs.Command.{Asked, Analyse, Bench, Replay, analyse_given, analyse_of, analyse_with, asked_of, asked_of_texts, bench_of, is_file_word, replay_of, rounds_or}
use Rattle.command_words.specs.Laws.{IsWithinLimits}

module _ (digits least greatest : ℕ) (word : Text) (n : ℕ) where
  abbrev value : ℕ
  value = digits_value 10 word

  within : number_of digits least greatest word ≡ Some n → (least ≤ n) × (n ≤ greatest)
  within is = by (all_ascii_digits word) (leb 1 (length word)) (leb (length word) digits) (leb least value) (leb value greatest) refl refl is
    where
      by : (a b c d e : Bool) → leb least value ≡ d → leb value greatest ≡ e → cond (a && (b && c) && (d && e)) (Some value) None ≡ Some n → (least ≤ n) × (n ≤ greatest)
      by true true true true true low high is =
          let same : value ≡ n = cc is in
          (subst (λ x. least ≤ x) same (leb-true least value low), subst (λ x. x ≤ greatest) same (leb-true value greatest high))
      by true true true true false low high is = absurd (cc is)
      by true true true false e low high is = absurd (cc is)
      by true true false d e low high is = absurd (cc is)
      by true false c d e low high is = absurd (cc is)
      by false b c d e low high is = absurd (cc is)

rounds-small : (default : ℕ) (word : Option Text) (n : ℕ) → default ≤ 1000 → rounds_or default word ≡ Some n → n ≤ 1000
rounds-small default None n small is = let same : default ≡ n = cc is in subst (λ x. x ≤ 1000) same small
rounds-small default (Some word) n small is = (within 4 0 1000 word n is).1

analysed : (given : Given) (delay descend : Option ℕ) (domain : Option DomainName) (asked : Asked) → ((n : ℕ) → delay ≡ Some n → n ≤ 1000) → ((n : ℕ) → descend ≡ Some n → n ≤ 1000)
    → analyse_with given delay descend domain ≡ Some asked → IsWithinLimits asked
analysed given (Some m) (Some n) (Some d) asked first second is =
    let same : Analyse m n given.full d given.file ≡ asked = cc is in
    subst IsWithinLimits same (first m refl, second n refl)
analysed given (Some m) (Some n) None asked first second is = absurd (cc is)
analysed given (Some m) None domain asked first second is = absurd (cc is)
analysed given None descend domain asked first second is = absurd (cc is)

of-analysis : (words : List Text) (asked : Asked) → analyse_of words ≡ Some asked → IsWithinLimits asked
unfolding analyse_of
of-analysis words asked is = by (given_of words) is
  where
    by : (o : Option Given) → option_and_then analyse_given o ≡ Some asked → IsWithinLimits asked
    by None is = absurd (cc is)
    by (Some given) is =
        analysed given (rounds_or 1 given.delay) (rounds_or 2 given.descend) (domain_or given.domain) asked
        (λ n e. rounds-small 1 given.delay n (omega arith) e) (λ n e. rounds-small 2 given.descend n (omega arith) e) is

of-bench : (words : List Text) (asked : Asked) → bench_of words ≡ Some asked → IsWithinLimits asked
unfolding bench_of
of-bench [] asked is = absurd (cc is)
of-bench (word ∷ []) asked is = by (program_of word) refl is
  where
    by : (o : Option ℕ) → program_of word ≡ o → option_map Bench o ≡ Some asked → IsWithinLimits asked
    by None p is = absurd (cc is)
    by (Some n) p is = let same : Bench n ≡ asked = cc is in subst IsWithinLimits same (within 2 1 42 word n p)
of-bench (a ∷ b ∷ words) asked is = absurd (cc is)

of-replay : (words : List Text) (asked : Asked) → replay_of words ≡ Some asked → IsWithinLimits asked
unfolding replay_of
of-replay [] asked is = absurd (cc is)
of-replay (a ∷ []) asked is = absurd (cc is)
of-replay (file ∷ choices ∷ []) asked is = by (is_file_word file && is_file_word choices) is
  where
    by : (b : Bool) → cond b (Some (Replay file choices)) None ≡ Some asked → IsWithinLimits asked
    by true is = let same : Replay file choices ≡ asked = cc is in subst IsWithinLimits same tt
    by false is = absurd (cc is)
of-replay (a ∷ b ∷ c ∷ words) asked is = absurd (cc is)

of-texts : (words : List Text) (asked : Asked) → asked_of_texts words ≡ Some asked → IsWithinLimits asked
unfolding asked_of_texts
of-texts [] asked is = of-analysis [] asked is
of-texts (word ∷ rest) asked is = by (bytes_eq word (codes "bench")) (bytes_eq word (codes "replay")) is
  where
    by : (a b : Bool) → cond a (bench_of rest) (cond b (replay_of rest) (analyse_of (word ∷ rest))) ≡ Some asked → IsWithinLimits asked
    by true b is = of-bench rest asked is
    by false true is = of-replay rest asked is
    by false false is = of-analysis (word ∷ rest) asked is

pub limits : (words : List Text) (asked : Asked) → asked_of words ≡ Some asked → IsWithinLimits asked
unfolding asked_of
limits words asked is = by (list_all is_utf8 words) is
  where
    by : (b : Bool) → cond b (asked_of_texts words) None ≡ Some asked → IsWithinLimits asked
    by true is = of-texts words asked is
    by false is = absurd (cc is)
