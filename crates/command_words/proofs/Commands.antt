-- Words that ask for a command, as lists of references.
use Rattle.std.proofs.Common.{◌≡◌, ◌≢◌, refl, ℕ, List, [], ◌∷◌, ◌&&◌, Bool, true, false, Option, Some, None, option_map, cond, length, map, arith, slice_index_or, Bor, codes}
use Rattle.std.specs.Str.{bytes_eq}
use Rattle.std.proofs.lemmas.Slice.Eq.{bytes_eq-Decides}
use Rattle.command_words.specs.Texts.{AreText, Text}
use Rattle.command_words.specs.Items.{Given, given_of}
use Rattle.command_words.specs.Number.{program_of}
use Rattle.command_words.specs.Domains.{domain_or}
use Rattle.command_words.specs.declared.domain_name.DomainName.{DomainName}
use Rattle.command_words.specs.Command.{Bench, Replay, analyse_of, analyse_with, asked_of, asked_of_texts, bench_of, is_file_word, replay_of, rounds_or}
use Rattle.command_words.proofs.TextWords.{is-text, not-text}

abbrev pub texts : List (Bor Text) → List Text
texts words = map (λ (word : Bor Text). word.now) words

abbrev pub at : List (Bor Text) → ℕ → Text
at words k = (slice_index_or words k (record { ref_ptr = (0, 0); now = [] })).now

pub one-word : (words : List (Bor Text)) → length words ≡ 1 → texts words ≡ at words 0 ∷ []
one-word [] one = absurd (omega arith)
one-word (a ∷ []) one = refl
one-word (a ∷ b ∷ ws) one = absurd (omega arith)

pub two-words : (words : List (Bor Text)) → length words ≡ 2 → texts words ≡ at words 0 ∷ at words 1 ∷ []
two-words [] two = absurd (omega arith)
two-words (a ∷ []) two = absurd (omega arith)
two-words (a ∷ b ∷ []) two = refl
two-words (a ∷ b ∷ c ∷ ws) two = absurd (omega arith)

-- ---- bench

pub bench-number : (words : List (Bor Text)) (number : Option ℕ) → length words ≡ 1 → number ≡ program_of (at words 0) → option_map Bench number ≡ bench_of (texts words)
unfolding bench_of
bench-number words number one is = rw (one-word words one, is) refl

pub bench-other : (words : List (Bor Text)) → length words ≢ 1 → None ≡ bench_of (texts words)
unfolding bench_of
bench-other [] other = refl
bench-other (a ∷ []) other = absurd (other refl)
bench-other (a ∷ b ∷ ws) other = refl

-- ---- replay

pub replay-two : (words : List (Bor Text)) → length words ≡ 2
    → cond (is_file_word (at words 0) && is_file_word (at words 1)) (Some (Replay (at words 0) (at words 1))) None ≡ replay_of (texts words)
unfolding replay_of
replay-two words two = rw (two-words words two) refl

pub replay-other : (words : List (Bor Text)) → length words ≢ 2 → None ≡ replay_of (texts words)
unfolding replay_of
replay-other [] other = refl
replay-other (a ∷ []) other = refl
replay-other (a ∷ b ∷ []) other = absurd (other refl)
replay-other (a ∷ b ∷ c ∷ ws) other = refl

-- ---- an analysis

pub analyse-none : (words : List Text) → given_of words ≡ None → None ≡ analyse_of words
unfolding analyse_of
analyse-none words none = rw none refl

pub analyse-is : (words : List Text) (given : Given) (delay descend : Option ℕ) (domain : Option DomainName) → given_of words ≡ Some given → delay ≡ rounds_or 1 given.delay → descend ≡ rounds_or 2 given.descend
    → domain ≡ domain_or given.domain → analyse_with given delay descend domain ≡ analyse_of words
unfolding analyse_of
analyse-is words given delay descend domain is d e f = rw (is, d, e, f) refl

-- ---- any command

pub asked-none : (words : List (Bor Text)) → length words ≡ 0 → analyse_of (texts words) ≡ asked_of_texts (texts words)
unfolding asked_of_texts
asked-none [] none = refl
asked-none (word ∷ rest) none = absurd (omega arith)

module _ (words : List (Bor Text)) (first : Bor Text) (rest : List (Bor Text)) (is : words ≡ first ∷ rest) where
  pub asked-bench : first.now ≡ codes "bench" → bench_of (texts rest) ≡ asked_of_texts (texts words)
  unfolding asked_of_texts
  asked-bench named = rw (is, named) refl

  pub asked-replay : first.now ≡ codes "replay" → replay_of (texts rest) ≡ asked_of_texts (texts words)
  unfolding asked_of_texts
  asked-replay named = rw (is, named) refl

  pub asked-analyse : first.now ≢ codes "bench" → first.now ≢ codes "replay" → analyse_of (texts words) ≡ asked_of_texts (texts words)
  unfolding asked_of_texts
  asked-analyse not_bench not_replay = rw is (rw (other (codes "bench") not_bench, other (codes "replay") not_replay) refl)
    where
      other : (name : Text) → first.now ≢ name → bytes_eq first.now name ≡ false
      other name never = go (bytes_eq first.now name) refl
        where
          go : (b : Bool) → bytes_eq first.now name ≡ b → b ≡ false
          go true e = absurd (never ((bytes_eq-Decides first.now name).0 e))
          go false e = refl

pub asked-text : (words : List Text) → AreText words → asked_of words ≡ asked_of_texts words
unfolding asked_of
asked-text words are = rw (is-text words are) refl

pub asked-other : (words : List Text) → (AreText words → ⊥) → asked_of words ≡ None
unfolding asked_of
asked-other words never = rw (not-text words never) refl
