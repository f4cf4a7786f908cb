-- From the parse to what the words give.
use Rattle.std.proofs.Common.{◌≡◌, refl, List, [], ◌∷◌, Bool, true, false, codes, Option, Some, None, option_map, option_and_then, cond, ◌∙◌, ap, ◌&&◌, true≢false, sym, is_some}
use Rattle.clap.specs.Kinds.{IsAmong, Kinds}
use Rattle.clap.specs.Simple.{App, matches_of}
use Rattle.clap.specs.Faults.{fault_of}
use Rattle.clap.specs.Matches.{first_value, one_text}
use Rattle.clap.specs.Walk.{first_of, one_of, rows_of}
use Rattle.clap.specs.declared.error.kind.ErrorKind.{ErrorKind}
use Rattle.clap.specs.declared.parser.matches.Found.{Found}
use Rattle.clap.proofs.WalkLemmas.{first_value-rows, one_text-rows}
use Rattle.command_words.specs.Texts.{AreText, Text}
use Rattle.command_words.specs.Cli.{cli}
use Rattle.command_words.specs.Items.{Given, Item, are_new, given_of, delay, descend, domain, file, full, given_of_items, has, items_of, text_of}
use Rattle.command_words.proofs.Exact.{exact, found, is_call, is_form}
use Rattle.command_words.proofs.Given.{defaulted}
use Rattle.command_words.proofs.Turns.{is_nil}
use Rattle.command_words.proofs.Values.{full-is, flag_text, has-text, text-is}

both : (a b : Bool) → (a && b) ≡ true → (a ≡ true) × (b ≡ true)
both true true e = (refl, refl)
both true false e = absurd (true≢false (sym e))
both false b e = absurd (true≢false (sym e))

no-call : (o : Option (List Item)) → is_call o ≡ false → option_and_then given_of_items o ≡ None
no-call None e = refl
no-call (Some items) e = go (are_new [] items) (text_of file items) (ap (λ b. are_new [] items && b) (has-text file items) ∙ e)
  where
    go : (a : Bool) (t : Option Text) → (a && is_some t) ≡ false
        → cond a (option_map {U = Given} (λ name. record { delay = text_of delay items; descend = text_of descend items; full = has full items; domain = text_of domain items; file = name }) t) None ≡ None
    go true None e = refl
    go true (Some t) e = absurd (true≢false e)
    go false t e = refl

among : (k : ErrorKind) (kinds : Kinds) → IsAmong k kinds → is_nil kinds ≡ false
among k [] h = absurd h
among k (x ∷ xs) h = refl

-- words that `clap` refuses give nothing
pub refused-call : (words : List Text) (app : App) (k : ErrorKind) → AreText words → app ≡ cli → IsAmong k (fault_of app words) → given_of words ≡ None
refused-call words app k u same h =
    no-call (items_of words None) (sym (exact words u) ∙ ap (λ (a : App). is_nil (fault_of a words)) (sym same) ∙ among k (fault_of app words) h)

-- what words that it takes give, by the getters
pub record Finds (words : List Text) (f : Found) : Type 0 where
  pub is_full : Bool
  pub flag : one_text f (codes "full") ≡ Some (flag_text is_full)
  pub call : given_of words ≡ option_map {U = Given} (λ name. record { delay = first_value f (codes "delay"); descend = first_value f (codes "descend"); full = is_full; domain = first_value f (codes "domain"); file = name }) (first_value f (codes "file"))

given-call : (items : List Item) → are_new [] items ≡ true
    → given_of_items items ≡ option_map {U = Given} (λ name. record { delay = text_of delay items; descend = text_of descend items; full = has full items; domain = text_of domain items; file = name }) (text_of file items)
given-call items e = rw e refl

pub taken-call : (words : List Text) (app : App) (f : Found) → AreText words → app ≡ cli → fault_of app words ≡ [] → rows_of f ≡ matches_of app words → Finds words f
taken-call words app f u same none rows =
    let form : is_form words ≡ true = sym (exact words u) ∙ ap (λ (a : App). is_nil (fault_of a words)) (sym same) ∙ ap is_nil none in
    let got = found words u form in
    let items = got.0 in
    let all : rows_of f ≡ defaulted items = rows ∙ ap (λ (a : App). matches_of a words) same ∙ got.1.1 in
    let new : are_new [] items ≡ true = (both (are_new [] items) (has file items) (ap is_call (sym got.1.0) ∙ form)).0 in
    let d : text_of delay items ≡ first_value f (codes "delay") = sym (first_value-rows f (codes "delay") ∙ ap (first_of (codes "delay")) all ∙ text-is delay items refl) in
    let s : text_of descend items ≡ first_value f (codes "descend") = sym (first_value-rows f (codes "descend") ∙ ap (first_of (codes "descend")) all ∙ text-is descend items refl) in
    let m : text_of domain items ≡ first_value f (codes "domain") = sym (first_value-rows f (codes "domain") ∙ ap (first_of (codes "domain")) all ∙ text-is domain items refl) in
    let n : text_of file items ≡ first_value f (codes "file") = sym (first_value-rows f (codes "file") ∙ ap (first_of (codes "file")) all ∙ text-is file items refl) in
    record {
      is_full = has full items;
      flag = one_text-rows f (codes "full") ∙ ap (one_of (codes "full")) all ∙ full-is items;
      call = ap (option_and_then given_of_items) got.1.0 ∙ given-call items new
          ∙ (λ i. option_map {U = Given} (λ name. record { delay = d i; descend = s i; full = has full items; domain = m i; file = name }) (n i));
    }

pub flag-read : (one : Option Text) (b result : Bool) → one ≡ Some (flag_text b) → (one ≡ Some (codes "true") → result ≡ true) → (one ≡ Some (codes "false") → result ≡ false) → result ≡ b
flag-read one true result e on off = on e
flag-read one false result e on off = off e

pub absent-call : (words : List Text) (f : Found) → Finds words f → first_value f (codes "file") ≡ None → None ≡ given_of words
absent-call words f got e = rw e at (sym got.call)

pub present-call : (words : List Text) (f : Found) (g : Given) → Finds words f → g.delay ≡ first_value f (codes "delay") → g.descend ≡ first_value f (codes "descend")
    → g.domain ≡ first_value f (codes "domain") → Some g.file ≡ first_value f (codes "file")
    → (one_text f (codes "full") ≡ Some (codes "true") → g.full ≡ true) → (one_text f (codes "full") ≡ Some (codes "false") → g.full ≡ false) → Some g ≡ given_of words
present-call words f g got d s m n on off =
    let full_is = flag-read (one_text f (codes "full")) got.is_full g.full got.flag on off in
    (λ i. option_map {U = Given} (λ name. record { delay = d i; descend = s i; full = full_is i; domain = m i; file = name }) (n i)) ∙ sym got.call
