-- The law: what is written reads back as the program that was written.
use Rattle.std.proofs.Common.{ℕ, List, map, arith, refl, sym, subst}
use Rattle.std.specs.List.{All}
use Rattle.spl_text.specs.Spans.{TokensAreSpelled}
use Rattle.spl_tree.specs.Program.{Program}
use Rattle.spl_parser.specs.Spelling.{spelled}
use Rattle.spl_parser.specs.TreeOf.{tree_of}
use Rattle.spl_print.specs.Canonical.{Noted, canonical}
use Rattle.read_back.specs.ReadsBack.{HasNoClose, ReadsAs, CanonicalTextReadsBack}
use Rattle.read_back.proofs.Lexemes.{said, program_says}
use Rattle.read_back.proofs.Words.{Reads, lex}
use Rattle.read_back.proofs.Fit.{AreFit}
use Rattle.read_back.proofs.Written.{read_canonical}
use Rattle.read_back.proofs.Limits.{Lighter, Keeps}
use Rattle.read_back.proofs.Sources.{lighter_program}
use Rattle.read_back.proofs.Statements.{program_derives}
use Rattle.read_back.proofs.Unbroken.{tokens_fit, tokens_keep, unbroken_from}

-- a text that reads as what a fit program says, within the limits, reads as that program
pub reads_from : (text : List ℕ) (p : Program) → Reads text (program_says p) → AreFit (program_says p) → Keeps 0 0 (program_says p) → ReadsAs text p
reads_from text p reads fit keeps =
    let l = lex text (program_says p) reads text 0 refl (omega arith) in
    let d = program_derives p text l.tokens l.says in
    record {
      tokens = l.tokens;
      cut = l.pieces;
      unbroken = unbroken_from text l.tokens l.pieces (subst AreFit (sym l.says) fit) (subst (Keeps 0 0) (sym l.says) keeps);
      program = tree_of text d.0;
      derives = (d.0, d.1, refl);
      same = d.2;
    }

-- what says a program that is fit and keeps the limits reads as it
reads_as : (bytes : List ℕ) (p : Program) (noted : Noted) → AreFit (program_says p) → Keeps 0 0 (program_says p)
    → All HasNoClose noted.points → All HasNoClose noted.closing → ReadsAs (canonical bytes p noted) p
reads_as bytes p noted fit keeps points closing = reads_from (canonical bytes p noted) p (read_canonical bytes p noted fit points closing) fit keeps

pub reads_back : TokensAreSpelled → CanonicalTextReadsBack
reads_back spells bytes source tokens p noted cut unbroken derives points closing =
    let w : Lighter (map (said source) tokens) (program_says p) =
    subst (λ us. Lighter (map (said source) us) (program_says p)) derives.1
    (subst (λ q. Lighter (map (said source) (spelled derives.0)) (program_says q)) derives.2 (lighter_program source derives.0)) in
    reads_as bytes p noted (w.fit (tokens_fit source tokens (spells source tokens cut unbroken)))
    (w.keeps 0 0 0 0 (omega arith) (omega arith) (tokens_keep source tokens unbroken cut)) points closing
