use Rattle.std.proofs.Common.{ap, sym, codes, arith, rules}
use Rattle.std.proofs.lemmas.Slice.Eq.{text_from_reads}
use Rattle.spl_text.specs.Keyword.{keyword_kind}
use Rattle.spl_text.proofs.keyword.keyword_kind.Goals as goal

pub returns-in-begin : goal.returns-in-begin
returns-in-begin c =
    sym (ap keyword_kind (text_from_reads c.args.text.now (codes "begin") (omega arith) (search rules)))

pub returns-in-endif : goal.returns-in-endif
returns-in-endif c =
    sym (ap keyword_kind (text_from_reads c.args.text.now (codes "endif") (omega arith) (search rules)))

pub returns-in-while : goal.returns-in-while
returns-in-while c =
    sym (ap keyword_kind (text_from_reads c.args.text.now (codes "while") (omega arith) (search rules)))

pub returns-in-false : goal.returns-in-false
returns-in-false c =
    sym (ap keyword_kind (text_from_reads c.args.text.now (codes "false") (omega arith) (search rules)))

pub returns-in-assume : goal.returns-in-assume
returns-in-assume c =
    sym (ap keyword_kind (text_from_reads c.args.text.now (codes "assume") (omega arith) (search rules)))

pub returns-in-random : goal.returns-in-random
returns-in-random c =
    sym (ap keyword_kind (text_from_reads c.args.text.now (codes "random") (omega arith) (search rules)))

pub returns-in-returns : goal.returns-in-returns
returns-in-returns c =
    sym (ap keyword_kind (text_from_reads c.args.text.now (codes "returns") (omega arith) (search rules)))

pub returns-in-brandom : goal.returns-in-brandom
returns-in-brandom c =
    sym (ap keyword_kind (text_from_reads c.args.text.now (codes "brandom") (omega arith) (search rules)))
