use Rattle.std.proofs.Common.{◌≡◌, ℕ, List, codes, refl, sym, ap, ◌∙◌}
use Rattle.spl_text.specs.Pieces.{piece_at, Cut}
use Rattle.spl_text.specs.Pieces.Pieces.{none, gap, token}
use Rattle.spl_text.specs.declared.token.Token.{Token}
use Rattle.spl_text.proofs.Chains.{Cut-unique}
use Rattle.spl_tree.specs.Program.{Program}
use Rattle.spl_tree.specs.Meaning.{program_of}
use Rattle.spl_parser.specs.Grammar.{Derivation, program, no_procs, no_vars, no_stmts}
use Rattle.spl_parser.specs.Spelling.{spelled}
use Rattle.spl_parser.specs.TreeOf.{tree_of}
use Rattle.spl_parser.specs.Derives.{Derives}
use Rattle.spl_parser.proofs.Laws.{one_derivation}
use Rattle.spl_print.specs.Canonical.{point_lines, program_lines}
use Rattle.text_tests.proofs.prints.bare_tree.Goals as goal

abbrev text : List ℕ
text = codes "begin end"

-- the derivation of `begin end`
abbrev bare : Derivation
bare = program no_procs no_vars (record { start = 0; end = 5 }) no_stmts (record { start = 6; end = 9 })

bare_cut : Cut text (spelled bare)
unfolding piece_at
bare_cut = token 0 9 _ _ refl (gap 5 6 9 _ refl (token 6 9 _ _ refl (none 9)))

one_point : (tokens : List Token) (p : Program) → Cut text tokens → Derives text tokens p → point_lines (program_lines p) ≡ 1
unfolding program_lines
one_point tokens p cut derived =
    let same : derived.0 ≡ bare = one_derivation derived.0 bare (derived.1 ∙ Cut-unique text tokens (spelled bare) cut bare_cut) in
    ap (λ q. point_lines (program_lines q)) (sym derived.2 ∙ ap (tree_of text) same)

pub returns : goal.returns
returns c = one_point c.in_ok-list.list (program_of c.in_ok-tree.tree) c.in_ok-list.ensures.cut c.in_ok-tree.ensures.derived
