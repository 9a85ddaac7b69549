use Rattle.std.proofs.Common.{refl}
use Rattle.std.proofs.lemmas.Result.{err_from_is_err_and}
use Rattle.grammars.specs.Grammar.{row, many}
use Rattle.kt_grammar.specs.Built as built
use Rattle.kt_grammar.specs.Lookahead.{suffix_follows}
use Rattle.kt_grammar.specs.Rows as rows
use Rattle.kt_grammar.proofs.Advances.{level_from, level_halts}
use Rattle.kt_grammar.proofs.OperatorRows.{has_turns}
use Rattle.kt_parser.proofs.over.postfix.Goals as goal

pub returns-in_err-of : goal.returns-in_err-of
returns-in_err-of g c = let p = err_from_is_err_and c.from_residual.result c.from_residual.ensures.1 in rw (p.1, p.2) (level_halts rows.postfix rows.primary (many suffix_follows (row rows.suffix)) refl has_turns c.in_err-of.ensures)

pub returns : goal.returns
returns g c = level_from rows.postfix rows.primary (many suffix_follows (row rows.suffix)) built.primary_of built.suffixes_of built.postfix_of refl (λ x d. refl) c.in_ok-of.ensures c.suffixes.result c.suffixes.ensures
