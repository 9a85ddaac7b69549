use Rattle.std.proofs.lemmas.Result.{err_from_is_err_and}
use Rattle.kt_grammar.proofs.Steps.{fails_row, fails_first}
use Rattle.kt_grammar.proofs.TypeRows.{has_dotted_names, dotted_from}
use Rattle.kt_grammar.proofs.types.dotted.Goals as goal

pub returns-in_err-head : goal.returns-in_err-head
returns-in_err-head c = let p = err_from_is_err_and c.from_residual.result c.from_residual.ensures.1 in rw (p.1, p.2) (fails_row (fails_first has_dotted_names c.in_err-head.ensures))

pub returns : goal.returns
returns c = dotted_from c.in_ok-head.ensures c.more_words.result c.more_words.ensures
