use Rattle.std.proofs.Common.{refl}
use Rattle.std.proofs.lemmas.Result.{err_from_is_err_and}
use Rattle.kt_grammar.specs.Built as built
use Rattle.kt_grammar.specs.Rows as rows
use Rattle.kt_grammar.specs.Turns as turns
use Rattle.kt_grammar.proofs.Advances.{halts_first}
use Rattle.kt_grammar.proofs.TurnRows.{turns_from, has_sum}
use Rattle.kt_grammar.proofs.operators.Operators.products_on.Goals as goal

pub returns-in_err-left : goal.returns-in_err-left
returns-in_err-left g c = let p = err_from_is_err_and c.from_residual.result c.from_residual.ensures.1 in rw (p.1, p.2) (halts_first has_sum c.in_err-left.ensures)

pub returns : goal.returns
returns g c = turns_from rows.product_turns turns.sum_on built.product_turns_of turns.sum_on_of turns.product_on_of (λ x d e. refl) c.args.left c.in_ok-left.left c.in_ok-left.ensures c.sums_on.result c.sums_on.ensures
