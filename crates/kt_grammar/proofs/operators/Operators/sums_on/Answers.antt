use Rattle.std.proofs.Common.{refl}
use Rattle.std.proofs.lemmas.Result.{err_from_is_err_and}
use Rattle.kt_grammar.specs.Built as built
use Rattle.kt_grammar.specs.Rows as rows
use Rattle.kt_grammar.specs.Turns as turns
use Rattle.kt_grammar.proofs.Advances.{halts_first}
use Rattle.kt_grammar.proofs.TurnRows.{turns_from, has_range}
use Rattle.kt_grammar.proofs.operators.Operators.sums_on.Goals as goal

pub returns-in_err-left : goal.returns-in_err-left
returns-in_err-left g c = let p = err_from_is_err_and c.from_residual.result c.from_residual.ensures.1 in rw (p.1, p.2) (halts_first has_range c.in_err-left.ensures)

pub returns : goal.returns
returns g c = turns_from rows.sum_turns turns.range_on built.sum_turns_of turns.range_on_of turns.sum_on_of (λ x d e. refl) c.args.left c.in_ok-left.left c.in_ok-left.ensures c.ranges_on.result c.ranges_on.ensures
