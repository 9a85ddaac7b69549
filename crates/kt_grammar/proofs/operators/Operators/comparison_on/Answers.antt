use Rattle.std.proofs.Common.{refl}
use Rattle.std.proofs.lemmas.Result.{err_from_is_err_and}
use Rattle.kt_grammar.specs.Built as built
use Rattle.kt_grammar.specs.Rows as rows
use Rattle.kt_grammar.specs.Turns as turns
use Rattle.kt_grammar.proofs.Advances.{halts_first}
use Rattle.kt_grammar.proofs.TurnRows.{turns_from, has_equality}
use Rattle.kt_grammar.proofs.operators.Operators.comparison_on.Goals as goal

pub returns-in_err-left : goal.returns-in_err-left
returns-in_err-left g c = let p = err_from_is_err_and c.from_residual.result c.from_residual.ensures.1 in rw (p.1, p.2) (halts_first has_equality c.in_err-left.ensures)

pub returns : goal.returns
returns g c = turns_from rows.comparison_turn turns.equality_on built.comparison_turn_of turns.equality_on_of turns.comparison_on_of (λ x d e. refl) c.args.left c.in_ok-left.left c.in_ok-left.ensures c.equality_on.result c.equality_on.ensures
