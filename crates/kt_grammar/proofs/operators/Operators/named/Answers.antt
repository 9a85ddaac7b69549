use Rattle.std.proofs.Common.{refl}
use Rattle.std.proofs.lemmas.Result.{err_from_is_err_and}
use Rattle.kt_grammar.specs.Built as built
use Rattle.kt_grammar.specs.Rows as rows
use Rattle.kt_grammar.proofs.Advances.{level_from, level_halts}
use Rattle.kt_grammar.proofs.OperatorRows.{has_turns}
use Rattle.kt_grammar.proofs.operators.Operators.named.Goals as goal

pub returns-in_err-left : goal.returns-in_err-left
returns-in_err-left g c = let p = err_from_is_err_and c.from_residual.result c.from_residual.ensures.1 in rw (p.1, p.2) (level_halts rows.named rows.elvis rows.named_turns refl has_turns c.in_err-left.ensures)

pub returns : goal.returns
returns g c = level_from rows.named rows.elvis rows.named_turns built.elvis_of built.named_turns_of built.named_of refl (λ x d. refl) c.in_ok-left.ensures c.named_turns.result c.named_turns.ensures
