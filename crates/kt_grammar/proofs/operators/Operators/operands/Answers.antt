use Rattle.std.proofs.Common.{Ok, Err}
use Rattle.std.proofs.lemmas.Result.{err_from_is_err_and}
use Rattle.kt_grammar.proofs.OperatorRows.{operands_from, operands_halt}
use Rattle.kt_grammar.proofs.operators.Operators.operands.Goals as goal

pub returns-in_err-left : goal.returns-in_err-left
returns-in_err-left g c =
    let p = err_from_is_err_and c.from_residual.result c.from_residual.ensures.1 in
    rw (p.1, p.2) (operands_halt c.args.level (c.requires.operands.reads c.args.at (Err _) c.requires.behind c.requires.within c.in_err-left.ensures))

pub returns : goal.returns
returns g c =
    operands_from c.args.level (c.requires.operands.reads c.args.at (Ok (c.in_ok-left.left, c.in_ok-left.end)) c.requires.behind c.requires.within c.in_ok-left.ensures) c.turns.result c.turns.ensures
