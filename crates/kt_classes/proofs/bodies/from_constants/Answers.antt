use Rattle.std.proofs.lemmas.Result.{err_from_is_err_and}
use Rattle.kt_grammar.proofs.Advances.{halts_first, halts_second}
use Rattle.kt_classes.proofs.BodyRows.{has_to_brace, constants_from}
use Rattle.kt_classes.proofs.bodies.from_constants.Goals as goal

pub returns-in_err-constants : goal.returns-in_err-constants
returns-in_err-constants c = let p = err_from_is_err_and c.from_residual.result c.from_residual.ensures.1 in rw (p.1, p.2) (halts_first has_to_brace c.in_err-constants.ensures)

pub returns-in_err-members : goal.returns-in_err-members
returns-in_err-members c = let p = err_from_is_err_and c.from_residual-in_err-members.result c.from_residual-in_err-members.ensures.1 in rw (p.1, p.2) (let x = c.in_ok-constants.ensures in halts_second x.read x.so_far c.in_err-members.ensures)

pub returns : goal.returns
returns c = constants_from c.in_ok-constants.ensures c.in_ok-members.ensures
