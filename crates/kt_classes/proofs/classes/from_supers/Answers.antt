use Rattle.std.proofs.lemmas.Result.{err_from_is_err_and}
use Rattle.kt_grammar.proofs.Advances.{halts_first, halts_second}
use Rattle.kt_classes.specs.Bodies.{body_row}
use Rattle.kt_classes.proofs.ClassRows.{has_a_body, heritage_from}
use Rattle.kt_classes.proofs.classes.from_supers.Goals as goal

pub returns-in_err-supers : goal.returns-in_err-supers
returns-in_err-supers c = let p = err_from_is_err_and c.from_residual.result c.from_residual.ensures.1 in rw (p.1, p.2) (halts_first (has_a_body (body_row c.args.form)) c.in_err-supers.ensures)

pub returns-in_err-body : goal.returns-in_err-body
returns-in_err-body c = let p = err_from_is_err_and c.from_residual-in_err-body.result c.from_residual-in_err-body.ensures.1 in rw (p.1, p.2) (let x = c.in_ok-supers.ensures in halts_second x.read x.so_far c.in_err-body.ensures)

pub returns : goal.returns
returns c = heritage_from (body_row c.args.form) c.in_ok-supers.ensures c.in_ok-body.ensures
