use Rattle.std.proofs.lemmas.Result.{err_from_is_err_and}
use Rattle.kt_grammar.specs.Rows as rows
use Rattle.kt_grammar.proofs.Advances.{halts_first, halts_second}
use Rattle.kt_classes.proofs.ClassRows.{has_constructed, generic_from}
use Rattle.kt_classes.proofs.classes.from_parameters.Goals as goal

pub returns-in_err-params : goal.returns-in_err-params
returns-in_err-params c = let p = err_from_is_err_and c.from_residual.result c.from_residual.ensures.1 in rw (p.1, p.2) (halts_first (has_constructed (rows.body_of_class c.args.is_enum)) c.in_err-params.ensures)

pub returns-in_err-constructed : goal.returns-in_err-constructed
returns-in_err-constructed c = let p = err_from_is_err_and c.from_residual-in_err-constructed.result c.from_residual-in_err-constructed.ensures.1 in rw (p.1, p.2) (let x = c.in_ok-params.ensures in halts_second x.read x.so_far c.in_err-constructed.ensures)

pub returns : goal.returns
returns c = generic_from (rows.body_of_class c.args.is_enum) c.in_ok-params.ensures c.in_ok-constructed.ensures
