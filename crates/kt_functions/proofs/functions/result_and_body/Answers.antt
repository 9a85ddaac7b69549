use Rattle.std.proofs.lemmas.Result.{err_from_is_err_and}
use Rattle.kt_grammar.specs.Built.{written_type}
use Rattle.kt_grammar.specs.Rows as rows
use Rattle.kt_grammar.proofs.Advances.{halts_first, halts_second}
use Rattle.kt_grammar.proofs.OperandRows.{from_near}
use Rattle.kt_functions.proofs.FunctionRows.{ending_from}
use Rattle.kt_functions.proofs.ValueRows.{has_written_body}
use Rattle.kt_functions.proofs.functions.result_and_body.Goals as goal

pub returns-in_err-ty : goal.returns-in_err-ty
returns-in_err-ty c =
    let p = err_from_is_err_and c.from_residual.result c.from_residual.ensures.1 in
    rw (p.1, p.2) (halts_first (has_written_body c.args.is_abstract) (from_near rows.colon_type written_type c.args.tokens.now c.args.at c.colon_type.result _ c.in_err-ty.ensures c.colon_type.ensures))

pub returns-in_err-body : goal.returns-in_err-body
returns-in_err-body c =
    let p = err_from_is_err_and c.from_residual-in_err-body.result c.from_residual-in_err-body.ensures.1 in
    let x = from_near rows.colon_type written_type c.args.tokens.now c.args.at c.colon_type.result _ c.in_ok-ty.ensures c.colon_type.ensures in
    rw (p.1, p.2) (halts_second x.read x.so_far c.in_err-body.ensures)

pub returns : goal.returns
returns c = ending_from c.args.is_abstract (from_near rows.colon_type written_type c.args.tokens.now c.args.at c.colon_type.result _ c.in_ok-ty.ensures c.colon_type.ensures) c.in_ok-body.ensures
