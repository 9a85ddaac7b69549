use Rattle.std.proofs.lemmas.Result.{err_from_is_err_and}
use Rattle.grammars.specs.Grammar.{row}
use Rattle.kt_grammar.specs.Rows as rows
use Rattle.kt_grammar.specs.TypesBuilt.{type_of}
use Rattle.kt_grammar.proofs.Advances.{halts_first, halts_second}
use Rattle.kt_grammar.proofs.OperandRows.{from_near}
use Rattle.kt_functions.proofs.ParameterRows.{typed_value_from}
use Rattle.kt_functions.proofs.ValueRows.{has_default}
use Rattle.kt_functions.proofs.parameters.typed_value.Goals as goal

pub returns-in_err-ty : goal.returns-in_err-ty
returns-in_err-ty c =
    let p = err_from_is_err_and c.from_residual.result c.from_residual.ensures.1 in
    rw (p.1, p.2) (halts_first has_default (from_near (row rows.type_) type_of c.args.tokens.now c.args.at c.type_at.result _ c.in_err-ty.ensures c.type_at.ensures))

pub returns-in_err-value : goal.returns-in_err-value
returns-in_err-value c =
    let p = err_from_is_err_and c.from_residual-in_err-value.result c.from_residual-in_err-value.ensures.1 in
    let x = from_near (row rows.type_) type_of c.args.tokens.now c.args.at c.type_at.result _ c.in_ok-ty.ensures c.type_at.ensures in
    rw (p.1, p.2) (halts_second x.read x.so_far c.in_err-value.ensures)

pub returns : goal.returns
returns c = typed_value_from (from_near (row rows.type_) type_of c.args.tokens.now c.args.at c.type_at.result _ c.in_ok-ty.ensures c.type_at.ensures) c.in_ok-value.ensures
