use Rattle.std.proofs.lemmas.Result.{err_from_is_err_and}
use Rattle.grammars.specs.Grammar.{row}
use Rattle.kt_grammar.specs.Rows as rows
use Rattle.kt_grammar.specs.TypesBuilt as types_built
use Rattle.kt_grammar.proofs.Advances.{halts_first}
use Rattle.kt_grammar.proofs.OperandRows.{from_near}
use Rattle.kt_calls.proofs.SuffixRows.{has_call, typed_from}
use Rattle.kt_calls.proofs.endings.typed_call.Goals as goal

pub returns-in_err-types : goal.returns-in_err-types
returns-in_err-types g c = let p = err_from_is_err_and c.from_residual.result c.from_residual.ensures.1 in rw (p.1, p.2) (halts_first has_call (from_near (row rows.type_arguments) types_built.type_arguments_of c.args.bodies.now.tokens.now c.args.at c.type_arguments.result _ c.in_err-types.ensures c.type_arguments.ensures))

pub returns : goal.returns
returns g c = typed_from (from_near (row rows.type_arguments) types_built.type_arguments_of c.args.bodies.now.tokens.now c.args.at c.type_arguments.result _ c.in_ok-types.ensures c.type_arguments.ensures) c.called.result c.called.ensures
