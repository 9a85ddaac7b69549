use Rattle.std.proofs.Common.{drop}
use Rattle.std.proofs.lemmas.Result.{err_from_is_err_and}
use Rattle.grammars.specs.Grammar.{first}
use Rattle.kt_grammar.proofs.Advances.{halts_first}
use Rattle.kt_grammar.proofs.OperandRows.{from_near}
use Rattle.kt_functions.specs.Receivers.{type_arguments, type_with}
use Rattle.kt_functions.proofs.ReceiverRows.{has_behind_arguments, after_arguments}
use Rattle.kt_functions.proofs.receivers.behind_name.Goals as goal

pub returns-in_err-ty : goal.returns-in_err-ty
returns-in_err-ty c =
    let t = first (drop c.args.start c.args.tokens.now) in
    let p = err_from_is_err_and c.from_residual.result c.from_residual.ensures.1 in
    rw (p.1, p.2) (halts_first has_behind_arguments (from_near type_arguments (type_with t c.args.name) c.args.tokens.now c.args.at c.type_with.result _ c.in_err-ty.ensures c.type_with.ensures))

pub returns : goal.returns
returns c =
    let t = first (drop c.args.start c.args.tokens.now) in
    after_arguments t c.args.name (from_near type_arguments (type_with t c.args.name) c.args.tokens.now c.args.at c.type_with.result _ c.in_ok-ty.ensures c.type_with.ensures) c.behind_arguments.result c.behind_arguments.ensures
