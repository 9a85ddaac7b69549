use Rattle.std.proofs.Common.{drop}
use Rattle.std.proofs.lemmas.Result.{err_from_is_err_and}
use Rattle.grammars.specs.Grammar.{first}
use Rattle.kt_grammar.specs.Rows.{question_marks}
use Rattle.kt_grammar.specs.TypesBuilt.{nullables}
use Rattle.kt_grammar.proofs.Advances.{halts_first}
use Rattle.kt_grammar.proofs.OperandRows.{from_near}
use Rattle.kt_functions.proofs.ReceiverRows.{has_dot_name, after_marks}
use Rattle.kt_functions.proofs.receivers.behind_arguments.Goals as goal

pub returns-in_err-ty : goal.returns-in_err-ty
returns-in_err-ty c =
    let t = first (drop c.args.start c.args.tokens.now) in
    let p = err_from_is_err_and c.from_residual.result c.from_residual.ensures.1 in
    rw (p.1, p.2) (halts_first has_dot_name (from_near question_marks (nullables t c.args.ty) c.args.tokens.now c.args.at c.with_marks.result _ c.in_err-ty.ensures c.with_marks.ensures))

pub returns : goal.returns
returns c =
    let t = first (drop c.args.start c.args.tokens.now) in
    after_marks t c.args.ty (from_near question_marks (nullables t c.args.ty) c.args.tokens.now c.args.at c.with_marks.result _ c.in_ok-ty.ensures c.with_marks.ensures) c.dot_name.result c.dot_name.ensures
