use Rattle.std.proofs.lemmas.Result.{err_from_is_err_and}
use Rattle.grammars.specs.Grammar.{row}
use Rattle.kt_lexer.specs.declared.token.Operator.TheVariants as operator
use Rattle.kt_grammar.specs.Rows as rows
use Rattle.kt_grammar.specs.TypesBuilt.{type_of}
use Rattle.kt_grammar.proofs.Advances.{halts_first, halts_second, halts_after}
use Rattle.kt_grammar.proofs.OperandRows.{from_near}
use Rattle.kt_grammar.proofs.TypeRows.{has_op}
use Rattle.kt_functions.proofs.ReceiverRows.{has_type_close, bracketed_from}
use Rattle.kt_functions.proofs.receivers.bracketed.Goals as goal

pub returns-in_err-next : goal.returns-in_err-next
returns-in_err-next c = let p = err_from_is_err_and c.from_residual.result c.from_residual.ensures.1 in rw (p.1, p.2) (halts_first has_type_close c.in_err-next.ensures)

pub returns-in_err-ty : goal.returns-in_err-ty
returns-in_err-ty c =
    let p = err_from_is_err_and c.from_residual-in_err-ty.result c.from_residual-in_err-ty.ensures.1 in
    let o = c.in_ok-next.ensures in
    rw (p.1, p.2) (halts_after o.taken o.so_far (halts_first (has_op operator.CloseRound) (from_near (row rows.type_) type_of c.args.tokens.now c.in_ok-next.next c.type_at.result _ c.in_err-ty.ensures c.type_at.ensures)))

pub returns-in_err-end : goal.returns-in_err-end
returns-in_err-end c =
    let p = err_from_is_err_and c.from_residual-in_err-end.result c.from_residual-in_err-end.ensures.1 in
    let o = c.in_ok-next.ensures in
    let x = from_near (row rows.type_) type_of c.args.tokens.now c.in_ok-next.next c.type_at.result _ c.in_ok-ty.ensures c.type_at.ensures in
    rw (p.1, p.2) (halts_after o.taken o.so_far (halts_second x.read x.so_far c.in_err-end.ensures))

pub returns : goal.returns
returns c = bracketed_from c.in_ok-next.ensures (from_near (row rows.type_) type_of c.args.tokens.now c.in_ok-next.next c.type_at.result _ c.in_ok-ty.ensures c.type_at.ensures) c.in_ok-end.ensures
