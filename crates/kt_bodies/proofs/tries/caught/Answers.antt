use Rattle.std.proofs.lemmas.Result.{err_from_is_err_and}
use Rattle.grammars.specs.Grammar.{row}
use Rattle.kt_lexer.specs.declared.token.Operator.TheVariants as operator
use Rattle.kt_grammar.specs.Rows as rows
use Rattle.kt_grammar.specs.TypesBuilt as types_built
use Rattle.kt_grammar.proofs.Advances.{halts_first, halts_after}
use Rattle.kt_grammar.proofs.OperandRows.{from_near}
use Rattle.kt_grammar.proofs.TypeRows.{has_op, has_type}
use Rattle.kt_bodies.proofs.TryRows.{has_variable_close, has_colon_type, caught_from, before_close}
use Rattle.kt_bodies.proofs.tries.caught.Goals as goal

pub returns-in_err-bracket : goal.returns-in_err-bracket
returns-in_err-bracket c = let p = err_from_is_err_and c.from_residual.result c.from_residual.ensures.1 in rw (p.1, p.2) (halts_first has_variable_close c.in_err-bracket.ensures)

pub returns-in_err-name : goal.returns-in_err-name
returns-in_err-name c = let p = err_from_is_err_and c.from_residual-in_err-name.result c.from_residual-in_err-name.ensures.1 in rw (p.1, p.2) (let o = c.in_ok-bracket.ensures in halts_after o.taken o.so_far (halts_first (has_op operator.CloseRound) (halts_first has_colon_type c.in_err-name.ensures)))

pub returns-in_err-colon : goal.returns-in_err-colon
returns-in_err-colon c = let p = err_from_is_err_and c.from_residual-in_err-colon.result c.from_residual-in_err-colon.ensures.1 in rw (p.1, p.2) (let o = c.in_ok-bracket.ensures in let n = c.in_ok-name.ensures in halts_after o.taken o.so_far (halts_first (has_op operator.CloseRound) (halts_after n.taken n.so_far (halts_first has_type c.in_err-colon.ensures))))

pub returns-in_err-ty : goal.returns-in_err-ty
returns-in_err-ty c = let p = err_from_is_err_and c.from_residual-in_err-ty.result c.from_residual-in_err-ty.ensures.1 in rw (p.1, p.2) (let o = c.in_ok-bracket.ensures in let n = c.in_ok-name.ensures in let i = c.in_ok-colon.ensures in halts_after o.taken o.so_far (halts_first (has_op operator.CloseRound) (halts_after n.taken n.so_far (halts_after i.taken i.so_far (from_near (row rows.type_) types_built.type_of c.args.tokens.now c.in_ok-colon.colon c.type_at.result _ c.in_err-ty.ensures c.type_at.ensures)))))

pub returns-in_err-close : goal.returns-in_err-close
returns-in_err-close c = let p = err_from_is_err_and c.from_residual-in_err-close.result c.from_residual-in_err-close.ensures.1 in rw (p.1, p.2) (before_close c.in_ok-bracket.ensures c.in_ok-name.ensures c.in_ok-colon.ensures (from_near (row rows.type_) types_built.type_of c.args.tokens.now c.in_ok-colon.colon c.type_at.result _ c.in_ok-ty.ensures c.type_at.ensures) c.in_err-close.ensures)

pub returns : goal.returns
returns c = caught_from c.in_ok-bracket.ensures c.in_ok-name.ensures c.in_ok-colon.ensures (from_near (row rows.type_) types_built.type_of c.args.tokens.now c.in_ok-colon.colon c.type_at.result _ c.in_ok-ty.ensures c.type_at.ensures) c.in_ok-close.ensures
