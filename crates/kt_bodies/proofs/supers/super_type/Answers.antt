use Rattle.std.proofs.lemmas.Result.{err_from_is_err_and}
use Rattle.grammars.specs.Grammar.{row}
use Rattle.kt_lexer.specs.declared.token.Operator.TheVariants as operator
use Rattle.kt_grammar.specs.Rows as rows
use Rattle.kt_grammar.specs.TypesBuilt as types_built
use Rattle.kt_grammar.proofs.Advances.{halts_left, halts_first, halts_second, halts_after}
use Rattle.kt_grammar.proofs.OperandRows.{from_near}
use Rattle.kt_grammar.proofs.Steps.{standing}
use Rattle.kt_grammar.proofs.TypeRows.{has_op}
use Rattle.kt_bodies.proofs.SuperRows.{no_super_type, super_type_from}
use Rattle.kt_bodies.proofs.supers.super_type.Goals as goal

pub returns-in_default : goal.returns-in_default
returns-in_default c = no_super_type c.requires c.in_default.ensures

pub returns-in_err-of : goal.returns-in_err-of
returns-in_err-of c = let p = err_from_is_err_and c.from_residual.result c.from_residual.ensures.1 in rw (p.1, p.2) (let o = c.in-Some.ensures in halts_left c.requires (standing o.taken) (halts_after o.taken o.so_far (halts_first (has_op operator.Greater) (from_near (row rows.type_) types_built.type_of c.args.tokens.now c.in-Some.next c.type_at.result _ c.in_err-of.ensures c.type_at.ensures))))

pub returns-in_err-end : goal.returns-in_err-end
returns-in_err-end c = let p = err_from_is_err_and c.from_residual-in_err-end.result c.from_residual-in_err-end.ensures.1 in rw (p.1, p.2) (let o = c.in-Some.ensures in let q = (from_near (row rows.type_) types_built.type_of c.args.tokens.now c.in-Some.next c.type_at.result _ c.in_ok-of.ensures c.type_at.ensures) in halts_left c.requires (standing o.taken) (halts_after o.taken o.so_far (halts_second q.read q.so_far c.in_err-end.ensures)))

pub returns : goal.returns
returns c = super_type_from c.in-Some.ensures (from_near (row rows.type_) types_built.type_of c.args.tokens.now c.in-Some.next c.type_at.result _ c.in_ok-of.ensures c.type_at.ensures) c.in_ok-end.ensures
