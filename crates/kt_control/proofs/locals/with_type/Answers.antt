use Rattle.std.proofs.lemmas.Result.{err_from_is_err_and}
use Rattle.grammars.specs.Grammar.{row}
use Rattle.kt_grammar.specs.Rows as rows
use Rattle.kt_grammar.specs.TypesBuilt as types_built
use Rattle.kt_grammar.proofs.Advances.{halts_first, halts_after}
use Rattle.kt_grammar.proofs.OperandRows.{from_near}
use Rattle.kt_control.proofs.LocalRows.{has_type_end, has_no_end, with_type_from}
use Rattle.kt_control.proofs.locals.with_type.Goals as goal

pub returns-in_err-next : goal.returns-in_err-next
returns-in_err-next g c = let p = err_from_is_err_and c.from_residual.result c.from_residual.ensures.1 in rw (p.1, p.2) (halts_first has_type_end c.in_err-next.ensures)

pub returns-in_err-ty : goal.returns-in_err-ty
returns-in_err-ty g c = let p = err_from_is_err_and c.from_residual-in_err-ty.result c.from_residual-in_err-ty.ensures.1 in rw (p.1, p.2) (let o = c.in_ok-next.ensures in halts_after o.taken o.so_far (halts_first has_no_end
    (from_near (row rows.type_) types_built.type_of c.args.bodies.now.tokens.now c.in_ok-next.next c.type_at.result _ c.in_err-ty.ensures c.type_at.ensures)))

pub returns : goal.returns
returns g c = with_type_from c.args.name c.span_between-place.result c.in_ok-next.ensures (from_near (row rows.type_) types_built.type_of c.args.bodies.now.tokens.now c.in_ok-next.next c.type_at.result _ c.in_ok-ty.ensures c.type_at.ensures)
    c.span_between-place.ensures c.type_end.result c.type_end.ensures
