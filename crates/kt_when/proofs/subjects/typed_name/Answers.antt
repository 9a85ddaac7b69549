use Rattle.std.proofs.lemmas.Result.{err_from_is_err_and}
use Rattle.kt_grammar.specs.Built as built
use Rattle.kt_grammar.specs.Rows as rows
use Rattle.kt_grammar.proofs.Advances.{halts_row, halts_first, halts_after}
use Rattle.kt_grammar.proofs.OperandRows.{from_near}
use Rattle.kt_when.proofs.SubjectRows.{has_no_type, name_from}
use Rattle.kt_when.proofs.subjects.typed_name.Goals as goal

pub returns-in_err-name : goal.returns-in_err-name
returns-in_err-name c = let p = err_from_is_err_and c.from_residual.result c.from_residual.ensures.1 in rw (p.1, p.2) (halts_row (halts_first has_no_type c.in_err-name.ensures))

pub returns-in_err-ty : goal.returns-in_err-ty
returns-in_err-ty c = let p = err_from_is_err_and c.from_residual-in_err-ty.result c.from_residual-in_err-ty.ensures.1 in rw (p.1, p.2) (let n = c.in_ok-name.ensures in halts_row (halts_after n.taken n.so_far (from_near rows.colon_type built.written_type c.args.tokens.now c.in_ok-name.mid c.colon_type.result _ c.in_err-ty.ensures c.colon_type.ensures)))

pub returns : goal.returns
returns c = name_from c.in_ok-name.ensures (from_near rows.colon_type built.written_type c.args.tokens.now c.in_ok-name.mid c.colon_type.result _ c.in_ok-ty.ensures c.colon_type.ensures)
