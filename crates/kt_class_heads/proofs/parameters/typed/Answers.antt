use Rattle.std.proofs.lemmas.Result.{err_from_is_err_and}
use Rattle.kt_grammar.proofs.Advances.{halts_first, halts_after}
use Rattle.kt_class_heads.proofs.ParameterRows.{typed_from}
use Rattle.kt_functions.proofs.ParameterRows.{has_typed_value, has_colon_value}
use Rattle.kt_class_heads.proofs.parameters.typed.Goals as goal

pub returns-in_err-name : goal.returns-in_err-name
returns-in_err-name c = let p = err_from_is_err_and c.from_residual.result c.from_residual.ensures.1 in rw (p.1, p.2) (halts_first has_colon_value c.in_err-name.ensures)

pub returns-in_err-next : goal.returns-in_err-next
returns-in_err-next c =
    let p = err_from_is_err_and c.from_residual-in_err-next.result c.from_residual-in_err-next.ensures.1 in
    rw (p.1, p.2) (let n = c.in_ok-name.ensures in halts_after n.taken n.so_far (halts_first has_typed_value c.in_err-next.ensures))

pub returns-in_err-ty : goal.returns-in_err-ty
returns-in_err-ty c =
    let p = err_from_is_err_and c.from_residual-in_err-ty.result c.from_residual-in_err-ty.ensures.1 in
    rw (p.1, p.2) (let n = c.in_ok-name.ensures in let o = c.in_ok-next.ensures in halts_after n.taken n.so_far (halts_after o.taken o.so_far c.in_err-ty.ensures))

pub returns : goal.returns
returns c = typed_from c.in_ok-name.ensures c.in_ok-next.ensures c.in_ok-ty.ensures
