use Rattle.std.proofs.lemmas.Result.{err_from_is_err_and}
use Rattle.kt_grammar.proofs.Advances.{halts_first, halts_after}
use Rattle.kt_members.proofs.PropertyRows.{valued_from}
use Rattle.kt_members.proofs.TokenRows.{has_expression}
use Rattle.kt_members.proofs.properties.property_with_value.Goals as goal

pub returns-in_err-next : goal.returns-in_err-next
returns-in_err-next c = let p = err_from_is_err_and c.from_residual.result c.from_residual.ensures.1 in rw (p.1, p.2) (halts_first has_expression c.in_err-next.ensures)

pub returns-in_err-value : goal.returns-in_err-value
returns-in_err-value c = let p = err_from_is_err_and c.from_residual-in_err-value.result c.from_residual-in_err-value.ensures.1 in rw (p.1, p.2) (let o = c.in_ok-next.ensures in halts_after o.taken o.so_far c.in_err-value.ensures)

pub returns : goal.returns
returns c = valued_from c.args.is_var c.args.name c.args.ty c.in_ok-next.ensures c.in_ok-value.ensures c.with_value.ensures
