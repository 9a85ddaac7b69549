use Rattle.std.proofs.lemmas.Result.{err_from_is_err_and}
use Rattle.kt_grammar.specs.Built.{written_type}
use Rattle.kt_grammar.specs.Rows as rows
use Rattle.kt_grammar.proofs.Advances.{halts_first, halts_after}
use Rattle.kt_grammar.proofs.NameRows.{has_no_type}
use Rattle.kt_grammar.proofs.OperandRows.{from_near}
use Rattle.kt_functions.proofs.TypeParameterRows.{named_from}
use Rattle.kt_functions.proofs.type_parameters.named.Goals as goal

pub returns-in_err-name : goal.returns-in_err-name
returns-in_err-name c = let p = err_from_is_err_and c.from_residual.result c.from_residual.ensures.1 in rw (p.1, p.2) (halts_first has_no_type c.in_err-name.ensures)

pub returns-in_err-bound : goal.returns-in_err-bound
returns-in_err-bound c =
    let p = err_from_is_err_and c.from_residual-in_err-bound.result c.from_residual-in_err-bound.ensures.1 in
    rw (p.1, p.2) (let o = c.in_ok-name.ensures in halts_after o.taken o.so_far (from_near rows.colon_type written_type c.args.tokens.now c.in_ok-name.mid c.colon_type.result _ c.in_err-bound.ensures c.colon_type.ensures))

pub returns : goal.returns
returns c = named_from c.in_ok-name.ensures (from_near rows.colon_type written_type c.args.tokens.now c.in_ok-name.mid c.colon_type.result _ c.in_ok-bound.ensures c.colon_type.ensures)
