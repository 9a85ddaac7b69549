use Rattle.std.proofs.lemmas.Result.{err_from_is_err_and}
use Rattle.kt_grammar.proofs.Advances.{halts_row, halts_first, halts_second, halts_after}
use Rattle.kt_functions.specs.Sites.{site_of}
use Rattle.kt_functions.proofs.FunctionRows.{has_named, has_behind_word, function_from}
use Rattle.kt_functions.proofs.functions.function.Goals as goal

pub returns-in_err-next : goal.returns-in_err-next
returns-in_err-next c = let p = err_from_is_err_and c.from_residual.result c.from_residual.ensures.1 in rw (p.1, p.2) (halts_row (halts_first (has_behind_word c.args.is_abstract (site_of c.args.site)) c.in_err-next.ensures))

pub returns-in_err-params : goal.returns-in_err-params
returns-in_err-params c =
    let p = err_from_is_err_and c.from_residual-in_err-params.result c.from_residual-in_err-params.ensures.1 in
    rw (p.1, p.2) (let o = c.in_ok-next.ensures in halts_row (halts_after o.taken o.so_far (halts_first (has_named c.args.is_abstract (site_of c.args.site)) c.in_err-params.ensures)))

pub returns-in_err-named : goal.returns-in_err-named
returns-in_err-named c =
    let p = err_from_is_err_and c.from_residual-in_err-named.result c.from_residual-in_err-named.ensures.1 in
    rw (p.1, p.2) (let o = c.in_ok-next.ensures in let x = c.in_ok-params.ensures in halts_row (halts_after o.taken o.so_far (halts_second x.read x.so_far c.in_err-named.ensures)))

pub returns : goal.returns
returns c = function_from c.args.is_abstract (site_of c.args.site) c.in_ok-next.ensures c.in_ok-params.ensures c.in_ok-named.ensures c.assembled.ensures
