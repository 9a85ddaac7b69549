use Rattle.std.proofs.lemmas.Result.{err_from_is_err_and}
use Rattle.kt_grammar.specs.Parsed.{halt_memory}
use Rattle.kt_grammar.proofs.Advances.{halts_row}
use Rattle.kt_calls.proofs.SuffixRows.{suffix_from}
use Rattle.kt_calls.proofs.endings.suffix.Goals as goal

pub returns-in_err-found : goal.returns-in_err-found
returns-in_err-found g c = let p = err_from_is_err_and c.from_residual.result c.from_residual.ensures.1 in rw (p.1, p.2) (halts_row c.in_err-found.ensures)

pub returns-in_err-whole : goal.returns-in_err-whole
returns-in_err-whole g c = let p = err_from_is_err_and c.from_residual-in_err-whole.result c.from_residual-in_err-whole.ensures.1 in rw (p.1, p.2) (halt_memory)

pub returns : goal.returns
returns g c = suffix_from c.args.left c.in_ok-whole.whole c.in_ok-found.ensures c.in_ok-whole.ensures
