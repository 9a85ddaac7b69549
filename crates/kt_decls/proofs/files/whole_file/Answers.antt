use Rattle.std.proofs.Common.{arith}
use Rattle.std.proofs.lemmas.Result.{err_from_is_err_and}
use Rattle.kt_decls.proofs.FileRows.{from_halts, left_over, all_read}
use Rattle.kt_decls.proofs.files.whole_file.Goals as goal

pub returns-in_err-looks : goal.returns-in_err-looks
returns-in_err-looks c = let p = err_from_is_err_and c.from_residual.result c.from_residual.ensures.1 in rw (p.1, p.2) tt

pub returns-in_err-found : goal.returns-in_err-found
returns-in_err-found c = let p = err_from_is_err_and c.from_residual-in_err-found.result c.from_residual-in_err-found.ensures.1 in rw (p.1) (from_halts (rw p.2 c.in_err-found.ensures))

pub returns-then-end-tokens : goal.returns-then-end-tokens
returns-then-end-tokens c = left_over c.in_ok-found.ensures (omega arith) c.fault.ensures

pub returns : goal.returns
returns c = all_read c.in_ok-found.ensures (omega arith)
