use Rattle.std.proofs.lemmas.Result.{err_from_is_err_and}
use Rattle.kt_files.proofs.FileRows.{has_behind_package, file_from}
use Rattle.kt_grammar.proofs.Advances.{halts_row, halts_first, halts_second}
use Rattle.kt_files.proofs.files.file.Goals as goal

pub returns-in_err-package : goal.returns-in_err-package
returns-in_err-package c = let p = err_from_is_err_and c.from_residual.result c.from_residual.ensures.1 in rw (p.1, p.2) (halts_row (halts_first has_behind_package c.in_err-package.ensures))

pub returns-in_err-content : goal.returns-in_err-content
returns-in_err-content c = let p = err_from_is_err_and c.from_residual-in_err-content.result c.from_residual-in_err-content.ensures.1 in
    rw (p.1, p.2) (let q = c.in_ok-package.ensures in halts_row (halts_second q.read q.so_far c.in_err-content.ensures))

pub returns : goal.returns
returns c = file_from c.in_ok-package.ensures c.in_ok-content.ensures c.span_over-span.ensures c.file_at.ensures
