use Rattle.std.proofs.lemmas.Result.{err_from_is_err_and}
use Rattle.kt_files.proofs.FileRows.{has_declarations, content_from}
use Rattle.kt_grammar.proofs.Advances.{halts_first, halts_second}
use Rattle.kt_files.proofs.files.behind_package.Goals as goal

pub returns-in_err-imports : goal.returns-in_err-imports
returns-in_err-imports c = let p = err_from_is_err_and c.from_residual.result c.from_residual.ensures.1 in rw (p.1, p.2) (halts_first has_declarations c.in_err-imports.ensures)

pub returns-in_err-decls : goal.returns-in_err-decls
returns-in_err-decls c = let p = err_from_is_err_and c.from_residual-in_err-decls.result c.from_residual-in_err-decls.ensures.1 in
    rw (p.1, p.2) (let q = c.in_ok-imports.ensures in halts_second q.read q.so_far c.in_err-decls.ensures)

pub returns : goal.returns
returns c = content_from c.in_ok-imports.ensures c.in_ok-decls.ensures
