use Rattle.std.proofs.lemmas.Result.{err_from_is_err_and}
use Rattle.kt_files.proofs.UnmodifiedRows.{mods_kept}
use Rattle.kt_files.proofs.modified.behind_modifiers.Goals as goal

pub returns-in_err-kind : goal.returns-in_err-kind
returns-in_err-kind c = let p = err_from_is_err_and c.from_residual.result c.from_residual.ensures.1 in rw (p.1, p.2) c.in_err-kind.ensures

pub returns : goal.returns
returns c = mods_kept c.args.is_abstract c.args.is_enum c.args.mods c.in_ok-kind.ensures
