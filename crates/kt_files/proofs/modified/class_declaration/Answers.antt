use Rattle.std.proofs.lemmas.Result.{err_from_is_err_and}
use Rattle.kc_tree.specs.declared.decl.DeclKind.TheVariants as decl_kind
use Rattle.kt_files.proofs.UnmodifiedRows.{kept_as}
use Rattle.kt_files.proofs.modified.class_declaration.Goals as goal

pub returns-in_err-found : goal.returns-in_err-found
returns-in_err-found c = let p = err_from_is_err_and c.from_residual.result c.from_residual.ensures.1 in rw (p.1, p.2) c.in_err-found.ensures

pub returns : goal.returns
returns c = kept_as decl_kind.Class c.in_ok-found.ensures
