use Rattle.std.proofs.lemmas.Result.{err_from_is_err_and}
use Rattle.kt_members.proofs.PropertyRows.{accessed_from}
use Rattle.kt_members.proofs.properties.property_with_accessors.Goals as goal

pub returns-in_err-accessors : goal.returns-in_err-accessors
returns-in_err-accessors c = let p = err_from_is_err_and c.from_residual.result c.from_residual.ensures.1 in rw (p.1, p.2) (c.in_err-accessors.ensures)

pub returns : goal.returns
returns c = accessed_from c.args.is_var c.args.name c.args.ty c.in_ok-accessors.ensures c.with_accessors.ensures
