use Rattle.std.proofs.lemmas.Result.{err_from_is_err_and}
use Rattle.kt_grammar.proofs.Advances.{halts_first, halts_second}
use Rattle.kt_functions.specs.Sites.{site_of}
use Rattle.kt_functions.proofs.FunctionRows.{has_signature, named_from}
use Rattle.kt_functions.proofs.functions.from_name.Goals as goal

pub returns-in_err-name : goal.returns-in_err-name
returns-in_err-name c = let p = err_from_is_err_and c.from_residual.result c.from_residual.ensures.1 in rw (p.1, p.2) (halts_first (has_signature c.args.is_abstract) c.in_err-name.ensures)

pub returns-in_err-signature : goal.returns-in_err-signature
returns-in_err-signature c = let p = err_from_is_err_and c.from_residual-in_err-signature.result c.from_residual-in_err-signature.ensures.1 in rw (p.1, p.2) (let x = c.in_ok-name.ensures in halts_second x.read x.so_far c.in_err-signature.ensures)

pub returns : goal.returns
returns c = named_from c.args.is_abstract (site_of c.args.site) c.in_ok-name.ensures c.in_ok-signature.ensures
