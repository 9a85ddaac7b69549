use Rattle.std.proofs.lemmas.Result.{err_from_is_err_and}
use Rattle.kt_grammar.proofs.CastRows.{typed_from, typed_wanted}
use Rattle.kt_grammar.proofs.casts.typed_turn.Goals as goal

pub returns-in_err-token : goal.returns-in_err-token
returns-in_err-token c = let p = err_from_is_err_and c.from_residual.result c.from_residual.ensures.1 in rw (p.1, p.2) (typed_wanted c.requires c.in_err-token.ensures.0 c.in_err-token.ensures.1)

pub returns : goal.returns
returns c = typed_from c.args.left c.in_ok-token.ensures c.type_check.result c.type_check.ensures
