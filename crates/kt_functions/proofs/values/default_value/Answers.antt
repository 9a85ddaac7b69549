use Rattle.std.proofs.lemmas.Result.{err_from_is_err_and}
use Rattle.kt_grammar.proofs.Advances.{halts_left, halts_after}
use Rattle.kt_grammar.proofs.Steps.{standing}
use Rattle.kt_functions.proofs.ValueRows.{no_default, default_from}
use Rattle.kt_functions.proofs.values.default_value.Goals as goal

pub returns-in_default : goal.returns-in_default
returns-in_default c = no_default c.requires.within c.in_default.ensures

pub returns-in_err-value : goal.returns-in_err-value
returns-in_err-value c = let p = err_from_is_err_and c.from_residual.result c.from_residual.ensures.1 in rw (p.1, p.2) (let o = c.in-Some.ensures in halts_left c.requires.within (standing o.taken) (halts_after o.taken o.so_far c.in_err-value.ensures))

pub returns : goal.returns
returns c = default_from c.in-Some.ensures c.in_ok-value.ensures
