use Rattle.std.proofs.lemmas.Result.{err_from_is_err_and}
use Rattle.kt_lexer.specs.declared.token.Operator.TheVariants as operator
use Rattle.kt_grammar.proofs.Advances.{halts_left, halts_first, halts_second, halts_after}
use Rattle.kt_grammar.proofs.Steps.{standing}
use Rattle.kt_grammar.proofs.TypeRows.{has_op}
use Rattle.kt_class_heads.proofs.ArgumentRows.{no_arguments, arguments_from}
use Rattle.kt_class_heads.proofs.arguments.written_arguments.Goals as goal

pub returns-in_default : goal.returns-in_default
returns-in_default c = no_arguments c.requires.within c.in_default.ensures

pub returns-in_err-all : goal.returns-in_err-all
returns-in_err-all c = let p = err_from_is_err_and c.from_residual.result c.from_residual.ensures.1 in rw (p.1, p.2) (let o = c.in-Some.ensures in halts_left c.requires.within (standing o.taken) (halts_after o.taken o.so_far (halts_first (has_op operator.CloseRound) c.in_err-all.ensures)))

pub returns-in_err-end : goal.returns-in_err-end
returns-in_err-end c = let p = err_from_is_err_and c.from_residual-in_err-end.result c.from_residual-in_err-end.ensures.1 in rw (p.1, p.2) (let o = c.in-Some.ensures in let q = c.in_ok-all.ensures in halts_left c.requires.within (standing o.taken) (halts_after o.taken o.so_far (halts_second q.read q.so_far c.in_err-end.ensures)))

pub returns : goal.returns
returns c = arguments_from c.in-Some.ensures c.in_ok-all.ensures c.in_ok-end.ensures
