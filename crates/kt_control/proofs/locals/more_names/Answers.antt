use Rattle.std.proofs.Common.{◌++◌}
use Rattle.std.proofs.lemmas.Result.{err_from_is_err_and}
use Rattle.grammars.specs.Grammar.{row}
use Rattle.kt_grammar.specs.Built as built
use Rattle.kt_grammar.specs.Rows as rows
use Rattle.kt_grammar.proofs.Advances.{halts_left, halts_after}
use Rattle.kt_grammar.proofs.OperandRows.{from_near}
use Rattle.kt_grammar.proofs.Steps.{standing}
use Rattle.kt_control.proofs.LocalRows.{no_more, more_from}
use Rattle.kt_control.proofs.locals.more_names.Goals as goal

pub returns-in_default : goal.returns-in_default
returns-in_default c = no_more c.args.before c.requires c.in_default.ensures

pub returns-in_err-all : goal.returns-in_err-all
returns-in_err-all c = let p = err_from_is_err_and c.from_residual.result c.from_residual.ensures.1 in rw (p.1, p.2) (let o = c.in-Some.ensures in halts_left c.requires (standing o.taken) (halts_after o.taken o.so_far
    (from_near (row rows.names) (λ x. c.args.before ++ built.names_of x) c.args.tokens.now c.in-Some.next c.names.result _ c.in_err-all.ensures c.names.ensures)))

pub returns : goal.returns
returns c = more_from c.args.before c.in_ok-all.all c.in-Some.ensures (from_near (row rows.names) (λ x. c.args.before ++ built.names_of x) c.args.tokens.now c.in-Some.next c.names.result _ c.in_ok-all.ensures c.names.ensures)
