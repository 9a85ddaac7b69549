use Rattle.std.proofs.Common.{◌++◌}
use Rattle.std.proofs.lemmas.Result.{err_from_is_err_and}
use Rattle.grammars.specs.Grammar.{row}
use Rattle.kt_grammar.specs.Built as built
use Rattle.kt_grammar.specs.Parsed.{halt_memory}
use Rattle.kt_grammar.specs.Rows as rows
use Rattle.kt_grammar.proofs.Advances.{halts_first, halts_after}
use Rattle.kt_grammar.proofs.NameRows.{has_bare_end}
use Rattle.kt_grammar.proofs.OperandRows.{from_near}
use Rattle.kt_control.proofs.LoopRows.{bare_from}
use Rattle.kt_control.proofs.loops.bare_inside.Goals as goal

pub returns-in_err-name : goal.returns-in_err-name
returns-in_err-name c = let p = err_from_is_err_and c.from_residual.result c.from_residual.ensures.1 in rw (p.1, p.2) (halts_first has_bare_end c.in_err-name.ensures)

pub returns-in_err-first : goal.returns-in_err-first
returns-in_err-first c = let p = err_from_is_err_and c.from_residual-in_err-first.result c.from_residual-in_err-first.ensures.1 in rw (p.1, p.2) (halt_memory)

pub returns-in_err-all : goal.returns-in_err-all
returns-in_err-all c = let p = err_from_is_err_and c.from_residual-in_err-all.result c.from_residual-in_err-all.ensures.1 in rw (p.1, p.2) (let n = c.in_ok-name.ensures in halts_after n.taken n.so_far
    (from_near (row rows.bare_names) (λ x. c.in_ok-first.first ++ built.bare_names_of x) c.args.tokens.now c.in_ok-name.mid c.bare_names.result _ c.in_err-all.ensures c.bare_names.ensures))

pub returns : goal.returns
returns c = bare_from c.in_ok-first.first c.in_ok-all.all c.in_ok-name.ensures c.in_ok-first.ensures
    (from_near (row rows.bare_names) (λ x. c.in_ok-first.first ++ built.bare_names_of x) c.args.tokens.now c.in_ok-name.mid c.bare_names.result _ c.in_ok-all.ensures c.bare_names.ensures)
