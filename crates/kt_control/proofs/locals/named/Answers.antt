use Rattle.std.proofs.Common.{◌++◌}
use Rattle.std.proofs.lemmas.Result.{err_from_is_err_and}
use Rattle.grammars.specs.Grammar.{row}
use Rattle.kt_grammar.specs.Built as built
use Rattle.kt_grammar.specs.Rows as rows
use Rattle.kt_grammar.proofs.Advances.{halts_first, halts_second}
use Rattle.kt_grammar.proofs.OperandRows.{from_near}
use Rattle.kt_control.proofs.LocalRows.{has_no_more, named_from}
use Rattle.kt_control.proofs.locals.named.Goals as goal

pub returns-in_err-first : goal.returns-in_err-first
returns-in_err-first c = let p = err_from_is_err_and c.from_residual.result c.from_residual.ensures.1 in rw (p.1, p.2) (halts_first has_no_more
    (from_near (row rows.typed_name) (λ x. c.new-none.result ++ built.typed_name_of x) c.args.tokens.now c.args.at c.typed_name.result _ c.in_err-first.ensures c.typed_name.ensures))

pub returns-in_err-all : goal.returns-in_err-all
returns-in_err-all c = let p = err_from_is_err_and c.from_residual-in_err-all.result c.from_residual-in_err-all.ensures.1 in rw (p.1, p.2)
    (let q = from_near (row rows.typed_name) (λ x. c.new-none.result ++ built.typed_name_of x) c.args.tokens.now c.args.at c.typed_name.result _ c.in_ok-first.ensures c.typed_name.ensures in halts_second q.read q.so_far c.in_err-all.ensures)

pub returns : goal.returns
returns c = named_from c.new-none.ensures (from_near (row rows.typed_name) (λ x. c.new-none.result ++ built.typed_name_of x) c.args.tokens.now c.args.at c.typed_name.result _ c.in_ok-first.ensures c.typed_name.ensures) c.in_ok-all.ensures
