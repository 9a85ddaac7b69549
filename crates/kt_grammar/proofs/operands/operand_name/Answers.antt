use Rattle.std.proofs.Common.{sym, ◌∙◌}
use Rattle.std.proofs.lemmas.Result.{err_from_is_err_and}
use Rattle.grammars.specs.Grammar.{row}
use Rattle.kt_grammar.specs.Parsed.{halt_memory}
use Rattle.kt_grammar.specs.Rows as rows
use Rattle.kt_grammar.specs.TypesBuilt as built
use Rattle.kt_grammar.proofs.Advances.{halts_first}
use Rattle.kt_grammar.proofs.OperandRows.{has_no_form, operand_bare, operand_arguments, operand_halts, not_held, held, from_near}
use Rattle.kt_grammar.proofs.operands.operand_name.Goals as goal

pub returns-in_err-words : goal.returns-in_err-words
returns-in_err-words c =
    let p = err_from_is_err_and c.from_residual.result c.from_residual.ensures.1 in
    rw (p.1, p.2) (halts_first has_no_form (from_near (row rows.dotted) built.words_of c.args.tokens.now c.args.at c.dotted.result _ c.in_err-words.ensures c.dotted.ensures))

pub returns-in_err-look : goal.returns-in_err-look
returns-in_err-look c = let p = err_from_is_err_and c.from_residual-in_err-look.result c.from_residual-in_err-look.ensures.1 in rw (p.1, p.2) (halt_memory)

pub returns-then-not-look : goal.returns-then-not-look
returns-then-not-look c =
    operand_bare c.span_between-span.result c.in_ok-look.look.end c.seen-mid.result (from_near (row rows.dotted) built.words_of c.args.tokens.now c.args.at c.dotted.result _ c.in_ok-words.ensures c.dotted.ensures)
    (sym c.in_ok-look.ensures.0 ∙ not_held c.in_ok-look.look.holds c.if-not-look.true) c.in_ok-look.ensures.1 c.seen-mid.ensures c.span_between-span.ensures c.new.ensures

pub returns-in_err-arguments : goal.returns-in_err-arguments
returns-in_err-arguments c =
    let p = err_from_is_err_and c.from_residual-in_err-arguments.result c.from_residual-in_err-arguments.ensures.1 in
    rw (p.1, p.2) (operand_halts c.in_ok-look.look.end c.seen-mid.result (from_near (row rows.dotted) built.words_of c.args.tokens.now c.args.at c.dotted.result _ c.in_ok-words.ensures c.dotted.ensures)
    (sym c.in_ok-look.ensures.0 ∙ held c.in_ok-look.look.holds c.if-not-look.false) c.in_ok-look.ensures.1 c.seen-mid.ensures
    (from_near (row rows.type_arguments) built.type_arguments_of c.args.tokens.now c.seen-mid.result c.type_arguments.result _ c.in_err-arguments.ensures c.type_arguments.ensures))

pub returns : goal.returns
returns c =
    operand_arguments c.span_between-span-2.result c.in_ok-look.look.end c.seen-mid.result (from_near (row rows.dotted) built.words_of c.args.tokens.now c.args.at c.dotted.result _ c.in_ok-words.ensures c.dotted.ensures)
    (sym c.in_ok-look.ensures.0 ∙ held c.in_ok-look.look.holds c.if-not-look.false) c.in_ok-look.ensures.1 c.seen-mid.ensures
    (from_near (row rows.type_arguments) built.type_arguments_of c.args.tokens.now c.seen-mid.result c.type_arguments.result _ c.in_ok-arguments.ensures c.type_arguments.ensures) c.span_between-span-2.ensures
