use Rattle.std.proofs.Common.{refl, drop}
use Rattle.std.proofs.lemmas.Result.{err_from_is_err_and}
use Rattle.grammars.specs.Grammar.{first}
use Rattle.kt_grammar.specs.Rows as rows
use Rattle.kt_grammar.specs.Rows.{question_marks}
use Rattle.kt_grammar.specs.TypesBuilt as built
use Rattle.kt_grammar.proofs.Advances.{halts_row, halts_first}
use Rattle.kt_grammar.proofs.OperandRows.{core_part, marks_from, from_near}
use Rattle.kt_grammar.proofs.TypeRows.{has_marks}
use Rattle.kt_grammar.proofs.operands.operand_type.Goals as goal

pub returns-in_err-core : goal.returns-in_err-core
returns-in_err-core c = let p = err_from_is_err_and c.from_residual.result c.from_residual.ensures.1 in rw (p.1, p.2) (halts_row (halts_first has_marks c.in_err-core.ensures))

pub returns : goal.returns
returns c =
    marks_from rows.operand_type core_part refl refl c.in_ok-core.ensures c.behind.result
    (from_near question_marks (built.nullables (first (drop c.args.at.at c.args.tokens.now)) c.in_ok-core.core) c.args.tokens.now c.in_ok-core.end c.nullables.result c.behind.result c.behind.ensures c.nullables.ensures)
