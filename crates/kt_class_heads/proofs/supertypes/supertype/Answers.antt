use Rattle.std.proofs.lemmas.Result.{err_from_is_err_and}
use Rattle.grammars.specs.Grammar.{row}
use Rattle.kt_grammar.specs.Parsed.{halt_memory}
use Rattle.kt_grammar.specs.Rows as rows
use Rattle.kt_grammar.specs.TypesBuilt as types_built
use Rattle.kt_grammar.proofs.Advances.{halts_row, halts_first, halts_second}
use Rattle.kt_grammar.proofs.OperandRows.{from_near}
use Rattle.kt_class_heads.proofs.ArgumentRows.{has_no_arguments}
use Rattle.kt_class_heads.proofs.SupertypeRows.{supertype_from}
use Rattle.kt_class_heads.proofs.supertypes.supertype.Goals as goal

pub returns-in_err-ty : goal.returns-in_err-ty
returns-in_err-ty c = let p = err_from_is_err_and c.from_residual.result c.from_residual.ensures.1 in rw (p.1, p.2) (halts_row (halts_first has_no_arguments (from_near (row rows.type_) types_built.type_of c.args.tokens.now c.args.at c.type_at.result _ c.in_err-ty.ensures c.type_at.ensures)))

pub returns-in_err-args : goal.returns-in_err-args
returns-in_err-args c = let p = err_from_is_err_and c.from_residual-in_err-args.result c.from_residual-in_err-args.ensures.1 in rw (p.1, p.2) (let q = (from_near (row rows.type_) types_built.type_of c.args.tokens.now c.args.at c.type_at.result _ c.in_ok-ty.ensures c.type_at.ensures) in halts_row (halts_second q.read q.so_far c.in_err-args.ensures))

pub returns-in_err-push : goal.returns-in_err-push
returns-in_err-push c = let p = err_from_is_err_and c.from_residual-in_err-push.result c.from_residual-in_err-push.ensures.1 in rw (p.1, p.2) (halt_memory)

pub returns : goal.returns
returns c = supertype_from c.args.before c.push.new.self (from_near (row rows.type_) types_built.type_of c.args.tokens.now c.args.at c.type_at.result _ c.in_ok-ty.ensures c.type_at.ensures) c.in_ok-args.ensures c.span_between-span.ensures c.in_ok-push.ensures.ok
