use Rattle.std.proofs.Common.{sym, ◌∙◌}
use Rattle.std.proofs.lemmas.Result.{err_from_is_err_and}
use Rattle.kt_functions.proofs.ValueRows.{abstract_body, no_body, some_body, body_halts}
use Rattle.kt_functions.proofs.values.written_body.Goals as goal

pub returns-then-is_abstract : goal.returns-then-is_abstract
returns-then-is_abstract c = abstract_body c.args.is_abstract c.if-is_abstract.true c.requires.within

pub returns-then-not-begins_body : goal.returns-then-not-begins_body
returns-then-not-begins_body c = no_body c.args.is_abstract c.if-is_abstract.false c.requires.within (sym c.begins_body.ensures ∙ c.if-not-begins_body.true)

pub returns-in_err-found : goal.returns-in_err-found
returns-in_err-found c =
    let p = err_from_is_err_and c.from_residual.result c.from_residual.ensures.1 in
    rw (p.1, p.2) (body_halts c.args.is_abstract c.if-is_abstract.false c.requires.within (sym c.begins_body.ensures ∙ c.if-not-begins_body.false) c.in_err-found.ensures)

pub returns : goal.returns
returns c = some_body c.args.is_abstract c.if-is_abstract.false (sym c.begins_body.ensures ∙ c.if-not-begins_body.false) c.in_ok-found.ensures
