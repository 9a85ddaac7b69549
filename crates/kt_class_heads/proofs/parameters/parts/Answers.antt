use Rattle.std.proofs.lemmas.Result.{err_from_is_err_and}
use Rattle.kt_class_heads.proofs.ParameterRows.{has_behind_modifiers, parts_from}
use Rattle.kt_grammar.proofs.Advances.{halts_first, halts_second}
use Rattle.kt_class_heads.proofs.parameters.parts.Goals as goal

pub returns-in_err-mods : goal.returns-in_err-mods
returns-in_err-mods c = let p = err_from_is_err_and c.from_residual.result c.from_residual.ensures.1 in rw (p.1, p.2) (halts_first has_behind_modifiers c.in_err-mods.ensures)

pub returns-in_err-typed : goal.returns-in_err-typed
returns-in_err-typed c =
    let p = err_from_is_err_and c.from_residual-in_err-typed.result c.from_residual-in_err-typed.ensures.1 in
    rw (p.1, p.2) (let m = c.in_ok-mods.ensures in let k = c.kept.ensures in halts_second m.read m.so_far (halts_second k.read k.so_far c.in_err-typed.ensures))

pub returns : goal.returns
returns c = parts_from c.in_ok-mods.ensures c.kept.ensures c.in_ok-typed.ensures
