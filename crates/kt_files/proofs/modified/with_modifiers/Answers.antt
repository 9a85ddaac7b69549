use Rattle.std.proofs.lemmas.Result.{err_from_is_err_and}
use Rattle.kt_files.proofs.ModifierRows.{modifies_more}
use Rattle.kt_files.proofs.UnmodifiedRows.{modifiers_end}
use Rattle.kt_grammar.specs.Parsed.{halt_memory}
use Rattle.kt_files.proofs.modified.with_modifiers.Goals as goal

pub returns-in_err-push : goal.returns-in_err-push
returns-in_err-push c = let p = err_from_is_err_and c.from_residual.result c.from_residual.ensures.1 in rw (p.1, p.2) (halt_memory)

pub loop-found-preserved : goal.loop-found-preserved
loop-found-preserved c = modifies_more c.loop-found.invariant c.in-Some.ensures c.stood_by-is_abstract.ensures c.stood_by-is_enum.ensures c.in_ok-push.ensures.ok

pub returns : goal.returns
returns c = let v = c.loop-found.invariant in
    v.whole c.behind_modifiers.result (modifiers_end c.loop-found.is_abstract c.loop-found.is_enum c.loop-found.mods c.args.tokens.now c.loop-found.at v.within c.in_default.ensures c.behind_modifiers.result c.behind_modifiers.ensures)
