use Rattle.std.proofs.lemmas.Result.{err_from_is_err_and}
use Rattle.kt_grammar.specs.Parsed.{halt_memory}
use Rattle.kt_functions.specs.Sites.{site_of}
use Rattle.kt_members.proofs.ModifierRows.{modifies_more, modifiers_end}
use Rattle.kt_members.proofs.modified.with_modifiers.Goals as goal

pub returns-in_err-push : goal.returns-in_err-push
returns-in_err-push c = let p = err_from_is_err_and c.from_residual.result c.from_residual.ensures.1 in rw (p.1, p.2) (halt_memory)

pub loop-found-preserved : goal.loop-found-preserved
loop-found-preserved c = modifies_more (site_of c.args.site) c.loop-found.invariant c.in-Some.ensures c.is_abstract_by-is_abstract.ensures c.in_ok-push.ensures.ok

pub returns : goal.returns
returns c = let v = c.loop-found.invariant in
    v.whole c.behind_modifiers.result (modifiers_end (site_of c.args.site) c.loop-found.is_abstract c.loop-found.mods c.args.tokens.now c.loop-found.at v.within c.in_default.ensures c.behind_modifiers.result c.behind_modifiers.ensures)
