use Rattle.std.proofs.lemmas.Result.{err_from_is_err_and}
use Rattle.std.proofs.Common.{sym, ◌∙◌}
use Rattle.kt_grammar.proofs.Advances.{halts_right}
use Rattle.kt_bodies.proofs.TryRows.{clauses_catching, clauses_last}
use Rattle.kt_bodies.proofs.bodies.Bodies.clauses.Goals as goal

pub returns-then-is_at : goal.returns-then-is_at
returns-then-is_at g c = clauses_catching c.args.self.now.tokens.now c.args.at c.requires.within (sym c.is_at.ensures ∙ c.if-is_at.true) c.with_catches.result c.with_catches.ensures

pub returns-in_err-last : goal.returns-in_err-last
returns-in_err-last g c = let p = err_from_is_err_and c.from_residual.result c.from_residual.ensures.1 in rw (p.1, p.2) (halts_right c.requires.within (sym c.is_at.ensures ∙ c.if-is_at.false) c.in_err-last.ensures)

pub returns : goal.returns
returns g c = clauses_last (sym c.is_at.ensures ∙ c.if-is_at.false) c.in_ok-last.ensures c.new-catches.ensures
