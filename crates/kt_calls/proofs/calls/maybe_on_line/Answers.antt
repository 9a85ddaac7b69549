use Rattle.std.proofs.Common.{sym, ◌∙◌}
use Rattle.kt_calls.proofs.CallRows.{maybe_from, none_on_line}
use Rattle.kt_calls.proofs.calls.maybe_on_line.Goals as goal

pub returns-then-not-begins_trailing_at : goal.returns-then-not-begins_trailing_at
returns-then-not-begins_trailing_at g c = none_on_line c.args.before c.requires.within (sym c.begins_trailing_at.ensures ∙ c.if-not-begins_trailing_at.true)

pub returns : goal.returns
returns g c = maybe_from c.args.before c.args.bodies.now.tokens.now c.args.at c.requires.within (sym c.begins_trailing_at.ensures ∙ c.if-not-begins_trailing_at.false) c.trailing.result c.trailing.ensures
