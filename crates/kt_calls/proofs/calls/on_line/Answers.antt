use Rattle.std.proofs.Common.{sym, ◌∙◌}
use Rattle.kt_calls.proofs.CallRows.{on_line_from, on_line_wanted}
use Rattle.kt_calls.proofs.calls.on_line.Goals as goal

pub returns-then-not-begins_trailing_at : goal.returns-then-not-begins_trailing_at
returns-then-not-begins_trailing_at g c = on_line_wanted c.requires.within (sym c.begins_trailing_at.ensures ∙ c.if-not-begins_trailing_at.true) c.fault.ensures

pub returns : goal.returns
returns g c = on_line_from c.args.before c.args.bodies.now.tokens.now c.args.at c.requires.within (sym c.begins_trailing_at.ensures ∙ c.if-not-begins_trailing_at.false) c.trailing.result c.trailing.ensures
