use Rattle.std.proofs.Common.{sym, ◌∙◌}
use Rattle.kt_calls.proofs.CallRows.{call_brackets, call_lambda}
use Rattle.kt_calls.proofs.calls.call.Goals as goal

pub returns-then-is_mark_at : goal.returns-then-is_mark_at
returns-then-is_mark_at g c = call_brackets c.args.bodies.now.tokens.now c.args.at c.requires.within (sym c.is_mark_at.ensures ∙ c.if-is_mark_at.true) c.with_brackets.result c.with_brackets.ensures

pub returns : goal.returns
returns g c = call_lambda c.new.result c.args.bodies.now.tokens.now c.args.at c.requires.within (sym c.is_mark_at.ensures ∙ c.if-is_mark_at.false) c.new.ensures c.on_line.result c.on_line.ensures
