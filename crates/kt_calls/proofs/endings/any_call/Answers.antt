use Rattle.std.proofs.Common.{sym, ◌∙◌}
use Rattle.kt_calls.proofs.SuffixRows.{call_typed, call_plain}
use Rattle.kt_calls.proofs.endings.any_call.Goals as goal

pub returns-then-is_mark_at : goal.returns-then-is_mark_at
returns-then-is_mark_at g c = call_typed c.args.bodies.now.tokens.now c.args.at c.requires.within (sym c.is_mark_at.ensures ∙ c.if-is_mark_at.true) c.typed_call.result c.typed_call.ensures

pub returns : goal.returns
returns g c = call_plain c.new.result c.args.bodies.now.tokens.now c.args.at c.requires.within (sym c.is_mark_at.ensures ∙ c.if-is_mark_at.false) c.new.ensures c.called.result c.called.ensures
