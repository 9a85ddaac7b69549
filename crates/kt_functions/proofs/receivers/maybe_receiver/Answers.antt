use Rattle.std.proofs.Common.{sym, drop, ◌∙◌}
use Rattle.grammars.specs.Grammar.{first}
use Rattle.kt_functions.proofs.ReceiverRows.{no_receiver, a_receiver}
use Rattle.kt_functions.proofs.receivers.maybe_receiver.Goals as goal

pub returns-then-not-is_receiver : goal.returns-then-not-is_receiver
returns-then-not-is_receiver c = no_receiver (first (drop c.args.start c.args.tokens.now)) c.args.name c.requires (sym c.is_receiver.ensures ∙ c.if-not-is_receiver.true)

pub returns : goal.returns
returns c = a_receiver c.args.tokens.now c.args.at (first (drop c.args.start c.args.tokens.now)) c.args.name c.requires (sym c.is_receiver.ensures ∙ c.if-not-is_receiver.false) c.behind_name.result c.behind_name.ensures
