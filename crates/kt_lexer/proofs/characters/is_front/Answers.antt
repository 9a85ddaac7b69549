use Rattle.std.proofs.Common.{sym}
use Rattle.kt_lexer.proofs.Fronts.{shorter}
use Rattle.kt_lexer.proofs.characters.is_front.Goals as goal

pub returns-then-text-spelling-clause-value : goal.returns-then-text-spelling-clause-value
returns-then-text-spelling-clause-value c = sym (shorter c.args.spelling.now c.args.text.now c.if-text-spelling.true)
