use Rattle.std.proofs.Common.{◌-◌, length}
use Rattle.kt_grammar.specs.Built as built
use Rattle.kt_grammar.specs.Rows as rows
use Rattle.kt_grammar.specs.Parsed.{ResumesOn}
use Rattle.kt_grammar.proofs.operators.Operators.named_turns.Given as goal

abbrev pub invariant-loop-left : goal.invariant-loop-left
invariant-loop-left g l = ResumesOn rows.named_turns built.named_turns_of l.self.tokens.now l.fn.at l.fn.left l.at l.left

abbrev pub decreases-loop-left : goal.decreases-loop-left
decreases-loop-left g l = length l.self.tokens.now - l.at.at
