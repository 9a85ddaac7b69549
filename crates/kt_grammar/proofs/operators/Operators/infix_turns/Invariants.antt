use Rattle.std.proofs.Common.{◌-◌, length}
use Rattle.kt_grammar.specs.Built as built
use Rattle.kt_grammar.specs.Rows as rows
use Rattle.kt_grammar.specs.Parsed.{ResumesOn}
use Rattle.kt_grammar.proofs.operators.Operators.infix_turns.Given as goal

abbrev pub invariant-loop-token : goal.invariant-loop-token
invariant-loop-token g l = ResumesOn rows.infix_turns built.infix_turns_of l.self.tokens.now l.fn.at l.fn.left l.at l.left

abbrev pub decreases-loop-token : goal.decreases-loop-token
decreases-loop-token g l = length l.self.tokens.now - l.at.at
