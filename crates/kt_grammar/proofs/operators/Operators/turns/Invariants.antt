use Rattle.std.proofs.Common.{◌-◌, length}
use Rattle.kt_grammar.specs.Signs.{turns_of, all_of}
use Rattle.kt_grammar.specs.Parsed.{ResumesOn}
use Rattle.kt_grammar.proofs.operators.Operators.turns.Given as goal

abbrev pub invariant-loop-token : goal.invariant-loop-token
invariant-loop-token g l = ResumesOn (turns_of l.level) (all_of l.level) l.self.tokens.now l.fn.at l.fn.left l.at l.left

abbrev pub decreases-loop-token : goal.decreases-loop-token
decreases-loop-token g l = length l.self.tokens.now - l.at.at
