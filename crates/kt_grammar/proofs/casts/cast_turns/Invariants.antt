use Rattle.std.proofs.Common.{◌-◌, length}
use Rattle.kt_grammar.specs.Built as built
use Rattle.kt_grammar.specs.Parsed.{ResumesOn}
use Rattle.kt_grammar.specs.Rows as rows
use Rattle.kt_grammar.proofs.casts.cast_turns.Given as goal

abbrev pub invariant-loop-token : goal.invariant-loop-token
invariant-loop-token l = ResumesOn rows.cast_turns built.cast_turns_of l.tokens l.fn.at l.fn.left l.at l.left

abbrev pub decreases-loop-token : goal.decreases-loop-token
decreases-loop-token l = length l.tokens - l.at.at
