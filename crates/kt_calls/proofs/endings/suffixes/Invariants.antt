use Rattle.std.proofs.Common.{◌-◌, length}
use Rattle.kt_calls.specs.Suffixes.{suffixes}
use Rattle.kt_grammar.specs.Built as built
use Rattle.kt_grammar.specs.Parsed.{ResumesOn}
use Rattle.kt_calls.proofs.endings.suffixes.Given as goal

abbrev pub invariant-loop-left : goal.invariant-loop-left
invariant-loop-left g l = ResumesOn suffixes built.suffixes_of l.bodies.tokens.now l.fn.at l.fn.left l.at l.left

abbrev pub decreases-loop-left : goal.decreases-loop-left
decreases-loop-left g l = length l.bodies.tokens.now - l.at.at
