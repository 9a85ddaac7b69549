use Rattle.std.proofs.Common.{◌++◌, ◌-◌, length}
use Rattle.kt_calls.specs.Strings.{all_pieces}
use Rattle.kt_grammar.specs.Built as built
use Rattle.kt_grammar.specs.Parsed.{ResumesOn}
use Rattle.kt_calls.proofs.strings.pieces.Given as goal

abbrev pub invariant-loop-all : goal.invariant-loop-all
invariant-loop-all g l = ResumesOn all_pieces (λ xs c. xs ++ built.pieces_of c) l.bodies.tokens.now l.fn.at l.fn.before l.at l.all

abbrev pub decreases-loop-all : goal.decreases-loop-all
decreases-loop-all g l = length l.bodies.tokens.now - l.at.at
