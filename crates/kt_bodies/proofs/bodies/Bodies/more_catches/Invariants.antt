use Rattle.std.proofs.Common.{◌++◌, ◌-◌, length}
use Rattle.kt_bodies.specs.Tries.{more_catches}
use Rattle.kt_grammar.specs.Built as built
use Rattle.kt_grammar.specs.Parsed.{ResumesOn}
use Rattle.kt_bodies.proofs.bodies.Bodies.more_catches.Given as goal

abbrev pub invariant-loop-all : goal.invariant-loop-all
invariant-loop-all g l = ResumesOn more_catches (λ xs c. xs ++ built.catches_of c) l.self.tokens.now l.fn.at l.fn.before l.at l.all

abbrev pub decreases-loop-all : goal.decreases-loop-all
decreases-loop-all g l = length l.self.tokens.now - l.at.at
