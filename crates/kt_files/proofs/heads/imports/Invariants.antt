use Rattle.std.proofs.Common.{[], ◌++◌, ◌-◌, length}
use Rattle.kt_files.specs.Heads.{imports}
use Rattle.kt_grammar.specs.DeclarationsBuilt as built
use Rattle.kt_grammar.specs.Parsed.{ResumesOn}
use Rattle.kt_files.proofs.heads.imports.Given as goal

abbrev pub invariant-loop-alloc : goal.invariant-loop-alloc
invariant-loop-alloc l = ResumesOn imports (λ xs c. xs ++ built.imports_of c) l.tokens l.fn.at [] l.at l.all

abbrev pub decreases-loop-alloc : goal.decreases-loop-alloc
decreases-loop-alloc l = length l.tokens - l.at.at
