use Rattle.std.proofs.Common.{◌++◌, ◌-◌, length}
use Rattle.grammars.specs.Grammar.{row}
use Rattle.kt_grammar.specs.DeclarationsBuilt as built
use Rattle.kt_grammar.specs.Parsed.{ResumesOn}
use Rattle.kt_grammar.specs.Rows as rows
use Rattle.kt_files.proofs.lists.further.Given as goal

abbrev pub invariant-loop-alloc : goal.invariant-loop-alloc
invariant-loop-alloc l = ResumesOn (row rows.after_declaration) (λ xs c. xs ++ built.declarations_behind c) l.tokens l.fn.at l.fn.before l.at l.all

abbrev pub decreases-loop-alloc : goal.decreases-loop-alloc
decreases-loop-alloc l = length l.tokens - l.at.at
