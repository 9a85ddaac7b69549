use Rattle.std.proofs.Common.{length, drop, ◌-◌}
use Rattle.grammars.specs.Grammar.{first}
use Rattle.kt_grammar.specs.Parsed.{Resumes}
use Rattle.kt_grammar.specs.Rows.{question_marks}
use Rattle.kt_grammar.specs.TypesBuilt as built
use Rattle.kt_functions.proofs.receivers.with_marks.Given as goal

abbrev pub invariant-loop-end : goal.invariant-loop-end
invariant-loop-end l = Resumes question_marks (built.nullables (first (drop l.start l.tokens))) l.tokens l.fn.at l.fn.inner l.at l.inner

abbrev pub decreases-loop-end : goal.decreases-loop-end
decreases-loop-end l = length l.tokens - l.at
