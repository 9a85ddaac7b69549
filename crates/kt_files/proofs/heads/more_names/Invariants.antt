use Rattle.std.proofs.Common.{false, ◌-◌, length}
use Rattle.grammars.specs.Grammar.{row}
use Rattle.kt_files.proofs.HeadRows.{path_behind}
use Rattle.kt_grammar.specs.Parsed.{ResumesOn}
use Rattle.kt_grammar.specs.Rows as rows
use Rattle.kt_files.proofs.heads.more_names.Given as goal

abbrev pub invariant-loop-all : goal.invariant-loop-all
invariant-loop-all l = ResumesOn (row rows.import_path) path_behind l.tokens l.fn.at (l.fn.before, false) l.at (l.all, false)

abbrev pub decreases-loop-all : goal.decreases-loop-all
decreases-loop-all l = length l.tokens - l.at.at
