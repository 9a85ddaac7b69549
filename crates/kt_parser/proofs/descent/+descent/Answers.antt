use Rattle.kt_grammar.specs.Parsed.{halt_memory}
use Rattle.kt_parser.proofs.descent.+descent.Goals as goal

pub expression-returns-then-depth-eq0 : goal.expression-returns-then-depth-eq0
expression-returns-then-depth-eq0 t c = halt_memory

pub statement-returns-then-depth-eq0 : goal.statement-returns-then-depth-eq0
statement-returns-then-depth-eq0 t c = halt_memory
