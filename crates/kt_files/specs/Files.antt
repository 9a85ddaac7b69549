-- What stands behind the package of a file, what is built of it, and the place of a file.
use Rattle.std.specs.Prelude.{ℕ, ◌-◌, ◌==◌, if◌then◌else◌, List, [], drop}
use Rattle.grammars.specs.Grammar.{Part, row, both, Cst, pair, first}
use Rattle.kc_tree.specs.declared.fault.Span.{Span}
use Rattle.kt_files.specs.declared.files.Content.{Content}
use Rattle.kt_files.specs.Heads.{imports}
use Rattle.kt_lexer.specs.declared.token.Token.{Token}
use Rattle.kt_grammar.specs.DeclarationsBuilt as built
use Rattle.kt_grammar.specs.Rows as rows
use Rattle.kt_grammar.specs.Rows.{Row}
use Rattle.kt_grammar.specs.TypesBuilt.{between, no_span}

abbrev pub behind_package : Part Row Token
behind_package = both imports (row rows.declarations)

abbrev pub content_of : Cst Token → Content
content_of (pair is ds) = record { imports = built.imports_of is; decls = built.declarations_of ds }
content_of _ = record { imports = []; decls = [] }

-- from the start of the first token to the end of the last; no place where there is no token
abbrev pub span_over : List Token → ℕ → ℕ → Span
span_over ts at end = if at == end then no_span else between (first (drop at ts)) (first (drop (end - 1) ts))
