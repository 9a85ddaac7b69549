-- Where tokens stand.
use Rattle.std.specs.Prelude.{Option, Some, None}
use Rattle.kc_tree.specs.declared.fault.Span.{Span}
use Rattle.kt_lexer.specs.declared.token.Token.{Token}
use Rattle.kt_grammar.specs.TypesBuilt.{no_span}

abbrev pub place_of : Option Token → Span
place_of None = no_span
place_of (Some t) = t.span
