-- The kind of a token is all that tells whether an expression begins with it.
use Rattle.std.specs.Prelude.{false}
use Rattle.kt_lexer.specs.declared.token.Token.{Token}
use Rattle.kt_lexer.specs.declared.token.TokenKind.{TokenKind}
use Rattle.kt_grammar.specs.TypesBuilt.{no_span}

abbrev pub of_kind : TokenKind → Token
of_kind k = record { kind = k; span = no_span; marked = false }
