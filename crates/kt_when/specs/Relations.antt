-- Tokens with which conditions begin.
use Rattle.std.specs.Prelude.{Bool}
use Rattle.kt_lexer.specs.declared.token.Token.{Token}
use Rattle.kt_grammar.specs.Tokens as tokens
use Rattle.kt_when.specs.declared.relations.Relation.{Relation}
use Rattle.kt_when.specs.declared.relations.Relation.TheVariants as relation

abbrev pub is_relation : Relation → Token → Bool
is_relation relation.In = tokens.is_in
is_relation relation.Is = tokens.is_is
