-- The steps of the functions that take single tokens.
use Rattle.std.proofs.Common.{◌≡◌, true, false, [], refl}
use Rattle.kt_calls.specs.declared.marks.Mark.{Mark}
use Rattle.kt_calls.specs.declared.marks.Mark.TheVariants as mark
use Rattle.kt_calls.specs.Marks.{is_mark}
use Rattle.kt_lexer.specs.declared.token.Token.{Token}
use Rattle.kt_lexer.specs.declared.token.TokenKind.TheVariants as kind
use Rattle.kt_lexer.specs.declared.token.Operator.TheVariants as operator
use Rattle.kt_grammar.specs.TypesBuilt.{no_span}
use Rattle.kt_grammar.proofs.SingleTokens.{op_token}

abbrev pub sample : Mark → Token
sample mark.Label = record { kind = kind.Label 0; span = no_span; marked = false }
sample mark.Round = op_token operator.OpenRound
sample mark.Square = op_token operator.OpenSquare
sample mark.Less = op_token operator.Less
sample mark.Dot = op_token operator.Dot
sample mark.Postfix = op_token operator.NotNull
sample mark.StringOpen = record { kind = kind.StringOpen; span = no_span; marked = false }
sample mark.Piece = record { kind = kind.HoleOpen; span = no_span; marked = false }
sample mark.StringText = record { kind = kind.StringText []; span = no_span; marked = false }
sample mark.StringName = record { kind = kind.StringName 0; span = no_span; marked = false }
sample mark.HoleOpen = record { kind = kind.HoleOpen; span = no_span; marked = false }
sample mark.HoleClose = record { kind = kind.HoleClose; span = no_span; marked = false }
sample mark.StringClose = record { kind = kind.StringClose; span = no_span; marked = false }

pub is_sample : (m : Mark) → is_mark m (sample m) ≡ true
is_sample mark.Label = refl
is_sample mark.Round = refl
is_sample mark.Square = refl
is_sample mark.Less = refl
is_sample mark.Dot = refl
is_sample mark.Postfix = refl
is_sample mark.StringOpen = refl
is_sample mark.Piece = refl
is_sample mark.StringText = refl
is_sample mark.StringName = refl
is_sample mark.HoleOpen = refl
is_sample mark.HoleClose = refl
is_sample mark.StringClose = refl
