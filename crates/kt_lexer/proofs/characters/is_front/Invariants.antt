use Rattle.std.proofs.Common.{◌≡◌, drop}
use Rattle.kt_lexer.specs.Characters.{is_front}
use Rattle.kt_lexer.proofs.characters.is_front.Given as goal

abbrev pub invariant-loop-index : goal.invariant-loop-index
invariant-loop-index l = is_front l.spelling l.text ≡ is_front (drop l.index l.spelling) (drop l.index l.text)
