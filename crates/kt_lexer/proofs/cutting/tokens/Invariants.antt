use Rattle.std.proofs.Common.{◌-◌, length}
use Rattle.kc_text.specs.NameList.{KeepsNumbers}
use Rattle.kt_lexer.proofs.Cuts.{Resumes}
use Rattle.kt_lexer.proofs.cutting.tokens.Given as goal

abbrev pub invariant-pieces : goal.invariant-pieces
invariant-pieces l = Resumes l.names l.file l.text l.place l.tokens × KeepsNumbers l.fn.names l.names

abbrev pub decreases-pieces : goal.decreases-pieces
decreases-pieces l = length l.text - l.place.at
