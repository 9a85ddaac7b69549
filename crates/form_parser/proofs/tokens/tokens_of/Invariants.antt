use Rattle.std.proofs.Common.{◌-◌, length}
use Rattle.form_parser.proofs.Cuts.{Resumes}
use Rattle.form_parser.proofs.tokens.tokens_of.Given as goal

abbrev pub invariant-pieces : goal.invariant-pieces
invariant-pieces l = Resumes l.text l.at l.marked l.tokens

abbrev pub decreases-pieces : goal.decreases-pieces
decreases-pieces l = length l.text - l.at
