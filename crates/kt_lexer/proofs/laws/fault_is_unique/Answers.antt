use Rattle.kt_lexer.proofs.Cuts as law
use Rattle.kt_lexer.proofs.laws.fault_is_unique.Goals as goal

pub returns : goal.returns
returns c = law.fault_is_unique
