use Rattle.kt_lexer.proofs.Cuts as law
use Rattle.kt_lexer.proofs.laws.cut_excludes_fault.Goals as goal

pub returns : goal.returns
returns c = law.cut_excludes_fault
