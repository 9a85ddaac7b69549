use Rattle.bound_grammars.proofs.Obeying as law
use Rattle.bound_grammars.specs.Obeying.{Among}
use Rattle.kt_grammar.specs.Rows.{grammar}
use Rattle.kt_derivations.specs.Rules.{far_tests}
use Rattle.kt_derivations.proofs.Clear.{is_decided}
use Rattle.kt_derivations.proofs.reading_is_preferred.Goals as goal

pub returns : goal.returns
returns c = λ n ts r s x y d e. law.preferred grammar (Among far_tests) is_decided d e
