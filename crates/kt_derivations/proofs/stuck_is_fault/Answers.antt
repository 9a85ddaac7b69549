use Rattle.bound_grammars.proofs.Obeying as law
use Rattle.bound_grammars.specs.Obeying.{Among}
use Rattle.kt_grammar.specs.Rows.{grammar}
use Rattle.kt_derivations.specs.Rules.{rules}
use Rattle.kt_derivations.proofs.Clear.{is_clear}
use Rattle.kt_derivations.proofs.Forms.{tables}
use Rattle.kt_derivations.proofs.stuck_is_fault.Goals as goal

pub returns : goal.returns
returns c = λ n ts rest k. law.fault_of grammar tables.empty (Among rules) is_clear k
