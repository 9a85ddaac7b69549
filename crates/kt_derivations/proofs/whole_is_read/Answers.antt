use Rattle.bound_grammars.proofs.Obeying as law
use Rattle.bound_grammars.specs.Obeying.{Among}
use Rattle.kt_grammar.specs.Rows.{grammar}
use Rattle.kt_derivations.specs.Rules.{rules}
use Rattle.kt_derivations.proofs.Clear.{is_clear}
use Rattle.kt_derivations.proofs.Forms.{tables}
use Rattle.kt_derivations.proofs.whole_is_read.Goals as goal

pub returns : goal.returns
returns c = λ n ts x d. (law.whole grammar tables.empty (Among rules) is_clear d, λ y r e. let o = law.whole_is_one grammar tables.empty (Among rules) is_clear d e in (o.tree, o.rest))
