use Rattle.grammars.specs.Grammar.{next}
use Rattle.grammars.proofs.Later.{begun_here}
use Rattle.kt_bodies.specs.Lambdas.{parameter_end}
use Rattle.kt_grammar.specs.Rows.{grammar}
use Rattle.kt_grammar.specs.Tokens.{is_name}
use Rattle.kt_bodies.proofs.LambdaRows.{has_behind_parameters, parameters_begun}
use Rattle.kt_bodies.proofs.Looking.{says_no, says_on, says_next, looked_at}
use Rattle.kt_bodies.proofs.looks.look_for_parameters.Goals as goal

pub returns-in_default : goal.returns-in_default
returns-in_default c = looked_at c.seen.result (says_no is_name (next parameter_end) c.in_default.ensures) c.requires (begun_here grammar _ has_behind_parameters) c.seen.ensures

pub returns : goal.returns
returns c = looked_at c.seen-2.result (says_on is_name (next parameter_end) c.in-Some.ensures (says_next parameter_end c.is_parameter_end.ensures)) c.in-Some.ensures.within (parameters_begun c.in-Some.ensures) c.seen-2.ensures
