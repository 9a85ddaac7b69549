use Rattle.grammars.specs.Grammar.{next}
use Rattle.grammars.proofs.Later.{begun_here}
use Rattle.kt_lexer.specs.declared.token.Operator.TheVariants as operator
use Rattle.kt_grammar.specs.Rows.{grammar}
use Rattle.kt_grammar.specs.Tokens.{is_op, is_finally}
use Rattle.kt_bodies.proofs.Looking.{says_no, says_on, says_next, looked_at}
use Rattle.kt_bodies.proofs.TryRows.{has_last_clause, finally_begun}
use Rattle.kt_bodies.proofs.looks.look_for_finally.Goals as goal

pub returns-in_default : goal.returns-in_default
returns-in_default c = looked_at c.seen.result (says_no is_finally (next (is_op operator.OpenBrace)) c.in_default.ensures) c.requires (begun_here grammar _ has_last_clause) c.seen.ensures

pub returns : goal.returns
returns c = let o = c.in-Some.ensures in looked_at c.seen-2.result (says_on is_finally (next (is_op operator.OpenBrace)) o.taken (says_next (is_op operator.OpenBrace) c.is_op_at.ensures)) o.taken.within (finally_begun o.taken) c.seen-2.ensures
