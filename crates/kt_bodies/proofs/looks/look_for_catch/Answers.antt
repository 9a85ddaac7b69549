use Rattle.grammars.specs.Grammar.{next}
use Rattle.grammars.proofs.Later.{begun_here}
use Rattle.kt_lexer.specs.declared.token.Operator.TheVariants as operator
use Rattle.kt_grammar.specs.Rows.{grammar}
use Rattle.kt_grammar.specs.Tokens.{is_name, is_op, is_catch}
use Rattle.kt_bodies.proofs.Looking.{says_no, says_on, says_next, looked_at}
use Rattle.kt_bodies.proofs.TryRows.{has_catch, catch_begun, catch_bracket_begun, catch_name_begun, behind_bracket, behind_catch}
use Rattle.kt_bodies.proofs.looks.look_for_catch.Goals as goal

pub returns-in_default : goal.returns-in_default
returns-in_default c = looked_at c.seen.result (says_no is_catch behind_catch c.in_default.ensures) c.requires (begun_here grammar _ has_catch) c.seen.ensures

pub returns-in_default-eat_op_on : goal.returns-in_default-eat_op_on
returns-in_default-eat_op_on c =
    let o = c.in-Some.ensures in
    looked_at c.seen-in_default-eat_op_on.result (says_on is_catch behind_catch o.taken (says_no (is_op operator.OpenRound) behind_bracket c.in_default-eat_op_on.ensures)) o.taken.within (catch_begun o.taken) c.seen-in_default-eat_op_on.ensures

pub returns-in_default-eat_name : goal.returns-in_default-eat_name
returns-in_default-eat_name c =
    let o = c.in-Some.ensures in
    let b = c.in-Some-eat_op_on.ensures in
    looked_at c.seen-in_default-eat_name.result (says_on is_catch behind_catch o.taken (says_on (is_op operator.OpenRound) behind_bracket b.taken (says_no is_name (next (is_op operator.Colon)) c.in_default-eat_name.ensures))) b.taken.within
    (catch_bracket_begun o.taken b.taken) c.seen-in_default-eat_name.ensures

pub returns : goal.returns
returns c =
    let o = c.in-Some.ensures in
    let b = c.in-Some-eat_op_on.ensures in
    let n = c.in-Some-eat_name.ensures in
    looked_at c.seen-2.result (says_on is_catch behind_catch o.taken (says_on (is_op operator.OpenRound) behind_bracket b.taken (says_on is_name (next (is_op operator.Colon)) n (says_next (is_op operator.Colon) c.is_op_at.ensures)))) n.within
    (catch_name_begun o.taken b.taken n) c.seen-2.ensures
