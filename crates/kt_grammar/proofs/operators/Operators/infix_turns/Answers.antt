use Rattle.std.proofs.Common.{Err, Ok, refl, arith}
use Rattle.std.proofs.lemmas.Result.{err_from_is_err_and}
use Rattle.grammars.specs.Grammar.{both, one}
use Rattle.kt_grammar.specs.Built as built
use Rattle.kt_grammar.specs.Signs.{infix_operand}
use Rattle.kt_grammar.specs.Tokens.{unmarked, is_name}
use Rattle.kt_grammar.proofs.Advances.{turns_end}
use Rattle.kt_grammar.proofs.OperatorRows.{infix_once, infix_stuck}
use Rattle.kt_grammar.proofs.operators.Operators.infix_turns.Goals as goal

pub returns-in_err-whole : goal.returns-in_err-whole
returns-in_err-whole g c =
    let p = err_from_is_err_and c.from_residual.result c.from_residual.ensures.1 in
    let v = c.loop-token.invariant in
    rw p.1 (v.whole (Err p.0) (infix_stuck v.within c.in-Some.ensures (rw p.2 c.in_err-whole.ensures)))

pub loop-token-preserved : goal.loop-token-preserved
loop-token-preserved g c =
    let v = c.loop-token.invariant in
    let o = c.in-Some.ensures in
    let x = c.in_ok-whole.ensures in
    record {
      ahead = omega (arith, v.ahead, o.taken.next, x.read.ahead);
      within = x.read.within;
      whole = λ r q. v.whole r (infix_once c.loop-token.left c.in_ok-whole.whole o x r q);
    }

pub returns : goal.returns
returns g c =
    let v = c.loop-token.invariant in
    v.whole (Ok (c.loop-token.left, c.loop-token.at)) (turns_end (unmarked is_name) (both (one (unmarked is_name)) infix_operand) built.infix_turns_of c.loop-token.left (λ y. refl) v.within c.in_default.ensures)
