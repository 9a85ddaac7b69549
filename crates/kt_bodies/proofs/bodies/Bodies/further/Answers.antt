use Rattle.std.proofs.Common.{Err, Ok, refl, arith}
use Rattle.std.proofs.lemmas.Result.{err_from_is_err_and}
use Rattle.kt_bodies.proofs.Sequences.{follows_ahead, follows_so, sequence_end, sequence_more, turn_from, turn_halts}
use Rattle.kt_bodies.proofs.StatementRows.{statements_list}
use Rattle.kt_grammar.proofs.Progress.{goes_on}
use Rattle.kt_bodies.proofs.bodies.Bodies.further.Goals as goal

pub returns-then-not-goes_on : goal.returns-then-not-goes_on
returns-then-not-goes_on g c =
    c.loop-all.invariant.whole (Ok (c.loop-all.all, c.next_statement-goes_on.result.0))
    (sequence_end statements_list c.loop-all.all (follows_so c.if-not-goes_on.true c.next_statement-goes_on.ensures))

pub returns-in_err-found : goal.returns-in_err-found
returns-in_err-found g c =
    let p = err_from_is_err_and c.from_residual.result c.from_residual.ensures.1 in
    rw p.1 (c.loop-all.invariant.whole (Err p.0)
    (sequence_more statements_list c.loop-all.all (follows_so c.if-not-goes_on.false c.next_statement-goes_on.ensures) (Err p.0) (turn_halts statements_list (rw p.2 c.in_err-found.ensures))))

pub loop-all-preserved : goal.loop-all-preserved
loop-all-preserved g c =
    let v = c.loop-all.invariant in
    let o = c.next_statement-goes_on.ensures in
    let x = c.in_ok-found.ensures in
    record {
      ahead = omega (arith, v.ahead, follows_ahead o, x.read.ahead);
      within = x.read.within;
      whole = λ r q. v.whole r (sequence_more statements_list c.loop-all.all (follows_so c.if-not-goes_on.false o) r (turn_from statements_list c.loop-all.all c.in_ok-found.found x r q));
    }

pub one_more-requires-clause-behind : goal.one_more-requires-clause-behind
one_more-requires-clause-behind g c = omega (arith, c.requires.behind, c.loop-all.invariant.ahead, follows_ahead c.next_statement-goes_on.ensures)

pub loop-all-smaller : goal.loop-all-smaller
loop-all-smaller g c = let x = c.in_ok-found.ensures in omega (arith, follows_ahead c.next_statement-goes_on.ensures, goes_on refl x.read, x.read.within)
