use Rattle.std.proofs.lemmas.Result.{err_from_is_err_and}
use Rattle.std.proofs.Common.{Err, Ok, refl, arith}
use Rattle.kt_grammar.proofs.Progress.{goes_on}
use Rattle.kt_bodies.proofs.Looking.{looked_so, halts_looked_turn}
use Rattle.kt_bodies.proofs.TryRows.{catches_turn, catches_end}
use Rattle.kt_bodies.proofs.bodies.Bodies.more_catches.Goals as goal

pub returns-then-not-holds : goal.returns-then-not-holds
returns-then-not-holds g c =
    c.loop-all.invariant.whole (Ok (c.loop-all.all, c.look_for_catch-holds.result.1)) (catches_end c.loop-all.all (looked_so c.if-not-holds.true c.look_for_catch-holds.ensures))

pub returns-in_err-found : goal.returns-in_err-found
returns-in_err-found g c =
    let p = err_from_is_err_and c.from_residual.result c.from_residual.ensures.1 in
    rw p.1 (c.loop-all.invariant.whole (Err p.0) (halts_looked_turn (looked_so c.if-not-holds.false c.look_for_catch-holds.ensures) (rw p.2 c.in_err-found.ensures)))

pub loop-all-preserved : goal.loop-all-preserved
loop-all-preserved g c =
    let v = c.loop-all.invariant in
    let k = looked_so c.if-not-holds.false c.look_for_catch-holds.ensures in
    let x = c.in_ok-found.ensures in
    record {
      ahead = omega (arith, v.ahead, k.same, x.read.ahead);
      within = x.read.within;
      whole = λ r q. v.whole r (catches_turn c.loop-all.all c.in_ok-found.found k x r q);
    }

pub loop-all-smaller : goal.loop-all-smaller
loop-all-smaller g c = let x = c.in_ok-found.ensures in omega (arith, (looked_so c.if-not-holds.false c.look_for_catch-holds.ensures).same, goes_on refl x.read, x.read.within)
