use Rattle.std.proofs.lemmas.Result.{err_from_is_err_and}
use Rattle.std.proofs.Common.{Err, Ok, refl, arith}
use Rattle.kt_grammar.proofs.Progress.{goes_on}
use Rattle.kt_bodies.proofs.Looking.{looked_so, halts_looked_turn}
use Rattle.kt_calls.proofs.SuffixRows.{suffixes_turn, suffixes_end}
use Rattle.kt_calls.proofs.endings.suffixes.Goals as goal

pub returns-then-not-holds : goal.returns-then-not-holds
returns-then-not-holds g c = c.loop-left.invariant.whole (Ok (c.loop-left.left, c.look_for_suffix-holds.result.1)) (suffixes_end c.loop-left.left (looked_so c.if-not-holds.true c.look_for_suffix-holds.ensures))

pub returns-in_err-whole : goal.returns-in_err-whole
returns-in_err-whole g c =
    let p = err_from_is_err_and c.from_residual.result c.from_residual.ensures.1 in
    rw p.1 (c.loop-left.invariant.whole (Err p.0) (halts_looked_turn (looked_so c.if-not-holds.false c.look_for_suffix-holds.ensures) (rw p.2 c.in_err-whole.ensures)))

pub loop-left-preserved : goal.loop-left-preserved
loop-left-preserved g c =
    let v = c.loop-left.invariant in
    let k = looked_so c.if-not-holds.false c.look_for_suffix-holds.ensures in
    let x = c.in_ok-whole.ensures in
    record {
      ahead = omega (arith, v.ahead, k.same, x.read.ahead);
      within = x.read.within;
      whole = λ r q. v.whole r (suffixes_turn c.loop-left.left c.in_ok-whole.whole k x r q);
    }

pub loop-left-smaller : goal.loop-left-smaller
loop-left-smaller g c = let x = c.in_ok-whole.ensures in omega (arith, (looked_so c.if-not-holds.false c.look_for_suffix-holds.ensures).same, goes_on refl x.read, x.read.within)
