use Rattle.std.proofs.Common.{Err, Ok, refl, arith}
use Rattle.std.proofs.lemmas.Result.{err_from_is_err_and}
use Rattle.kt_bodies.proofs.Sequences.{follows_ahead, follows_so, sequence_end, sequence_more, turn_from, turn_halts}
use Rattle.kt_files.proofs.ListRows.{declarations_list}
use Rattle.kt_grammar.proofs.Progress.{goes_on}
use Rattle.kt_files.proofs.lists.further.Goals as goal

pub returns-then-not-goes_on : goal.returns-then-not-goes_on
returns-then-not-goes_on c =
    c.loop-alloc.invariant.whole (Ok (c.loop-alloc.all, c.next_declaration-goes_on.result.0))
    (sequence_end declarations_list c.loop-alloc.all (follows_so c.if-not-goes_on.true c.next_declaration-goes_on.ensures))

pub returns-in_err-found : goal.returns-in_err-found
returns-in_err-found c =
    let p = err_from_is_err_and c.from_residual.result c.from_residual.ensures.1 in
    rw p.1 (c.loop-alloc.invariant.whole (Err p.0)
    (sequence_more declarations_list c.loop-alloc.all (follows_so c.if-not-goes_on.false c.next_declaration-goes_on.ensures) (Err p.0) (turn_halts declarations_list (rw p.2 c.in_err-found.ensures))))

pub loop-alloc-preserved : goal.loop-alloc-preserved
loop-alloc-preserved c =
    let v = c.loop-alloc.invariant in
    let o = c.next_declaration-goes_on.ensures in
    let x = c.in_ok-found.ensures in
    record {
      ahead = omega (arith, v.ahead, follows_ahead o, x.read.ahead);
      within = x.read.within;
      whole = λ r q. v.whole r (sequence_more declarations_list c.loop-alloc.all (follows_so c.if-not-goes_on.false o) r (turn_from declarations_list c.loop-alloc.all c.in_ok-found.found x r q));
    }

pub loop-alloc-smaller : goal.loop-alloc-smaller
loop-alloc-smaller c = let x = c.in_ok-found.ensures in omega (arith, follows_ahead c.next_declaration-goes_on.ensures, goes_on refl x.read, x.read.within)
