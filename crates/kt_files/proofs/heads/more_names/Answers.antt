use Rattle.std.proofs.Common.{true, false, Err, Ok, arith}
use Rattle.std.proofs.lemmas.Result.{err_from_is_err_and}
use Rattle.kt_grammar.specs.Parsed.{halt_memory}
use Rattle.kt_grammar.proofs.Advances.{halts_row, halts_first}
use Rattle.kt_files.proofs.HeadRows.{has_behind_name, path_more, path_last, path_star}
use Rattle.kt_files.proofs.heads.more_names.Goals as goal

pub returns-in_err-word : goal.returns-in_err-word
returns-in_err-word c =
    let p = err_from_is_err_and c.from_residual.result c.from_residual.ensures.1 in
    rw p.1 (c.loop-all.invariant.whole (Err p.0) (halts_row (halts_first has_behind_name (rw p.2 c.in_err-word.ensures))))

pub returns-in_err-push : goal.returns-in_err-push
returns-in_err-push c = let p = err_from_is_err_and c.from_residual-in_err-push.result c.from_residual-in_err-push.ensures.1 in rw (p.1, p.2) (halt_memory)

pub returns-in_default : goal.returns-in_default
returns-in_default c =
    c.loop-all.invariant.whole (Ok ((c.push.new.self, false), c.in_ok-word.end)) (path_last c.loop-all.all c.push.new.self c.in_ok-word.ensures c.in_ok-push.ensures.ok c.in_default.ensures)

pub returns-in-Some-eat_op_on : goal.returns-in-Some-eat_op_on
returns-in-Some-eat_op_on c =
    c.loop-all.invariant.whole (Ok ((c.push.new.self, true), c.in-Some-eat_op_on.last)) (path_star c.loop-all.all c.push.new.self c.in_ok-word.ensures c.in_ok-push.ensures.ok c.in-Some.ensures c.in-Some-eat_op_on.ensures)

pub loop-all-preserved : goal.loop-all-preserved
loop-all-preserved c =
    let v = c.loop-all.invariant in
    let n = c.in_ok-word.ensures in
    let o = c.in-Some.ensures in
    record {
      ahead = omega (arith, v.ahead, n.taken.next, o.taken.next);
      within = o.taken.within;
      whole = λ r q. v.whole r (path_more c.loop-all.all c.push.new.self n c.in_ok-push.ensures.ok o c.in_default-eat_op_on.ensures r q);
    }
