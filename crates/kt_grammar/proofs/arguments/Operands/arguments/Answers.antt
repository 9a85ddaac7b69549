use Rattle.std.proofs.Common.{Err, Ok, arith, sym, ◌∙◌}
use Rattle.std.proofs.lemmas.Result.{err_from_is_err_and}
use Rattle.kt_grammar.proofs.ArgumentRows.{arguments_list}
use Rattle.kt_grammar.proofs.ListRows.{list_end, list_last, list_more, list_halts}
use Rattle.kt_grammar.proofs.arguments.Operands.arguments.Goals as goal

pub returns-in_err-found : goal.returns-in_err-found
returns-in_err-found g c =
    let p = err_from_is_err_and c.from_residual.result c.from_residual.ensures.1 in
    let v = c.loop-all.invariant in
    rw p.1 (v.whole (Err p.0) (list_halts arguments_list v.within (sym c.begins_argument.ensures ∙ c.loop-all-test.true) (rw p.2 c.in_err-found.ensures)))

pub returns-in_default : goal.returns-in_default
returns-in_default g c =
    c.loop-all.invariant.whole (Ok (c.in_ok-found.found, c.in_ok-found.end))
    (list_last arguments_list c.loop-all.all c.in_ok-found.found (sym c.begins_argument.ensures ∙ c.loop-all-test.true) c.in_ok-found.ensures c.in_default.ensures)

pub loop-all-preserved : goal.loop-all-preserved
loop-all-preserved g c =
    let v = c.loop-all.invariant in
    let o = c.in-Some.ensures in
    let x = c.in_ok-found.ensures in
    record {
      ahead = omega (arith, v.ahead, x.read.ahead, o.taken.next);
      within = o.taken.within;
      whole = λ r q. v.whole r (list_more arguments_list c.loop-all.all c.in_ok-found.found v.within (sym c.begins_argument.ensures ∙ c.loop-all-test.true) x o r q);
    }

pub returns : goal.returns
returns g c = let v = c.loop-all.invariant in v.whole (Ok (c.loop-all.all, c.loop-all.at)) (list_end arguments_list c.loop-all.all v.within (sym c.begins_argument.ensures ∙ c.loop-all-test.false))
