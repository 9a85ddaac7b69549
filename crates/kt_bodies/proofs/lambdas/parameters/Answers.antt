use Rattle.std.proofs.Common.{Err, Ok, arith, sym, ◌∙◌}
use Rattle.std.proofs.lemmas.Result.{err_from_is_err_and}
use Rattle.kt_grammar.proofs.Advances.{halts_row, halts_first}
use Rattle.kt_bodies.proofs.LambdaRows.{has_no_parameter, last_parameter, last_comma, parameters_turn}
use Rattle.kt_bodies.proofs.lambdas.parameters.Goals as goal

pub returns-in_err-found : goal.returns-in_err-found
returns-in_err-found c = let p = err_from_is_err_and c.from_residual.result c.from_residual.ensures.1 in rw p.1 (c.loop-found.invariant.whole (Err p.0) (halts_row (halts_first has_no_parameter (rw p.2 c.in_err-found.ensures))))

pub returns-in_default : goal.returns-in_default
returns-in_default c = c.loop-found.invariant.whole (Ok (c.in_ok-found.found, c.in_ok-found.end)) (last_parameter c.loop-found.all c.in_ok-found.found c.in_ok-found.ensures c.in_default.ensures)

pub returns-then-not-is_name_at : goal.returns-then-not-is_name_at
returns-then-not-is_name_at c = c.loop-found.invariant.whole (Ok (c.in_ok-found.found, c.in-Some.next)) (last_comma c.loop-found.all c.in_ok-found.found c.in_ok-found.ensures c.in-Some.ensures (sym c.is_name_at.ensures ∙ c.if-not-is_name_at.true))

pub loop-found-preserved : goal.loop-found-preserved
loop-found-preserved c =
    let v = c.loop-found.invariant in
    let o = c.in-Some.ensures in
    let x = c.in_ok-found.ensures in
    record {
      ahead = omega (arith, v.ahead, x.read.ahead, o.taken.next);
      within = o.taken.within;
      whole = λ r q. v.whole r (parameters_turn c.loop-found.all c.in_ok-found.found x o (sym c.is_name_at.ensures ∙ c.if-not-is_name_at.false) r q);
    }
