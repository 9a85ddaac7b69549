use Rattle.std.proofs.Common.{Err, Ok, arith, sym, ◌∙◌}
use Rattle.std.proofs.lemmas.Result.{err_from_is_err_and}
use Rattle.kt_functions.proofs.TypeParameterRows.{further_end, last_comma, further_halts, further_turn}
use Rattle.kt_functions.proofs.type_parameters.further.Goals as goal

pub returns-then-not-begins_parameter : goal.returns-then-not-begins_parameter
returns-then-not-begins_parameter c = c.loop-next.invariant.whole (Ok (c.loop-next.all, c.in-Some.next)) (last_comma c.loop-next.all c.in-Some.ensures (sym c.begins_parameter.ensures ∙ c.if-not-begins_parameter.true))

pub returns-in_err-found : goal.returns-in_err-found
returns-in_err-found c =
    let p = err_from_is_err_and c.from_residual.result c.from_residual.ensures.1 in
    let v = c.loop-next.invariant in
    rw p.1 (v.whole (Err p.0) (further_halts v.within c.in-Some.ensures (sym c.begins_parameter.ensures ∙ c.if-not-begins_parameter.false) (rw p.2 c.in_err-found.ensures)))

pub loop-next-preserved : goal.loop-next-preserved
loop-next-preserved c =
    let v = c.loop-next.invariant in
    let o = c.in-Some.ensures in
    let x = c.in_ok-found.ensures in
    record {
      ahead = omega (arith, v.ahead, o.taken.next, x.read.ahead);
      within = x.read.within;
      whole = λ r q. v.whole r (further_turn c.loop-next.all c.in_ok-found.found v.within o (sym c.begins_parameter.ensures ∙ c.if-not-begins_parameter.false) x r q);
    }

pub returns : goal.returns
returns c = let v = c.loop-next.invariant in v.whole (Ok (c.loop-next.all, c.loop-next.at)) (further_end c.loop-next.all v.within c.in_default.ensures)
