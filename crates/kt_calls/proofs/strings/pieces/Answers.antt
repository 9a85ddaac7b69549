use Rattle.std.proofs.Common.{Err, Ok, refl, sym, ◌∙◌, arith}
use Rattle.std.proofs.lemmas.Result.{err_from_is_err_and}
use Rattle.kt_grammar.proofs.Advances.{halts_turn}
use Rattle.kt_grammar.proofs.Progress.{goes_on}
use Rattle.kt_calls.proofs.StringRows.{pieces_turn, pieces_end}
use Rattle.kt_calls.proofs.strings.pieces.Goals as goal

pub returns-in_err-found : goal.returns-in_err-found
returns-in_err-found g c =
    let p = err_from_is_err_and c.from_residual.result c.from_residual.ensures.1 in
    let v = c.loop-all.invariant in
    rw p.1 (v.whole (Err p.0) (halts_turn v.within (sym c.is_mark_at.ensures ∙ c.loop-all-test.true) (rw p.2 c.in_err-found.ensures)))

pub loop-all-preserved : goal.loop-all-preserved
loop-all-preserved g c =
    let v = c.loop-all.invariant in
    let x = c.in_ok-found.ensures in
    record {
      ahead = omega (arith, v.ahead, x.read.ahead);
      within = x.read.within;
      whole = λ r q. v.whole r (pieces_turn c.loop-all.all c.in_ok-found.found (sym c.is_mark_at.ensures ∙ c.loop-all-test.true) x r q);
    }

pub loop-all-smaller : goal.loop-all-smaller
loop-all-smaller g c = let h = goes_on refl c.in_ok-found.ensures.read in omega (arith, h, c.in_ok-found.ensures.read.within)

pub returns : goal.returns
returns g c =
    let v = c.loop-all.invariant in
    v.whole (Ok (c.loop-all.all, c.loop-all.at)) (pieces_end c.loop-all.all v.within (sym c.is_mark_at.ensures ∙ c.loop-all-test.false))
