use Rattle.std.proofs.Common.{Err, Ok, arith, sym, ◌∙◌}
use Rattle.std.proofs.lemmas.Result.{err_from_is_err_and}
use Rattle.kt_class_heads.proofs.SupertypeRows.{further_end, further_last, further_more, further_halts}
use Rattle.kt_class_heads.proofs.supertypes.further_supertypes.Goals as goal

pub returns-in_err-found : goal.returns-in_err-found
returns-in_err-found c =
    let p = err_from_is_err_and c.from_residual.result c.from_residual.ensures.1 in
    let v = c.loop-alloc.invariant in
    rw p.1 (v.whole (Err p.0) (further_halts v.within (sym c.begins_supertype.ensures ∙ c.loop-alloc-test.true) (rw p.2 c.in_err-found.ensures)))

pub returns-in_default : goal.returns-in_default
returns-in_default c =
    c.loop-alloc.invariant.whole (Ok (c.in_ok-found.found, c.in_ok-found.end))
    (further_last c.loop-alloc.all c.in_ok-found.found (sym c.begins_supertype.ensures ∙ c.loop-alloc-test.true) c.in_ok-found.ensures c.in_default.ensures)

pub loop-alloc-preserved : goal.loop-alloc-preserved
loop-alloc-preserved c =
    let v = c.loop-alloc.invariant in
    let o = c.in-Some.ensures in
    let x = c.in_ok-found.ensures in
    record {
      ahead = omega (arith, v.ahead, x.read.ahead, o.taken.next);
      within = o.taken.within;
      whole = λ r q. v.whole r (further_more c.loop-alloc.all c.in_ok-found.found v.within (sym c.begins_supertype.ensures ∙ c.loop-alloc-test.true) x o r q);
    }

pub returns : goal.returns
returns c = let v = c.loop-alloc.invariant in v.whole (Ok (c.loop-alloc.all, c.loop-alloc.at)) (further_end c.loop-alloc.all v.within (sym c.begins_supertype.ensures ∙ c.loop-alloc-test.false))
