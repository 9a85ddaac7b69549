use Rattle.std.proofs.Common.{Err, Ok, refl, sym, ◌∙◌, arith}
use Rattle.std.proofs.lemmas.Result.{err_from_is_err_and}
use Rattle.kt_grammar.proofs.Advances.{halts_turn}
use Rattle.kt_grammar.proofs.Progress.{goes_on}
use Rattle.kt_files.proofs.HeadRows.{imports_turn, imports_end}
use Rattle.kt_files.proofs.heads.imports.Goals as goal

pub returns-in_err-found : goal.returns-in_err-found
returns-in_err-found c =
    let p = err_from_is_err_and c.from_residual.result c.from_residual.ensures.1 in
    let v = c.loop-alloc.invariant in
    rw p.1 (v.whole (Err p.0) (halts_turn v.within (sym c.is_at.ensures ∙ c.loop-alloc-test.true) (rw p.2 c.in_err-found.ensures)))

pub loop-alloc-preserved : goal.loop-alloc-preserved
loop-alloc-preserved c =
    let v = c.loop-alloc.invariant in
    let x = c.in_ok-found.ensures in
    record {
      ahead = omega (arith, v.ahead, x.read.ahead);
      within = x.read.within;
      whole = λ r q. v.whole r (imports_turn c.loop-alloc.all c.in_ok-found.found (sym c.is_at.ensures ∙ c.loop-alloc-test.true) x r q);
    }

pub loop-alloc-smaller : goal.loop-alloc-smaller
loop-alloc-smaller c = let x = c.in_ok-found.ensures in omega (arith, goes_on refl x.read, x.read.within)

pub returns : goal.returns
returns c = let v = c.loop-alloc.invariant in v.whole (Ok (c.loop-alloc.all, c.loop-alloc.at)) (imports_end c.loop-alloc.all v.within (sym c.is_at.ensures ∙ c.loop-alloc-test.false))
