use Rattle.std.proofs.Common.{Err, Ok, arith, sym, ◌∙◌}
use Rattle.std.proofs.lemmas.Result.{err_from_is_err_and}
use Rattle.kt_grammar.specs.Rows as rows
use Rattle.kt_grammar.proofs.ListRows.{has_more}
use Rattle.kt_grammar.proofs.Steps.{fails_row, fails_left, fails_first}
use Rattle.kt_grammar.proofs.NameRows.{names_turn, last_name, names_end}
use Rattle.kt_grammar.proofs.locals.names.Goals as goal

pub returns-in_err-found : goal.returns-in_err-found
returns-in_err-found c = let p = err_from_is_err_and c.from_residual.result c.from_residual.ensures.1 in rw p.1 (c.loop-alloc.invariant.whole (Err p.0) (fails_row (fails_left (sym c.is_name_at.ensures ∙ c.loop-alloc-test.true) (fails_first (has_more rows.names) (rw p.2 c.in_err-found.ensures)))))

pub returns-in_default : goal.returns-in_default
returns-in_default c = c.loop-alloc.invariant.whole (Ok (c.in_ok-found.found, c.in_ok-found.end)) (last_name c.loop-alloc.all c.in_ok-found.found (sym c.is_name_at.ensures ∙ c.loop-alloc-test.true) c.in_ok-found.ensures c.in_default.ensures)

pub loop-alloc-preserved : goal.loop-alloc-preserved
loop-alloc-preserved c =
    let v = c.loop-alloc.invariant in
    let o = c.in-Some.ensures in
    let x = c.in_ok-found.ensures in
    record {
      ahead = omega (arith, v.ahead, x.read.ahead, o.next);
      within = o.within;
      whole = λ r q. v.whole r (names_turn c.loop-alloc.all c.in_ok-found.found (sym c.is_name_at.ensures ∙ c.loop-alloc-test.true) x o r q);
    }

pub returns : goal.returns
returns c = let v = c.loop-alloc.invariant in v.whole (Ok (c.loop-alloc.all, c.loop-alloc.at)) (names_end c.loop-alloc.all v.within (sym c.is_name_at.ensures ∙ c.loop-alloc-test.false))
