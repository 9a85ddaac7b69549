use Rattle.std.proofs.Common.{Err, Ok, arith, sym, ◌∙◌}
use Rattle.std.proofs.lemmas.Result.{err_from_is_err_and}
use Rattle.kt_grammar.specs.Parsed.{no_memory}
use Rattle.kt_grammar.proofs.Steps.{standing, fails_row, fails_left, fails_first, fails_after}
use Rattle.kt_grammar.proofs.NameRows.{has_bare_end, bare_turn, bare_comma, bare_end}
use Rattle.kt_grammar.proofs.locals.bare_names.Goals as goal

pub returns-then-not-is_name_at : goal.returns-then-not-is_name_at
returns-then-not-is_name_at c = c.loop-next.invariant.whole (Ok (c.loop-next.all, c.in-Some.next)) (bare_comma c.loop-next.all c.in-Some.ensures (sym c.is_name_at.ensures ∙ c.if-not-is_name_at.true))

pub returns-in_err-name : goal.returns-in_err-name
returns-in_err-name c = let p = err_from_is_err_and c.from_residual.result c.from_residual.ensures.1 in rw p.1 (c.loop-next.invariant.whole (Err p.0) (fails_row (fails_left (standing c.in-Some.ensures) (fails_after c.in-Some.ensures (fails_left (sym c.is_name_at.ensures ∙ c.if-not-is_name_at.false) (fails_first has_bare_end (rw p.2 c.in_err-name.ensures)))))))

pub returns-in_err-push : goal.returns-in_err-push
returns-in_err-push c = let p = err_from_is_err_and c.from_residual-in_err-push.result c.from_residual-in_err-push.ensures.1 in rw (p.1, p.2) (no_memory)

pub loop-next-preserved : goal.loop-next-preserved
loop-next-preserved c =
    let v = c.loop-next.invariant in
    let o = c.in-Some.ensures in
    let k = c.in_ok-name.ensures in
    record {
      ahead = omega (arith, v.ahead, o.next, k.taken.next);
      within = k.taken.within;
      whole = λ r q. v.whole r (bare_turn c.loop-next.all c.push.new.self o (sym c.is_name_at.ensures ∙ c.if-not-is_name_at.false) k c.in_ok-push.ensures.ok r q);
    }

pub returns : goal.returns
returns c = let v = c.loop-next.invariant in v.whole (Ok (c.loop-next.all, c.loop-next.at)) (bare_end c.loop-next.all v.within c.in_default.ensures)
