use Rattle.std.proofs.Common.{Ok, arith}
use Rattle.std.proofs.lemmas.Result.{err_from_is_err_and}
use Rattle.kt_grammar.specs.Parsed.{no_memory}
use Rattle.grammars.specs.Grammar.{first}
use Rattle.std.proofs.Common.{drop}
use Rattle.kt_grammar.proofs.TypeRows.{mark_turn, marks_end}
use Rattle.kt_grammar.proofs.types.nullables.Goals as goal

pub returns-in_err-inner : goal.returns-in_err-inner
returns-in_err-inner c = let p = err_from_is_err_and c.from_residual.result c.from_residual.ensures.1 in rw (p.1, p.2) (no_memory)

pub loop-end-preserved : goal.loop-end-preserved
loop-end-preserved c =
    let v = c.loop-end.invariant in
    let o = c.in-Some.ensures in
    record {
      ahead = omega (arith, v.ahead, o.next);
      within = o.within;
      whole = λ r q. v.whole r (mark_turn (first (drop c.args.start c.args.tokens.now)) c.loop-end.inner c.in_ok-inner.inner o c.span_between.ensures c.in_ok-inner.ensures r q);
    }

pub returns : goal.returns
returns c = let v = c.loop-end.invariant in v.whole (Ok (c.loop-end.inner, c.loop-end.at)) (marks_end (first (drop c.args.start c.args.tokens.now)) c.loop-end.inner v.within c.in_default.ensures)
