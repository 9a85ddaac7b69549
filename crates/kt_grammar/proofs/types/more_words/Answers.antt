use Rattle.std.proofs.Common.{Err, Ok, arith}
use Rattle.std.proofs.lemmas.Result.{err_from_is_err_and}
use Rattle.kt_grammar.specs.Parsed.{no_memory}
use Rattle.kt_grammar.proofs.Steps.{standing, fails_turn, fails_after}
use Rattle.kt_grammar.proofs.TypeRows.{word_turn, words_end}
use Rattle.kt_grammar.proofs.types.more_words.Goals as goal

pub returns-in_err-push : goal.returns-in_err-push
returns-in_err-push c = let p = err_from_is_err_and c.from_residual.result c.from_residual.ensures.1 in rw (p.1, p.2) (no_memory)

pub returns-in_err-word : goal.returns-in_err-word
returns-in_err-word c = let p = err_from_is_err_and c.from_residual-in_err-word.result c.from_residual-in_err-word.ensures.1 in rw p.1 (c.loop-next.invariant.whole (Err p.0) (fails_turn (standing c.in-Some.ensures) (fails_after c.in-Some.ensures (rw p.2 c.in_err-word.ensures))))

pub returns-in_err-push-2 : goal.returns-in_err-push-2
returns-in_err-push-2 c = let p = err_from_is_err_and c.from_residual-in_err-push-2.result c.from_residual-in_err-push-2.ensures.1 in rw (p.1, p.2) (no_memory)

pub loop-next-preserved : goal.loop-next-preserved
loop-next-preserved c =
    let v = c.loop-next.invariant in
    let o = c.in-Some.ensures in
    let k = c.in_ok-word.ensures in
    record {
      ahead = omega (arith, v.ahead, o.next, k.taken.next);
      within = k.taken.within;
      whole = λ r q. v.whole r (word_turn c.loop-next.words c.push-in-Some.new.self o k c.in_ok-push-2.ensures.ok r q);
    }

pub returns : goal.returns
returns c = let v = c.loop-next.invariant in v.whole (Ok (c.loop-next.words, c.loop-next.at)) (words_end c.loop-next.words v.within c.in_default.ensures)
