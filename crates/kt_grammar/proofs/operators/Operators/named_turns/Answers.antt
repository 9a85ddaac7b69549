use Rattle.std.proofs.Common.{Err, Ok, refl, sym, ◌∙◌, arith}
use Rattle.std.proofs.lemmas.Result.{err_from_is_err_and}
use Rattle.kt_grammar.specs.Built as built
use Rattle.kt_grammar.specs.Rows as rows
use Rattle.kt_grammar.specs.Signs.{is_relation}
use Rattle.kt_grammar.proofs.Advances.{turns_end, halts_turn}
use Rattle.kt_grammar.proofs.OperatorRows.{named_once}
use Rattle.kt_grammar.proofs.Progress.{goes_on}
use Rattle.kt_grammar.proofs.operators.Operators.named_turns.Goals as goal

pub returns-in_err-whole : goal.returns-in_err-whole
returns-in_err-whole g c =
    let p = err_from_is_err_and c.from_residual.result c.from_residual.ensures.1 in
    let v = c.loop-left.invariant in
    rw p.1 (v.whole (Err p.0) (halts_turn v.within (sym c.is_relation_at.ensures ∙ c.loop-left-test.true) (rw p.2 c.in_err-whole.ensures)))

pub loop-left-preserved : goal.loop-left-preserved
loop-left-preserved g c =
    let v = c.loop-left.invariant in
    let x = c.in_ok-whole.ensures in
    record {
      ahead = omega (arith, v.ahead, x.read.ahead);
      within = x.read.within;
      whole = λ r q. v.whole r (named_once c.loop-left.left c.in_ok-whole.whole (sym c.is_relation_at.ensures ∙ c.loop-left-test.true) x r q);
    }

pub loop-left-smaller : goal.loop-left-smaller
loop-left-smaller g c = let h = goes_on refl c.in_ok-whole.ensures.read in omega (arith, h, c.in_ok-whole.ensures.read.within)

pub returns : goal.returns
returns g c =
    let v = c.loop-left.invariant in
    v.whole (Ok (c.loop-left.left, c.loop-left.at)) (turns_end is_relation rows.named_turn built.named_turns_of c.loop-left.left (λ y. refl) v.within (sym c.is_relation_at.ensures ∙ c.loop-left-test.false))
