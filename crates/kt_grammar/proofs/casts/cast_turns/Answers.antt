use Rattle.std.proofs.Common.{Err, Ok, refl, arith}
use Rattle.std.proofs.lemmas.Result.{err_from_is_err_and}
use Rattle.grammars.specs.Grammar.{row, both, one}
use Rattle.kt_grammar.specs.Built as built
use Rattle.kt_grammar.specs.Parsed.{halt_memory}
use Rattle.kt_grammar.specs.Rows as rows
use Rattle.kt_grammar.specs.Tokens.{unmarked, is_as}
use Rattle.kt_grammar.proofs.Advances.{turns_end}
use Rattle.kt_grammar.proofs.CastRows.{cast_turn, cast_halts}
use Rattle.kt_grammar.proofs.casts.cast_turns.Goals as goal

pub returns-in_err-ty : goal.returns-in_err-ty
returns-in_err-ty c =
    let p = err_from_is_err_and c.from_residual.result c.from_residual.ensures.1 in
    let v = c.loop-token.invariant in
    rw p.1 (v.whole (Err p.0) (cast_halts v.within c.in-Some.ensures (rw p.2 c.in_err-ty.ensures)))

pub returns-in_err-left : goal.returns-in_err-left
returns-in_err-left c = let p = err_from_is_err_and c.from_residual-in_err-left.result c.from_residual-in_err-left.ensures.1 in rw (p.1, p.2) (halt_memory)

pub loop-token-preserved : goal.loop-token-preserved
loop-token-preserved c =
    let v = c.loop-token.invariant in
    let o = c.in-Some.ensures in
    let x = c.in_ok-ty.ensures in
    record {
      ahead = omega (arith, v.ahead, o.taken.next, x.read.ahead);
      within = x.read.within;
      whole = λ r q. v.whole r (cast_turn c.loop-token.left c.in_ok-left.left c.span_between-written.result o x c.span_between-written.ensures c.in_ok-left.ensures r q);
    }

pub returns : goal.returns
returns c =
    let v = c.loop-token.invariant in
    v.whole (Ok (c.loop-token.left, c.loop-token.at)) (turns_end (unmarked is_as) (both (one (unmarked is_as)) (row rows.operand_type)) built.cast_turns_of c.loop-token.left (λ y. refl) v.within c.in_default.ensures)
