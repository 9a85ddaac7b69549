use Rattle.std.proofs.Common.{Err, Ok, arith}
use Rattle.std.proofs.lemmas.Result.{err_from_is_err_and}
use Rattle.kt_grammar.specs.Parsed.{halt_memory}
use Rattle.kt_grammar.proofs.OperatorRows.{binary_turn, binary_halts, binary_end}
use Rattle.kt_grammar.proofs.operators.Operators.turns.Goals as goal

pub returns-in_err-right : goal.returns-in_err-right
returns-in_err-right g c =
    let p = err_from_is_err_and c.from_residual.result c.from_residual.ensures.1 in
    let v = c.loop-token.invariant in
    let o = c.in-Some.ensures in
    let x = c.requires.operands.reads c.in-Some.next (Err _) (omega (arith, c.requires.behind, v.ahead, o.taken.next)) o.taken.within c.in_err-right.ensures in
    rw p.1 (v.whole (Err p.0) (binary_halts c.args.level v.within o (rw p.2 x)))

pub returns-in_err-left : goal.returns-in_err-left
returns-in_err-left g c = let p = err_from_is_err_and c.from_residual-in_err-left.result c.from_residual-in_err-left.ensures.1 in rw (p.1, p.2) (halt_memory)

pub loop-token-preserved : goal.loop-token-preserved
loop-token-preserved g c =
    let v = c.loop-token.invariant in
    let o = c.in-Some.ensures in
    let x = c.requires.operands.reads c.in-Some.next (Ok (c.in_ok-right.right, c.in_ok-right.end)) (omega (arith, c.requires.behind, v.ahead, o.taken.next)) o.taken.within c.in_ok-right.ensures in
    record {
      ahead = omega (arith, v.ahead, o.taken.next, x.read.ahead);
      within = x.read.within;
      whole = λ r q. v.whole r (binary_turn c.args.level c.loop-token.left c.in_ok-left.left o x c.in_ok-left.ensures r q);
    }

pub returns : goal.returns
returns g c =
    let v = c.loop-token.invariant in
    v.whole (Ok (c.loop-token.left, c.loop-token.at)) (binary_end c.args.level c.loop-token.left v.within c.in_default.ensures)
