use Rattle.std.proofs.Common.{sym, ap, length, arith}
use Rattle.std.proofs.lemmas.Result.{err_from_is_err_and}
use Rattle.form_parser.specs.Grammar.{primary, no_more}
use Rattle.form_parser.specs.Parsed.{refuted, no_memory}
use Rattle.form_parser.proofs.Readings.{fails_by, first_of_chain, chain_ends, operand_of_turn, turn_ends, compared, without_prefix, least_read, prefixed_read, behind_prefix, leaf_read, primary_takes, nothing_begins, moved_to, within_brackets, closing, brackets_read}
use Rattle.form_parser.proofs.expressions.+expression.Goals as goal

pub behind-returns-in-Comparison-clause-parses : goal.behind-returns-in-Comparison-clause-parses
behind-returns-in-Comparison-clause-parses t c = compared c.args.inside c.args.level c.args.both c.args.tokens.now c.in-Comparison.is

pub brackets-returns-in_err-inner-clause-parses : goal.brackets-returns-in_err-inner-clause-parses
brackets-returns-in_err-inner-clause-parses t c = λ i.
    let p = err_from_is_err_and c.from_residual.result c.from_residual.ensures.1 in
    rw (p.1, p.2) (fails_by (within_brackets i c.requires) c.in_err-inner.ensures.parses)

pub brackets-returns-in_err-close-clause-parses : goal.brackets-returns-in_err-close-clause-parses
brackets-returns-in_err-close-clause-parses t c = λ i.
    let p = err_from_is_err_and c.from_residual-in_err-close.result c.from_residual-in_err-close.ensures.1 in
    rw (p.1, p.2) (fails_by (closing i c.requires c.in_ok-inner.ensures.parses) c.in_err-close.ensures.expects)

pub brackets-returns-clause-parses : goal.brackets-returns-clause-parses
brackets-returns-clause-parses t c = λ i.
    rw c.joined-place.ensures (brackets_read i c.requires c.in_ok-inner.ensures.parses c.in_ok-close.ensures.expects)

pub chain-returns-in_err-first-clause-parses : goal.chain-returns-in_err-first-clause-parses
chain-returns-in_err-first-clause-parses t c =
    let p = err_from_is_err_and c.from_residual.result c.from_residual.ensures.1 in
    rw (p.1, p.2) (fails_by (first_of_chain c.args.inside c.args.level c.args.tokens.now) c.in_err-first.ensures.parses)

pub chain-returns-clause-parses : goal.chain-returns-clause-parses
chain-returns-clause-parses t c = chain_ends c.args.level c.in_ok-first.ensures.parses c.more.result c.more.ensures.parses

pub more-returns-in_err-right-in-Some-clause-parses : goal.more-returns-in_err-right-in-Some-clause-parses
more-returns-in_err-right-in-Some-clause-parses t c =
    let p = err_from_is_err_and c.from_residual.result c.from_residual.ensures.1 in
    rw (p.1, p.2) (fails_by (operand_of_turn c.in-Some.ensures.takes) c.in_err-right-in-Some.ensures.parses)

pub more-returns-in_err-both-in-Some-clause-parses : goal.more-returns-in_err-both-in-Some-clause-parses
more-returns-in_err-both-in-Some-clause-parses t c =
    let p = err_from_is_err_and c.from_residual-in_err-both-in-Some.result c.from_residual-in_err-both-in-Some.ensures.1 in
    rw (p.1, p.2) no_memory

pub more-returns-in_ok-both-in-Some-clause-parses : goal.more-returns-in_ok-both-in-Some-clause-parses
more-returns-in_ok-both-in-Some-clause-parses t c =
    turn_ends c.args.left c.in-Some.ensures.takes c.in_ok-right-in-Some.ensures.parses c.in_ok-both-in-Some.ensures c.behind.result c.behind.ensures.parses

pub more-returns-in-None-clause-parses : goal.more-returns-in-None-clause-parses
more-returns-in-None-clause-parses t c = no_more c.in-None.ensures.takes

pub prefix-returns-in_default-clause-parses : goal.prefix-returns-in_default-clause-parses
prefix-returns-in_default-clause-parses t c = without_prefix c.args.inside c.args.tokens.now c.in_default.ensures.takes c.primary.result (c.primary.ensures.parses c.args.inside)

pub prefix-returns-in-Some-least-clause-parses : goal.prefix-returns-in-Some-least-clause-parses
prefix-returns-in-Some-least-clause-parses t c = least_read c.in-Some.ensures.takes c.in-Some-least.ensures.takes

pub prefix-returns-in_err-value-clause-parses : goal.prefix-returns-in_err-value-clause-parses
prefix-returns-in_err-value-clause-parses t c =
    let p = err_from_is_err_and c.from_residual.result c.from_residual.ensures.1 in
    rw (p.1, p.2) (fails_by (behind_prefix c.in-Some.ensures.takes c.in_default-least.ensures.takes) c.in_err-value.ensures.parses)

pub prefix-returns-in_err-prefixed-clause-parses : goal.prefix-returns-in_err-prefixed-clause-parses
prefix-returns-in_err-prefixed-clause-parses t c =
    let p = err_from_is_err_and c.from_residual-in_err-prefixed.result c.from_residual-in_err-prefixed.ensures.1 in
    rw (p.1, p.2) no_memory

pub prefix-returns-clause-parses : goal.prefix-returns-clause-parses
prefix-returns-clause-parses t c = prefixed_read c.in-Some.ensures.takes c.in_ok-value.ensures.parses c.in_ok-prefixed.ensures

pub primary-returns-in_default-clause-parses : goal.primary-returns-in_default-clause-parses
primary-returns-in_default-clause-parses t c = λ i. refuted (primary_takes i c.args.tokens.now c.in_default.ensures.cases)

pub primary-returns-in-OpenRound-clause-parses : goal.primary-returns-in-OpenRound-clause-parses
primary-returns-in-OpenRound-clause-parses t c = λ i. moved_to i primary c.in-Some.ensures.cases.0 c.brackets.result (c.brackets.ensures.parses i)

pub primary-returns-in-Some-leaf : goal.primary-returns-in-Some-leaf
primary-returns-in-Some-leaf t c = record {
  parses = λ i. leaf_read i c.in-Some.ensures.cases.0 (sym c.in-Some-leaf.ensures);
  shorter = omega (arith, ap length c.in-Some.ensures.cases.0);
}

pub primary-returns-in-None : goal.primary-returns-in-None
primary-returns-in-None t c = record {
  parses = λ i. refuted (λ w. nothing_begins i c.in-Some.ensures.cases.0 (sym c.in-None.ensures) c.in_default-kind.not-OpenRound w);
  shorter = tt;
}
